-- Definitions that contracts of private functions cite and no public one does.
use Rattle.std.specs.Prelude.{◌≡◌, ◌≢◌, ◌⊎◌, ℕ, Bool, true, false, Result, Ok, Err}
use Rattle.pd_book.specs.declared.act.Act.TheVariants.{Finish, Abandon}
use Rattle.pd_book.specs.declared.act.Ruling.{Ruling}
use Rattle.pd_book.specs.declared.faults.FinishFault.{FinishFault}
use Rattle.pd_book.specs.declared.faults.FinishFault.TheVariants as finish
use Rattle.pd_book.specs.History.{History}
use Rattle.pd_track.specs.declared.task.Task.{Task}
use Rattle.pd_seat.specs.Seats.{SeatView, with_act}
use Rattle.pd_desk.specs.Desk.{AfterOwn, Disagrees}
use Rattle.pd_desk.specs.Work.{RefusesFinish, RefusesAbandon}
use Rattle.pd_desk.specs.declared.faults.DeskFault.{DeskFault}
use Rattle.pd_desk.specs.declared.faults.DeskFault.TheVariants.{Differs, HistoryFull, OutOfMemory}

-- no room for a start, or no memory
abbrev pub IsWant : DeskFault → Type 0
IsWant fault = (fault ≡ HistoryFull) ⊎ (fault ≡ OutOfMemory)

-- the job of this task was finished, or that was refused
abbrev pub EndsJob : Task → SeatView → SeatView → Type 0
EndsJob task seat seat' =
    ((ruling : Ruling) × (seat' ≡ with_act seat (Finish task.number ruling))) ⊎ ((fault : FinishFault) × RefusesFinish seat task fault × (seat' ≡ seat))

-- the job was abandoned, or that was refused
abbrev pub AbandonsJob : ℕ → SeatView → SeatView → Type 0
AbandonsJob number seat seat' = (seat' ≡ with_act seat (Abandon number)) ⊎ ((fault : FinishFault) × RefusesAbandon seat number fault × (seat' ≡ seat))

-- the meaning of a reply that ends a job where the history was compared with the seat: where it is refused, either the history
-- agrees with the seat, and P holds of it unless it is out of memory, or it disagrees
abbrev pub Compared : {T : Type 0} → SeatView → Result T FinishFault → Bool → (History → History → Type 0) → Type 0
Compared seat (Ok x) agrees P = agrees ≡ true
Compared seat (Err fault) true P = fault ≢ finish.OutOfMemory → AfterOwn seat P
Compared seat (Err fault) false P = Disagrees seat

-- the job was left as it is, at a seat with which a history disagrees
abbrev pub LeavesJob : SeatView → SeatView → Type 0
LeavesJob seat seat' = (seat' ≡ seat) × Disagrees seat

-- why a worker leaves that has a job at hand: it wants memory, and the job was abandoned, or that was refused; or the job was
-- left as it is
abbrev pub GivesUp : ℕ → DeskFault → SeatView → SeatView → Type 0
GivesUp number OutOfMemory seat seat' = AbandonsJob number seat seat'
GivesUp number Differs seat seat' = LeavesJob seat seat'
GivesUp number _ seat seat' = ⊥
