-- The acts that a worker leaves in its seat.
use Rattle.std.specs.Prelude.{◌≡◌, ℕ, List, [], ◌∷◌, ◌++◌, Result, Ok, Err}
use Rattle.pd_book.specs.declared.act.Act.{Act}
use Rattle.pd_book.specs.declared.act.Act.TheVariants.{Start, Finish, Abandon}
use Rattle.pd_book.specs.declared.act.Ruling.{Ruling}
use Rattle.pd_book.specs.declared.faults.FinishFault.{FinishFault}
use Rattle.pd_book.specs.Replies.{GivesFinish, GivesAbandon}
use Rattle.pd_track.specs.declared.task.Task.{Task}
use Rattle.pd_seat.specs.Seats.{SeatView}
use Rattle.pd_desk.specs.Desk.{AfterOwn, Disagrees}
use Rattle.pd_desk.specs.declared.faults.DeskFault.{DeskFault}
use Rattle.pd_desk.specs.declared.faults.DeskFault.TheVariants.{NoWorkers, Differs, HistoryFull, OutOfMemory}

-- the seat with these acts more, the newest first
abbrev pub with_acts : SeatView → List Act → SeatView
with_acts seat acts = record { number = seat.number; own = acts ++ seat.own; longest_shown = seat.longest_shown }

-- the seat with these acts and then the start of a job
abbrev pub with_start : SeatView → List Act → ℕ → List ℕ → SeatView
with_start seat acts number name = with_acts seat (Start number name ∷ acts)

-- a finish with the result of this task is refused for this reason, after some legal history that agrees with the seat
abbrev pub RefusesFinish : SeatView → Task → FinishFault → Type 0
RefusesFinish seat task fault = AfterOwn seat (λ before after. GivesFinish before task (Err fault) after)

-- it is refused to give up the job of this number for this reason, after some legal history that agrees with the seat
abbrev pub RefusesAbandon : SeatView → ℕ → FinishFault → Type 0
RefusesAbandon seat number fault = AfterOwn seat (λ before after. GivesAbandon before number (Err fault) after)

-- job by job, the newest first: a start and its finish, or a start alone where the finish was refused
pub data AreJobs (seat : SeatView) : List Act → Type 0 where
  none : AreJobs seat []
  finished : (number : ℕ) (name : List ℕ) (ruling : Ruling) (older : List Act) → AreJobs seat older → AreJobs seat (Finish number ruling ∷ Start number name ∷ older)
  not_ended : (task : Task) (fault : FinishFault) (older : List Act) → RefusesFinish (with_start seat older task.number task.name) task fault → AreJobs seat older → AreJobs seat (Start task.number task.name ∷ older)

-- the same, but that the newest job may have been given up, or that this was refused
pub data AreJobsUpTo (seat : SeatView) : List Act → Type 0 where
  begun : (acts : List Act) → AreJobs seat acts → AreJobsUpTo seat acts
  abandoned : (number : ℕ) (name : List ℕ) (older : List Act) → AreJobs seat older → AreJobsUpTo seat (Abandon number ∷ Start number name ∷ older)
  not_abandoned : (number : ℕ) (name : List ℕ) (fault : FinishFault) (older : List Act) → RefusesAbandon (with_start seat older number name) number fault → AreJobs seat older → AreJobsUpTo seat (Start number name ∷ older)

-- the seat has jobs more, none of which was given up
pub record Worked (seat seat' : SeatView) : Type 0 where
  pub acts : List Act
  pub jobs : AreJobs seat acts
  pub now : seat' ≡ with_acts seat acts

-- the seat has jobs more, the newest of which may have been given up, or not where that was refused
pub record Left (seat seat' : SeatView) : Type 0 where
  pub acts : List Act
  pub jobs : AreJobsUpTo seat acts
  pub now : seat' ≡ with_acts seat acts

-- the seat has jobs more, and then one that was started and isn't ended: a history was found that disagrees with the seat
pub record FoundDiffering (seat seat' : SeatView) : Type 0 where
  pub acts : List Act
  pub number : ℕ
  pub name : List ℕ
  pub jobs : AreJobs seat acts
  pub now : seat' ≡ with_start seat acts number name
  pub differs : Disagrees seat'

-- a worker's acts in its seat, and its answer: one that isn't let in does nothing, one out of memory gives its job up
-- and leaves, and so does, without an end of its job, one at a seat with which a history disagrees
abbrev pub Works : SeatView → Result (Unit {0}) DeskFault → SeatView → Type 0
Works seat (Ok _) seat' = Worked seat seat'
Works seat (Err HistoryFull) seat' = Worked seat seat'
Works seat (Err OutOfMemory) seat' = Left seat seat'
Works seat (Err NoWorkers) seat' = seat' ≡ seat
Works seat (Err Differs) seat' = FoundDiffering seat seat'
