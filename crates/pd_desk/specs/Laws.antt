-- The conditions under which the end of a job is refused.
use Rattle.std.specs.Prelude.{◌≡◌, ◌≢◌, ℕ, true, List}
use Rattle.pd_book.specs.declared.act.Act.{Act}
use Rattle.pd_book.specs.declared.faults.FinishFault.TheVariants.{NoSuchJob}
use Rattle.pd_book.specs.Acts.{ended}
use Rattle.pd_track.specs.declared.task.Task.{Task}
use Rattle.pd_seat.specs.Seats.{HeldView, SeatView, made_by}
use Rattle.pd_desk.specs.Work.{with_start, RefusesFinish, RefusesAbandon}

-- acts that are noted with another number end the job
abbrev pub IsEndedByAnother : HeldView → ℕ → ℕ → Type 0
IsEndedByAnother held number job = (other : ℕ) × (other ≢ number) × (ended (made_by other held.notes held.book.history.past) job ≡ true)

-- a law: where a seat's last act starts a job and no such job is there to be finished, another seat ended it
abbrev pub FinishedByAnother : Type 0
FinishedByAnother =
    (seat : SeatView) (acts : List Act) (task : Task) (refused : RefusesFinish (with_start seat acts task.number task.name) task NoSuchJob)
    → IsEndedByAnother refused.0 seat.number task.number

-- the same of one that isn't there to be given up, whatever the reason
abbrev pub AbandonedByAnother : Type 0
AbandonedByAnother =
    (seat : SeatView) (acts : List Act) (number : ℕ) (name : List ℕ) (refused : RefusesAbandon (with_start seat acts number name) number NoSuchJob)
    → IsEndedByAnother refused.0 seat.number number
