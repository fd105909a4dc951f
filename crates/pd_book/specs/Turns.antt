-- Turns of settling: a start and its finish, with no other job between.
use Rattle.std.specs.Prelude.{◌≡◌, ◌+◌, ◌≤◌, ℕ, List, [], ◌∷◌, Option, Some, None, Result, Ok, Err, suc, zero}
use Rattle.pd_settings.specs.declared.settings.Settings.{Settings}
use Rattle.pd_book.specs.declared.act.Act.{Act}
use Rattle.pd_book.specs.declared.act.Act.TheVariants.{Start, Finish}
use Rattle.pd_book.specs.declared.faults.BookFault.{BookFault}
use Rattle.pd_track.specs.declared.task.Task.{Task}
use Rattle.pd_book.specs.Acts.{texts, now, jobs, job, next, ruling}
use Rattle.pd_book.specs.Legal.{Legal}
use Rattle.pd_book.specs.Report.{shown, scratch, owed}
use Rattle.pd_book.specs.History.{History}
use Rattle.pd_book.specs.Refusals.{next_job, start_refusal}

-- the acts with the start of this task and its finish
abbrev pub turned : List Act → Task → List Act
turned past task =
    let begun = Start task.number task.name ∷ past in
    Finish task.number (ruling begun task) ∷ begun

-- the history after a start of this job and its finish
abbrev pub after_turn : History → Task → History
after_turn history task = record { opening = history.opening; past = turned history.past task }

-- one turn of settling: nothing is owed, or the start is refused, or the job is started and finished
abbrev pub turn : History → Option Task → Option BookFault → (History → Result History BookFault) → Result History BookFault
turn history None refusal rest = Ok history
turn history (Some task) (Some fault) rest = Err fault
turn history (Some task) None rest = rest (after_turn history task)

-- at most so many turns
abbrev pub settled_in : ℕ → History → Result History BookFault
settled_in zero history = Ok history
settled_in (suc turns) history = turn history (next_job history) (start_refusal history) (λ next. settled_in turns next)

-- a start and its finish by turns until nothing is owed; a start without room is refused
abbrev pub settled : History → Result History BookFault
settled history = settled_in (owed history.opening history.past) history

-- a legal history in which no job is outstanding
pub record IsAtRest (history : History) : Type 0 where
  pub legal : Legal history.opening history.past
  pub none : jobs history.opening history.past ≡ []

-- where no job is outstanding, a start and its finish leave one row fewer pending, and no job outstanding
abbrev pub TurnsSettle : Settings → List Act → Type 0
TurnsSettle opening past =
    (task : Task) → jobs opening past ≡ [] → next_job (record { opening = opening; past = past }) ≡ Some task
    → (owed opening (turned past task) + 1 ≡ owed opening past) × (jobs opening (turned past task) ≡ [])

-- a job that a start hands out is the outstanding one of its number
abbrev pub StartsAreOutstanding : History → Type 0
StartsAreOutstanding history =
    (task : Task) → next_job history ≡ Some task → job history.opening (Start task.number task.name ∷ history.past) task.number ≡ Some task

-- where no job is outstanding and no script waits, no row is pending
abbrev pub NoneOwedWhenNoneWaits : Settings → List Act → Type 0
NoneOwedWhenNoneWaits opening past = jobs opening past ≡ [] → next past ≡ None → owed opening past ≡ 0

-- a start that isn't refused and its finish leave a legal history without an outstanding job
abbrev pub TurnsAreLegal : History → Type 0
TurnsAreLegal history = (task : Task) → next_job history ≡ Some task → start_refusal history ≡ None → IsAtRest (after_turn history task)

-- more turns than rows are pending give nothing more
abbrev pub TurnsSuffice : History → Type 0
TurnsSuffice history = (turns : ℕ) → owed history.opening history.past ≤ turns → settled_in turns history ≡ settled history

-- a settling leaves this: nothing pending, the scripts and the settings as they were, and so the report from scratch
pub record IsSettled (before after : History) : Type 0 where
  pub rest : IsAtRest after
  pub opening : after.opening ≡ before.opening
  pub same_texts : texts after.past ≡ texts before.past
  pub same_settings : now after.opening after.past ≡ now before.opening before.past
  pub none_owed : owed after.opening after.past ≡ 0
  pub report : shown after.opening after.past ≡ scratch (texts before.past) (now before.opening before.past)

-- a settling that isn't refused a start comes to its end
abbrev pub SettlesAll : History → Type 0
SettlesAll history = (after : History) → settled history ≡ Ok after → IsSettled history after
