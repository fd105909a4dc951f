-- Definitions that contracts of private functions cite and no public one does.
use Rattle.std.specs.Prelude.{◌≡◌, ℕ, ◌+◌, Bool, true, false, List, [], ◌∷◌, ◌++◌, length, map, Option, Some, Result, Ok, Err, OnOk, OnErr}
use Rattle.pd_track.specs.Reuse.{JobView}
use Rattle.pd_book.specs.Acts.{started}
use Rattle.pd_book.specs.History.{History}
use Rattle.pd_book.specs.Refusals.{next_job}
use Rattle.pd_protocol.specs.WriterOutput.{WritesTo}
use Rattle.pd_protocol.specs.declared.faults.ServeFault.{ServeFault}
use Rattle.pd_cli.specs.StartedJobs.{AreOfTurns, IsOfJob, tasks_started}
use Rattle.pd_cli.specs.StepLines.{FinishedJob, AreNumbered}

-- it is the job of the next turn of settling
abbrev pub IsOfTurn : History → FinishedJob → Type 0
IsOfTurn history job = (handed : JobView) × (next_job history ≡ Some handed.task) × IsOfJob handed job

-- an observer was given these jobs, one after another, and no others
abbrev pub ObservesAll : {S : Type 0} → (S → S → FinishedJob → Type 0) → S → S → List FinishedJob → Type 0
ObservesAll observes old new [] = new ≡ old
ObservesAll {S = S} observes old new (job ∷ jobs) = (next : S) × observes old next job × ObservesAll observes next new jobs

-- an observer was given the job of a turn where there was one
abbrev pub ObservesTurn : {S : Type 0} → (S → S → FinishedJob → Type 0) → Result Bool ServeFault → History → S → S → Type 0
ObservesTurn observes (Ok true) history old new = (job : FinishedJob) × IsOfTurn history job × observes old new job
ObservesTurn observes (Ok false) history old new = new ≡ old
ObservesTurn observes (Err fault) history old new = new ≡ old

-- an observer was given the job of each turn of settling
abbrev pub ObservesSettling : {S : Type 0} → (S → S → FinishedJob → Type 0) → Result (Unit {0}) ServeFault → History → History → S → S → Type 0
ObservesSettling observes result history after old new =
    (jobs : List FinishedJob) × (reached : History) × AreOfTurns history jobs reached × ObservesAll observes old new jobs × OnOk result (reached ≡ after)

-- an observer was given jobs that are numbered from the last job of the history before on; where all went well they are those
-- that were started since then, else turns lead from that history by them
abbrev pub ObservesNumbered : {S V : Type 0} → (S → S → FinishedJob → Type 0) → Result V ServeFault → History → History → S → S → Type 0
ObservesNumbered observes result history after old new =
    (jobs : List FinishedJob) × AreNumbered (started history.past) jobs × ObservesAll observes old new jobs
    × OnOk result (started after.past ≡ started history.past + length jobs)
    × OnOk result (tasks_started after ≡ tasks_started history ++ map (λ (job : FinishedJob). job.task) jobs)
    × OnErr result ((reached : History) × AreOfTurns history jobs reached)

-- a line was written to a writer where all before it were; else nothing more
abbrev pub WritesMore : Bool → Bool → Option (List ℕ) → Option (List ℕ) → List ℕ → Type 0
WritesMore true stderr_ok before after line = WritesTo stderr_ok before after line
WritesMore false stderr_ok before after line = (stderr_ok ≡ false) × (after ≡ before)
