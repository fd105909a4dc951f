-- The jobs that serving without workers starts, one after another, and finishes.
use Rattle.std.specs.Prelude.{◌≡◌, ℕ, zero, suc, Bool, List, [], ◌∷◌, ◌++◌, map, Option, Some, None, Result, Ok, Err, OnOk}
use Rattle.pd_settings.specs.declared.settings.Settings.{Settings}
use Rattle.pd_track.specs.Reuse.{JobView}
use Rattle.pd_track.specs.Reuse as reuse
use Rattle.pd_track.specs.declared.task.Task.{Task}
use Rattle.pd_book.specs.declared.act.Act.{Act}
use Rattle.pd_book.specs.declared.act.Act.TheVariants.{Start}
use Rattle.pd_book.specs.History.{History}
use Rattle.pd_book.specs.Refusals.{next_job}
use Rattle.pd_book.specs.Turns.{after_turn}
use Rattle.pd_protocol.specs.Commands.{InputItem, commands}
use Rattle.pd_protocol.specs.declared.program_faults.ProgramFault.{ProgramFault}
use Rattle.pd_cli.specs.Output.{PrintsAlone}
use Rattle.pd_cli.specs.Sessions.{PrintsFirst}
use Rattle.pd_cli.specs.StepLines.{FinishedJob}

-- the task that a start hands out, if it does
abbrev pub task_if_some : Option Task → List Task
task_if_some None = []
task_if_some (Some task) = task ∷ []

-- the tasks of the starts among some acts, the oldest first: each start hands out the job that is next then, with the text and
-- the settings of that moment
abbrev pub tasks_of_starts : Settings → List Act → List Task
tasks_of_starts opening [] = []
tasks_of_starts opening (Start j n ∷ older) = tasks_of_starts opening older ++ task_if_some (next_job (record { opening = opening; past = older }))
tasks_of_starts opening (_ ∷ older) = tasks_of_starts opening older

-- the same of a history
abbrev pub tasks_started : History → List Task
tasks_started history = tasks_of_starts history.opening history.past

-- it is the job that was handed out, with the steps that its track leaves
abbrev pub IsOfJob : JobView → FinishedJob → Type 0
IsOfJob handed job = (job.task ≡ handed.task) × (job.steps ≡ reuse.steps handed)

-- they are the jobs of the turns from one history to another, one each
abbrev pub AreOfTurns : History → List FinishedJob → History → Type 0
AreOfTurns history [] after = after ≡ history
AreOfTurns history (job ∷ jobs) after =
    (handed : JobView) × (next_job history ≡ Some handed.task) × IsOfJob handed job × AreOfTurns (after_turn history handed.task) jobs after

-- the jobs are those that the first commands of an input start, and perhaps the first turns of a settle after them; those of
-- all commands where serving came to its end
abbrev pub AreStartedBy : {E : Type 0} → Settings → Result Bool E → List InputItem → List FinishedJob → Type 0
AreStartedBy settings end items jobs =
    (octets : List ℕ) × (left : List InputItem) × (now : History) × (part : List FinishedJob) × (reached : History)
    × PrintsFirst PrintsAlone (record { opening = settings; past = [] }) items octets now left
    × AreOfTurns now part reached × (map (λ (job : FinishedJob). job.task) jobs ≡ tasks_started reached)
    × OnOk end ((left ≡ []) × (reached ≡ now))

-- the jobs that a run reports: those that its input starts; none where workers run them, and none under settings that are no good
abbrev pub AreJobsOfRun : ℕ → Result Settings ProgramFault → Result Bool ProgramFault → List FinishedJob → List ℕ → Type 0
AreJobsOfRun zero (Ok settings) end jobs input = AreStartedBy settings end (commands input) jobs
AreJobsOfRun zero (Err fault) end jobs input = jobs ≡ []
AreJobsOfRun (suc more) settings end jobs input = jobs ≡ []
