-- The reports of finished jobs, as they are asked for.
use Rattle.std.specs.Prelude.{◌≡◌, ℕ, Bool, true, false, List, [], ◌∷◌, ◌++◌, Option, Some, None, if◌then◌else◌}
use Rattle.pd_protocol.specs.ChosenOptions.{Explaining, ReportOptions}
use Rattle.pd_protocol.specs.WriterOutput.{WritesTo}
use Rattle.pd_cli.specs.StepLines.{FinishedJob, step_line, step_lines, rule_lines_of, rule_lines_of_jobs}
use Rattle.pd_cli.specs.ExplanationBlocks.{IsBlockOf, AreBlocks}

-- the block of a job: nothing where no explanations are asked for
abbrev pub IsExplained : Option Explaining → FinishedJob → List ℕ → Type 0
IsExplained None job block = block ≡ []
IsExplained (Some explaining) job block = IsBlockOf explaining job.task block

-- the report of a job: its line of steps and its lines on rules where these are asked for, then its block
abbrev pub IsReport : ReportOptions → FinishedJob → List ℕ → Type 0
IsReport report_options job lines = (block : List ℕ) × (lines ≡ (if report_options.steps then step_line job else []) ++ ((if report_options.rules then rule_lines_of job.task else []) ++ block)) × IsExplained report_options.explain job block

-- the reports of jobs, one after another
abbrev pub AreReported : ReportOptions → List FinishedJob → List ℕ → Type 0
AreReported report_options [] lines = lines ≡ []
AreReported report_options (job ∷ jobs) lines = (first : List ℕ) × (rest : List ℕ) × (lines ≡ first ++ rest) × IsReport report_options job first × AreReported report_options jobs rest

-- these lines report jobs; or where a write failed, the first of them, and the others aren't reported
abbrev pub AreReportedUnlessFailed : Bool → ReportOptions → List FinishedJob → List ℕ → Type 0
AreReportedUnlessFailed stderr_ok report_options jobs lines =
    (reported : List FinishedJob) × (left : List FinishedJob) × (jobs ≡ reported ++ left) × AreReported report_options reported lines × (stderr_ok ≡ true → left ≡ [])

-- the report of a job is written where all before it were; else nothing more
abbrev pub ReportsJob : ReportOptions → Bool → Bool → Option (List ℕ) → Option (List ℕ) → FinishedJob → Type 0
ReportsJob report_options true stderr_ok before after job = (lines : List ℕ) × IsReport report_options job lines × WritesTo stderr_ok before after lines
ReportsJob report_options false stderr_ok before after job = (stderr_ok ≡ false) × (after ≡ before)

-- where nothing is asked for, nothing is reported
abbrev pub NothingIsReported : Type 0
NothingIsReported = (jobs : List FinishedJob) → (lines : List ℕ) → AreReported (record { steps = false; rules = false; explain = None }) jobs lines → lines ≡ []

-- where steps alone are asked for, a line is written for each job
abbrev pub StepsAreReported : Type 0
StepsAreReported = (jobs : List FinishedJob) → (lines : List ℕ) → AreReported (record { steps = true; rules = false; explain = None }) jobs lines → lines ≡ step_lines jobs

-- where rules alone are asked for, the lines on those of each job are written
abbrev pub RulesAreReported : Type 0
RulesAreReported = (jobs : List FinishedJob) → (lines : List ℕ) → AreReported (record { steps = false; rules = true; explain = None }) jobs lines → lines ≡ rule_lines_of_jobs jobs

-- where explanations alone are asked for, a block is written for each job that is looked into
abbrev pub BlocksAreReported : Type 0
BlocksAreReported = (explaining : Explaining) → (jobs : List FinishedJob) → (lines : List ℕ) → AreReported (record { steps = false; rules = false; explain = Some explaining }) jobs lines → AreBlocks explaining jobs lines
