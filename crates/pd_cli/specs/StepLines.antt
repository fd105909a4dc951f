-- The jobs that serving finishes, as they are reported one by one.
use Rattle.std.specs.Prelude.{◌≡◌, ℕ, ◌+◌, List, [], ◌∷◌, ◌++◌, codes}
use Rattle.std.specs.Fmt.{decimal}
use Rattle.pd_track.specs.declared.task.Task.{Task}
use Rattle.pd_explain.specs.RuleTrace.{rule_lines}

-- a job that was finished: its task, and the steps that it took
pub record FinishedJob : Type 0 where
  pub task : Task
  pub steps : ℕ

-- its line
abbrev pub step_line : FinishedJob → List ℕ
step_line job = codes "job " ++ decimal job.task.number ++ codes " " ++ job.task.name ++ codes " steps " ++ decimal job.steps ++ codes "\n"

-- the octets that say of which job a line is
abbrev pub job_words : Task → List ℕ
job_words task = codes "job " ++ decimal task.number ++ codes " " ++ task.name

-- the lines on the rules of the sender that its events come to
abbrev pub rule_lines_of : Task → List ℕ
rule_lines_of task = rule_lines (job_words task) task.text task.settings

-- the lines of jobs, one after another
abbrev pub step_lines : List FinishedJob → List ℕ
step_lines [] = []
step_lines (job ∷ jobs) = step_line job ++ step_lines jobs

-- those on the rules of jobs
abbrev pub rule_lines_of_jobs : List FinishedJob → List ℕ
rule_lines_of_jobs [] = []
rule_lines_of_jobs (job ∷ jobs) = rule_lines_of job.task ++ rule_lines_of_jobs jobs

-- the jobs are numbered one by one, from the number after this one on
abbrev pub AreNumbered : ℕ → List FinishedJob → Type 0
AreNumbered before [] = Unit {0}
AreNumbered before (job ∷ jobs) = (job.task.number ≡ before + 1) × AreNumbered (before + 1) jobs
