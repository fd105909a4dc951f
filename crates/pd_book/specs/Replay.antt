-- How a book keeps what its acts say; cited by private contracts alone.
use Rattle.std.specs.Prelude.{◌≡◌, ℕ, ◌+◌, ◌≤◌, List, [], ◌∷◌, ◌++◌, length, if◌then◌else◌, Option, Some, None}
use Rattle.std.specs.Option.{option_map}
use Rattle.std.specs.Map.{lookup}
use Rattle.std.specs.Str.{bytes_eq}
use Rattle.pd_settings.specs.declared.settings.Settings.{Settings}
use Rattle.pd_run.specs.Run.{verdict_of}
use Rattle.pd_book.specs.declared.act.Act.{Act}
use Rattle.pd_book.specs.declared.act.Act.TheVariants.{Add, Edit, Remove, Set, Start, Finish, Abandon}
use Rattle.pd_book.specs.declared.act.Ruling.{Ruling}
use Rattle.pd_book.specs.declared.act.Ruling.TheVariants.{Taken, Stale}
use Rattle.pd_book.specs.declared.stored_script.StoredScript.{StoredScript}
use Rattle.pd_book.specs.declared.stored_script.ScriptState.TheVariants.{Pending, Running, Answered}
use Rattle.pd_track.specs.declared.task.Task.{Task}
use Rattle.pd_book.specs.Acts.{now, jobs, job, next, started}
use Rattle.pd_book.specs.Legal.{Legal}
use Rattle.pd_book.specs.StoredScripts.{ScriptEntry, with_state, with_edit, without_name, all_pending, is_running_job}

-- the scripts after a finish
abbrev pub settle : Ruling → Option Task → List ScriptEntry → List ScriptEntry
settle Stale task entries = entries
settle Taken None entries = entries
settle Taken (Some task) entries = with_state (bytes_eq task.name) (Answered (verdict_of task.text task.settings)) entries

-- the scripts after an abandonment
abbrev pub make_pending_if_running_task : Option Task → List ScriptEntry → List ScriptEntry
make_pending_if_running_task None entries = entries
make_pending_if_running_task (Some task) entries =
    if is_running_job (option_map (λ (s : StoredScript). s.state) (lookup (bytes_eq task.name) entries)) task.number then with_state (bytes_eq task.name) Pending entries else entries

-- the scripts as the book keeps them after these acts
abbrev pub scripts_of : Settings → List Act → List ScriptEntry
scripts_of opening [] = []
scripts_of opening (Add n t ∷ older) = scripts_of opening older ++ (n, record { text = t; state = Pending }) ∷ []
scripts_of opening (Edit n e ∷ older) = with_edit n e (scripts_of opening older)
scripts_of opening (Remove n ∷ older) = without_name n (scripts_of opening older)
scripts_of opening (Set k v ∷ older) = all_pending (scripts_of opening older)
scripts_of opening (Start j n ∷ older) = with_state (bytes_eq n) (Running j) (scripts_of opening older)
scripts_of opening (Finish j r ∷ older) = settle r (job opening older j) (scripts_of opening older)
scripts_of opening (Abandon j ∷ older) = make_pending_if_running_task (job opening older j) (scripts_of opening older)

-- a job to hand out, its task to keep and its act to record are those of the first script that waits
pub record IsReady (opening : Settings) (past : List Act) (handed kept : Task) (act : Act) : Type 0 where
  pub waiting : next past ≡ Some (handed.name, handed.text)
  pub number : handed.number ≡ started past + 1
  pub settings : handed.settings ≡ now opening past
  pub same : kept ≡ handed
  pub start : act ≡ Start handed.number handed.name

-- the book keeps the replay of its acts, which are legal, with room for the ends of its jobs
pub record IsReplay (opening : Settings) (past : List Act) (current : Settings) (kept : List ScriptEntry) (open_jobs : List Task) (count : ℕ) (capacity : ℕ) : Type 0 where
  pub settings : current ≡ now opening past
  pub scripts : kept ≡ scripts_of opening past
  pub tasks : open_jobs ≡ jobs opening past
  pub last_number : count ≡ started past
  pub legal : Legal opening past
  pub room : length past + length open_jobs ≤ capacity
  pub few : length past + length open_jobs ≤ 65536
  pub numbered : started past ≤ length past
