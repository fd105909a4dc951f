-- Scripts as a book keeps them; cited by private contracts alone.
use Rattle.std.specs.Prelude.{◌==◌, ℕ, Bool, true, false, not, List, map, filter, if◌then◌else◌, Option, Some, None}
use Rattle.std.specs.Option.{option_map_or}
use Rattle.std.specs.Map.{lookup, set_value}
use Rattle.std.specs.Str.{bytes_eq}
use Rattle.pd_text.specs.Edit.{edited}
use Rattle.pd_text.specs.declared.line_edit.LineEdit.{LineEdit}
use Rattle.pd_run.specs.declared.verdict.Verdict.{Verdict}
use Rattle.pd_book.specs.declared.report.Row.{Row}
use Rattle.pd_book.specs.declared.stored_script.StoredScript.{StoredScript}
use Rattle.pd_book.specs.declared.stored_script.ScriptState.{ScriptState}
use Rattle.pd_book.specs.declared.stored_script.ScriptState.TheVariants.{Pending, Running, Answered}

-- a script under its name
abbrev pub ScriptEntry : Type 0
ScriptEntry = List ℕ × StoredScript

-- the script has no verdict, and runs no job
abbrev pub pending_state : ScriptState → Bool
pending_state Pending = true
pending_state (Running j) = false
pending_state (Answered v) = false

-- the same of a script under its name
abbrev pub is_pending : ScriptEntry → Bool
is_pending entry = pending_state entry.1.state

-- the verdict, where there is one
abbrev pub verdict_in : ScriptState → Option Verdict
verdict_in Pending = None
verdict_in (Running j) = None
verdict_in (Answered v) = Some v

-- the script, in this state
abbrev pub in_state : StoredScript → ScriptState → StoredScript
in_state script state = record { text = script.text; state = state }

-- the script, if there is one, runs this job
abbrev pub is_running_job : Option ScriptState → ℕ → Bool
is_running_job None j = false
is_running_job (Some Pending) j = false
is_running_job (Some (Answered v)) j = false
is_running_job (Some (Running k)) j = k == j

-- the scripts after a write to the first of this name
abbrev pub written_at : List ℕ → (StoredScript → StoredScript) → List ScriptEntry → List ScriptEntry
written_at name change entries =
    option_map_or (λ (s : StoredScript). set_value (bytes_eq name) entries (change s)) (lookup (bytes_eq name) entries) entries

-- the scripts, of which those whose name passes are in this state
abbrev pub with_state : (List ℕ → Bool) → ScriptState → List ScriptEntry → List ScriptEntry
with_state test state entries = map (λ (e : ScriptEntry). if test e.0 then (e.0, in_state e.1 state) else e) entries

-- the scripts, of which that of this name is edited, and pending
abbrev pub with_edit : List ℕ → LineEdit → List ScriptEntry → List ScriptEntry
with_edit name edit entries =
    map (λ (e : ScriptEntry). if bytes_eq name e.0 then (e.0, record { text = edited e.1.text edit; state = Pending }) else e) entries

-- the scripts but those of this name
abbrev pub without_name : List ℕ → List ScriptEntry → List ScriptEntry
without_name name entries = filter (λ (e : ScriptEntry). not (bytes_eq name e.0)) entries

-- each script, pending
abbrev pub all_pending : List ScriptEntry → List ScriptEntry
all_pending entries = map (λ (e : ScriptEntry). (e.0, in_state e.1 Pending)) entries

-- the row of a script
abbrev pub kept_row : ScriptEntry → Row
kept_row entry = record { name = entry.0; text = entry.1.text; verdict = verdict_in entry.1.state }
