-- Which calls a book refuses, and why: the first that applies.
use Rattle.std.specs.Prelude.{ℕ, ◌+◌, not, nat_le, List, length, if◌then◌else◌, Option, Some, None, is_some, is_none, unwrap_or}
use Rattle.std.specs.Option.{option_map}
use Rattle.pd_text.specs.Name.{is_valid_name}
use Rattle.pd_text.specs.Edit.{edit_refusal as fault_of_edit}
use Rattle.pd_text.specs.declared.line_edit.LineEdit.{LineEdit}
use Rattle.pd_settings.specs.Keys.{key_named}
use Rattle.pd_settings.specs.Settings.{replaced}
use Rattle.pd_settings.specs.declared.settings.Settings.{Settings}
use Rattle.pd_settings.specs.declared.keys.Key.{Key}
use Rattle.pd_settings.specs.declared.values.Value.{Value}
use Rattle.pd_book.specs.declared.act.Act.{Act}
use Rattle.pd_book.specs.declared.faults.BookFault.{BookFault}
use Rattle.pd_book.specs.declared.faults.BookFault.TheVariants.{UnknownKey, BadValue, BadName, NameTaken, NoSuchScript, TooManyScripts, HistoryFull, OutOfMemory}
use Rattle.pd_book.specs.declared.faults.FinishFault.{FinishFault}
use Rattle.pd_book.specs.declared.faults.FinishFault.TheVariants.{NoSuchJob, Foreign}
use Rattle.pd_track.specs.declared.task.Task.{Task}
use Rattle.pd_book.specs.Acts.{NamedText, texts, present_text, has_script, now, next, started, jobs}
use Rattle.pd_book.specs.Faults.{of_text}
use Rattle.pd_book.specs.History.{History}

-- the recorded acts and the outstanding jobs
abbrev pub taken_room : History → ℕ
taken_room history = length history.past + length (jobs history.opening history.past)

-- there is no room for this many more, of 65,536
abbrev pub history_full_fault_unless_space_for : ℕ → History → Option BookFault
history_full_fault_unless_space_for more history = if nat_le (taken_room history + more) 65536 then None else Some HistoryFull

-- the first refusal, else the second
abbrev pub or_else : Option BookFault → Option BookFault → Option BookFault
or_else (Some fault) second = Some fault
or_else None second = second

-- why no script of this name is added: it has 1 to 64 letters, digits, `_`, `-` and `.`, doesn't stand, and isn't the
-- 1,025th
abbrev pub refusal_if_name_bad_taken_or_too_many : List Act → List ℕ → Option BookFault
refusal_if_name_bad_taken_or_too_many past name =
    if not (is_valid_name name) then Some BadName else (
    if has_script past name then Some NameTaken else (
    if nat_le 1024 (length (texts past)) then Some TooManyScripts else None))

-- an add: the name may be added, and there is room
abbrev pub add_refusal : History → List ℕ → Option BookFault
add_refusal history name = or_else (refusal_if_name_bad_taken_or_too_many history.past name) (history_full_fault_unless_space_for 1 history)

-- why an edit of this text, if there is one, is refused
abbrev pub line_edit_refusal : Option (List (List ℕ)) → LineEdit → Option BookFault
line_edit_refusal None edit = Some NoSuchScript
line_edit_refusal (Some text) edit = option_map of_text (fault_of_edit text edit)

-- an edit: the script stands, the edit lies within its text and leaves a text within the limits, and there is room
abbrev pub edit_refusal : History → List ℕ → LineEdit → Option BookFault
edit_refusal history name edit = or_else (line_edit_refusal (present_text history.past name) edit) (history_full_fault_unless_space_for 1 history)

-- why a script that doesn't stand isn't removed
abbrev pub missing_refusal : List Act → List ℕ → Option BookFault
missing_refusal past name = if has_script past name then None else Some NoSuchScript

-- a remove: the script stands, and there is room
abbrev pub remove_refusal : History → List ℕ → Option BookFault
remove_refusal history name = or_else (missing_refusal history.past name) (history_full_fault_unless_space_for 1 history)

-- why a value for this key, if there is one, is refused
abbrev pub refusal_if_key_unknown_or_value_bad : Settings → Option Key → Value → Option BookFault
refusal_if_key_unknown_or_value_bad settings None value = Some UnknownKey
refusal_if_key_unknown_or_value_bad settings (Some key) value = if is_none (replaced settings key value) then Some BadValue else None

-- a set: the key names a setting, the value lies in its range, and there is room
abbrev pub set_refusal : History → List ℕ → Value → Option BookFault
set_refusal history name value = or_else (refusal_if_key_unknown_or_value_bad (now history.opening history.past) (key_named name) value) (history_full_fault_unless_space_for 1 history)

-- a start that gives a job takes room for its act and for the job's end
abbrev pub start_refusal : History → Option BookFault
start_refusal history = if is_some (next history.past) then history_full_fault_unless_space_for 2 history else None

-- the fault of a call that failed: its refusal, or else out of memory
abbrev pub fault_of : Option BookFault → BookFault
fault_of refusal = unwrap_or refusal OutOfMemory

-- the job that a start gives: the next number, the first script that waits and the present settings
abbrev pub next_job : History → Option Task
next_job history =
    option_map (λ (script : NamedText). record { number = started history.past + 1; name = script.0; text = script.1; settings = now history.opening history.past }) (next history.past)

-- why a result is refused that isn't the outstanding job's of its number, if there is one
abbrev pub finish_fault : Option Task → FinishFault
finish_fault None = NoSuchJob
finish_fault (Some task) = Foreign
