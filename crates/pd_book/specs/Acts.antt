-- Scripts, settings and jobs, by a list of acts. The newest act comes first.
use Rattle.std.specs.Prelude.{ℕ, ◌+◌, ◌==◌, Bool, true, false, not, ◌&&◌, List, [], ◌∷◌, ◌++◌, map, filter, find, if◌then◌else◌, Option, is_some, unwrap_or}
use Rattle.std.specs.List.{list_any}
use Rattle.std.specs.Map.{lookup}
use Rattle.std.specs.Str.{bytes_eq}
use Rattle.pd_text.specs.Edit.{edited}
use Rattle.pd_text.specs.declared.line_edit.LineEdit.{LineEdit}
use Rattle.pd_settings.specs.Settings.{replaced}
use Rattle.pd_settings.specs.declared.settings.Settings.{Settings}
use Rattle.pd_settings.specs.declared.keys.Key.{Key}
use Rattle.pd_settings.specs.declared.values.Value.{Value}
use Rattle.pd_book.specs.declared.act.Act.{Act}
use Rattle.pd_book.specs.declared.act.Act.TheVariants.{Add, Edit, Remove, Set, Start, Finish, Abandon}
use Rattle.pd_book.specs.declared.act.Ruling.{Ruling}
use Rattle.pd_book.specs.declared.act.Ruling.TheVariants.{Taken, Stale}
use Rattle.pd_track.specs.declared.task.Task.{Task}

-- a script: its name and its text
abbrev pub NamedText : Type 0
NamedText = List ℕ × List (List ℕ)

-- an edit of the script of this name, seen at any script
abbrev pub edited_at : List ℕ → LineEdit → NamedText → NamedText
edited_at name edit script = if bytes_eq name script.0 then (script.0, edited script.1 edit) else script

-- the scripts that stand, with their present texts, in order of adding
abbrev pub texts : List Act → List NamedText
texts [] = []
texts (Add n t ∷ older) = texts older ++ (n, t) ∷ []
texts (Edit n e ∷ older) = map (edited_at n e) (texts older)
texts (Remove n ∷ older) = filter (λ (script : NamedText). not (bytes_eq n script.0)) (texts older)
texts (_ ∷ older) = texts older

-- the present text of the script of this name, if it stands
abbrev pub present_text : List Act → List ℕ → Option (List (List ℕ))
present_text past name = lookup (bytes_eq name) (texts past)

-- a script of this name stands
abbrev pub has_script : List Act → List ℕ → Bool
has_script past name = is_some (present_text past name)

-- the present text of a script that stands
abbrev pub text_of : List Act → List ℕ → List (List ℕ)
text_of past name = unwrap_or (present_text past name) []

-- the settings after one was set; a set that settings refuse leaves them
abbrev pub set_to : Settings → Key → Value → Settings
set_to settings key value = unwrap_or (replaced settings key value) settings

-- the present settings
abbrev pub now : Settings → List Act → Settings
now opening [] = opening
now opening (Set k v ∷ older) = set_to (now opening older) k v
now opening (_ ∷ older) = now opening older

-- the act is a change of the script of this name: an add, an edit or a remove of it, or any set,
-- also where it changes no octet
abbrev pub changes : List ℕ → Act → Bool
changes name (Add n t) = bytes_eq name n
changes name (Edit n e) = bytes_eq name n
changes name (Remove n) = bytes_eq name n
changes name (Set k v) = true
changes name _ = false

-- the acts after the last change of the script
abbrev pub since : List ℕ → List Act → List Act
since name [] = []
since name (act ∷ older) = if changes name act then [] else act ∷ since name older

-- the act starts a job on the script of this name, of which the number passes the test
abbrev pub starts : (ℕ → Bool) → List ℕ → Act → Bool
starts test name (Start j n) = bytes_eq name n && test j
starts test name _ = false

-- the act finishes this job
abbrev pub finishes : ℕ → Act → Bool
finishes j (Finish i r) = j == i
finishes j _ = false

-- the act ends this job: finishes or abandons it
abbrev pub ends : ℕ → Act → Bool
ends j (Finish i r) = j == i
ends j (Abandon i) = j == i
ends j _ = false

-- the job was finished, whatever the ruling
abbrev pub finished : List Act → ℕ → Bool
finished past j = list_any (finishes j) past

-- the job was finished or abandoned
abbrev pub ended : List Act → ℕ → Bool
ended past j = list_any (ends j) past

-- the script stands, and some start of it after its last change has its finish; no other finish counts
abbrev pub answered : List Act → List ℕ → Bool
answered past name = has_script past name && list_any (starts (finished past) name) (since name past)

-- some job on the script, started since its last change, has not ended
abbrev pub busy : List Act → List ℕ → Bool
busy past name = list_any (starts (λ j. not (ended past j)) name) (since name past)

-- the script is neither answered nor busy
abbrev pub waits : List Act → NamedText → Bool
waits past script = not (answered past script.0) && not (busy past script.0)

-- the first script that waits
abbrev pub next : List Act → Option NamedText
next past = find (waits past) (texts past)

-- how many jobs were started
abbrev pub started : List Act → ℕ
started [] = 0
started (Start j n ∷ older) = started older + 1
started (_ ∷ older) = started older

-- the tasks but the one of this number
abbrev pub without : ℕ → List Task → List Task
without j tasks = filter (λ (task : Task). not (j == task.number)) tasks

-- the outstanding jobs, the oldest first, each with the text and the settings of the moment of its start
abbrev pub jobs : Settings → List Act → List Task
jobs opening [] = []
jobs opening (Start j n ∷ older) =
    jobs opening older ++ record { number = j; name = n; text = text_of older n; settings = now opening older } ∷ []
jobs opening (Finish j r ∷ older) = without j (jobs opening older)
jobs opening (Abandon j ∷ older) = without j (jobs opening older)
jobs opening (_ ∷ older) = jobs opening older

-- the outstanding job of this number
abbrev pub job : Settings → List Act → ℕ → Option Task
job opening past j = find (λ (task : Task). j == task.number) (jobs opening past)

-- the script of an outstanding job stands and hasn't changed since the job's start
abbrev pub is_unchanged_since_start : List Act → Task → Bool
is_unchanged_since_start past task = has_script past task.name && list_any (starts (λ j. j == task.number) task.name) (since task.name past)

-- the ruling on a finish of an outstanding job
abbrev pub ruling : List Act → Task → Ruling
ruling past task = if is_unchanged_since_start past task then Taken else Stale
