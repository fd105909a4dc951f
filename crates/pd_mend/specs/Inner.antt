-- Definitions that contracts of private functions cite and no public one does.
use Rattle.std.specs.Prelude.{◌≡◌, ℕ, Bool, not, true, List, Option, ◌⊎◌, None, Some}
use Rattle.pd_text.specs.Edit.{edited, edit_refusal}
use Rattle.pd_text.specs.declared.faults.TextFault.TheVariants as text_fault
use Rattle.pd_text.specs.declared.line_edit.LineEdit.{LineEdit}
use Rattle.pd_settings.specs.declared.settings.Settings.{Settings}
use Rattle.pd_run.specs.declared.verdict.Verdict.{Verdict}
use Rattle.pd_script.specs.declared.script_events.Event.{Event}
use Rattle.pd_cause.specs.declared.leftovers.Leftovers.{Leftovers}
use Rattle.pd_mend.specs.Mending.{IsFollowed, IsMend, IsRetiming}
use Rattle.pd_mend.specs.declared.mend_error.MendError.{MendError}
use Rattle.pd_mend.specs.declared.mend_error.MendError.TheVariants.{Stopped, TooLarge, OutOfMemory}

-- a text is another one after a mend
pub record IsNext (settings : Settings) (text : List (List ℕ)) (next : List (List ℕ)) : Type 0 where
  pub edit : LineEdit
  pub mends : IsMend settings text edit
  pub allowed : edit_refusal text edit ≡ None
  pub made : next ≡ edited text edit

-- why a text isn't mended once: the mend is over the limits of a text, or memory was refused
abbrev pub IsUnmade : Settings → List (List ℕ) → MendError → Type 0
IsUnmade settings text (Stopped unmendable) = ⊥
IsUnmade settings text TooLarge = (edit : LineEdit) × IsMend settings text edit × (edit_refusal text edit ≡ Some text_fault.TooLarge)
IsUnmade settings text OutOfMemory = Unit {0}

-- a text is refused with its verdict
abbrev pub IsUnmendable : List (List ℕ) → Verdict → MendError → Type 0
IsUnmendable text verdict (Stopped unmendable) = (unmendable.lines ≡ text) × (unmendable.verdict ≡ verdict)
IsUnmendable text verdict _ = ⊥

-- an edit puts lines in, with which at most one other line gets another time
abbrev pub IsPut : List (List ℕ) → LineEdit → Type 0
IsPut text edit = (edit.remove ≡ 0) ⊎ IsRetiming text edit

-- an edit changes one line, the one at which a run stopped, or that of an event which follows one there; or it puts lines in
abbrev pub IsChange : List (List ℕ) → List Event → ℕ → LineEdit → Type 0
IsChange text events line edit = IsPut text edit ⊎ ((edit.remove ≡ 1) × ((edit.from ≡ line) ⊎ IsFollowed events line edit.from))

-- the leftovers name no packet that might have been awaited
abbrev pub has_no_leftovers_or_awaits_none : Option Leftovers → Bool
has_no_leftovers_or_awaits_none None = true
has_no_leftovers_or_awaits_none (Some leftovers) = not leftovers.awaits
