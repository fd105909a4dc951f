-- The results of mending a text.
use Rattle.std.specs.Prelude.{◌≡◌, ℕ, true, List, Some}
use Rattle.pd_text.specs.Edit.{edit_refusal}
use Rattle.pd_text.specs.declared.faults.TextFault.TheVariants as text_fault
use Rattle.pd_text.specs.declared.line_edit.LineEdit.{LineEdit}
use Rattle.pd_settings.specs.declared.settings.Settings.{Settings}
use Rattle.pd_run.specs.Run.{verdict_of}
use Rattle.pd_run.specs.declared.verdict.Verdict.TheVariants.{Pass}
use Rattle.pd_mend.specs.Mending.{after, takes_all_sent_packets_or_awaits_none, IsMend, IsUnfinished, AreMends}
use Rattle.pd_mend.specs.declared.mend_error.MendError.{MendError}
use Rattle.pd_mend.specs.declared.mend_error.MendError.TheVariants.{Stopped, TooLarge, OutOfMemory}

-- mends of a text under settings lead to another text
pub record Leads (settings : Settings) (text : List (List ℕ)) (end : List (List ℕ)) : Type 0 where
  pub edits : List LineEdit
  pub mends : AreMends settings text edits
  pub left : end ≡ after edits text

-- a text is mended to another one: mends lead to it, it passes with a number of events, and takes all packets if it awaits any
pub record IsMended (settings : Settings) (text : List (List ℕ)) (mended : List (List ℕ)) (events : ℕ) : Type 0 where
  pub leads : Leads settings text mended
  pub passes : verdict_of mended settings ≡ Pass events
  pub takes : takes_all_sent_packets_or_awaits_none settings mended ≡ true

-- a text passes, and takes all packets if it awaits any
abbrev pub IsFinished : Settings → List (List ℕ) → Type 0
IsFinished settings text = ((n : ℕ) × (verdict_of text settings ≡ Pass n)) × (takes_all_sent_packets_or_awaits_none settings text ≡ true)

-- why a text isn't mended: mends lead to a text that isn't finished, or to one whose next mend is over the limits of a text; for want
-- of memory nothing is claimed
abbrev pub RefusesToMend : Settings → List (List ℕ) → MendError → Type 0
RefusesToMend settings text (Stopped unmendable) =
    Leads settings text unmendable.lines × (unmendable.verdict ≡ verdict_of unmendable.lines settings) × IsUnfinished settings unmendable.lines
RefusesToMend settings text TooLarge =
    (left : List (List ℕ)) × (edit : LineEdit) × Leads settings text left × IsMend settings left edit
    × (edit_refusal left edit ≡ Some text_fault.TooLarge)
RefusesToMend settings text OutOfMemory = Unit {0}
