-- Mends of a text that isn't finished: each changes a line at which its run stops, or puts lines in.
use Rattle.std.specs.Prelude.{◌≡◌, ℕ, ◌+◌, ◌-◌, ◌==◌, Bool, true, false, not, ◌||◌, ◌&&◌, nat_lt, nat_le, List, [], ◌∷◌, length, drop, slice_get, Option, Some, None, option_map, option_and_then, ◌⊎◌, if◌then◌else◌}
use Rattle.std.specs.List.{prefix_len}
use Rattle.pd_text.specs.Edit.{edited, edit_refusal}
use Rattle.pd_text.specs.declared.line_edit.LineEdit.{LineEdit}
use Rattle.pd_settings.specs.declared.settings.Settings.{Settings}
use Rattle.pd_script.specs.Script.{script_of}
use Rattle.pd_script.specs.declared.parsed.Parsed.{Parsed}
use Rattle.pd_script.specs.declared.script_events.Event.{Event}
use Rattle.pd_match.specs.declared.kinds.Kind.{Kind}
use Rattle.pd_run.specs.Laws.{unmatched}
use Rattle.pd_run.specs.Run.{verdict_of}
use Rattle.pd_run.specs.Step.{RunStateView}
use Rattle.pd_run.specs.declared.verdict.Verdict.{Verdict}
use Rattle.pd_run.specs.declared.verdict.Verdict.TheVariants.{Fail, Pass}
use Rattle.pd_cause.specs.Leftovers.{awaits_any_packet, end_in}

-- a verdict is no pass
abbrev pub IsNoPass : Verdict → Type 0
IsNoPass (Pass n) = ⊥
IsNoPass verdict = Unit {0}

-- the events of a text that passes take all packets which its run puts out, or none of them awaits one
abbrev pub takes_all_sent_packets_or_awaits_none : Settings → List (List ℕ) → Bool
takes_all_sent_packets_or_awaits_none settings text = by (end_in settings (script_of text))
  where
    by : Option RunStateView → Bool
    by None = true
    by (Some r) = not (awaits_any_packet (script_of text).events) || length (unmatched r) == 0

-- a text isn't finished: it doesn't pass, or leaves packets though it awaits some
abbrev pub IsUnfinished : Settings → List (List ℕ) → Type 0
IsUnfinished settings text = IsNoPass (verdict_of text settings) ⊎ (takes_all_sent_packets_or_awaits_none settings text ≡ false)

-- the line of the event after so many others
abbrev pub line_after : List Event → ℕ → Option ℕ
line_after events n = option_map (λ (e : Event). e.line) (slice_get events n)

-- an event begins on one line, and the one after it on the other
pub record IsFollowed (events : List Event) (line next : ℕ) : Type 0 where
  pub passed : ℕ
  pub event : line_after events passed ≡ Some line
  pub follower : line_after events (passed + 1) ≡ Some next

-- an edit changes one line at which the run of a text fails, or that of an event which follows one there, since its time counts
-- from it
pub record IsAtStop (settings : Settings) (text : List (List ℕ)) (edit : LineEdit) : Type 0 where
  pub line : ℕ
  pub kind : Kind
  pub fails : verdict_of text settings ≡ Fail line kind
  pub place : (edit.from ≡ line) ⊎ IsFollowed (script_of text).events line edit.from
  pub one : edit.remove ≡ 1

-- an octet may stand in a time of an input, or is a blank: a digit, `.`, `+`, a space or a tab
abbrev pub is_digit_point_plus_or_blank : ℕ → Bool
is_digit_point_plus_or_blank octet = (nat_le 48 octet && nat_le octet 57) || octet == 46 || octet == 43 || octet == 32 || octet == 9

-- the octets after the time with which a line begins
abbrev pub octets_after_time : List ℕ → List ℕ
octets_after_time octets = drop (prefix_len is_digit_point_plus_or_blank octets) octets

-- an edit puts lines before one, of which nothing but the time with which it begins is changed: that counts from them
pub record IsRetiming (text : List (List ℕ)) (edit : LineEdit) : Type 0 where
  pub old : List ℕ
  pub own : List ℕ
  pub stood : slice_get text (edit.from - 1) ≡ Some old
  pub stands : slice_get edit.insert (length edit.insert - 1) ≡ Some own
  pub same : octets_after_time own ≡ octets_after_time old
  pub one : edit.remove ≡ 1

-- where an edit may change a text: at its stop, or by lines that are put in, with which at most one other line gets another time
abbrev pub IsPlaced : Settings → List (List ℕ) → LineEdit → Type 0
IsPlaced settings text edit = (edit.remove ≡ 0) ⊎ IsRetiming text edit ⊎ IsAtStop settings text edit

-- an edit mends a text
pub record IsMend (settings : Settings) (text : List (List ℕ)) (edit : LineEdit) : Type 0 where
  pub unfinished : IsUnfinished settings text
  pub placed : IsPlaced settings text edit

-- a text after edits, the latest of them first
abbrev pub after : List LineEdit → List (List ℕ) → List (List ℕ)
after [] text = text
after (edit ∷ edits) text = edited (after edits text) edit

-- each of these edits, the latest first, mends the text as those before it left it
abbrev pub AreMends : Settings → List (List ℕ) → List LineEdit → Type 0
AreMends settings text [] = Unit {0}
AreMends settings text (edit ∷ edits) =
    IsMend settings (after edits text) edit × (edit_refusal (after edits text) edit ≡ None) × AreMends settings text edits

-- where a line stands after an edit, both counted from 0; nothing where it is taken away
abbrev pub place_after : LineEdit → ℕ → Option ℕ
place_after edit n =
    if nat_lt (n + 1) edit.from then Some n
    else (if nat_lt (n + 1) (edit.from + edit.remove) then None else Some (n + length edit.insert - edit.remove))

-- the same after edits, the latest first
abbrev pub place_after_all : List LineEdit → ℕ → Option ℕ
place_after_all [] n = Some n
place_after_all (edit ∷ edits) n = option_and_then (place_after edit) (place_after_all edits n)

-- a law: each line that no mend takes away is there octet for octet
abbrev pub OtherLinesStay : Type 0
OtherLinesStay =
    (settings : Settings) (text : List (List ℕ)) (edits : List LineEdit) (n m : ℕ) → AreMends settings text edits
    → place_after_all edits n ≡ Some m → slice_get (after edits text) m ≡ slice_get text n
