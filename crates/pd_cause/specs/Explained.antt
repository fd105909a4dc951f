-- Which rows are explained, and by which cause.
use Rattle.std.specs.Prelude.{◌≡◌, ℕ, List, slice_get, find, is_none, Option, Some, None}
use Rattle.pd_settings.specs.declared.settings.Settings.{Settings}
use Rattle.pd_lex.specs.Places.{first_place}
use Rattle.pd_script.specs.Script.{script_of}
use Rattle.pd_script.specs.declared.parsed.Parsed.{Parsed}
use Rattle.pd_script.specs.declared.script_events.Event.{Event}
use Rattle.pd_script.specs.declared.script_header.HeaderItem.{HeaderItem}
use Rattle.pd_script.specs.declared.script_header.HeaderKind.{HeaderKind}
use Rattle.pd_reparse.specs.Reading.{reading_of}
use Rattle.pd_run.specs.Run.{tolerance_in}
use Rattle.pd_run.specs.StopPoints.{stop_in}
use Rattle.pd_run.specs.StopReason.{verdict_at}
use Rattle.pd_run.specs.declared.stop_point.StopPoint.{StopPoint}
use Rattle.pd_run.specs.declared.verdict.Verdict.{Verdict}
use Rattle.pd_run.specs.declared.verdict.Verdict.TheVariants as verdict
use Rattle.pd_cause.specs.Causes.{IsCauseOf}
use Rattle.pd_cause.specs.Dropped.{last_dropped_segments_if_packet_stop}
use Rattle.pd_cause.specs.Failures.{sender_at}
use Rattle.pd_cause.specs.Origins.{AreOrigins}
use Rattle.pd_refusal.specs.Parts.{rule_part_of_header_item, place_of_event_after_passed}
use Rattle.pd_refusal.specs.Rules.{unsupported_header_item_rule}
use Rattle.pd_refusal.specs.RuleViolations.{IsRuleViolation}
use Rattle.pd_cause.specs.declared.causes.Cause.{Cause}
use Rattle.pd_cause.specs.declared.causes.Cause.TheVariants as cause

-- the line of a row that isn't a pass
abbrev pub line_unless_pass : Verdict → Option ℕ
line_unless_pass (verdict.Pass n) = None
line_unless_pass (verdict.Fail line kind) = Some line
line_unless_pass (verdict.Syntax line) = Some line
line_unless_pass (verdict.Unsupported line) = Some line
line_unless_pass (verdict.Limit line) = Some line

-- the first header item that isn't run
abbrev pub first_unsupported_header_item : List HeaderItem → Option HeaderItem
first_unsupported_header_item items = find (λ item. is_none (tolerance_in item)) items

-- the run of a script stops on a line at this event, which gives the verdict
pub record StopsAt (line : ℕ) (settings : Settings) (parsed : Parsed) (v : Verdict) (e : Event) (stop : StopPoint) : Type 0 where
  pub found : stop_in line settings parsed ≡ Some stop
  pub event : slice_get parsed.events stop.passed ≡ Some e
  pub gives : verdict_at line stop.stop_reason ≡ v

-- the report of the run before the stop, where an event failed: the origins of the oldest unmatched packets,
-- and the last segments that were dropped
abbrev pub HasHistory : Settings → Parsed → StopPoint → Cause → Type 0
HasHistory settings parsed stop (cause.Failed f) =
    AreOrigins settings parsed stop.passed (sender_at stop.before stop.stop_reason).state.endpoint.outbox f.origins.items
    × (f.dropped.items ≡ last_dropped_segments_if_packet_stop settings parsed stop)
HasHistory settings parsed stop _ = Unit {0}

-- the report of a header item that isn't run: its rule, with the item
abbrev pub IsHeaderCause : List (List ℕ) → HeaderKind → Cause → Type 0
IsHeaderCause lines kind (cause.Rule violation) = IsRuleViolation lines first_place (rule_part_of_header_item kind) (unsupported_header_item_rule kind) violation
IsHeaderCause lines kind _ = ⊥

-- the report of a script whose run comes to a verdict at a line: the rule of the first header item that isn't run, or the
-- cause of the stop
abbrev pub IsCauseIn : List (List ℕ) → ℕ → Settings → Parsed → Verdict → Cause → Type 0
IsCauseIn lines line settings parsed v reported = by_header (first_unsupported_header_item parsed.header.items)
  where
    by_header : Option HeaderItem → Type 0
    by_header (Some item) = IsHeaderCause lines item.kind reported
    by_header None =
        (e : Event) × (stop : StopPoint) × StopsAt line settings parsed v e stop
        × IsCauseOf lines (place_of_event_after_passed (reading_of lines) stop.passed) e stop reported
        × HasHistory settings parsed stop reported

-- a text is refused, and nothing else is reported
abbrev pub IsRefused : Cause → Type 0
IsRefused (cause.Syntax refusal) = Unit {0}
IsRefused _ = ⊥

-- the report of a row: of a text that is no script that it is refused, of any other the cause of the stop at its line
abbrev pub IsCause : List (List ℕ) → Settings → Verdict → Cause → Type 0
IsCause text settings (verdict.Pass n) reported = ⊥
IsCause text settings (verdict.Syntax line) reported = IsRefused reported
IsCause text settings (verdict.Fail line kind) reported = IsCauseIn text line settings (script_of text) (verdict.Fail line kind) reported
IsCause text settings (verdict.Unsupported line) reported = IsCauseIn text line settings (script_of text) (verdict.Unsupported line) reported
IsCause text settings (verdict.Limit line) reported = IsCauseIn text line settings (script_of text) (verdict.Limit line) reported
