-- The reported cause of an event that stopped a run.
use Rattle.std.specs.Prelude.{◌≡◌, ℕ, false, List}
use Rattle.pd_lex.specs.declared.token.Place.{Place}
use Rattle.pd_script.specs.declared.script_events.Event.{Event}
use Rattle.pd_run.specs.declared.stop_point.StopPoint.{StopPoint}
use Rattle.pd_cause.specs.Failures.{is_failure, IsFailureOf}
use Rattle.pd_refusal.specs.Parts.{part_of}
use Rattle.pd_refusal.specs.Rules.{rule_that_stopped_run_at_event}
use Rattle.pd_refusal.specs.RuleViolations.{IsRuleViolation}
use Rattle.pd_cause.specs.declared.causes.Cause.{Cause}
use Rattle.pd_cause.specs.declared.causes.Cause.TheVariants as cause
use Rattle.pd_cause.specs.declared.causes.failure.Failure.{Failure}
use Rattle.pd_cause.specs.declared.origins.Origin.{Origin}
use Rattle.pd_cause.specs.declared.dropped.DroppedSegment.{DroppedSegment}

-- the report of an event that stopped a run, and stands at a place of its text: the failure, with the time
-- shown as some octets are, or the rule that stopped it, with the part of the event that it is about
abbrev pub IsCauseOf : List (List ℕ) → Place → Event → StopPoint → Cause → Type 0
IsCauseOf lines place e stop (cause.Failed f) = (time : List ℕ) × IsFailureOf time e stop f
IsCauseOf lines place e stop (cause.Rule violation) =
    let rule = rule_that_stopped_run_at_event e stop in
    (is_failure stop.stop_reason ≡ false) × IsRuleViolation lines place (part_of rule e) rule violation
IsCauseOf lines place e stop (cause.Syntax refusal) = ⊥

-- a cause is another one, and where an event failed it has these origins and dropped segments
abbrev pub HasHistoryOf : Cause → List Origin → List DroppedSegment → Cause → Type 0
HasHistoryOf (cause.Failed f) origins dropped reported =
    (g : Failure) × (reported ≡ cause.Failed g) × (g.origins.items ≡ origins) × (g.dropped.items ≡ dropped) × (g.failed ≡ f.failed) × (g.sender ≡ f.sender)
HasHistoryOf before origins dropped reported = reported ≡ before
