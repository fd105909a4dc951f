-- The lines so far, and those of the events that are left, are those of the whole run.
use Rattle.std.proofs.Common.{◌≡◌, ◌++◌, drop}
use Rattle.pd_run.specs.Laws.{IsUnderway}
use Rattle.pd_explain.specs.RuleTrace.{rule_lines_from}
use Rattle.pd_explain.proofs.rule_trace.rule_lines_of_events.Given as goal

abbrev pub invariant-loop-event : goal.invariant-loop-event
invariant-loop-event l = record {
  underway : IsUnderway l.event-index l.run;
  counted : l.stepper ≡ l.event-index;
  lines : l.out.items ++ rule_lines_from l.of (drop l.event-index l.parsed.events) l.run ≡ rule_lines_from l.of l.parsed.events l.fn.start;
}
