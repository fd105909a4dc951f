-- The rest of the run has the end of the whole run, and the triggers of the packets are known.
use Rattle.std.proofs.Common.{◌≡◌, drop, length, slice_get, Some}
use Rattle.pd_run.specs.Laws.{IsUnderway, unmatched}
use Rattle.pd_cause.specs.Leftovers.{end_from}
use Rattle.pd_cause.specs.Inner.{AreTriggers}
use Rattle.pd_cause.specs.Origins.{stages}
use Rattle.pd_cause.proofs.leftovers.run_events_with_triggers_if_all_pass.Given as goal

abbrev pub invariant-loop-event : goal.invariant-loop-event
invariant-loop-event l = record {
  underway : IsUnderway l.event-index l.run;
  counted : l.stepper ≡ l.event-index;
  end : end_from (drop l.event-index l.parsed.events) l.run ≡ end_from l.parsed.events l.fn.start;
  stage : slice_get (stages l.settings l.parsed) l.event-index ≡ Some l.run;
  triggers : AreTriggers l.settings l.parsed 0 l.event-index (length (unmatched l.run)) l.triggers.items;
}
