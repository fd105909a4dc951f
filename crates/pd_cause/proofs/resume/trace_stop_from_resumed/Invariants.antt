-- The rest of the run stops where the whole run does, and the triggers of the packets are known.
use Rattle.std.proofs.Common.{◌≡◌, ◌+◌, drop, take, length, slice_get, Some}
use Rattle.pd_reparse.specs.Reading.{script_part}
use Rattle.pd_run.specs.Laws.{IsUnderway, unmatched}
use Rattle.pd_run.specs.StopPoints.{stop_from, stop_in}
use Rattle.pd_cause.specs.Inner.{AreTriggers}
use Rattle.pd_cause.specs.Origins.{stages, taken_by}
use Rattle.pd_cause.proofs.resume.trace_stop_from_resumed.Given as goal

abbrev pub invariant-loop-passed : goal.invariant-loop-passed
invariant-loop-passed l = record {
  underway : IsUnderway l.passed l.run;
  counted : l.stepper + l.fn.resumed.passed ≡ l.passed;
  stop : stop_from l.line l.passed (drop l.passed (script_part l.reading).events) l.run ≡ stop_in l.line l.settings (script_part l.reading);
  stage : slice_get (stages l.settings (script_part l.reading)) l.passed ≡ Some l.run;
  triggers : AreTriggers l.settings (script_part l.reading)
      (taken_by (take l.fn.resumed.passed (script_part l.reading).events) + length (unmatched l.fn.resumed.run)) l.passed (length (unmatched l.run)) l.triggers.items;
}
