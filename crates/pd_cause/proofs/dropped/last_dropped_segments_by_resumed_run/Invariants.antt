-- Of each event since the run was taken up the segment that was dropped in it is noted.
use Rattle.std.proofs.Common.{◌≡◌, ◌+◌, ◌≤◌, drop, slice_get, Some}
use Rattle.pd_reparse.specs.Reading.{script_part}
use Rattle.pd_run.specs.Laws.{IsUnderway}
use Rattle.pd_cause.specs.Dropped.{dropped_in}
use Rattle.pd_cause.specs.Origins.{stages}
use Rattle.pd_cause.proofs.dropped.last_dropped_segments_by_resumed_run.Given as goal

abbrev pub invariant-loop-number : goal.invariant-loop-number
invariant-loop-number l = record {
  underway : IsUnderway l.number l.run;
  few : l.number ≤ l.passed;
  counted : l.stepper + l.fn.resumed.passed ≡ l.number;
  stage : slice_get (stages l.settings (script_part l.reading)) l.number ≡ Some l.run;
  noted : l.dropped.items ≡ drop l.fn.resumed.passed (dropped_in l.settings (script_part l.reading) l.number);
}
