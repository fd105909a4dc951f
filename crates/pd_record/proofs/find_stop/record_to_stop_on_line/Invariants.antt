-- Where the events that are left stop recording is where recording stops.
use Rattle.std.proofs.Common.{◌≡◌, ◌≤◌, ◌+◌, ◌*◌, drop}
use Rattle.pd_record.specs.Stops.{stop_from}
use Rattle.pd_record.specs.Inner.{Sound}
use Rattle.pd_record.proofs.find_stop.record_to_stop_on_line.Given as goal

abbrev pub invariant-loop-event : goal.invariant-loop-event
invariant-loop-event l = record {
  passed : l.passed ≡ l.event-index;
  sound : Sound l.recorder;
  base : l.recorder.base ≤ 3600000000 * 4097 + 3600000000 * l.event-index;
  stop : stop_from l.line l.passed (drop l.event-index l.events) l.recorder ≡ stop_from l.fn.line 0 l.events l.fn.start;
}
