-- Where the events that are left stop the run is where the whole run stops.
use Rattle.std.proofs.Common.{◌≡◌, ◌≤◌, ◌*◌, drop}
use Rattle.pd_run.specs.StopPoints.{stop_from}
use Rattle.pd_run.specs.RunStates.{KeepsTime}
use Rattle.pd_run.proofs.Bounds.{IsWithin}
use Rattle.pd_run.proofs.Queued.{end_of}
use Rattle.pd_run.proofs.stop_point.run_events_to_stop_on_line.Given as goal

abbrev pub invariant-loop-event : goal.invariant-loop-event
invariant-loop-event l = record {
  passed : l.passed ≡ l.event-index;
  within : IsWithin KeepsTime (3600000000 * l.event-index) l.state;
  queued : end_of l.state ≤ 262144 * l.event-index;
  stop : stop_from l.line l.passed (drop l.event-index l.events) l.state ≡ stop_from l.fn.line 0 l.events l.fn.start;
}
