-- The recording so far and the events that are left make the whole recording.
use Rattle.std.proofs.Common.{◌≡◌, ◌≤◌, ◌+◌, ◌*◌, [], drop}
use Rattle.pd_record.specs.Recording.{records}
use Rattle.pd_record.specs.Inner.{Sound}
use Rattle.pd_record.proofs.recorded_script.record_events.Given as goal

abbrev pub invariant-loop-event : goal.invariant-loop-event
invariant-loop-event l = record {
  sound : Sound l.recorder;
  base : l.recorder.base ≤ 3600000000 * 4097 + 3600000000 * l.event-index;
  left : records (drop l.event-index l.events) l.per_event.items l.recorder ≡ records l.events [] l.fn.recorder;
}
