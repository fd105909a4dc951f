-- The events added so far and those that are left make all.
use Rattle.std.proofs.Common.{◌≡◌, ◌++◌}
use Rattle.pd_record.specs.Recording.{events_of_all}
use Rattle.pd_record.proofs.recorded_script.events_of.Given as goal

abbrev pub invariant-loop-event_recording : goal.invariant-loop-event_recording
invariant-loop-event_recording l = l.events.items ++ events_of_all l.event_recording-iterator.rest.items ≡ events_of_all l.fn.recorded_script.per_event
