-- The events after two lists of events.
use Rattle.std.proofs.Common.{List, ◌++◌, subst}
use Rattle.pd_record.specs.Inner.{GoesAfter}
use Rattle.pd_record.specs.Recording.{event_in, events_in, events_recorded}
use Rattle.pd_record.specs.Recorder.{EventRecordingView}
use Rattle.pd_record.specs.declared.recorded.RecordedEvent.{RecordedEvent}
use Rattle.pd_record.proofs.After.{goes_on}
use Rattle.pd_record.proofs.unchanged.strip_event_recording_prefix.Goals as goal

pub returns : goal.returns
returns c =
    let both = goes_on c.args.events.now (events_in c.as_slice.result.now) (event_in c.event_recording.inside.own) c.in_ok-after.after c.strip_own_event_prefix_if_any.result c.in_ok-after.ensures c.strip_own_event_prefix_if_any.ensures in
    let of_take = subst (λ (list : List RecordedEvent). GoesAfter c.args.events.now (events_in list ++ event_in c.event_recording.inside.own) c.strip_own_event_prefix_if_any.result) c.as_slice.ensures.value both in
    subst (λ (took : EventRecordingView). GoesAfter c.args.events.now (events_recorded took) c.strip_own_event_prefix_if_any.result) c.event_recording.view_is of_take
