-- Where events differ, they aren't the recorded ones.
use Rattle.std.proofs.Common.{◌≡◌, ◌∙◌, ◌≤◌, List, [], length, drop, None, ap, subst}
use Rattle.std.proofs.lemmas.List.{drop_all}
use Rattle.pd_record.specs.Inner.{GoesAfter}
use Rattle.pd_record.specs.Recording.{RecordedScriptView, events_in}
use Rattle.pd_record.specs.Recorder.{EventRecordingView}
use Rattle.pd_record.specs.declared.recorded.RecordedEvent.{RecordedEvent}
use Rattle.pd_record.proofs.After.{not_recorded}
use Rattle.pd_record.proofs.unchanged.are_events_as_recorded.Goals as goal

pub returns-in-None-strip_recorded_events_prefix : goal.returns-in-None-strip_recorded_events_prefix
returns-in-None-strip_recorded_events_prefix c =
    let per_event : c.as_slice-event_recording-items.result.now ≡ c.args.recorded_script.now.per_event = c.as_slice-event_recording-items.ensures.value ∙ ap (λ (t : RecordedScriptView). t.per_event) c.recorded_script.view_is in
    let rest : c.as_slice.result.now ≡ c.args.recorded_script.now.rest = c.as_slice.ensures.value ∙ ap (λ (t : RecordedScriptView). t.rest) c.recorded_script.view_is in
    let all : drop c.loop-event_recording.event_recording-index c.args.recorded_script.now.per_event ≡ [] =
    drop_all c.loop-event_recording.event_recording-index c.args.recorded_script.now.per_event (subst (λ (list : List EventRecordingView). length list ≤ c.loop-event_recording.event_recording-index) per_event c.loop-event_recording-test.false) in
    let none : GoesAfter c.loop-event_recording.left.now (events_in c.args.recorded_script.now.rest) None =
    subst (λ (list : List RecordedEvent). GoesAfter c.loop-event_recording.left.now (events_in list) None) rest c.in-None-strip_recorded_events_prefix.ensures in
    (λ no. absurd cc, λ h. absurd (not_recorded c.args.events.now c.loop-event_recording.left.now c.args.recorded_script.now.per_event (drop c.loop-event_recording.event_recording-index c.args.recorded_script.now.per_event) c.args.recorded_script.now.rest c.loop-event_recording.invariant all none h))
