-- One more event of a run that was taken up, and its stop.
use Rattle.std.proofs.Common.{◌≡◌, ℕ, ◌+◌, ◌∷◌, Ok, Err, Some, None, List, drop, take, map, length, slice_get, subst, sym, ap, ap₂, ◌∙◌, arith}
use Rattle.pd_settings.specs.declared.settings.Settings.{Settings}
use Rattle.pd_script.specs.declared.parsed.Parsed.{Parsed}
use Rattle.pd_script.specs.declared.script_events.Event.{Event}
use Rattle.pd_reparse.specs.Reading.{script_part}
use Rattle.pd_reparse.specs.declared.parsed_event.ParsedEvent.{ParsedEvent}
use Rattle.pd_run.specs.Laws.{IsUnderway, unmatched}
use Rattle.pd_run.specs.Step.{RunStateView, step, IsStepEnd}
use Rattle.pd_run.specs.StopPoints.{preview_stop_reason_if_on_line, stop_from}
use Rattle.pd_seg.specs.declared.segments.Sent.{Sent}
use Rattle.pd_cause.specs.Failures.{sender_at}
use Rattle.pd_cause.specs.Inner.{IsResumed, AreTriggers}
use Rattle.pd_cause.specs.Origins.{taken_by}
use Rattle.pd_cause.proofs.NotedStop.{noted_stop}
use Rattle.pd_cause.proofs.TriggerLemmas.{noted_step, staged}
use Rattle.pd_cause.proofs.ResumedRun.{stops_later}
use Rattle.pd_cause.proofs.TracedLemmas.{event_at, left_from, none_known, reason_is, stops_here, stops_elsewhere, all_known}
use Rattle.pd_cause.proofs.resume.trace_stop_from_resumed.Goals as goal

pub loop-passed-init : goal.loop-passed-init
loop-passed-init c =
    let parsed : Parsed = script_part c.args.reading.now in
    let resumed : IsResumed c.args.settings.now parsed c.args.resumed.passed c.args.resumed.run = c.requires in
    record {
      underway = resumed.underway;
      counted = omega arith;
      stop = sym (resumed.stops c.args.line);
      stage = resumed.stage;
      triggers = subst (λ triggers. AreTriggers c.args.settings.now parsed (taken_by (take c.args.resumed.passed parsed.events) + length (unmatched c.args.resumed.run)) c.args.resumed.passed (length (unmatched c.args.resumed.run)) triggers)
          (sym c.new-triggers.ensures.items) (none_known c.args.settings.now parsed c.args.resumed.passed c.args.resumed.run);
    }

pub loop-passed-preserved : goal.loop-passed-preserved
loop-passed-preserved c =
    let parsed : Parsed = script_part c.args.reading.now in
    let settings : Settings = c.args.settings.now in
    let run : RunStateView = c.loop-passed.run in
    let event : Event = c.at.result.now.event in
    let underway : IsUnderway c.loop-passed.passed run = c.loop-passed.invariant.underway in
    let reported : step run event ≡ Ok c.step_and_note_packet_triggers.new.run =
    subst (λ end. IsStepEnd (step run event) end c.step_and_note_packet_triggers.new.run) c.in-Go.is c.in_ok-step_and_note_packet_triggers.ensures.ends in
    let read : List ParsedEvent = c.events-events.result.now in
    let found : slice_get parsed.events c.loop-passed.passed ≡ Some event =
    subst (λ (ds : List ParsedEvent). slice_get (map (λ (d : ParsedEvent). d.event) ds) c.loop-passed.passed ≡ Some event) c.events-events.ensures.value
    (event_at read c.loop-passed.passed c.at.result.now (omega (arith, c.loop-passed-test.true, c.len-passed-end.ensures)) c.at.ensures) in
    let split : drop c.loop-passed.passed parsed.events ≡ event ∷ drop (c.loop-passed.passed + 1) parsed.events = left_from parsed.events c.loop-passed.passed event found in
    let later : stop_from c.args.line c.loop-passed.passed (drop c.loop-passed.passed parsed.events) run
    ≡ stop_from c.args.line (c.loop-passed.passed + 1) (drop (c.loop-passed.passed + 1) parsed.events) c.step_and_note_packet_triggers.new.run =
    ap (λ (es : List Event). stop_from c.args.line c.loop-passed.passed es run) split
    ∙ stops_later c.law_verdicts_have_reasons.ensures.reasons c.args.line c.loop-passed.passed (drop (c.loop-passed.passed + 1) parsed.events) run c.step_and_note_packet_triggers.new.run event reported in
    record {
      underway = c.law_clock_base_and_queue_bounded_per_event.ensures.step c.loop-passed.passed run c.step_and_note_packet_triggers.new.run event underway reported;
      counted = omega (arith, c.in_ok-step_and_note_packet_triggers.ensures.one_more, c.loop-passed.invariant.counted);
      stop = sym later ∙ c.loop-passed.invariant.stop;
      stage = staged settings parsed c.loop-passed.passed run c.step_and_note_packet_triggers.new.run event c.loop-passed.invariant.stage found reported;
      triggers = subst (λ triggers. AreTriggers settings parsed (taken_by (take c.args.resumed.passed parsed.events) + length (unmatched c.args.resumed.run)) (c.loop-passed.passed + 1) (length (unmatched c.step_and_note_packet_triggers.new.run)) triggers)
          (sym (c.in_ok-step_and_note_packet_triggers.ensures.noted c.in-Go.is))
          (noted_step settings parsed c.loop-passed.passed run event c.law_outbox_is_first_in_first_out.ensures c.step_and_note_packet_triggers.new.run c.loop-passed.invariant.stage found reported
          (taken_by (take c.args.resumed.passed parsed.events) + length (unmatched c.args.resumed.run)) c.loop-passed.triggers.items c.loop-passed.invariant.triggers);
    }

pub returns-in-Some-clause-stop : goal.returns-in-Some-clause-stop
returns-in-Some-clause-stop c =
    let parsed : Parsed = script_part c.args.reading.now in
    let settings : Settings = c.args.settings.now in
    let run : RunStateView = c.loop-passed.run in
    let event : Event = c.at.result.now.event in
    let found : slice_get parsed.events c.loop-passed.passed ≡ Some event =
    subst (λ (ds : List ParsedEvent). slice_get (map (λ (d : ParsedEvent). d.event) ds) c.loop-passed.passed ≡ Some event) c.events-events.ensures.value
    (event_at c.events-events.result.now c.loop-passed.passed c.at.result.now (omega (arith, c.loop-passed-test.true, c.len-passed-end.ensures)) c.at.ensures) in
    let split : drop c.loop-passed.passed parsed.events ≡ event ∷ drop (c.loop-passed.passed + 1) parsed.events = left_from parsed.events c.loop-passed.passed event found in
    let reason : preview_stop_reason_if_on_line c.args.line run event ≡ Some c.in-Some.stop_reason = sym c.in_ok-stop_reason.ensures ∙ c.in-Some.is in
    sym (stops_here c.args.line c.loop-passed.passed (drop c.loop-passed.passed parsed.events) (drop (c.loop-passed.passed + 1) parsed.events) run event c.in-Some.stop_reason split reason)
    ∙ c.loop-passed.invariant.stop

pub returns-in-Some-clause-triggers : goal.returns-in-Some-clause-triggers
returns-in-Some-clause-triggers c =
    let parsed : Parsed = script_part c.args.reading.now in
    let settings : Settings = c.args.settings.now in
    let run : RunStateView = c.loop-passed.run in
    let event : Event = c.at.result.now.event in
    let found : slice_get parsed.events c.loop-passed.passed ≡ Some event =
    subst (λ (ds : List ParsedEvent). slice_get (map (λ (d : ParsedEvent). d.event) ds) c.loop-passed.passed ≡ Some event) c.events-events.ensures.value
    (event_at c.events-events.result.now c.loop-passed.passed c.at.result.now (omega (arith, c.loop-passed-test.true, c.len-passed-end.ensures)) c.at.ensures) in
    let reason : preview_stop_reason_if_on_line c.args.line run event ≡ Some c.in-Some.stop_reason = sym c.in_ok-stop_reason.ensures ∙ c.in-Some.is in
    let first : ℕ = taken_by (take c.args.resumed.passed parsed.events) + length (unmatched c.args.resumed.run) in
    let known : AreTriggers settings parsed first c.loop-passed.passed (length (sender_at run c.in-Some.stop_reason).state.endpoint.outbox) c.note_triggers_if_packet_or_result_differs.new.triggers.items =
    subst (λ triggers. AreTriggers settings parsed first c.loop-passed.passed (length (sender_at run c.in-Some.stop_reason).state.endpoint.outbox) triggers)
    (sym c.in_ok-note_triggers_if_packet_or_result_differs.ensures)
    (noted_stop settings parsed c.loop-passed.passed run event c.law_outbox_is_first_in_first_out.ensures c.loop-passed.invariant.stage found first c.in-Some.stop_reason
    c.loop-passed.triggers.items (reason_is c.args.line run event c.in-Some.stop_reason reason) c.loop-passed.invariant.triggers) in
    (first, known)

pub returns-in-Some-clause-whole : goal.returns-in-Some-clause-whole
returns-in-Some-clause-whole c = λ fresh none.
    let parsed : Parsed = script_part c.args.reading.now in
    let settings : Settings = c.args.settings.now in
    let run : RunStateView = c.loop-passed.run in
    let event : Event = c.at.result.now.event in
    let found : slice_get parsed.events c.loop-passed.passed ≡ Some event =
    subst (λ (ds : List ParsedEvent). slice_get (map (λ (d : ParsedEvent). d.event) ds) c.loop-passed.passed ≡ Some event) c.events-events.ensures.value
    (event_at c.events-events.result.now c.loop-passed.passed c.at.result.now (omega (arith, c.loop-passed-test.true, c.len-passed-end.ensures)) c.at.ensures) in
    let reason : preview_stop_reason_if_on_line c.args.line run event ≡ Some c.in-Some.stop_reason = sym c.in_ok-stop_reason.ensures ∙ c.in-Some.is in
    let first : ℕ = taken_by (take c.args.resumed.passed parsed.events) + length (unmatched c.args.resumed.run) in
    let known : AreTriggers settings parsed first c.loop-passed.passed (length (sender_at run c.in-Some.stop_reason).state.endpoint.outbox) c.note_triggers_if_packet_or_result_differs.new.triggers.items =
    subst (λ triggers. AreTriggers settings parsed first c.loop-passed.passed (length (sender_at run c.in-Some.stop_reason).state.endpoint.outbox) triggers)
    (sym c.in_ok-note_triggers_if_packet_or_result_differs.ensures)
    (noted_stop settings parsed c.loop-passed.passed run event c.law_outbox_is_first_in_first_out.ensures c.loop-passed.invariant.stage found first c.in-Some.stop_reason
    c.loop-passed.triggers.items (reason_is c.args.line run event c.in-Some.stop_reason reason) c.loop-passed.invariant.triggers) in
    let zero : first ≡ 0 = ap₂ (λ (k : ℕ) (packets : List Sent). taken_by (take k parsed.events) + length packets) none fresh in
    all_known settings parsed c.loop-passed.passed (length (sender_at run c.in-Some.stop_reason).state.endpoint.outbox) c.note_triggers_if_packet_or_result_differs.new.triggers.items
    (subst (λ (n : ℕ). AreTriggers settings parsed n c.loop-passed.passed (length (sender_at run c.in-Some.stop_reason).state.endpoint.outbox) c.note_triggers_if_packet_or_result_differs.new.triggers.items) zero known)

pub returns-in-Stop-clause-stop : goal.returns-in-Stop-clause-stop
returns-in-Stop-clause-stop c =
    let parsed : Parsed = script_part c.args.reading.now in
    let settings : Settings = c.args.settings.now in
    let run : RunStateView = c.loop-passed.run in
    let event : Event = c.at.result.now.event in
    let found : slice_get parsed.events c.loop-passed.passed ≡ Some event =
    subst (λ (ds : List ParsedEvent). slice_get (map (λ (d : ParsedEvent). d.event) ds) c.loop-passed.passed ≡ Some event) c.events-events.ensures.value
    (event_at c.events-events.result.now c.loop-passed.passed c.at.result.now (omega (arith, c.loop-passed-test.true, c.len-passed-end.ensures)) c.at.ensures) in
    let split : drop c.loop-passed.passed parsed.events ≡ event ∷ drop (c.loop-passed.passed + 1) parsed.events = left_from parsed.events c.loop-passed.passed event found in
    let none : preview_stop_reason_if_on_line c.args.line run event ≡ None = sym c.in_ok-stop_reason.ensures ∙ c.in_default.is in
    let stops : step run event ≡ Err c.in-Stop.field-0 =
    subst (λ end. IsStepEnd (step run event) end c.step_and_note_packet_triggers.new.run) c.in-Stop.is c.in_ok-step_and_note_packet_triggers.ensures.ends in
    sym (stops_elsewhere c.args.line c.loop-passed.passed (drop c.loop-passed.passed parsed.events) (drop (c.loop-passed.passed + 1) parsed.events) run event c.in-Stop.field-0 split none stops)
    ∙ c.loop-passed.invariant.stop
