-- One more event of a run that comes to its end.
use Rattle.std.proofs.Common.{◌≡◌, ◌+◌, ◌∷◌, Ok, Some, List, drop, length, slice_get, refl, subst, sym, ◌∙◌, arith}
use Rattle.std.proofs.lemmas.Option.{slice_get_read}
use Rattle.pd_settings.specs.declared.settings.Settings.{Settings}
use Rattle.pd_script.specs.declared.parsed.Parsed.{Parsed}
use Rattle.pd_script.specs.declared.script_events.Event.{Event}
use Rattle.pd_run.specs.Laws.{IsUnderway, unmatched}
use Rattle.pd_run.specs.Step.{RunStateView, step, IsStepEnd}
use Rattle.pd_cause.specs.Inner.{AreTriggers}
use Rattle.pd_cause.proofs.LeftoverLemmas.{end_after}
use Rattle.pd_cause.proofs.TriggerLemmas.{noted_step, staged}
use Rattle.pd_cause.proofs.TracedLemmas.{left_from}
use Rattle.pd_cause.proofs.leftovers.run_events_with_triggers_if_all_pass.Goals as goal

pub loop-event-preserved : goal.loop-event-preserved
loop-event-preserved c =
    let parsed : Parsed = c.args.parsed.now in
    let settings : Settings = c.args.settings.now in
    let run : RunStateView = c.loop-event.run in
    let event : Event = c.event-item.result in
    let next : RunStateView = c.step_and_note_packet_triggers.new.run in
    let underway : IsUnderway c.loop-event.event-index run = c.loop-event.invariant.underway in
    let reported : step run event ≡ Ok next =
    subst (λ end. IsStepEnd (step run event) end next) c.in-Go.is c.in_ok-step_and_note_packet_triggers.ensures.ends in
    let found : slice_get parsed.events c.loop-event.event-index ≡ Some event =
    subst (λ (es : List Event). slice_get es c.loop-event.event-index ≡ Some event) c.as_slice-event-items.ensures
    (slice_get_read c.as_slice-event-items.result.now (length c.as_slice-event-items.result.now) c.loop-event.event-index event refl c.loop-event-test.true c.event-item.is) in
    let split : drop c.loop-event.event-index parsed.events ≡ event ∷ drop (c.loop-event.event-index + 1) parsed.events =
    left_from parsed.events c.loop-event.event-index event found in
    record {
      underway = c.law_clock_base_and_queue_bounded_per_event.ensures.step c.loop-event.event-index run next event underway reported;
      counted = omega (arith, c.in_ok-step_and_note_packet_triggers.ensures.one_more, c.loop-event.invariant.counted);
      end = sym (end_after (drop c.loop-event.event-index parsed.events) (drop (c.loop-event.event-index + 1) parsed.events) run next event split reported) ∙ c.loop-event.invariant.end;
      stage = staged settings parsed c.loop-event.event-index run next event c.loop-event.invariant.stage found reported;
      triggers = subst (λ triggers. AreTriggers settings parsed 0 (c.loop-event.event-index + 1) (length (unmatched next)) triggers)
          (sym (c.in_ok-step_and_note_packet_triggers.ensures.noted c.in-Go.is))
          (noted_step settings parsed c.loop-event.event-index run event c.law_outbox_is_first_in_first_out.ensures next c.loop-event.invariant.stage found reported 0
          c.loop-event.triggers.items c.loop-event.invariant.triggers);
    }
