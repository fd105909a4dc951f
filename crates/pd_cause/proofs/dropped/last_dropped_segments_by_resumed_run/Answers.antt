-- One more event of the run, and the segments that are reported after the last.
use Rattle.std.proofs.Common.{◌≡◌, ℕ, ◌<◌, ◌≤◌, ◌++◌, ◌∷◌, [], List, Option, Ok, Err, Some, IfOk, map, length, slice_get, drop, subst, sym, ap, ◌∙◌, true≢false, arith}
use Rattle.std.proofs.lemmas.List.{length-map}
use Rattle.pd_settings.specs.declared.settings.Settings.{Settings}
use Rattle.pd_script.specs.declared.parsed.Parsed.{Parsed}
use Rattle.pd_script.specs.declared.script_events.Event.{Event}
use Rattle.pd_reparse.specs.Reading.{ReadingView, script_part}
use Rattle.pd_reparse.specs.declared.parsed_event.ParsedEvent.{ParsedEvent}
use Rattle.pd_run.specs.Step.{RunStateView, step, Steps}
use Rattle.pd_run.specs.declared.stepper.StepEnd.TheVariants.{Go, Stop}
use Rattle.pd_run.proofs.Steps.{tells}
use Rattle.pd_cause.specs.Dropped.{dropped_in_event, dropped_in, dropped_before, last_dropped_segments_of_last_events}
use Rattle.pd_cause.specs.declared.dropped.DroppedSegment.{DroppedSegment}
use Rattle.pd_cause.proofs.DroppedLemmas.{begins, goes_on, noted_more, noted_none, told_left}
use Rattle.pd_cause.proofs.TriggerLemmas.{staged}
use Rattle.pd_cause.proofs.TracedLemmas.{event_at}
use Rattle.pd_cause.proofs.dropped.last_dropped_segments_by_resumed_run.Goals as goal

pub loop-number-init : goal.loop-number-init
loop-number-init c = record {
  underway = c.requires.resumed.underway;
  few = begins c.args.resumed.passed c.args.passed c.requires.early;
  counted = omega (arith, c.new-stepper.ensures);
  stage = c.requires.resumed.stage;
  noted = c.new-dropped.ensures.items ∙ noted_none c.args.settings.now (script_part c.args.reading.now) c.args.resumed.passed;
}

pub unreachable-requires : goal.unreachable-requires
unreachable-requires c =
    let reading : ReadingView = c.args.reading.now in
    let parsed : Parsed = script_part reading in
    let settings : Settings = c.args.settings.now in
    let run : RunStateView = c.loop-number.run in
    let event : Event = c.at.result.now.event in
    let read : List ParsedEvent = c.events-events.result.now in
    let within : c.loop-number.number < length read =
    omega (arith, c.loop-number-test.true, c.requires.reached.within, length-map reading.events (λ (d : ParsedEvent). d.event), ap (λ (ds : List ParsedEvent). length ds) c.events-events.ensures.value) in
    let found : slice_get parsed.events c.loop-number.number ≡ Some event =
    subst (λ (ds : List ParsedEvent). slice_get (map (λ (d : ParsedEvent). d.event) ds) c.loop-number.number ≡ Some event) c.events-events.ensures.value
    (event_at read c.loop-number.number c.at.result.now within c.at.ensures) in
    let stops : step run event ≡ Err c.in-Stop.field-0 =
    tells run c.step.new.state event (Stop c.in-Stop.field-0) c.loop-number.invariant.underway.live
    (subst (λ end. Steps run event end c.step.new.state) c.in-Stop.is c.in_ok-step.ensures.ends) in
    absurd (true≢false (goes_on settings parsed c.loop-number.number c.args.passed run event c.in-Stop.field-0 c.requires.reached
    c.loop-number.invariant.stage found c.loop-number-test.true stops))

pub loop-number-preserved : goal.loop-number-preserved
loop-number-preserved c =
    let reading : ReadingView = c.args.reading.now in
    let parsed : Parsed = script_part reading in
    let settings : Settings = c.args.settings.now in
    let begun : ℕ = c.args.resumed.passed in
    let number : ℕ = c.loop-number.number in
    let run : RunStateView = c.loop-number.run in
    let event : Event = c.at.result.now.event in
    let read : List ParsedEvent = c.events-events.result.now in
    let within : number < length read =
    omega (arith, c.loop-number-test.true, c.requires.reached.within, length-map reading.events (λ (d : ParsedEvent). d.event), ap (λ (ds : List ParsedEvent). length ds) c.events-events.ensures.value) in
    let found : slice_get parsed.events number ≡ Some event =
    subst (λ (ds : List ParsedEvent). slice_get (map (λ (d : ParsedEvent). d.event) ds) number ≡ Some event) c.events-events.ensures.value
    (event_at read number c.at.result.now within c.at.ensures) in
    let reported : step run event ≡ Ok c.step.new.state =
    tells run c.step.new.state event Go c.loop-number.invariant.underway.live
    (subst (λ end. Steps run event end c.step.new.state) c.in-Go.is c.in_ok-step.ensures.ends) in
    let from : begun ≤ number = omega (arith, c.loop-number.invariant.counted) in
    record {
      underway = c.law_clock_base_and_queue_bounded_per_event.ensures.step number run c.step.new.state event c.loop-number.invariant.underway reported;
      few = omega (arith, c.loop-number-test.true);
      counted = omega (arith, c.in_ok-step.ensures.one_more, c.loop-number.invariant.counted);
      stage = staged settings parsed number run c.step.new.state event c.loop-number.invariant.stage found reported;
      noted = c.in_ok-push_dropped_segment_or_none_of_event.ensures
          ∙ (ap (λ (items : List (Option DroppedSegment)). items ++ dropped_in_event run event ∷ []) c.loop-number.invariant.noted
          ∙ sym (noted_more settings parsed begun number run event from c.loop-number.invariant.stage found));
    }

pub returns : goal.returns
returns c =
    let parsed : Parsed = script_part c.args.reading.now in
    let settings : Settings = c.args.settings.now in
    let begun : ℕ = c.args.resumed.passed in
    let last : c.loop-number.number ≡ c.args.passed = omega (arith, c.loop-number-test.false, c.loop-number.invariant.few) in
    let whole : last_dropped_segments_of_last_events c.as_slice.result.now ≡ dropped_before settings parsed c.args.passed =
    ap (λ (items : List (Option DroppedSegment)). last_dropped_segments_of_last_events items) (c.as_slice.ensures.value ∙ c.loop-number.invariant.noted)
    ∙ (ap (λ (n : ℕ). last_dropped_segments_of_last_events (drop begun (dropped_in settings parsed n))) last
    ∙ told_left settings parsed begun c.args.passed c.requires.reached c.requires.early) in
    subst (λ (items : List DroppedSegment). IfOk c.last_dropped_segments_of_last_events.result (λ dropped. dropped.items ≡ items)) whole c.last_dropped_segments_of_last_events.ensures
