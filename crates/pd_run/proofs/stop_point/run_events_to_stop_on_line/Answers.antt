-- One more event of a run.
use Rattle.std.proofs.Common.{◌≡◌, ◌≤◌, ◌+◌, ◌*◌, ◌∷◌, None, Ok, List, drop, subst, sym, ap, ◌∙◌, arith}
use Rattle.std.proofs.lemmas.List.{drop_more}
use Rattle.pd_script.specs.declared.script_events.Event.{Event}
use Rattle.pd_run.specs.Inner.{SenderIsLawful}
use Rattle.pd_run.specs.RunStates.{KeepsTime}
use Rattle.pd_run.specs.Step.{step, Steps}
use Rattle.pd_run.specs.StopPoints.{preview_stop_reason_if_on_line}
use Rattle.pd_run.specs.declared.stepper.StepEnd.TheVariants.{Go}
use Rattle.pd_run.proofs.Bounds.{IsWithin, step_within}
use Rattle.pd_run.proofs.Queued.{end_of, step_queues}
use Rattle.pd_run.proofs.Steps.{tells}
use Rattle.pd_run.proofs.StopsFound.{stop_after}
use Rattle.pd_run.proofs.Timed.{keeps_time}
use Rattle.pd_run.proofs.stop_point.run_events_to_stop_on_line.Goals as goal

pub loop-event-preserved : goal.loop-event-preserved
loop-event-preserved c =
    let laws : SenderIsLawful = c.law_sender_deadline_ahead_and_queue_bounded.ensures in
    let within : IsWithin KeepsTime (3600000000 * c.loop-event.event-index) c.loop-event.state = c.loop-event.invariant.within in
    let told : step c.loop-event.state c.event-item.result ≡ Ok c.step.new.self =
    tells c.loop-event.state c.step.new.self c.event-item.result Go within.live (subst (λ end. Steps c.loop-event.state c.event-item.result end c.step.new.self) c.in-Go.is c.in_ok-step.ensures.ends) in
    let none : preview_stop_reason_if_on_line c.args.line c.loop-event.state c.event-item.result ≡ None = sym c.in_ok-stop_reason.ensures ∙ c.in_default.is in
    let rest : List Event = drop (c.loop-event.event-index + 1) c.args.events.now in
    let split : drop c.loop-event.event-index c.args.events.now ≡ c.event-item.result ∷ rest =
    drop_more c.args.events.now c.loop-event.event-index c.event-item.result c.loop-event-test.true
    ∙ ap (λ (e : Event). e ∷ rest) (sym c.event-item.is) in
    let next : IsWithin KeepsTime (3600000000 * c.loop-event.event-index + 3600000000) c.step.new.self =
    step_within KeepsTime (keeps_time laws) (3600000000 * c.loop-event.event-index) c.loop-event.state c.step.new.self c.event-item.result within told in
    let more : end_of c.step.new.self ≤ end_of c.loop-event.state + 262144 =
    step_queues laws c.loop-event.state c.step.new.self c.event-item.result told in
    let longer : 3600000000 * c.loop-event.event-index + 3600000000 ≡ 3600000000 * (c.loop-event.event-index + 1) = omega arith in
    record {
      passed = omega (arith, c.loop-event.invariant.passed);
      within = subst (λ n. IsWithin KeepsTime n c.step.new.self) longer next;
      queued = omega (arith, more, c.loop-event.invariant.queued);
      stop = sym (stop_after c.args.line c.loop-event.passed (drop c.loop-event.event-index c.args.events.now) rest c.loop-event.state c.step.new.self c.event-item.result split none told) ∙ c.loop-event.invariant.stop;
    }
