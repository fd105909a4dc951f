-- One more event of a run.
use Rattle.std.proofs.Common.{◌≡◌, ◌≤◌, ◌+◌, ◌*◌, ◌∷◌, Ok, List, drop, subst, sym, ap, ◌∙◌, arith}
use Rattle.std.proofs.lemmas.List.{drop_more}
use Rattle.pd_script.specs.declared.script_events.Event.{Event}
use Rattle.pd_run.specs.Inner.{SenderIsLawful}
use Rattle.pd_run.specs.Run.{stepped_from}
use Rattle.pd_run.specs.RunStates.{KeepsTime}
use Rattle.pd_run.specs.Step.{step, Steps}
use Rattle.pd_run.specs.declared.stepper.StepEnd.TheVariants.{Go}
use Rattle.pd_run.proofs.Bounds.{IsWithin, step_within}
use Rattle.pd_run.proofs.Queued.{end_of, step_queues}
use Rattle.pd_run.proofs.Steps.{tells, verdict_after, stepped_after}
use Rattle.pd_run.proofs.Timed.{keeps_time}
use Rattle.pd_run.proofs.whole_run.run_events.Goals as goal

pub loop-event-preserved : goal.loop-event-preserved
loop-event-preserved g c =
    let laws : SenderIsLawful = c.law_sender_deadline_ahead_and_queue_bounded.ensures in
    let within : IsWithin KeepsTime (3600000000 * c.loop-event.event-index) c.loop-event.state = c.loop-event.invariant.within in
    let told : step c.loop-event.state c.event-item.result ≡ Ok c.step.new.state =
    tells c.loop-event.state c.step.new.state c.event-item.result Go within.live (subst (λ end. Steps c.loop-event.state c.event-item.result end c.step.new.state) c.in-Go.is c.in_ok-step.ensures.ends) in
    let rest : List Event = drop (c.loop-event.event-index + 1) c.args.events.now in
    let split : drop c.loop-event.event-index c.args.events.now ≡ c.event-item.result ∷ rest =
    drop_more c.args.events.now c.loop-event.event-index c.event-item.result c.loop-event-test.true
    ∙ ap (λ (e : Event). e ∷ rest) (sym c.event-item.is) in
    let next : IsWithin KeepsTime (3600000000 * c.loop-event.event-index + 3600000000) c.step.new.state =
    step_within KeepsTime (keeps_time laws) (3600000000 * c.loop-event.event-index) c.loop-event.state c.step.new.state c.event-item.result within told in
    let more : end_of c.step.new.state ≤ end_of c.loop-event.state + 262144 =
    step_queues laws c.loop-event.state c.step.new.state c.event-item.result told in
    let longer : 3600000000 * c.loop-event.event-index + 3600000000 ≡ 3600000000 * (c.loop-event.event-index + 1) = omega arith in
    let steps : stepped_from (drop c.loop-event.event-index c.args.events.now) c.loop-event.state ≡ 1 + stepped_from rest c.step.new.state =
    stepped_after (drop c.loop-event.event-index c.args.events.now) rest c.loop-event.state c.step.new.state c.event-item.result split told in
    record {
      passed = omega arith;
      queued = omega (arith, more, c.loop-event.invariant.queued);
      within = subst (λ n. IsWithin KeepsTime n c.step.new.state) longer next;
      verdict = sym (verdict_after c.loop-event.passed (drop c.loop-event.event-index c.args.events.now) rest c.loop-event.state c.step.new.state c.event-item.result split told) ∙ c.loop-event.invariant.verdict;
      steps = omega (arith, c.step.ensures.one_more, c.loop-event.invariant.steps);
      counted = omega (arith, c.step.ensures.one_more, c.loop-event.invariant.counted);
    }

pub step-requires-clause-short : goal.step-requires-clause-short
step-requires-clause-short g c =
    omega (arith, c.loop-event.invariant.queued, c.loop-event-test.true, c.requires.few)
