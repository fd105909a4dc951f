-- One more event of a run, and the last one.
use Rattle.std.proofs.Common.{◌≡◌, ◌+◌, ◌-◌, ◌%◌, ◌==◌, ◌∷◌, ◌++◌, [], Ok, List, drop, cond, subst, sym, ap, ◌∙◌, arith}
use Rattle.std.proofs.lemmas.List.{drop_all, drop_more}
use Rattle.pd_reparse.specs.Reading.{events_of}
use Rattle.pd_reparse.specs.Steps.{events_after}
use Rattle.pd_reparse.specs.declared.parsed_event.ParsedEvent.{ParsedEvent}
use Rattle.pd_run.specs.Laws.{IsUnderway}
use Rattle.pd_run.specs.Run.{states_from, stepped_from}
use Rattle.pd_run.specs.Step.{RunStateView, step, Steps}
use Rattle.pd_run.specs.declared.stepper.StepEnd.TheVariants.{Go}
use Rattle.pd_run.proofs.Bounds.{ok}
use Rattle.pd_run.proofs.Steps.{tells}
use Rattle.pd_track.specs.Reuse.{every_fourth}
use Rattle.pd_track.proofs.Steps.{Advances, Ends, advances, ends, kept_more, of_each}
use Rattle.pd_track.proofs.Went.{on_ok}
use Rattle.pd_track.proofs.progress.Progress.run.Given as given
use Rattle.pd_track.proofs.progress.Progress.run.Goals as goal

pub loop-i-preserved : goal.loop-i-preserved
loop-i-preserved g c =
    let told : step c.loop-i.self.state c.at.result.now.event ≡ Ok c.count_event_and_keep_each_fourth_state.new.self.state =
    tells c.loop-i.self.state c.step.new.state c.at.result.now.event Go c.loop-i.invariant.underway.live
    (subst (λ end. Steps c.loop-i.self.state c.at.result.now.event end c.step.new.state) c.in-Go.is c.in_ok-step.ensures.ends)
    ∙ ap ok (sym c.count_event_and_keep_each_fourth_state.ensures.state) in
    let rest : List ParsedEvent = drop (c.loop-i.i + 1) c.args.events.now in
    let split : drop c.loop-i.i c.args.events.now ≡ c.at.result.now ∷ rest =
    drop_more c.args.events.now c.loop-i.i c.at.result.now (omega (arith, c.loop-i-test.true, c.len-i-end.ensures))
    ∙ ap (λ (d : ParsedEvent). d ∷ rest) (sym c.at.ensures) in
    let passed : c.count_event_and_keep_each_fourth_state.new.self.passed ≡ c.loop-i.self.passed + 1 = c.in_ok-count_event_and_keep_each_fourth_state-in-Go.ensures.passed in
    let more : Advances c.loop-i.self.passed c.count_event_and_keep_each_fourth_state.new.self.passed (events_of (drop c.loop-i.i c.args.events.now)) (events_of rest) c.loop-i.self.state c.count_event_and_keep_each_fourth_state.new.self.state =
    advances c.loop-i.self.passed c.count_event_and_keep_each_fourth_state.new.self.passed (events_of (drop c.loop-i.i c.args.events.now)) (events_of rest) c.loop-i.self.state c.count_event_and_keep_each_fourth_state.new.self.state c.at.result.now.event
    passed (ap events_of split) told in
    let underway : IsUnderway (c.loop-i.self.passed + 1) c.count_event_and_keep_each_fourth_state.new.self.state =
    c.law_clock_base_and_queue_bounded_per_event.ensures.step c.loop-i.self.passed c.loop-i.self.state c.count_event_and_keep_each_fourth_state.new.self.state c.at.result.now.event c.loop-i.invariant.underway told in
    record {
      passed = omega (arith, passed, c.loop-i.invariant.passed);
      underway = subst (λ n. IsUnderway n c.count_event_and_keep_each_fourth_state.new.self.state) (sym passed) underway;
      verdict = sym more.verdict ∙ c.loop-i.invariant.verdict;
      steps = omega (arith, more.steps, c.step.ensures.one_more, c.loop-i.invariant.steps);
      checkpoints = kept_more c.loop-i.self.checkpoints
          (cond ((c.loop-i.self.passed + 1) % 4 == 0) (c.count_event_and_keep_each_fourth_state.new.self.state ∷ []) [])
          c.count_event_and_keep_each_fourth_state.new.self.checkpoints
          (every_fourth (3 - c.count_event_and_keep_each_fourth_state.new.self.passed % 4) (states_from (events_of rest) c.count_event_and_keep_each_fourth_state.new.self.state))
          _
          c.in_ok-count_event_and_keep_each_fourth_state-in-Go.ensures.checkpoints
          (ap (λ rs. c.loop-i.self.checkpoints ++ rs) (sym more.states) ∙ c.loop-i.invariant.checkpoints);
      counted = omega (arith, c.step.ensures.one_more, c.loop-i.invariant.counted);
    }

finished_run : (g : given.Over) (c : goal.After-finish_as_passed_keeping_fourth_state g) → Ends c.loop-i.self.passed (events_after c.loop-i.i c.args.events.now) c.loop-i.self.state c.step.new.state
finished_run g c =
    let told : step c.loop-i.self.state c.at.result.now.event ≡ Ok c.step.new.state =
    tells c.loop-i.self.state c.step.new.state c.at.result.now.event Go c.loop-i.invariant.underway.live
    (subst (λ end. Steps c.loop-i.self.state c.at.result.now.event end c.step.new.state) c.in-Go-2.is c.in_ok-step.ensures.ends) in
    let none : drop (c.loop-i.i + 1) c.args.events.now ≡ [] = drop_all (c.loop-i.i + 1) c.args.events.now (omega (arith, c.if-i-len.false)) in
    let split : drop c.loop-i.i c.args.events.now ≡ c.at.result.now ∷ [] =
    drop_more c.args.events.now c.loop-i.i c.at.result.now (omega (arith, c.loop-i-test.true, c.len-i-end.ensures))
    ∙ (ap (λ (d : ParsedEvent). d ∷ drop (c.loop-i.i + 1) c.args.events.now) (sym c.at.ensures) ∙ ap (λ (ds : List ParsedEvent). c.at.result.now ∷ ds) none) in
    ends c.loop-i.self.passed (events_of (drop c.loop-i.i c.args.events.now)) c.loop-i.self.state c.step.new.state c.at.result.now.event (ap events_of split) told

pub returns-in-Go-2-clause-checkpoints : goal.returns-in-Go-2-clause-checkpoints
returns-in-Go-2-clause-checkpoints g c =
    let whole : List RunStateView = c.args.self.checkpoints ++ every_fourth 3 (states_from (events_after c.args.self.passed c.args.events.now) c.args.self.state) in
    let kept : List RunStateView = c.loop-i.self.checkpoints ++ cond ((c.loop-i.self.passed + 1) % 4 == 0) (c.step.new.state ∷ []) [] in
    of_each c.finish_as_passed_keeping_fourth_state.result (λ e. e.checkpoints ≡ kept) (λ e. e.checkpoints ≡ whole)
    (λ e is. is ∙ (ap (λ rs. c.loop-i.self.checkpoints ++ rs) (sym (finished_run g c).states) ∙ c.loop-i.invariant.checkpoints))
    c.finish_as_passed_keeping_fourth_state.ensures.checkpoints

pub returns-in-Go-2-clause-steps : goal.returns-in-Go-2-clause-steps
returns-in-Go-2-clause-steps g c =
    let one = (finished_run g c).steps in
    on_ok c.finish_as_passed_keeping_fourth_state.result (g.S.Stepper.counted c.step.new.self ≡ g.S.Stepper.counted c.args.stepper.now + stepped_from (events_after c.args.self.passed c.args.events.now) c.args.self.state)
    (omega (arith, one, c.step.ensures.one_more, c.loop-i.invariant.steps))
