-- One more event of a run, or its stop, or its end.
use Rattle.std.proofs.Common.{◌≡◌, ℕ, ◌+◌, ◌∷◌, ◌++◌, [], Ok, Err, List, Some, drop, length, slice_get, refl, subst, sym, ap, ◌∙◌, append_assoc, append-nil, arith}
use Rattle.std.proofs.lemmas.List.{drop_all}
use Rattle.std.proofs.lemmas.Option.{slice_get_read}
use Rattle.pd_script.specs.declared.parsed.Parsed.{Parsed}
use Rattle.pd_script.specs.declared.script_events.Event.{Event}
use Rattle.pd_run.specs.Laws.{IsUnderway}
use Rattle.pd_run.specs.Step.{RunStateView, step, IsStepEnd}
use Rattle.pd_run.specs.declared.stepper.StepEnd.{StepEnd}
use Rattle.pd_explain.specs.Inner.{NotesRules}
use Rattle.pd_explain.specs.RuleNames.{each_once}
use Rattle.pd_explain.specs.RuleTrace.{rule_line, rule_lines_from, rules_of_event}
use Rattle.pd_explain.proofs.RuleTraceLemmas.{lines_after, none_after}
use Rattle.pd_cause.proofs.TracedLemmas.{left_from}
use Rattle.pd_explain.proofs.rule_trace.rule_lines_of_events.Goals as goal

pub loop-event-preserved : goal.loop-event-preserved
loop-event-preserved c =
    let parsed : Parsed = c.args.parsed.now in
    let run : RunStateView = c.loop-event.run in
    let event : Event = c.event-item.result in
    let next : RunStateView = c.step_and_put_rule_line.new.run in
    let of : List ℕ = c.args.of.now in
    let underway : IsUnderway c.loop-event.event-index run = c.loop-event.invariant.underway in
    let reported : step run event ≡ Ok next =
    subst (λ (end : StepEnd). IsStepEnd (step run event) end next) c.in-Go.is c.in_ok-step_and_put_rule_line.ensures.ends in
    let found : slice_get parsed.events c.loop-event.event-index ≡ Some event =
    subst (λ (es : List Event). slice_get es c.loop-event.event-index ≡ Some event) c.as_slice-event-items.ensures
    (slice_get_read c.as_slice-event-items.result.now (length c.as_slice-event-items.result.now) c.loop-event.event-index event refl c.loop-event-test.true c.event-item.is) in
    let rest : List Event = drop (c.loop-event.event-index + 1) parsed.events in
    let split : drop c.loop-event.event-index parsed.events ≡ event ∷ rest = left_from parsed.events c.loop-event.event-index event found in
    let line : List ℕ = rule_line of event.line (each_once (rules_of_event run event next)) in
    let noted : c.step_and_put_rule_line.new.out.items ≡ c.loop-event.out.items ++ line =
    subst (λ (end : StepEnd). NotesRules of run event next end c.loop-event.out.items c.step_and_put_rule_line.new.out.items) c.in-Go.is c.in_ok-step_and_put_rule_line.ensures.noted in
    record {
      underway = c.law_clock_base_and_queue_bounded_per_event.ensures.step c.loop-event.event-index run next event underway reported;
      counted = omega (arith, c.in_ok-step_and_put_rule_line.ensures.one_more, c.loop-event.invariant.counted);
      lines = ap (λ (o : List ℕ). o ++ rule_lines_from of rest next) noted
          ∙ (append_assoc c.loop-event.out.items line (rule_lines_from of rest next)
          ∙ (ap (λ (l : List ℕ). c.loop-event.out.items ++ l) (sym (lines_after of (drop c.loop-event.event-index parsed.events) rest run next event split reported))
          ∙ c.loop-event.invariant.lines));
    }
