-- The packets that are counted of an event that passes are those that it put out.
use Rattle.std.proofs.Common.{◌≡◌, ◌++◌, Ok, subst, ap, ◌∙◌}
use Rattle.pd_script.specs.declared.script_events.Event.{Event}
use Rattle.pd_run.specs.Step.{RunStateView, step, Steps}
use Rattle.pd_run.specs.declared.stepper.StepEnd.TheVariants.{Go}
use Rattle.pd_run.proofs.Steps.{tells}
use Rattle.pd_cause.proofs.TriggerLemmas.{counts, passes, step_unbarred}
use Rattle.pd_cause.proofs.origins.step_and_note_packet_triggers.Goals as goal

pub returns-in_ok-put_triggers_by_outbox_counts-clause-noted : goal.returns-in_ok-put_triggers_by_outbox_counts-clause-noted
returns-in_ok-put_triggers_by_outbox_counts-clause-noted c = λ go.
    let run : RunStateView = c.args.run.now in
    let event : Event = c.args.event.now in
    let next : RunStateView = c.step.new.state in
    let reported : step run event ≡ Ok next = tells run next event Go c.requires.live (subst (λ end. Steps run event end next) go c.in_ok-end.ensures.ends) in
    c.in_ok-put_triggers_by_outbox_counts.ensures
    ∙ ap (λ triggers. c.args.triggers.now.items ++ triggers)
    (counts run event c.count_unmatched-before.result c.in_ok-after.after c.in_ok-expired.expired (step_unbarred run next event reported)
    c.count_unmatched-before.ensures (c.in_ok-after.ensures ∙ passes c.law_outbox_is_first_in_first_out.ensures.taken run next event reported) c.in_ok-expired.ensures)
