-- The packets that are counted of an event that stopped a run are those that it put out.
use Rattle.std.proofs.Common.{◌≡◌, ◌++◌, OnOk, subst, ◌∙◌}
use Rattle.pd_cause.proofs.TriggerLemmas.{counts}
use Rattle.pd_cause.proofs.origins.note_triggers_between_runs.Goals as goal

pub returns : goal.returns
returns c = λ bar stood.
    subst (λ triggers. OnOk c.put_triggers_by_outbox_counts.result (c.put_triggers_by_outbox_counts.new.triggers.items ≡ c.args.triggers.now.items ++ triggers))
    (counts c.args.before.now c.args.event.now c.count_unmatched-stood.result c.count_unmatched-after.result c.in_ok-expired.expired bar
    c.count_unmatched-stood.ensures (c.count_unmatched-after.ensures ∙ stood) c.in_ok-expired.ensures)
    c.put_triggers_by_outbox_counts.ensures
