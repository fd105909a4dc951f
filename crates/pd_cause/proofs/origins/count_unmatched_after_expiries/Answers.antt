-- Where no expiry lies at or before the moment, none comes.
use Rattle.std.proofs.Common.{sym, ◌∙◌}
use Rattle.pd_cause.proofs.TriggerLemmas.{not_due}
use Rattle.pd_cause.proofs.origins.count_unmatched_after_expiries.Goals as goal

pub returns : goal.returns
returns c = λ bar awaited.
    c.count_unmatched-before.ensures
    ∙ not_due c.args.run.now c.args.event.now c.action_time_not_before_clock-moment.result awaited c.action_time_not_before_clock-moment.ensures.acts (sym c.has_expiry_by.ensures ∙ c.if-has_expiry_by.false)
