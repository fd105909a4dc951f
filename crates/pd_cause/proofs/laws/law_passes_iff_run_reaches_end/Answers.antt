-- A run that doesn't come to its end has a stop, and no stop passes.
use Rattle.pd_cause.proofs.LeftoverLemmas.{passes}
use Rattle.pd_cause.proofs.laws.law_passes_iff_run_reaches_end.Goals as goal

pub returns : goal.returns
returns c = passes c.law_verdicts_have_reasons.ensures.reasons
