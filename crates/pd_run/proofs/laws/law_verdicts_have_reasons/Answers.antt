-- The laws hold.
use Rattle.pd_run.proofs.Reasons.{reasons_give_verdicts, differences_are_first}
use Rattle.pd_run.proofs.StopsFound.{verdicts_have_reasons}
use Rattle.pd_run.proofs.laws.law_verdicts_have_reasons.Goals as goal

pub returns : goal.returns
returns c = record {
  reasons = reasons_give_verdicts;
  verdicts = verdicts_have_reasons reasons_give_verdicts;
  packets = differences_are_first c.law_first_mismatch_of_packets_and_calls.ensures.packets;
}
