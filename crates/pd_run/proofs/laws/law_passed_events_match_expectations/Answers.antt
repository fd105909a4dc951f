-- The laws hold.
use Rattle.pd_run.proofs.Consulted.{tolerance_stays}
use Rattle.pd_run.proofs.Passed.{passed_packets_agree, passed_packets_are_taken, passed_calls_answer}
use Rattle.pd_run.proofs.laws.law_passed_events_match_expectations.Goals as goal

pub returns : goal.returns
returns c = record {
  packets = passed_packets_agree c.law_first_mismatch_of_packets_and_calls.ensures.packets;
  taken = passed_packets_are_taken;
  calls = passed_calls_answer c.law_first_mismatch_of_packets_and_calls.ensures.calls;
  tolerance = tolerance_stays c.law_inputs_use_only_noted_settings.ensures;
}
