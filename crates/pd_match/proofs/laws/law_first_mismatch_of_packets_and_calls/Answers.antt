-- The laws hold.
use Rattle.pd_match.specs.Agreement.{Agrees}
use Rattle.pd_match.specs.Packets.{compared_fields, passes}
use Rattle.pd_match.proofs.Agreements.{passes_decides}
use Rattle.pd_match.proofs.FirstFailing.{first_failing}
use Rattle.pd_match.proofs.Results.{match_is_result}
use Rattle.pd_match.proofs.laws.law_first_mismatch_of_packets_and_calls.Goals as goal

pub returns : goal.returns
returns c = record {
  packets = λ packet time_range sent tolerance. first_failing (passes packet time_range sent tolerance) (Agrees packet time_range sent tolerance) (passes_decides packet time_range sent tolerance) compared_fields;
  calls = match_is_result;
}
