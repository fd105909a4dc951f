-- The law is a lemma.
use Rattle.pd_cause.proofs.ActualPacketLemmas.{actual_packets_pass_by}
use Rattle.pd_cause.proofs.laws.law_event_passes_with_actual_packet.Goals as goal

pub returns : goal.returns
returns c = actual_packets_pass_by c.law_verdicts_have_reasons.ensures.packets c.law_printed_packet_agrees_with_segment.ensures c.law_first_mismatch_of_packets_and_calls.ensures.packets
