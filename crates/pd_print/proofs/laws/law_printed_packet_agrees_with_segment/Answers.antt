-- The law is a lemma.
use Rattle.pd_print.proofs.LawLemmas.{sent_packets_agree_so}
use Rattle.pd_print.proofs.laws.law_printed_packet_agrees_with_segment.Goals as goal

pub returns : goal.returns
returns c = sent_packets_agree_so
