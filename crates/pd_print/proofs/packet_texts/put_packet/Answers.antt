use Rattle.std.proofs.Common.{rules, append_assoc}
use Rattle.pd_print.proofs.packet_texts.put_packet.Goals as goal

pub returns : goal.returns
returns c = search (rules, append_assoc)
