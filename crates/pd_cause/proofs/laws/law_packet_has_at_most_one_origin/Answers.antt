-- Packets are put out one after the other, each in one event.
use Rattle.pd_cause.proofs.OriginLemmas.{unique}
use Rattle.pd_cause.proofs.laws.law_packet_has_at_most_one_origin.Goals as goal

pub returns : goal.returns
returns c = unique c.law_outbox_is_first_in_first_out.ensures
