-- The law holds.
use Rattle.pd_host.proofs.OneByOne.{sends_one_by_one}
use Rattle.pd_host.proofs.laws.law_each_send_appends_one_packet.Goals as goal

pub returns : goal.returns
returns c = sends_one_by_one
