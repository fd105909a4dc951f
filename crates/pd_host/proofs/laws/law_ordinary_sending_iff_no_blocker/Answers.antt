-- The law holds.
use Rattle.pd_host.proofs.Holding.{open_holds_send}
use Rattle.pd_host.proofs.laws.law_ordinary_sending_iff_no_blocker.Goals as goal

pub returns : goal.returns
returns c = open_holds_send
