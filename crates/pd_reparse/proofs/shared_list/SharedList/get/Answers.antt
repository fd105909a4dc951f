-- An item is at each index below their number.
use Rattle.std.proofs.Common.{sym, arith}
use Rattle.pd_reparse.proofs.SharedBlocks.{found_at, none_after}
use Rattle.pd_reparse.proofs.shared_list.SharedList.get.Goals as goal

pub returns-then-index-len : goal.returns-then-index-len
returns-then-index-len g c = sym (found_at c.args.index c.args.self.now c.at.result.now (omega (arith, c.len.ensures, c.if-index-len.true)) c.at.ensures)

pub returns-else-index-len : goal.returns-else-index-len
returns-else-index-len g c = sym (none_after c.args.index c.args.self.now (omega (arith, c.len.ensures, c.if-index-len.false)))
