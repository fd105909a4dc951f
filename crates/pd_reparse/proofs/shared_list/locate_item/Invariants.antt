-- The rest of the list after the blocks so far.
use Rattle.std.proofs.Common.{◌≡◌, ◌+◌, length, take}
use Rattle.pd_reparse.specs.SharedBlocks.{items_in}
use Rattle.pd_reparse.proofs.shared_list.locate_item.Given as goal

abbrev pub invariant-loop-i : goal.invariant-loop-i
invariant-loop-i g l = length (items_in (take l.i l.fn.blocks)) + l.left ≡ l.fn.index
