-- The blocks that are left, and after them the items that were taken so far.
use Rattle.std.proofs.Common.{◌≡◌, ◌++◌, length}
use Rattle.pd_reparse.specs.SharedBlocks.{items_in}
use Rattle.pd_reparse.proofs.shared_list.pop_and_merge_small_trailing_blocks.Given as goal

abbrev pub invariant-loop-i : goal.invariant-loop-i
invariant-loop-i g l = (length l.blocks.items ≡ l.i) × (items_in l.blocks.items ++ l.items.items ≡ items_in l.fn.blocks.items ++ l.fn.rest.items)
