-- The copies so far.
use Rattle.std.proofs.Common.{◌≡◌, take}
use Rattle.pd_reparse.proofs.shared_list.cloned_first_items.Given as goal

abbrev pub invariant-loop-i : goal.invariant-loop-i
invariant-loop-i g l = l.cloned_first_items.items ≡ take l.i l.fn.items
