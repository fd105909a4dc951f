-- The blocks shared so far.
use Rattle.std.proofs.Common.{◌≡◌, take}
use Rattle.pd_reparse.proofs.shared_list.share_first_with_room_for_two_more.Given as goal

abbrev pub invariant-loop-i : goal.invariant-loop-i
invariant-loop-i g l = l.shared_first_blocks.items ≡ take l.i l.fn.blocks
