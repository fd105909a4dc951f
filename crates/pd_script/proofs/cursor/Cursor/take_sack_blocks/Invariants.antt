use Rattle.std.proofs.Common.{◌≡◌, length}
use Rattle.pd_script.specs.Items.{is_next_int_within_u32}
use Rattle.pd_script.specs.Reader.{onto}
use Rattle.pd_script.specs.PacketReading.{repeated_at, block_at, blocks_at}
use Rattle.pd_script.proofs.cursor.Cursor.take_sack_blocks.Given as goal

abbrev pub invariant-more : goal.invariant-more
invariant-more l = onto l.blocks (repeated_at is_next_int_within_u32 block_at l.self) ≡ blocks_at l.fn.self

abbrev pub decreases-more : goal.decreases-more
decreases-more l = length l.self
