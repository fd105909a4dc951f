-- The comparison bit by bit.
use Rattle.pd_seg.proofs.SameBits.{same_bits-is, is-same_bits}
use Rattle.pd_seg.proofs.flags.Flags.is_same.Goals as goal

pub returns : goal.returns
returns c = rw c.eq.ensures (same_bits-is _ _, is-same_bits _ _)
