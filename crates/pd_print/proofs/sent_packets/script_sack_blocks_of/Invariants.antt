-- The blocks so far, as a script writes them.
use Rattle.std.proofs.Common.{◌≡◌, take, map}
use Rattle.std.specs.List.{AllByRecursion}
use Rattle.pd_print.specs.RoundTrip.{FitsBlock}
use Rattle.pd_match.specs.Agreement.{block_of}
use Rattle.pd_print.proofs.sent_packets.script_sack_blocks_of.Given as goal

abbrev pub invariant-loop-span : goal.invariant-loop-span
invariant-loop-span l = (l.blocks ≡ map block_of (take l.span-index l.spans)) × AllByRecursion FitsBlock l.blocks
