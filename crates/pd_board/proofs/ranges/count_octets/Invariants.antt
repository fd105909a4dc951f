-- The count so far and that of the rest are the whole.
use Rattle.std.proofs.Common.{◌≡◌, ◌+◌, drop}
use Rattle.pd_board.specs.Ranges.{octets_in}
use Rattle.pd_board.proofs.ranges.count_octets.Given as goal

abbrev pub invariant-loop-range : goal.invariant-loop-range
invariant-loop-range l = l.octets + octets_in (drop l.range-index l.ranges.items) ≡ octets_in l.ranges.items
