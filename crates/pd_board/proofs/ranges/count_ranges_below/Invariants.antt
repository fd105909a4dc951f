-- All ranges so far were passed.
use Rattle.std.proofs.Common.{◌≡◌, drop}
use Rattle.pd_board.specs.Ranges.{ranges_after}
use Rattle.pd_board.proofs.ranges.count_ranges_below.Given as goal

abbrev pub invariant-loop-range : goal.invariant-loop-range
invariant-loop-range l = record {
  passed : l.passed ≡ l.range-index;
  rest : ranges_after l.start (drop l.range-index l.ranges.items) ≡ ranges_after l.start l.ranges.items;
}
