-- All ranges so far end below the place.
use Rattle.std.proofs.Common.{◌+◌, ◌^◌, drop}
use Rattle.pd_board.specs.Ranges.{Searching}
use Rattle.pd_board.proofs.queries.first_unsacked_within_or_end.Given as goal

abbrev pub invariant-loop-range : goal.invariant-loop-range
invariant-loop-range l = Searching (l.from + 1) (2 ^ 31) l.ranges.spans.items (drop l.range-index l.ranges.spans.items)
