-- All ranges so far end below the place.
use Rattle.std.proofs.Common.{◌^◌, drop}
use Rattle.pd_board.specs.Ranges.{Searching}
use Rattle.pd_board.proofs.queries.after_last_unsacked_within_or_start.Given as goal

abbrev pub invariant-loop-range : goal.invariant-loop-range
invariant-loop-range l = Searching l.to (2 ^ 31) l.ranges.spans.items (drop l.range-index l.ranges.spans.items)
