-- From the end on only the ranges to come have octets.
use Rattle.std.proofs.Common.{drop}
use Rattle.pd_board.specs.Ranges.{SearchingLast}
use Rattle.pd_board.proofs.queries.after_last_sacked_within_or_start.Given as goal

abbrev pub invariant-loop-range : goal.invariant-loop-range
invariant-loop-range l = SearchingLast l.from l.to l.end l.ranges.spans.items (drop l.range-index l.ranges.spans.items)
