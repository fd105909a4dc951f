-- Of the ranges so far all are done but the one in hand.
use Rattle.std.proofs.Common.{ℕ, ◌<◌, ◌≤◌, drop}
use Rattle.pd_board.specs.Runs.{Between}
use Rattle.pd_board.specs.Ranges.{Merging}
use Rattle.pd_board.proofs.ranges.with_merged_range.Given as goal

abbrev pub invariant-loop-range : goal.invariant-loop-range
invariant-loop-range l = (a b : ℕ) → Between a l.ranges.items b → a ≤ l.first → l.last < b → Merging a b l.first l.last l.ranges.items l.out.items (drop l.range-index l.ranges.items) l.start l.end
