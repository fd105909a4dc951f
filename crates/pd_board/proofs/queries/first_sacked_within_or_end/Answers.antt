-- Below the first range that reaches further nothing is found.
use Rattle.std.proofs.Common.{◌+◌, ◌^◌, drop, get_or, arith}
use Rattle.pd_board.proofs.Searching.{none, ahead_at, free_before}
use Rattle.pd_board.proofs.queries.first_sacked_within_or_end.Goals as goal

pub returns-then-from-range-clause-before : goal.returns-then-from-range-clause-before
returns-then-from-range-clause-before c x l u =
    free_before (c.args.from + 1) (2 ^ 31) c.args.ranges.now.spans.items (drop (c.loop-range.range-index + 1) c.args.ranges.now.spans.items) (get_or c.deref-range-items.result.now c.loop-range.range-index none) (ahead_at (c.args.from + 1) (2 ^ 31) c.args.ranges.now.spans.items c.deref-range-items.result.now c.loop-range.range-index none c.deref-range-items.ensures.value c.loop-range-test.true c.loop-range.invariant) x (omega arith) (omega (arith, c.max.ensures, c.min.ensures))
