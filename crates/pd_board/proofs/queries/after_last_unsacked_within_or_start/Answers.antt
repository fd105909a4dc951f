-- Right below a range nothing is held.
use Rattle.std.proofs.Common.{◌+◌, ◌-◌, ◌^◌, drop, get_or, arith}
use Rattle.pd_board.proofs.Searching.{none, ahead_at, free_before, free_just_before}
use Rattle.pd_board.proofs.queries.after_last_unsacked_within_or_start.Goals as goal

pub returns-then-range-to-clause-found : goal.returns-then-range-to-clause-found
returns-then-range-to-clause-found c u =
    free_just_before c.args.to (2 ^ 31) c.args.ranges.now.spans.items (drop (c.loop-range.range-index + 1) c.args.ranges.now.spans.items) (get_or c.deref-range-items.result.now c.loop-range.range-index none) (ahead_at c.args.to (2 ^ 31) c.args.ranges.now.spans.items c.deref-range-items.result.now c.loop-range.range-index none c.deref-range-items.ensures.value c.loop-range-test.true c.loop-range.invariant) (c.max.result - 1) (omega (arith, c.max.ensures))

pub returns-else-range-to-clause-found : goal.returns-else-range-to-clause-found
returns-else-range-to-clause-found c u =
    free_before c.args.to (2 ^ 31) c.args.ranges.now.spans.items (drop (c.loop-range.range-index + 1) c.args.ranges.now.spans.items) (get_or c.deref-range-items.result.now c.loop-range.range-index none) (ahead_at c.args.to (2 ^ 31) c.args.ranges.now.spans.items c.deref-range-items.result.now c.loop-range.range-index none c.deref-range-items.ensures.value c.loop-range-test.true c.loop-range.invariant) (c.args.to - 1) (omega arith) (omega arith)
