-- Below a range and right after it nothing is held.
use Rattle.std.proofs.Common.{◌≡◌, ◌+◌, ◌^◌, drop, get_or, ap, ◌∙◌, arith}
use Rattle.pd_board.specs.Runs.{among}
use Rattle.pd_board.proofs.Searching.{none, ahead_at, free_before, free_after}
use Rattle.pd_board.proofs.queries.first_unsacked_within_or_end.Goals as goal

pub returns-then-from-range-clause-found : goal.returns-then-from-range-clause-found
returns-then-from-range-clause-found c u =
    free_before (c.args.from + 1) (2 ^ 31) c.args.ranges.now.spans.items (drop (c.loop-range.range-index + 1) c.args.ranges.now.spans.items) (get_or c.deref-range-items.result.now c.loop-range.range-index none) (ahead_at (c.args.from + 1) (2 ^ 31) c.args.ranges.now.spans.items c.deref-range-items.result.now c.loop-range.range-index none c.deref-range-items.ensures.value c.loop-range-test.true c.loop-range.invariant) c.args.from (omega arith) c.if-from-range.true

pub returns-then-from-range-2-clause-found : goal.returns-then-from-range-2-clause-found
returns-then-from-range-2-clause-found c u =
    let same : c.min.result ≡ (get_or c.deref-range-items.result.now c.loop-range.range-index none).end = omega (arith, c.min.ensures) in
    ap (among c.args.ranges.now.spans.items) same
    ∙ free_after (c.args.from + 1) (2 ^ 31) c.args.ranges.now.spans.items (drop (c.loop-range.range-index + 1) c.args.ranges.now.spans.items) (get_or c.deref-range-items.result.now c.loop-range.range-index none) (ahead_at (c.args.from + 1) (2 ^ 31) c.args.ranges.now.spans.items c.deref-range-items.result.now c.loop-range.range-index none c.deref-range-items.ensures.value c.loop-range-test.true c.loop-range.invariant)
