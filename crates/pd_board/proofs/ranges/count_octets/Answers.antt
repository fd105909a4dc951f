-- One range more.
use Rattle.std.proofs.Common.{◌-◌, ◌^◌, arith}
use Rattle.pd_board.proofs.Searching.{none, sum_in, order_in, octets_small}
use Rattle.pd_board.proofs.ranges.count_octets.Goals as goal

pub overflow_sub-octets : goal.overflow_sub-octets
overflow_sub-octets c =
    let o = order_in 0 c.args.ranges.now.items c.deref-range-items.result.now (2 ^ 31) c.loop-range.range-index none c.deref-range-items.ensures.value c.requires c.loop-range-test.true in
    omega (arith, o)

pub overflow_add-octets : goal.overflow_add-octets
overflow_add-octets c =
    let more = sum_in (λ r. r.end - r.start) c.args.ranges.now.items c.deref-range-items.result.now c.loop-range.range-index none c.deref-range-items.ensures.value c.loop-range-test.true in
    let few = octets_small 0 c.args.ranges.now.items (2 ^ 31) c.requires in
    omega (arith, more, few, c.loop-range.invariant)
