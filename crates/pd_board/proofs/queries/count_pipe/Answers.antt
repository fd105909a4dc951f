-- One range more, and the gap before it.
use Rattle.std.proofs.Common.{◌≡◌, ◌+◌, ◌-◌, get_or, arith, cond}
use Rattle.std.proofs.lemmas.Bool.Decides.{nat_tests}
use Rattle.pd_board.specs.Loss.{shows_loss}
use Rattle.pd_board.proofs.Searching.{past_in}
use Rattle.pd_board.proofs.Counted.{Between-lower}
use Rattle.pd_board.proofs.Pipe.{way_small, next_range, last_range}
use Rattle.pd_board.proofs.queries.count_pipe.Goals as goal
use Rattle.pd_board.proofs.queries.count_pipe.Goals.{then-not-shows_loss, else-not-shows_loss}

pub overflow_add-pipe : goal.overflow_add-pipe
overflow_add-pipe c =
    let n = next_range c.args.ranges.now.spans.items c.deref-range-items.result.now c.loop-range.range-index (record { start = 0; end = 0 }) c.loop-range.runs c.loop-range.octets c.loop-range.place c.loop-range.pipe c.args.top c.args.smss c.args.high _ c.deref-range-items.ensures.value c.loop-range-test.true c.loop-range.invariant.runs c.loop-range.invariant.octets c.loop-range.invariant.apart c.loop-range.invariant.pipe in
    let few = way_small c.args.una c.args.top c.args.smss c.args.high c.args.ranges.now.spans.items c.requires.ranges.apart c.requires.low in
    let kept : cond (shows_loss c.args.smss c.loop-range.runs c.loop-range.octets) 0 ((get_or c.deref-range-items.result.now c.loop-range.range-index (record { start = 0; end = 0 })).start - c.loop-range.place) ≡ (get_or c.deref-range-items.result.now c.loop-range.range-index (record { start = 0; end = 0 })).start - c.loop-range.place = grind (arith, nat_tests) in
    omega (arith, n.pipe, few, kept)

pub overflow_add-pipe-in-loop-range : goal.overflow_add-pipe-in-loop-range
overflow_add-pipe-in-loop-range c =
    let n = next_range c.args.ranges.now.spans.items c.deref-range-items.result.now c.loop-range.range-index (record { start = 0; end = 0 }) c.loop-range.runs c.loop-range.octets c.loop-range.place c.loop-range.pipe c.args.top c.args.smss c.args.high _ c.deref-range-items.ensures.value c.loop-range-test.true c.loop-range.invariant.runs c.loop-range.invariant.octets c.loop-range.invariant.apart c.loop-range.invariant.pipe in
    let few = way_small c.args.una c.args.top c.args.smss c.args.high c.args.ranges.now.spans.items c.requires.ranges.apart c.requires.low in
    let added : c.if-not-shows_loss.pipe ≡ c.loop-range.pipe + cond (shows_loss c.args.smss c.loop-range.runs c.loop-range.octets) 0 ((get_or c.deref-range-items.result.now c.loop-range.range-index (record { start = 0; end = 0 })).start - c.loop-range.place) =
    elim c.if-not-shows_loss.branch [ then-not-shows_loss w ↦ grind (arith, nat_tests) | else-not-shows_loss w ↦ grind (arith, nat_tests) ] in
    omega (arith, n.pipe, few, added, c.min.ensures, c.saturating_sub-pipe.ensures)

pub loop-range-preserved : goal.loop-range-preserved
loop-range-preserved c =
    let n = next_range c.args.ranges.now.spans.items c.deref-range-items.result.now c.loop-range.range-index (record { start = 0; end = 0 }) c.loop-range.runs c.loop-range.octets c.loop-range.place c.loop-range.pipe c.args.top c.args.smss c.args.high _ c.deref-range-items.ensures.value c.loop-range-test.true c.loop-range.invariant.runs c.loop-range.invariant.octets c.loop-range.invariant.apart c.loop-range.invariant.pipe in
    let added : c.if-not-shows_loss.pipe ≡ c.loop-range.pipe + cond (shows_loss c.args.smss c.loop-range.runs c.loop-range.octets) 0 ((get_or c.deref-range-items.result.now c.loop-range.range-index (record { start = 0; end = 0 })).start - c.loop-range.place) =
    elim c.if-not-shows_loss.branch [ then-not-shows_loss w ↦ grind (arith, nat_tests) | else-not-shows_loss w ↦ grind (arith, nat_tests) ] in
    record {
      runs = omega (arith, n.runs);
      octets = omega (arith, n.octets);
      within = n.high;
      apart = Between-lower _ _ _ _ (omega arith) n.apart;
      pipe = omega (arith, n.pipe, added, c.min.ensures, c.saturating_sub-pipe.ensures);
    }

pub overflow_add-pipe-2 : goal.overflow_add-pipe-2
overflow_add-pipe-2 c =
    let z = last_range _ c.loop-range.place c.loop-range.pipe c.args.una c.args.top c.args.smss c.args.high c.args.ranges.now.spans.items (past_in c.args.ranges.now.spans.items c.deref-range-items.result.now c.loop-range.range-index c.deref-range-items.ensures.value c.loop-range-test.false) c.loop-range.invariant.pipe c.requires.ranges.apart c.requires.low in
    omega (arith, z.1)

pub overflow_add-result : goal.overflow_add-result
overflow_add-result c =
    let z = last_range _ c.loop-range.place c.loop-range.pipe c.args.una c.args.top c.args.smss c.args.high c.args.ranges.now.spans.items (past_in c.args.ranges.now.spans.items c.deref-range-items.result.now c.loop-range.range-index c.deref-range-items.ensures.value c.loop-range-test.false) c.loop-range.invariant.pipe c.requires.ranges.apart c.requires.low in
    omega (arith, z.1, c.min-2.ensures, c.saturating_sub.ensures)

pub returns : goal.returns
returns c =
    let z = last_range _ c.loop-range.place c.loop-range.pipe c.args.una c.args.top c.args.smss c.args.high c.args.ranges.now.spans.items (past_in c.args.ranges.now.spans.items c.deref-range-items.result.now c.loop-range.range-index c.deref-range-items.ensures.value c.loop-range-test.false) c.loop-range.invariant.pipe c.requires.ranges.apart c.requires.low in
    omega (arith, z.0, c.min-2.ensures, c.saturating_sub.ensures)
