-- One range more, and the gap before it.
use Rattle.std.proofs.Common.{◌≡◌, ◌+◌, ◌-◌, ◌∙◌, ap, drop, get_or, sym, arith}
use Rattle.pd_board.specs.Ranges.{edge_over}
use Rattle.pd_board.proofs.Searching.{none, past_in}
use Rattle.pd_board.proofs.Counted.{Between-lower}
use Rattle.pd_board.proofs.Edge.{next_range, next_kept, next_lost, edge_all}
use Rattle.pd_board.proofs.queries.after_last_lost_octet_or_zero.Goals as goal

pub returns-then-not-shows_loss : goal.returns-then-not-shows_loss
returns-then-not-shows_loss c =
    let n = next_range c.args.ranges.now.spans.items c.deref-range-items.result.now c.loop-range.range-index none c.loop-range.runs c.loop-range.octets c.loop-range.place c.loop-range.edge c.args.top c.args.smss _ c.deref-range-items.ensures.value c.loop-range-test.true c.loop-range.invariant.runs c.loop-range.invariant.octets c.loop-range.invariant.apart c.loop-range.invariant.edge in
    next_kept _ _ _ _ _ _ _ _ _ n (sym c.shows_loss.ensures ∙ c.if-not-shows_loss.true)
    ∙ sym (edge_all c.args.una c.args.top c.args.smss c.args.ranges.now.spans.items c.requires.ranges.apart c.requires.low)

pub loop-range-preserved : goal.loop-range-preserved
loop-range-preserved c =
    let n = next_range c.args.ranges.now.spans.items c.deref-range-items.result.now c.loop-range.range-index none c.loop-range.runs c.loop-range.octets c.loop-range.place c.loop-range.edge c.args.top c.args.smss _ c.deref-range-items.ensures.value c.loop-range-test.true c.loop-range.invariant.runs c.loop-range.invariant.octets c.loop-range.invariant.apart c.loop-range.invariant.edge in
    let r = get_or c.deref-range-items.result.now c.loop-range.range-index none in
    let d = drop (c.loop-range.range-index + 1) c.args.ranges.now.spans.items in
    record {
      runs = omega (arith, n.runs);
      octets = omega (arith, n.octets);
      within = n.high;
      apart = Between-lower _ _ _ _ (omega arith) n.apart;
      edge = ap (λ v. edge_over c.args.smss v r.end d) c.gap_end_or_previous_if_empty-edge.ensures ∙ next_lost _ _ _ _ _ _ _ _ _ n (sym c.shows_loss.ensures ∙ c.if-not-shows_loss.false);
    }

pub returns : goal.returns
returns c =
    sym (ap (edge_over c.args.smss c.loop-range.edge c.loop-range.place)
    (past_in c.args.ranges.now.spans.items c.deref-range-items.result.now c.loop-range.range-index c.deref-range-items.ensures.value c.loop-range-test.false))
    ∙ c.loop-range.invariant.edge
    ∙ sym (edge_all c.args.una c.args.top c.args.smss c.args.ranges.now.spans.items c.requires.ranges.apart c.requires.low)
