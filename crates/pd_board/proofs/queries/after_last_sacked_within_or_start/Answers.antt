-- One range more.
use Rattle.std.proofs.Common.{ℕ, ◌+◌, ◌^◌, List, ◌∷◌, drop, get_or, sym, ap, ◌∙◌, max, subst}
use Rattle.pd_seg.specs.declared.sack_spans.Span.{Span}
use Rattle.pd_board.specs.Ranges.{SearchingLast}
use Rattle.pd_board.proofs.Searching.{none, rest_in, order_in, last_left, last_taken}
use Rattle.pd_board.proofs.queries.after_last_sacked_within_or_start.Goals as goal
use Rattle.pd_board.proofs.queries.after_last_sacked_within_or_start.Goals.{then-range-to, else-range-to}

pub loop-range-preserved : goal.loop-range-preserved
loop-range-preserved c =
    let all : List Span = c.args.ranges.now.spans.items in
    let v : List Span = c.deref-range-items.result.now in
    let k : ℕ = c.loop-range.range-index in
    let same = c.deref-range-items.ensures.value in
    let rest : List Span = drop (k + 1) all in
    let h : SearchingLast c.args.from c.args.to c.loop-range.end all (get_or v k none ∷ rest) =
    subst (λ (rs : List Span). SearchingLast c.args.from c.args.to c.loop-range.end all rs) (rest_in all v k none same c.loop-range-test.true) c.loop-range.invariant in
    elim c.if-range-to.branch [
      | then-range-to w ↦ subst (λ (n : ℕ). SearchingLast c.args.from c.args.to n all rest) (sym (w.end-is ∙ w.max-end.ensures ∙ ap (max c.loop-range.end) w.min.ensures))
          (last_taken c.args.from c.args.to c.loop-range.end all rest (get_or v k none) h w.if-range-to.true (order_in 0 all v (2 ^ 31) k none same c.requires.ranges.apart c.loop-range-test.true))
      | else-range-to w ↦ subst (λ (n : ℕ). SearchingLast c.args.from c.args.to n all rest) (sym w.end-is) (last_left c.args.from c.args.to c.loop-range.end all rest (get_or v k none) h w.if-range-to.false)
    ]
