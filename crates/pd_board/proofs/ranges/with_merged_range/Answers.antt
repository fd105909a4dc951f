-- One range more is done, or joined with the one in hand.
use Rattle.std.proofs.Common.{ℕ, ◌+◌, ◌∷◌, List, drop, get_or, arith, ap, ◌∙◌, subst}
use Rattle.pd_seg.specs.declared.sack_spans.Span.{Span}
use Rattle.pd_board.specs.Ranges.{Merging}
use Rattle.pd_board.proofs.Searching.{none, rest_in}
use Rattle.pd_board.proofs.Counted.{Between-push}
use Rattle.pd_board.proofs.Merge.{merge_before, merge_past, merge_in, Merging-same}
use Rattle.pd_board.proofs.ranges.with_merged_range.Goals as goal
use Rattle.pd_board.proofs.ranges.with_merged_range.Goals.{then-range-start+in_ok-push, else-range-start+then-end-range+in_ok-push-2, else-range-start+else-end-range}

pub loop-range-preserved : goal.loop-range-preserved
loop-range-preserved c = λ a b m l u.
    let all : List Span = c.args.ranges.now.items in
    let v : List Span = c.deref-range-items.result.now in
    let i : ℕ = c.loop-range.range-index in
    let r : Span = get_or v i none in
    let rest : List Span = drop (i + 1) all in
    let out : List Span = c.loop-range.out.items in
    let first = c.args.first in
    let last = c.args.last in
    let s = c.loop-range.start in
    let e = c.loop-range.end in
    let h : Merging a b first last all out (r ∷ rest) s e =
    subst (λ (k : List Span). Merging a b first last all out k s e) (rest_in all v i none c.deref-range-items.ensures.value c.loop-range-test.true) (c.loop-range.invariant a b m l u) in
    elim c.if-range-start.branch [
      | then-range-start+in_ok-push w ↦ Merging-same a b first last all _ _ _ _ _ _ _ (ap (λ v. v.items) w.out-is ∙ w.in_ok-push.ensures.items) w.start-is w.end-is (merge_before a b first last all out rest s e r h w.if-range-start.true)
      | else-range-start+then-end-range+in_ok-push-2 w ↦ Merging-same a b first last all _ _ _ _ _ _ _ (ap (λ v. v.items) w.out-is ∙ w.in_ok-push-2.ensures.items) w.start-is w.end-is (merge_past a b first last all out rest s e r h w.if-end-range.true)
      | else-range-start+else-end-range w ↦ Merging-same a b first last all _ _ _ _ _ _ _ (ap (λ v. v.items) w.out-is) (w.start-is ∙ w.min-start.ensures) (w.end-is ∙ w.max-end.ensures) (merge_in a b first last all out rest s e r h w.if-range-start.false w.if-end-range.false)
    ]

pub returns-clause-within : goal.returns-clause-within
returns-clause-within c = λ a b m l u.
    let h = c.loop-range.invariant a b m l u in
    rw c.in_ok-push-3.ensures.items (Between-push a c.loop-range.out.items h.edge b (record { start = c.loop-range.start; end = c.loop-range.end }) h.done h.below h.order (omega (arith, h.high)))
