-- SACKed octets aren't sent again.
use Rattle.std.proofs.Common.{◌≡◌, ℕ, ◌+◌, ◌-◌, ◌<◌, ◌≤◌, max, Option, Some, None, Bool, true, false, not, refl, arith}
use Rattle.std.specs.Prelude.{unwrap_or, option_map}
use Rattle.pd_board.specs.Retransmit.{run_at, next_lost, find_unsacked_octet_by_nextseg_rule_3, rescue, segment_to, most_from}
use Rattle.pd_board.specs.Loss.{is_unsacked}
use Rattle.pd_board.specs.Octets.{contains, least_where, greatest_where, after}
use Rattle.pd_board.specs.Board.{BoardView, IsBoardView}
use Rattle.pd_recover.specs.declared.next_segment.NextSegment.{NextSegment}
use Rattle.pd_recover.specs.declared.next_segment.NextSegment.TheVariants.{Lost, New, Hole, Rescue}
use Rattle.pd_recover.specs.NextSeg.{segment_of, lost_run, board_new_segment_at_top_if_whole_in_rwnd, hole_run, rescue_run}
use Rattle.pd_recover.specs.Laws.{IsSpared, SparesSacked}
use Rattle.pd_recover.proofs.Chosen.{AllOf, one_of, either_of, map_of, allowed_of}
use Rattle.pd_recover.proofs.Found.{least, no_least, greatest, no_greatest, split}

sure : (b : Bool) → (b ≡ true → ⊥) → b ≡ false
sure true h = absurd (h refl)
sure false h = refl

-- a retransmitted segment ends before the next SACKed octet
run_spared : (s : BoardView) (start : ℕ) → IsSpared s (run_at start s)
run_spared s start x l u = by_first (least_where (contains s.sacked) start (most_from start s)) refl u
  where
    by_first : (o : Option ℕ) → least_where (contains s.sacked) start (most_from start s) ≡ o → x < unwrap_or o (most_from start s) → contains s.sacked x ≡ false
    by_first None e v = no_least (contains s.sacked) start (most_from start s) e x l v
    by_first (Some r) e v = (least (contains s.sacked) start (most_from start s) r e).first x l v

-- new data lies above all that was sent
new_spared : (rwnd : ℕ) (s : BoardView) → IsBoardView s → AllOf (IsSpared s) (board_new_segment_at_top_if_whole_in_rwnd rwnd s)
new_spared rwnd s known =
    allowed_of (IsSpared s) _ _ (λ _. one_of (IsSpared s) _ (λ x l u. sure (contains s.sacked x) (λ t. above x l (known.sacked_sent x t).1)))
  where
    above : (x : ℕ) → s.top ≤ x → x < s.top → ⊥
    above x l u = omega (arith, l, u)

free : (b : Bool) → not b ≡ true → b ≡ false
free true e = cc
free false e = refl

-- the rescue begins after the last SACKed octet below its end
lies_after : (s : BoardView) (e : ℕ) (o : Option ℕ) → greatest_where (contains s.sacked) s.una e ≡ o
    → (x : ℕ) → max (max s.una (e + 1 - s.smss)) (after o) ≤ x → x < e → contains s.sacked x ≡ false
lies_after s e None f x l u = no_greatest (contains s.sacked) s.una e f x (omega (arith, l)) u
lies_after s e (Some g) f x l u = (greatest (contains s.sacked) s.una e g f).last x (omega (arith, l)) u

rescue_spared : (s : BoardView) → AllOf (IsSpared s) (rescue s)
rescue_spared s =
    map_of (IsSpared s) (segment_to s) (greatest_where (λ x. is_unsacked x s) s.una s.top) (λ e f x l u.
    split (λ y. contains s.sacked y ≡ false) e x
    (free _ (greatest (λ x. is_unsacked x s) s.una s.top e f).passes)
    (λ d. lies_after s e (greatest_where (contains s.sacked) s.una e) refl x l (omega (arith, u, d))))

pub spares_sacked : SparesSacked
spares_sacked = record {
  again = run_spared;
  chosen = λ rwnd s w known.
      let P : NextSegment → Type 0 = λ sent. IsSpared s (segment_of sent) in
      either_of P (lost_run s w) _ (map_of P (λ x. Lost (run_at x s)) (next_lost w.high_rxt s) (λ x e. run_spared s x))
      (either_of P (option_map (λ segment. New segment) (board_new_segment_at_top_if_whole_in_rwnd rwnd s)) _ (map_of P (λ segment. New segment) (board_new_segment_at_top_if_whole_in_rwnd rwnd s) (new_spared rwnd s known))
      (either_of P (hole_run s w) (rescue_run s w) (map_of P (λ x. Hole (run_at x s)) (find_unsacked_octet_by_nextseg_rule_3 w.high_rxt s) (λ x e. run_spared s x))
      (allowed_of P _ _ (λ _. map_of P (λ segment. Rescue segment) (rescue s) (rescue_spared s)))));
}
