-- The segment that is chosen can be sent.
use Rattle.std.proofs.Common.{◌≡◌, ℕ, ◌+◌, ◌-◌, ◌<◌, ◌≤◌, ◌&&◌, min, nat_lt, Option, Some, None, Bool, true, false, not, refl, subst, arith}
use Rattle.std.specs.Prelude.{unwrap_or, option_map}
use Rattle.std.proofs.lemmas.Bool.Decides.{nat_tests}
use Rattle.pd_board.specs.Retransmit.{run_at, next_lost, find_unsacked_octet_by_nextseg_rule_3, rescue, segment_to, most_from}
use Rattle.pd_board.specs.Loss.{is_unsacked}
use Rattle.pd_board.specs.Octets.{contains, least_where, greatest_where, after}
use Rattle.pd_board.specs.Board.{BoardView, IsBoardView}
use Rattle.pd_recover.specs.declared.next_segment.NextSegment.{NextSegment}
use Rattle.pd_recover.specs.declared.next_segment.NextSegment.TheVariants.{Lost, New, Hole, Rescue}
use Rattle.pd_recover.specs.NextSeg.{IsSendable, segment_of, lost_run, board_new_segment_at_top_if_whole_in_rwnd, hole_run, rescue_run, next_send}
use Rattle.pd_recover.specs.Cong.{CongView}
use Rattle.pd_recover.proofs.Chosen.{AllOf, one_of, either_of, map_of, allowed_of}
use Rattle.pd_recover.proofs.Found.{least, greatest}

fails : (k : ℕ → Bool) (x y : ℕ) → not (k x) ≡ true → k y ≡ true → x ≡ y → ⊥
fails k x y f h e = clash (k y) (subst (λ z. not (k z) ≡ true) e f) h
  where
    clash : (b : Bool) → not b ≡ true → b ≡ true → ⊥
    clash true f h = cc
    clash false f h = cc

first_of_two : (a b : Bool) → (a && b) ≡ true → a ≡ true
first_of_two true b h = refl
first_of_two false b h = h

-- a segment that is sent again from an octet that isn't SACKed
run_sendable : (s : BoardView) → IsBoardView s → (x : ℕ) → s.una ≤ x → x < s.top → is_unsacked x s ≡ true → IsSendable s (run_at x s)
run_sendable s known x from to free = record {
  from = from;
  some = above (least_where (contains s.sacked) x (most_from x s)) refl;
  short = omega (arith, below (least_where (contains s.sacked) x (most_from x s)) refl);
  queued = omega (arith, below (least_where (contains s.sacked) x (most_from x s)) refl, known.top_end);
}
  where
    above : (o : Option ℕ) → least_where (contains s.sacked) x (most_from x s) ≡ o → x < unwrap_or o (most_from x s)
    above None e = omega (arith, to, known.smss_low)
    above (Some r) e =
        let h = least (contains s.sacked) x (most_from x s) r e in
        let apart : x ≡ r → ⊥ = fails (contains s.sacked) x r free h.passes in
        omega (arith, h.from, apart)

    below : (o : Option ℕ) → least_where (contains s.sacked) x (most_from x s) ≡ o → unwrap_or o (most_from x s) ≤ min (x + s.smss) s.top
    below None e = omega arith
    below (Some r) e = let h = least (contains s.sacked) x (most_from x s) r e in omega (arith, h.to)

lost_sendable : (s : BoardView) → IsBoardView s → (high x : ℕ) → next_lost high s ≡ Some x → IsSendable s (run_at x s)
lost_sendable s known high x e =
    let h = least _ s.una s.top x e in
    run_sendable s known x h.from h.to (first_of_two _ _ (first_of_two _ _ h.passes))

hole_sendable : (s : BoardView) → IsBoardView s → (high x : ℕ) → find_unsacked_octet_by_nextseg_rule_3 high s ≡ Some x → IsSendable s (run_at x s)
hole_sendable s known high x e =
    let h = least _ s.una s.top x e in
    run_sendable s known x h.from h.to (first_of_two _ _ h.passes)

pub data_sendable : (rwnd : ℕ) (s : BoardView) → IsBoardView s → AllOf (IsSendable s) (board_new_segment_at_top_if_whole_in_rwnd rwnd s)
data_sendable rwnd s known =
    allowed_of (IsSendable s) _ _ (λ t. one_of (IsSendable s) _ (record {
      from = omega (arith, known.una_next, known.next_top);
      some = more (first_of_two _ _ t);
      short = omega arith;
      queued = omega (arith, known.top_end);
    }))
  where
    more : nat_lt s.top (s.top + min s.smss (s.end - s.top)) ≡ true → s.top < s.top + min s.smss (s.end - s.top)
    more t = grind (arith, nat_tests)

rescue_sendable : (s : BoardView) → IsBoardView s → AllOf (IsSendable s) (rescue s)
rescue_sendable s known =
    map_of (IsSendable s) (segment_to s) (greatest_where (λ x. is_unsacked x s) s.una s.top) (λ e f.
    let h = greatest (λ x. is_unsacked x s) s.una s.top e f in
    record {
      from = omega arith;
      some = omega (arith, h.from, known.smss_low, before e (greatest_where (contains s.sacked) s.una e) refl);
      short = omega arith;
      queued = omega (arith, h.to, known.top_end);
    })
  where
    before : (e : ℕ) (o : Option ℕ) → greatest_where (contains s.sacked) s.una e ≡ o → after o ≤ e
    before e None f = omega arith
    before e (Some g) f = let h = greatest (contains s.sacked) s.una e g f in omega (arith, h.to)

pub next_sendable : (rwnd : ℕ) (s : BoardView) (w : CongView) → IsBoardView s → AllOf (λ sent. IsSendable s (segment_of sent)) (next_send rwnd s w)
next_sendable rwnd s w known =
    let P : NextSegment → Type 0 = λ sent. IsSendable s (segment_of sent) in
    either_of P (lost_run s w) _ (map_of P (λ x. Lost (run_at x s)) (next_lost w.high_rxt s) (lost_sendable s known w.high_rxt))
    (either_of P (option_map (λ segment. New segment) (board_new_segment_at_top_if_whole_in_rwnd rwnd s)) _ (map_of P (λ segment. New segment) (board_new_segment_at_top_if_whole_in_rwnd rwnd s) (data_sendable rwnd s known))
    (either_of P (hole_run s w) (rescue_run s w) (map_of P (λ x. Hole (run_at x s)) (find_unsacked_octet_by_nextseg_rule_3 w.high_rxt s) (hole_sendable s known w.high_rxt))
    (allowed_of P _ _ (λ _. map_of P (λ segment. Rescue segment) (rescue s) (rescue_sendable s known)))))
