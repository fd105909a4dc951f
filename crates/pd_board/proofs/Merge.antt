-- A range more among ranges.
use Rattle.std.proofs.Common.{◌≡◌, ℕ, ◌+◌, ◌<◌, ◌≤◌, min, max, List, [], ◌∷◌, ◌++◌, Bool, true, false, ◌&&◌, ◌||◌, sym, ap, ◌∙◌, arith, subst}
use Rattle.std.specs.Prelude.{nat_le, nat_lt}
use Rattle.std.proofs.lemmas.Bool.Decides.{nat_tests}
use Rattle.pd_seg.specs.declared.sack_spans.Span.{Span}
use Rattle.pd_board.specs.Board.{covers}
use Rattle.pd_board.specs.Runs.{among}
use Rattle.pd_board.specs.Ranges.{Merging}
use Rattle.pd_board.proofs.Counted.{Between-lower, Between-push, Between-end, among-push}

before_hand : (o c r t a : Bool) → (o || (c || (r || t))) ≡ a → ((o || r) || (c || t)) ≡ a
before_hand true c r t a h = h
before_hand false true true t a h = h
before_hand false true false t a h = h
before_hand false false r t a h = h

past_hand : (o c r t a : Bool) → (o || (c || (r || t))) ≡ a → ((o || c) || (r || t)) ≡ a
past_hand true c r t a h = h
past_hand false c r t a h = h

in_hand : (o c r c' t a : Bool) → c' ≡ (c || r) → (o || (c || (r || t))) ≡ a → (o || (c' || t)) ≡ a
in_hand o true r c' t a e h = rw e h
in_hand o false r c' t a e h = rw e h

joined : (s e f g x : ℕ) → s < e → f < g → s ≤ g → f ≤ e → (nat_le (min s f) x && nat_lt x (max e g)) ≡ ((nat_le s x && nat_lt x e) || (nat_le f x && nat_lt x g))
joined s e f g x l m u v = grind (arith, nat_tests)

module _ (una top from to : ℕ) (all out rest : List Span) (start end : ℕ) (r : Span) (h : Merging una top from to all out (r ∷ rest) start end) where
  pub merge_before : r.end < start → Merging una top from to all (out ++ r ∷ []) rest start end
  merge_before l = record {
    edge = r.end + 1;
    done = Between-push una out h.edge (r.end + 1) r h.done h.above.0 h.above.1 (omega arith);
    below = omega arith;
    above = h.above.2;
    order = h.order;
    high = h.high;
    octets = λ x. ap (λ b. b || ((nat_le start x && nat_lt x end) || among rest x)) (among-push out r x) ∙ before_hand (among out x) _ (covers r x) (among rest x) _ (h.octets x);
  }

  pub merge_past : end < r.start → Merging una top from to all (out ++ record { start = start; end = end } ∷ []) rest r.start r.end
  merge_past l = record {
    edge = end + 1;
    done = Between-push una out h.edge (end + 1) (record { start = start; end = end }) h.done h.below h.order (omega arith);
    below = omega arith;
    above = Between-lower (end + 1) (r.end + 1) rest top (omega (arith, h.above.1)) h.above.2;
    order = h.above.1;
    high = omega (arith, Between-end (r.end + 1) rest top h.above.2);
    octets = λ x. ap (λ b. b || ((nat_le r.start x && nat_lt x r.end) || among rest x)) (among-push out (record { start = start; end = end }) x) ∙ past_hand (among out x) _ (covers r x) (among rest x) _ (h.octets x);
  }

  pub merge_in : start ≤ r.end → r.start ≤ end → Merging una top from to all out rest (min start r.start) (max end r.end)
  merge_in l m = record {
    edge = h.edge;
    done = h.done;
    below = omega (arith, h.below, h.above.0);
    above = Between-lower h.edge (r.end + 1) rest top (omega (arith, h.above.0, h.above.1)) h.above.2;
    order = omega (arith, h.order);
    high = omega (arith, h.high, Between-end (r.end + 1) rest top h.above.2);
    octets = λ x. in_hand (among out x) _ (covers r x) _ (among rest x) _ (joined start end r.start r.end x h.order h.above.1 l m) (h.octets x);
  }

pub Merging-same : (una top from to : ℕ) (all out out' rest : List Span) (start end start' end' : ℕ) → out' ≡ out → start' ≡ start → end' ≡ end → Merging una top from to all out rest start end → Merging una top from to all out' rest start' end'
Merging-same una top from to all out out' rest start end start' end' e s d h =
    subst (λ (o : List Span). Merging una top from to all o rest start' end') (sym e) (subst (λ (k : ℕ). Merging una top from to all out rest k end') (sym s) (subst (λ (k : ℕ). Merging una top from to all out rest start k) (sym d) h))
