-- The order of a board's numbers, and where its SACKed octets lie, through each of its calls.
use Rattle.std.proofs.Common.{◌≡◌, ℕ, ◌<◌, ◌≤◌, max, nat_lt, nat_le, ◌&&◌, ◌||◌, not, List, [], ◌∷◌, Bool, true, false, Option, Some, None, refl, sym, ◌∙◌, arith}
use Rattle.std.specs.Prelude.{unwrap_or}
use Rattle.std.proofs.lemmas.Bool.Decides.{nat_tests}
use Rattle.pd_seg.specs.declared.sack_spans.Span.{Span}
use Rattle.pd_board.proofs.Sets.{contains-octets_where, contains_in, octets_where-same, octets_where-none, octets_where-longer}
use Rattle.pd_board.specs.Octets.{contains, octets_where, least_where}
use Rattle.pd_board.specs.Board.{BoardView, opened, written, sent_to, acknowledged, covers, with_sacked_block, has_new, with_none_sacked, past_sacked_octets}
use Rattle.pd_recover.proofs.Found.{least}
use Rattle.pd_host.specs.AckEffects.{is_block_sent, with_block_marked, with_blocks_marked}
use Rattle.pd_host.specs.Invariants.{IsOrdered}
use Rattle.pd_host.proofs.Kept.{by_test}

-- a set of those from a to b that pass is the set of its own members

ascending : (p : ℕ → Bool) (a b : ℕ) → octets_where p a b ≡ octets_where (contains (octets_where p a b)) a b
ascending p a b = octets_where-same p (contains (octets_where p a b)) a b (λ x l u. sym (contains_in p a b x l u))

bounds_hold : (a b x : ℕ) (t : Bool) → (nat_le a x && (nat_lt x b && t)) ≡ true → (a ≤ x) × (x < b)
bounds_hold a b x t e = grind (arith, nat_tests)

members : (p : ℕ → Bool) (a b x : ℕ) → contains (octets_where p a b) x ≡ true → (a ≤ x) × (x < b)
members p a b x e = bounds_hold a b x (p x) (sym (contains-octets_where p a b x) ∙ e)

pub sure : (b : Bool) → (b ≡ true → ⊥) → b ≡ false
sure true h = absurd (h refl)
sure false h = refl

-- no octet

none_ascending : (a b : ℕ) → [] ≡ octets_where (contains []) a b
none_ascending a b = sym (octets_where-none (contains []) a b (λ x l u. refl))

none_sent : (a b x : ℕ) → contains [] x ≡ true → (a ≤ x) × (x < b)
none_sent a b x e = absurd cc

pub opened_ordered : (smss : ℕ) → 64 ≤ smss → smss ≤ 65495 → IsOrdered (opened smss)
opened_ordered smss low high = record {
  smss_low = low;
  smss_high = high;
  una_next = omega arith;
  next_top = omega arith;
  top_end = omega arith;
  sacked_ascending = none_ascending 0 1;
  sacked_sent = none_sent 0 1;
}

pub unmarked_ordered : (s : BoardView) → IsOrdered s → IsOrdered (with_none_sacked s)
unmarked_ordered s h = record {
  smss_low = h.smss_low;
  smss_high = h.smss_high;
  una_next = h.una_next;
  next_top = h.next_top;
  top_end = h.top_end;
  sacked_ascending = none_ascending s.una s.top;
  sacked_sent = none_sent s.una s.top;
}

pub written_ordered : (n : ℕ) (s : BoardView) → IsOrdered s → IsOrdered (written n s)
written_ordered n s h = record {
  smss_low = h.smss_low;
  smss_high = h.smss_high;
  una_next = h.una_next;
  next_top = h.next_top;
  top_end = omega (arith, h.top_end);
  sacked_ascending = h.sacked_ascending;
  sacked_sent = h.sacked_sent;
}

above_top : (s : BoardView) → IsOrdered s → (x : ℕ) → s.top ≤ x → contains s.sacked x ≡ false
above_top s h x l = sure (contains s.sacked x) (λ t. beyond (h.sacked_sent x t).1)
  where
    beyond : x < s.top → ⊥
    beyond u = omega (arith, l, u)

higher : (s : BoardView) (x y : ℕ) → (s.una ≤ y) × (y < s.top) → (s.una ≤ y) × (y < max s.top x)
higher s x y h = (h.0, omega (arith, h.1))

pub sent_ordered : (x : ℕ) (s : BoardView) → s.una ≤ x → x ≤ s.end → IsOrdered s → IsOrdered (sent_to x s)
sent_ordered x s from to h = record {
  smss_low = h.smss_low;
  smss_high = h.smss_high;
  una_next = from;
  next_top = omega arith;
  top_end = omega (arith, h.top_end, to);
  sacked_ascending =
      h.sacked_ascending
      ∙ octets_where-longer (contains s.sacked) s.una s.top (max s.top x) (omega arith) (λ y l m u. above_top s h y m);
  sacked_sent = λ y e. higher s x y (h.sacked_sent y e);
}

pub acknowledged_ordered : (x : ℕ) (s : BoardView) → s.una ≤ x → x ≤ s.top → IsOrdered s → IsOrdered (acknowledged x s)
acknowledged_ordered x s from to h = record {
  smss_low = h.smss_low;
  smss_high = h.smss_high;
  una_next = omega arith;
  next_top = omega (arith, h.next_top, to);
  top_end = h.top_end;
  sacked_ascending = ascending (contains s.sacked) x s.top;
  sacked_sent = members (contains s.sacked) x s.top;
}

pub with_sacked_block_ordered : (block : Span) (s : BoardView) → IsOrdered s → IsOrdered (with_sacked_block block s)
with_sacked_block_ordered block s h = record {
  smss_low = h.smss_low;
  smss_high = h.smss_high;
  una_next = h.una_next;
  next_top = h.next_top;
  top_end = h.top_end;
  sacked_ascending = ascending (λ x. contains s.sacked x || covers block x) s.una s.top;
  sacked_sent = members (λ x. contains s.sacked x || covers block x) s.una s.top;
}

-- the sending place moves up to top at most
found_within : (p : ℕ → Bool) (a b : ℕ) → a ≤ b → (o : Option ℕ) → least_where p a b ≡ o → (a ≤ unwrap_or o b) × (unwrap_or o b ≤ b)
found_within p a b le None e = (le, omega arith)
found_within p a b le (Some r) e = let h = least p a b r e in (h.from, omega (arith, h.to))

pub skipped_ordered : (s : BoardView) → IsOrdered s → IsOrdered (past_sacked_octets s)
skipped_ordered s h =
    let k = found_within (λ x. not (contains s.sacked x)) s.next s.top h.next_top _ refl in
    record {
      smss_low = h.smss_low;
      smss_high = h.smss_high;
      una_next = omega (arith, h.una_next, k.0);
      next_top = k.1;
      top_end = h.top_end;
      sacked_ascending = h.sacked_ascending;
      sacked_sent = h.sacked_sent;
    }

-- blocks move no number

pub record HasNumbersOf (s t : BoardView) : Type 0 where
  pub smss : t.smss ≡ s.smss
  pub una : t.una ≡ s.una
  pub top : t.top ≡ s.top
  pub end : t.end ≡ s.end
  pub ordered : IsOrdered t

told_keeps : (s : BoardView) (block : Span) (so_far : BoardView × Bool) → HasNumbersOf s so_far.0 → HasNumbersOf s (with_block_marked block so_far).0
told_keeps s block so_far h =
    by_test (λ (t : BoardView × Bool). HasNumbersOf s t.0) (is_block_sent so_far.0 block) (with_sacked_block block so_far.0, so_far.1 || has_new block so_far.0) so_far
    (λ _. record { smss = h.smss; una = h.una; top = h.top; end = h.end; ordered = with_sacked_block_ordered block so_far.0 h.ordered })
    (λ _. h)

pub blocks_keep : (s : BoardView) (blocks : List Span) (so_far : BoardView × Bool) → HasNumbersOf s so_far.0 → HasNumbersOf s (with_blocks_marked blocks so_far).0
blocks_keep s [] so_far h = h
blocks_keep s (block ∷ blocks) so_far h = blocks_keep s blocks (with_block_marked block so_far) (told_keeps s block so_far h)
