-- The segment that is found over a test is the one that the rules of NextSeg choose.
use Rattle.std.proofs.Common.{◌≡◌, ℕ, ◌+◌, ◌-◌, ◌<◌, ◌≤◌, max, Bool, true, false, not, ◌&&◌, None, Some, refl, sym, ap, ◌∙◌, arith}
use Rattle.std.specs.Prelude.{nat_le, nat_lt, unwrap_or}
use Rattle.std.specs.Option.{option_map}
use Rattle.std.proofs.lemmas.Bool.Decides.{nat_tests}
use Rattle.pd_board.specs.Octets.{contains, octets_where, least_where, greatest_where, after}
use Rattle.pd_board.specs.Board.{BoardView, past_sacked_octets}
use Rattle.pd_board.specs.Loss.{is_lost, is_unsacked, sacked_above}
use Rattle.pd_board.specs.Retransmit.{run_at, most_from, is_hole, find_unsacked_octet_by_nextseg_rule_3, next_lost, rescue, segment_to}
use Rattle.pd_board.proofs.Sets.{lt, ge, size_where-some, size_where-skip, size_where-none}
use Rattle.pd_board.proofs.Find.{least-is, least-none, least-both, only_if, greatest-is, greatest-none, greatest-below, greatest-under}
use Rattle.pd_board.proofs.Lost.{lost_below}
use Rattle.pd_board.proofs.Shown.{within, octets_from}

-- rule 1 is rule 3, where what it gives is lost
pub next_lost-only : (high_rxt : ℕ) (s : BoardView) → next_lost high_rxt s ≡ only_if (λ x. is_lost x s) (find_unsacked_octet_by_nextseg_rule_3 high_rxt s)
next_lost-only high_rxt s = least-both (λ x. is_hole high_rxt x s) (λ x. is_lost x s) (lost_below s) s.una (s.top - s.una)

pub lost_hole : (high_rxt x : ℕ) (s : BoardView) → find_unsacked_octet_by_nextseg_rule_3 high_rxt s ≡ Some x → is_lost x s ≡ true → next_lost high_rxt s ≡ Some x
lost_hole high_rxt x s h l = next_lost-only high_rxt s ∙ ap (only_if (λ y. is_lost y s)) h ∙ rw l refl

pub kept_hole : (high_rxt x : ℕ) (s : BoardView) → find_unsacked_octet_by_nextseg_rule_3 high_rxt s ≡ Some x → is_lost x s ≡ false → next_lost high_rxt s ≡ None
kept_hole high_rxt x s h l = next_lost-only high_rxt s ∙ ap (only_if (λ y. is_lost y s)) h ∙ rw l refl

pub no_hole : (high_rxt : ℕ) (s : BoardView) → find_unsacked_octet_by_nextseg_rule_3 high_rxt s ≡ None → next_lost high_rxt s ≡ None
no_hole high_rxt s h = next_lost-only high_rxt s ∙ ap (only_if (λ y. is_lost y s)) h

held_off : (held from : Bool) (n : ℕ) → held ≡ true → (not held && (from && nat_lt 0 n)) ≡ false
held_off held from n e = rw e refl

low_off : (free : Bool) (high x n : ℕ) → x < high → (free && (nat_le high x && nat_lt 0 n)) ≡ false
low_off free high x n l = grind (arith, nat_tests)

last_off : (free from : Bool) (n : ℕ) → n ≡ 0 → (free && (from && nat_lt 0 n)) ≡ false
last_off true true n e = grind (arith, nat_tests)
last_off true false n e = refl
last_off false from n e = refl

hole_on : (held : Bool) (high x n : ℕ) → held ≡ false → high ≤ x → 0 < n → (not held && (nat_le high x && nat_lt 0 n)) ≡ true
hole_on held high x n e l u = grind (arith, nat_tests)

apart : (p : ℕ → Bool) (x y : ℕ) → x ≤ y → p x ≡ false → p y ≡ true → x < y
apart p x y l e f =
    elim (nat_lt x y) as (λ t. nat_lt x y ≡ t → x < y) [
      | true ↦ λ t. lt x y t
      | false ↦ λ t. let same : x ≡ y = let k = ge x y t in omega arith in let bad : false ≡ true = sym e ∙ ap p same ∙ f in absurd cc
    ] refl

module _ (p : ℕ → Bool) (s : BoardView) (shown : s.sacked ≡ octets_where p s.una s.top) where
  below_hole : (high x : ℕ) → ((k : ℕ) → max s.una high ≤ k → k < x → p k ≡ true) → x ≤ s.top
      → (y : ℕ) → s.una ≤ y → y < x → is_hole high y s ≡ false
  below_hole high x held u y l m =
      elim (nat_lt y high) as (λ t. nat_lt y high ≡ t → is_hole high y s ≡ false) [
        | true ↦ λ t. low_off _ high y _ (lt y high t)
        | false ↦ λ t. held_off (contains s.sacked y) (nat_le high y) (sacked_above y s) (within p s shown y l (omega arith) ∙ held y (from t) m)
      ] refl
    where
      from : nat_lt y high ≡ false → max s.una high ≤ y
      from t = let k = ge y high t in omega arith

  pub hole_is : (high x y : ℕ) → max s.una high ≤ x → ((k : ℕ) → max s.una high ≤ k → k < x → p k ≡ true) → p x ≡ false
      → x ≤ y → y < s.top → p y ≡ true → find_unsacked_octet_by_nextseg_rule_3 high s ≡ Some x
  hole_is high x y l held free m u marked =
      let less = apart p x y m free marked in
      let some : 0 < sacked_above x s = omega (arith, octets_from p s shown (x + 1) (omega arith), size_where-some p (x + 1) y s.top (omega arith) u marked) in
      least-is (λ k. is_hole high k s) s.una s.top x (x - s.una) (omega arith) (omega arith)
      (λ k i j. below_hole high x held (omega arith) k i j)
      (hole_on (contains s.sacked x) high x (sacked_above x s) (within p s shown x (omega arith) (omega arith) ∙ free) (omega arith) some)

  pub hole_none : (high x : ℕ) → x ≤ s.top → ((k : ℕ) → max s.una high ≤ k → k < x → p k ≡ true)
      → ((k : ℕ) → x ≤ k → k < s.top → p k ≡ false) → find_unsacked_octet_by_nextseg_rule_3 high s ≡ None
  hole_none high x u held free =
      least-none (λ k. is_hole high k s) s.una s.top s.top (omega arith) (λ y l m.
      elim (nat_lt y x) as (λ t. nat_lt y x ≡ t → is_hole high y s ≡ false) [
        | true ↦ λ t. below_hole high x held u y l (lt y x t)
        | false ↦ λ t. last_off (is_unsacked y s) (nat_le high y) (sacked_above y s) (none y l m (ge y x t))
      ] refl)
    where
      none : (y : ℕ) → s.una ≤ y → y < s.top → x ≤ y → sacked_above y s ≡ 0
      none y l m k =
          octets_from p s shown (y + 1) (omega arith)
          ∙ size_where-skip p (y + 1) s.top s.top (s.top - (y + 1)) (omega arith) (omega arith) (λ z i j. free z (omega arith) j)
          ∙ size_where-none p s.top s.top (omega arith)

  pub run_is : (x most end : ℕ) → s.una ≤ x → most ≡ most_from x s → x ≤ end → end ≤ most
      → ((k : ℕ) → x ≤ k → k < end → p k ≡ false) → (end < most → p end ≡ true) → record { start = x; end = end } ≡ run_at x s
  run_is x most end l e m u free marked =
      (λ i. record { start = x; end = there i }) ∙ ap (λ (n : ℕ). record { start = x; end = unwrap_or (least_where (contains s.sacked) x n) n }) e
    where
      low : nat_lt end most ≡ true → end < s.top
      low t = let k = lt end most t in omega arith

      same : nat_lt end most ≡ false → end ≡ most
      same t = let k = ge end most t in omega arith

      up : nat_lt end most ≡ false → (y : ℕ) → y < most → y < end
      up t y j = let k = ge end most t in omega arith

      there : end ≡ unwrap_or (least_where (contains s.sacked) x most) most
      there =
          elim (nat_lt end most) as (λ t. nat_lt end most ≡ t → end ≡ unwrap_or (least_where (contains s.sacked) x most) most) [
            | true ↦ λ t. sym (ap (λ o. unwrap_or o most)
                (least-is (contains s.sacked) x most end (end - x) (omega arith) (lt end most t)
                (λ y i j. within p s shown y (omega arith) (omega arith) ∙ free y i j)
                (within p s shown end (omega arith) (low t) ∙ marked (lt end most t))))
            | false ↦ λ t. same t ∙ sym (ap (λ o. unwrap_or o most)
                (least-none (contains s.sacked) x most most (omega arith) (λ y i j. within p s shown y (omega arith) (omega arith) ∙ free y i (up t y j))))
          ] refl

  free_at : (k : ℕ) → s.una ≤ k → k < s.top → p k ≡ true → is_unsacked k s ≡ false
  free_at k l u h = ap not (within p s shown k l u ∙ h)

  pub skipped_is : (x : ℕ) → s.una ≤ s.next → s.next ≤ x → x ≤ s.top → ((k : ℕ) → s.next ≤ k → k < x → p k ≡ true) → (x < s.top → p x ≡ false)
      → record s { next = x } ≡ past_sacked_octets s
  skipped_is x a l u held free = ap (λ n. record s { next = n }) there
    where
      same : nat_lt x s.top ≡ false → x ≡ s.top
      same t = let k = ge x s.top t in omega arith

      up : nat_lt x s.top ≡ false → (y : ℕ) → y < s.top → y < x
      up t y j = let k = ge x s.top t in omega arith

      there : x ≡ unwrap_or (least_where (λ k. not (contains s.sacked k)) s.next s.top) s.top
      there =
          elim (nat_lt x s.top) as (λ t. nat_lt x s.top ≡ t → x ≡ unwrap_or (least_where (λ k. not (contains s.sacked k)) s.next s.top) s.top) [
            | true ↦ λ t. sym (ap (λ o. unwrap_or o s.top)
                (least-is (λ k. not (contains s.sacked k)) s.next s.top x (x - s.next) (omega arith) (lt x s.top t)
                (λ y i j. free_at y (omega arith) (omega arith) (held y i j))
                (ap not (within p s shown x (omega arith) (lt x s.top t) ∙ free (lt x s.top t)))))
            | false ↦ λ t. same t ∙ sym (ap (λ o. unwrap_or o s.top)
                (least-none (λ k. not (contains s.sacked k)) s.next s.top s.top (omega arith) (λ y i j. free_at y (omega arith) j (held y i (up t y j)))))
          ] refl

  pub no_rescue : s.una ≤ s.top → ((k : ℕ) → s.una ≤ k → k < s.top → p k ≡ true) → rescue s ≡ None
  no_rescue l held = ap (option_map (segment_to s)) (greatest-none (λ k. is_unsacked k s) s.una s.top l (λ k i j. free_at k i j (held k i j)))

  pub rescue_is : (e low start : ℕ) → s.una ≤ e → e < s.top → ((k : ℕ) → e + 1 ≤ k → k < s.top → p k ≡ true) → p e ≡ false
      → low ≡ max s.una (e + 1 - s.smss) → low ≤ start → start ≤ e → ((k : ℕ) → start ≤ k → k < e → p k ≡ false) → (low < start → p (start - 1) ≡ true)
      → rescue s ≡ Some record { start = start; end = e + 1 }
  rescue_is e low start l u held free f m v between edge =
      ap (option_map (segment_to s)) (greatest-is (λ k. is_unsacked k s) s.una e s.top l u (λ k i j. free_at k (omega arith) j (held k i j)) (ap not (within p s shown e l u ∙ free)))
      ∙ ap (λ (n : ℕ). Some record { start = n; end = e + 1 }) (ap (λ n. max n marks_end) (sym f) ∙ there)
    where
      marks_end : ℕ
      marks_end = after (greatest_where (contains s.sacked) s.una e)

      clear : (k : ℕ) → start ≤ k → k < e → contains s.sacked k ≡ false
      clear k i j = within p s shown k (omega arith) (omega arith) ∙ between k i j

      past : low < start → max low marks_end ≡ start
      past k =
          let one : start - 1 + 1 ≡ start = omega arith in
          let found : marks_end ≡ start - 1 + 1 =
          ap after (greatest-is (contains s.sacked) s.una (start - 1) e (omega arith) (omega arith) (λ y i j. clear y (omega arith) j) (within p s shown (start - 1) (omega arith) (omega arith) ∙ edge k)) in
          omega arith

      least : start ≤ low → max low marks_end ≡ start
      least k =
          let to : e ≡ low + (e - low) = omega arith in
          let from : low ≡ s.una + (low - s.una) = omega arith in
          let cut : marks_end ≡ after (greatest_where (contains s.sacked) s.una low) =
          ap (λ n. after (greatest_where (contains s.sacked) s.una n)) to ∙ ap after (greatest-below (contains s.sacked) s.una low (e - low) (omega arith) (λ y i j. clear y (omega arith) (omega arith))) in
          let same = ap (λ n. after (greatest_where (contains s.sacked) s.una n)) from in
          let most = greatest-under (contains s.sacked) s.una (low - s.una) in
          omega arith

      there : max low marks_end ≡ start
      there =
          elim (nat_lt low start) as (λ t. nat_lt low start ≡ t → max low marks_end ≡ start) [
            | true ↦ λ t. past (lt low start t)
            | false ↦ λ t. least (ge low start t)
          ] refl
