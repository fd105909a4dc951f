-- The last lost octet over ranges.
use Rattle.std.proofs.Common.{◌≡◌, ℕ, ◌+◌, ◌-◌, ◌<◌, ◌≤◌, List, [], ◌∷◌, length, get_or, drop, Bool, true, false, cond, not, ◌&&◌, ◌||◌, Some, refl, sym, ap, ◌∙◌, arith, subst}
use Rattle.std.specs.Prelude.{nat_le, nat_lt, nat_eq}
use Rattle.std.proofs.lemmas.List.Sums.{sum_by-cons}
use Rattle.std.proofs.lemmas.Bool.Decides.{nat_tests}
use Rattle.pd_seg.specs.declared.sack_spans.Span.{Span}
use Rattle.pd_board.specs.Board.{covers}
use Rattle.pd_board.specs.Loss.{shows_loss}
use Rattle.pd_board.specs.Octets.{size_where, greatest_where, after}
use Rattle.pd_board.specs.Ranges.{octets_in, edge_over}
use Rattle.pd_board.specs.Runs.{among, Between}
use Rattle.pd_board.specs.Predicates.{first_of, lost_from, edge_from}
use Rattle.pd_board.proofs.Searching.{rest_in}
use Rattle.pd_board.proofs.Counted.{Between-lower, Between-end, none_below}
use Rattle.pd_board.proofs.Find.{greatest-is, greatest-below, greatest_empty}
use Rattle.pd_board.proofs.Lost.{more}
use Rattle.pd_board.proofs.Sets.{lt, ge, size_where-none, size_where-skip, size_where-later}
use Rattle.pd_board.proofs.Pipe.{lost_over}

not_up : (x y : Bool) → (y ≡ true → x ≡ true) → x ≡ false → y ≡ false
not_up true true h e = e
not_up true false h e = refl
not_up false true h e = sym (h refl)
not_up false false h e = refl

and_false : (a b : Bool) → b ≡ false → (a && b) ≡ false
and_false true b e = e
and_false false b e = refl

module _ (p : ℕ → Bool) (una top smss : ℕ) where
  abbrev lost : ℕ → Bool
  lost x = not (p x) && lost_from p una top smss (x + 1)

  -- what is lost by what lies further on is lost by what lies before
  lost_before : (a c : ℕ) → a ≤ c → lost_from p una top smss c ≡ true → lost_from p una top smss a ≡ true
  lost_before a c l h =
      more smss _ _ _ _
      (size_where-later (first_of p una) a c top (c - a) (omega arith))
      (size_where-later p a c top (c - a) (omega arith))
      h

  -- beyond a place that isn't lost nothing is
  kept_from : (e i : ℕ) → una ≤ i → i ≤ top → ((x : ℕ) → i ≤ x → x < top → lost_from p una top smss (x + 1) ≡ false)
      → after (greatest_where lost una i) ≡ e → after (greatest_where lost una top) ≡ e
  kept_from e i l t none here =
      let to : top ≡ i + (top - i) = omega arith in
      ap (λ n. after (greatest_where lost una n)) to
      ∙ ap after (greatest-below lost una i (top - i) l (λ x m u. and_false (not (p x)) (lost_from p una top smss (x + 1)) (none x m (omega arith))))
      ∙ here

  -- a gap that is lost ends with the last lost octet so far
  after_lost_gap : (e i s : ℕ) → una ≤ i → i ≤ s → ((x : ℕ) → i ≤ x → x < s → lost x ≡ true) → after (greatest_where lost una i) ≡ e
      → after (greatest_where lost una s) ≡ cond (nat_lt i s) s e
  after_lost_gap e i s l t all here =
      elim (nat_lt i s) as (λ v. nat_lt i s ≡ v → after (greatest_where lost una s) ≡ cond v s e) [
        | true ↦ λ v.
            let some : i < s = lt i s v in
            let last : s - 1 + 1 ≡ s = omega arith in
            ap after (greatest-is lost una (s - 1) s (omega arith) (omega arith) (λ x m u. absurd (omega arith)) (all (s - 1) (omega arith) (omega arith))) ∙ last
        | false ↦ λ v.
            let same : s ≡ i = let k = ge i s v in omega arith in
            ap (λ n. after (greatest_where lost una n)) same ∙ here
      ] refl

  -- octets that are held leave it
  after_held : (e s t : ℕ) → una ≤ s → s ≤ t → ((x : ℕ) → s ≤ x → x < t → p x ≡ true) → after (greatest_where lost una s) ≡ e
      → after (greatest_where lost una t) ≡ e
  after_held e s t l m held here =
      let to : t ≡ s + (t - s) = omega arith in
      ap (λ n. after (greatest_where lost una n)) to
      ∙ ap after (greatest-below lost una s (t - s) l (λ x i u. ap (λ b. not b && lost_from p una top smss (x + 1)) (held x i (omega arith))))
      ∙ here

  -- octets of a gap are lost together
  gap_same : (i s : ℕ) → una ≤ i → s ≤ top → ((x : ℕ) → i ≤ x → x < s → p x ≡ false) → (x : ℕ) → i ≤ x → x < s
      → lost_from p una top smss (x + 1) ≡ lost_from p una top smss s
  gap_same i s l t free x m u =
      λ k. shows_loss smss
      (size_where-skip (first_of p una) (x + 1) s top (s - (x + 1)) (omega arith) t (λ y a b. no_first y (free y (omega arith) b)) k)
      (size_where-skip p (x + 1) s top (s - (x + 1)) (omega arith) t (λ y a b. free y (omega arith) b) k)
    where
      no_first : (y : ℕ) → p y ≡ false → first_of p una y ≡ false
      no_first y e = ap (λ b. b && (nat_eq y una || not (p (y - 1)))) e

  -- a gap that isn't lost is the last of them
  none_after : (i s : ℕ) → una ≤ i → i ≤ s → s ≤ top → ((x : ℕ) → i ≤ x → x < s → p x ≡ false) → lost_from p una top smss s ≡ false
      → (x : ℕ) → i ≤ x → x < top → lost_from p una top smss (x + 1) ≡ false
  none_after i s l m t free kept x j u =
      elim (nat_lt x s) as (λ v. nat_lt x s ≡ v → lost_from p una top smss (x + 1) ≡ false) [
        | true ↦ λ v. gap_same i s l t free x j (lt x s v) ∙ kept
        | false ↦ λ v. not_up _ _ (lost_before s (x + 1) (let k = ge x s v in omega arith)) kept
      ] refl

  none_left : lost_from p una top smss top ≡ false
  none_left =
      (λ k. shows_loss smss (size_where-none (first_of p una) top top (omega arith) k) (size_where-none p top top (omega arith) k))
      ∙ grind (arith, nat_tests)

-- the last lost octet over ranges
pub edge_is : (p : ℕ → Bool) (una top smss e i : ℕ) (rs : List Span) → una ≤ i → i ≤ top → Between i rs (top + 1) → ((y : ℕ) → i ≤ y → p y ≡ among rs y)
    → ((x : ℕ) → among rs x ≡ true → una < x → i ≤ x - 1)
    → after (greatest_where (lost p una top smss) una i) ≡ e → edge_from p una top smss ≡ edge_over smss e i rs
edge_is p una top smss e i [] l t h same edge here =
    kept_from p una top smss e i l t (none_after p una top smss i top l t (omega arith) (λ x m u. same x m) (none_left p una top smss)) here
edge_is p una top smss e i (r ∷ rs) l t h same edge here =
    let over = lost_over p una top smss i r rs l h same edge in
    let last : r.end + 1 ≤ top + 1 = Between-end (r.end + 1) rs (top + 1) h.2 in
    let b : Between r.start (r ∷ rs) (top + 1) = (omega arith, h.1, h.2) in
    let free : (x : ℕ) → i ≤ x → x < r.start → p x ≡ false = λ x m u. same x m ∙ none_below r.start (r ∷ rs) (top + 1) x b u in
    elim (shows_loss smss (length rs + 1) (r.end - r.start + octets_in rs)) as
    (λ v. shows_loss smss (length rs + 1) (r.end - r.start + octets_in rs) ≡ v
    → edge_from p una top smss ≡ cond v (edge_over smss (cond (nat_lt i r.start) r.start e) r.end rs) e) [
      | true ↦ λ v.
          edge_is p una top smss (cond (nat_lt i r.start) r.start e) r.end rs (omega (arith, h.0, h.1)) (omega arith)
          (Between-lower r.end (r.end + 1) rs (top + 1) (omega arith) h.2) (λ y m. same y (omega (arith, h.0, h.1)) ∙ past y m) (λ x f m. after_end x f)
          (after_held p una top smss (cond (nat_lt i r.start) r.start e) r.start r.end (omega (arith, h.0)) (omega (arith, h.1)) (λ x m u. same x (omega (arith, h.0)) ∙ yes x m u)
          (after_lost_gap p una top smss e i r.start l h.0
          (λ x m u. both (p x) (lost_from p una top smss (x + 1)) (free x m u) (gap_same p una top smss i r.start l (omega (arith, h.1)) free x m u ∙ over ∙ v)) here))
      | false ↦ λ v.
          kept_from p una top smss e i l t (none_after p una top smss i r.start l h.0 (omega (arith, h.1)) free (over ∙ v)) here
    ] refl
  where
    both : (held gone : Bool) → held ≡ false → gone ≡ true → (not held && gone) ≡ true
    both true gone e f = absurd cc
    both false gone e f = f

    yes : (x : ℕ) → r.start ≤ x → x < r.end → (covers r x || among rs x) ≡ true
    yes x m u = grind (arith, nat_tests)

    past : (y : ℕ) → r.end ≤ y → (covers r y || among rs y) ≡ among rs y
    past y m = grind (arith, nat_tests)

    after_end : (x : ℕ) → among rs x ≡ true → r.end ≤ x - 1
    after_end x f = far (none_below (r.end + 1) rs (top + 1) x h.2) f
      where
        far : (x < r.end + 1 → among rs x ≡ false) → among rs x ≡ true → r.end ≤ x - 1
        far g k = grind (arith, nat_tests)

-- the same from una on
pub edge_all : (una top smss : ℕ) (rs : List Span) → Between una rs (top + 1) → una ≤ top → edge_from (among rs) una top smss ≡ edge_over smss 0 una rs
edge_all una top smss rs h l =
    edge_is (among rs) una top smss 0 una rs (omega arith) l h (λ y m. refl) (λ x m u. omega arith)
    (ap after (greatest_empty (lost (among rs) una top smss) una una (omega arith)))

-- what is known of the next range and what follows it
pub record Next (n o place e top smss W : ℕ) (r : Span) (d : List Span) : Type 0 where
  pub runs : n ≡ length d + 1
  pub octets : o ≡ r.end - r.start + octets_in d
  pub low : place ≤ r.start
  pub order : r.start < r.end
  pub apart : Between (r.end + 1) d (top + 1)
  pub high : r.end ≤ top
  pub edge : cond (shows_loss smss n o) (edge_over smss (cond (nat_lt place r.start) r.start e) r.end d) e ≡ W

next_of : (runs octets place e top smss W : ℕ) (r : Span) (d : List Span) → runs ≡ length (r ∷ d) → octets ≡ octets_in (r ∷ d) → Between place (r ∷ d) (top + 1)
    → edge_over smss e place (r ∷ d) ≡ W → Next runs octets place e top smss W r d
next_of runs octets place e top smss W r d f g h w =
    let g' : octets ≡ r.end - r.start + octets_in d = g ∙ sum_by-cons (λ q. q.end - q.start) r d in
    let f' : runs ≡ length d + 1 = omega (arith, f) in
    record {
      runs = f';
      octets = g';
      low = h.0;
      order = h.1;
      apart = h.2;
      high = omega (arith, Between-end (r.end + 1) d (top + 1) h.2);
      edge = (λ k. cond (shows_loss smss (f' k) (g' k)) (edge_over smss (cond (nat_lt place r.start) r.start e) r.end d) e) ∙ w;
    }

pub next_range : (all v : List Span) (k : ℕ) (none : Span) (runs octets place e top smss W : ℕ) → v ≡ all → k < length v → runs ≡ length (drop k all)
    → octets ≡ octets_in (drop k all) → Between place (drop k all) (top + 1) → edge_over smss e place (drop k all) ≡ W
    → Next runs octets place e top smss W (get_or v k none) (drop (k + 1) all)
next_range all v k none runs octets place e top smss W same l =
    subst (λ (s : List Span). runs ≡ length s → octets ≡ octets_in s → Between place s (top + 1) → edge_over smss e place s ≡ W
    → Next runs octets place e top smss W (get_or v k none) (drop (k + 1) all))
    (sym (rest_in all v k none same l)) (next_of runs octets place e top smss W (get_or v k none) (drop (k + 1) all))

pub next_kept : (n o place e top smss W : ℕ) (r : Span) (d : List Span) → Next n o place e top smss W r d → shows_loss smss n o ≡ false → e ≡ W
next_kept n o place e top smss W r d h kept =
    sym (ap (λ b. cond b (edge_over smss (cond (nat_lt place r.start) r.start e) r.end d) e) kept) ∙ h.edge

pub next_lost : (n o place e top smss W : ℕ) (r : Span) (d : List Span) → Next n o place e top smss W r d → shows_loss smss n o ≡ true
    → edge_over smss (cond (nat_lt place r.start) r.start e) r.end d ≡ W
next_lost n o place e top smss W r d h gone =
    sym (ap (λ b. cond b (edge_over smss (cond (nat_lt place r.start) r.start e) r.end d) e) gone) ∙ h.edge
