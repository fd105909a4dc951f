-- Ranges that are searched from a place on.
use Rattle.std.proofs.Common.{◌≡◌, ℕ, zero, suc, ◌+◌, ◌-◌, ◌<◌, ◌≤◌, min, max, List, [], ◌∷◌, length, get_or, drop, drop-cons, add-one, Bool, true, false, cond, ◌&&◌, ◌||◌, refl, sym, ap, ◌∙◌, arith, subst}
use Rattle.std.specs.Prelude.{nat_le, nat_lt}
use Rattle.std.specs.List.{list_any, sum_by}
use Rattle.std.proofs.lemmas.List.{drop_all}
use Rattle.std.proofs.lemmas.List.Sums.{sum_by-cons}
use Rattle.std.proofs.lemmas.Bool.Decides.{nat_tests}
use Rattle.pd_seg.specs.declared.sack_spans.Span.{Span}
use Rattle.pd_board.specs.Octets.{contains, interval, octets_where}
use Rattle.pd_board.specs.Board.{BoardView}
use Rattle.pd_board.specs.Runs.{among, Between, AreRuns}
use Rattle.pd_board.specs.declared.ranges.Ranges.{Ranges}
use Rattle.pd_board.specs.Ranges.{in_ranges, octets_in, AreRanges, Searching, SearchingLast, ranges_after, raised}
use Rattle.pd_board.proofs.Sets.{lt, ge, contains-octets_where, any-first}
use Rattle.pd_board.proofs.Counted.{Between-lower, Between-end, none_below}

abbrev pub none : Span
none = record { start = 0; end = 0 }

rest_at : (all : List Span) (k : ℕ) (r : Span) → k < length all → drop k all ≡ get_or all k r ∷ drop (k + 1) all
rest_at all k r l = rw add-one (drop-cons all k r l)

-- the rest at a place that isn't past the end
pub rest_in : (all v : List Span) (k : ℕ) (r : Span) → v ≡ all → k < length v → drop k all ≡ get_or v k r ∷ drop (k + 1) all
rest_in all v k r e = subst (λ (w : List Span). k < length w → drop k all ≡ get_or w k r ∷ drop (k + 1) all) (sym e) (rest_at all k r)

pub past_in : (all v : List Span) (k : ℕ) → v ≡ all → length v ≤ k → drop k all ≡ []
past_in all v k e = subst (λ (w : List Span). length w ≤ k → drop k all ≡ []) (sym e) (λ l. drop_all k all l)

pub sum_in : (f : Span → ℕ) (all v : List Span) (k : ℕ) (r : Span) → v ≡ all → k < length v → sum_by f (drop k all) ≡ f (get_or v k r) + sum_by f (drop (k + 1) all)
sum_in f all v k r e l = ap (sum_by f) (rest_in all v k r e l) ∙ sum_by-cons f (get_or v k r) (drop (k + 1) all)

order_at : (a : ℕ) (all : List Span) (b k : ℕ) (r : Span) → Between a all b → k < length all → (get_or all k r).start < (get_or all k r).end
order_at a [] b k r h l = absurd (omega arith)
order_at a (q ∷ rs) b zero r h l = h.1
order_at a (q ∷ rs) b (suc k) r h l = order_at (q.end + 1) rs b k r h.2 (omega arith)

-- no range is empty
pub order_in : (a : ℕ) (all v : List Span) (b k : ℕ) (r : Span) → v ≡ all → Between a all b → k < length v → (get_or v k r).start < (get_or v k r).end
order_in a all v b k r e h = subst (λ (w : List Span). k < length w → (get_or w k r).start < (get_or w k r).end) (sym e) (order_at a all b k r h)

pub ahead_all : (place b : ℕ) (all : List Span) → Between 0 all b → Searching place b all all
ahead_all place b all h = record { edge = 0; near = omega arith; apart = h; same = λ x l. refl }

pub Between-higher : (a : ℕ) (rs : List Span) (b b' : ℕ) → b ≤ b' → Between a rs b → Between a rs b'
Between-higher a [] b b' l h = omega (arith, h)
Between-higher a (r ∷ rs) b b' l h = (h.0, h.1, Between-higher (r.end + 1) rs b b' l h.2)

pub wider : (a b c : ℕ) (r : Ranges) → b ≤ c → AreRanges a b r → AreRanges 0 c r
wider a b c r l h = record { apart = Between-lower 0 a r.spans.items c (omega arith) (Between-higher a r.spans.items b c l h.apart); total = h.total }

pub octets_small : (a : ℕ) (rs : List Span) (b : ℕ) → Between a rs b → octets_in rs + a ≤ b
octets_small a [] b h = omega (arith, h)
octets_small a (r ∷ rs) b h = omega (arith, h.0, h.1, octets_small (r.end + 1) rs b h.2, sum_by-cons (λ q. q.end - q.start) r rs)

skip : (s e x : ℕ) (t : Bool) → e ≤ x → (nat_le s x && nat_lt x e || t) ≡ t
skip s e x t l = grind (arith, nat_tests)

under : (s e x : ℕ) (t : Bool) → x < s → (nat_le s x && nat_lt x e || t) ≡ t
under s e x t l = grind (arith, nat_tests)

one : (s e x : ℕ) (t : Bool) → s ≤ x → x < e → (nat_le s x && nat_lt x e || t) ≡ true
one s e x t l u = grind (arith, nat_tests)

module _ (place b : ℕ) (all rest : List Span) (r : Span) (h : Searching place b all (r ∷ rest)) where
  pub ahead_next : r.end + 1 ≤ place → Searching place b all rest
  ahead_next l = record {
    edge = r.end + 1;
    near = l;
    apart = h.apart.2;
    same = λ x m. h.same x (omega (arith, h.apart.0, h.apart.1)) ∙ skip r.start r.end x (among rest x) (omega arith);
  }

  pub free_before : (x : ℕ) → place ≤ x + 1 → x < r.start → among all x ≡ false
  free_before x l u = h.same x (omega (arith, h.near)) ∙ none_below r.start (r ∷ rest) b x (omega arith, h.apart.1, h.apart.2) u

  pub free_just_before : (x : ℕ) → x + 1 ≡ r.start → among all x ≡ false
  free_just_before x e = h.same x (omega (arith, h.apart.0)) ∙ none_below r.start (r ∷ rest) b x (omega arith, h.apart.1, h.apart.2) (omega arith)

  pub held_in : (x : ℕ) → r.start ≤ x → x < r.end → among all x ≡ true
  held_in x l u = h.same x (omega (arith, h.apart.0)) ∙ one r.start r.end x (among rest x) l u

  pub free_after : among all r.end ≡ false
  free_after = h.same r.end (omega (arith, h.apart.0, h.apart.1)) ∙ skip r.start r.end r.end (among rest r.end) (omega arith) ∙ none_below (r.end + 1) rest b r.end h.apart.2 (omega arith)

pub free_past : (place b : ℕ) (all rest : List Span) → rest ≡ [] → Searching place b all rest → (x : ℕ) → place ≤ x + 1 → among all x ≡ false
free_past place b all rest e h x l = h.same x (omega (arith, h.near)) ∙ ap (λ rs. among rs x) e

pub ahead_at : (place b : ℕ) (all v : List Span) (k : ℕ) (r : Span) → v ≡ all → k < length v → Searching place b all (drop k all) → Searching place b all (get_or v k r ∷ drop (k + 1) all)
ahead_at place b all v k r e l = subst (λ (rs : List Span). Searching place b all rs) (rest_in all v k r e l)

pub ahead_end : (place b : ℕ) (all v : List Span) (k : ℕ) → v ≡ all → length v ≤ k → Searching place b all (drop k all) → (x : ℕ) → place ≤ x + 1 → among all x ≡ false
ahead_end place b all v k e l h = free_past place b all (drop k all) (past_in all v k e l) h

-- the last octet so far
module _ (from to end : ℕ) (all rest : List Span) (r : Span) (h : SearchingLast from to end all (r ∷ rest)) where
  pub last_left : to ≤ r.start → SearchingLast from to end all rest
  last_left l = record {
    low = h.low;
    high = h.high;
    after = λ x m u. h.after x m u ∙ under r.start r.end x (among rest x) (omega arith);
    found = h.found;
  }

  pub last_taken : r.start < to → r.start < r.end → SearchingLast from to (max end (min r.end to)) all rest
  last_taken l o = record {
    low = omega (arith, h.low);
    high = omega (arith, h.high);
    after = λ x m u. h.after x (omega arith) u ∙ skip r.start r.end x (among rest x) (omega arith);
    found = λ f. elim (nat_lt end (min r.end to)) as (λ t. nat_lt end (min r.end to) ≡ t → among all (max end (min r.end to) - 1) ≡ true) [
      | true ↦ λ t. let m = lt end (min r.end to) t in h.after (max end (min r.end to) - 1) (omega arith) (omega arith) ∙ one r.start r.end _ (among rest _) (omega arith) (omega arith)
      | false ↦ λ t. let m = ge end (min r.end to) t in let same : max end (min r.end to) ≡ end = omega arith in ap (λ (n : ℕ). among all (n - 1)) same ∙ h.found (omega arith)
    ] refl;
  }

pub any-some : (p : ℕ → Bool) (a y b n : ℕ) → a + n ≡ y → y < b → p y ≡ true → list_any p (interval a b) ≡ true
any-some p a y b zero e u h = let same : a ≡ y = omega arith in any-first p a b (omega arith) ∙ ap (λ v. v || list_any p (interval (a + 1) b)) (ap p same ∙ h)
any-some p a y b (suc n) e u h = any-first p a b (omega arith) ∙ ap (λ v. p a || v) (any-some p (a + 1) y b n (omega arith) u h) ∙ or_true (p a)
  where
    or_true : (v : Bool) → (v || true) ≡ true
    or_true true = refl
    or_true false = refl

-- what is kept of ranges from start on
cut : (start a b : ℕ) (rs : List Span) → Between a rs b → start < b → Between start (raised start (ranges_after start rs)) b
cut start a b [] h u = omega arith
cut start a b (r ∷ rs) h u =
    elim (nat_lt start r.end) as (λ t. nat_lt start r.end ≡ t → Between start (raised start (cond t (r ∷ rs) (ranges_after start rs))) b) [
      | true ↦ λ t. (omega arith, inside t, h.2)
      | false ↦ λ t. cut start (r.end + 1) b rs h.2 u
    ] refl
  where
    inside : nat_lt start r.end ≡ true → max r.start start < r.end
    inside t = grind (arith, nat_tests, h.1)

pub cut_ranges : (start a b : ℕ) (rs : List Span) → Between a rs b → start < b → Between start (raised start (ranges_after start rs)) b
cut_ranges start a b rs h u = cut start a b rs h u

raised_test : (s e start x : ℕ) (t : Bool) → start ≤ x → (nat_le (max s start) x && nat_lt x e || t) ≡ (nat_le s x && nat_lt x e || t)
raised_test s e start x t l = grind (arith, nat_tests)

passed_test : (s e start x : ℕ) (t : Bool) → start ≤ x → nat_lt start e ≡ false → t ≡ (nat_le s x && nat_lt x e || t)
passed_test s e start x t l f = grind (arith, nat_tests)

pub cut_same : (start : ℕ) (rs : List Span) (x : ℕ) → start ≤ x → among (raised start (ranges_after start rs)) x ≡ among rs x
cut_same start [] x l = refl
cut_same start (r ∷ rs) x l =
    elim (nat_lt start r.end) as (λ t. nat_lt start r.end ≡ t → among (raised start (cond t (r ∷ rs) (ranges_after start rs))) x ≡ among (r ∷ rs) x) [
      | true ↦ λ t. raised_test r.start r.end start x (among rs x) l
      | false ↦ λ t. cut_same start rs x l ∙ passed_test r.start r.end start x (among rs x) l t
    ] refl

bounded : (a b s e x : ℕ) (v : Bool) → a ≤ s → e ≤ b → (v ≡ true → (a ≤ x) × (x < b)) → (nat_le s x && nat_lt x e || v) ≡ true → (a ≤ x) × (x < b)
bounded a b s e x true l u h k = h refl
bounded a b s e x false l u h k = (grind (arith, nat_tests), grind (arith, nat_tests))

-- where octets of ranges lie
pub among_bounds : (a : ℕ) (rs : List Span) (b x : ℕ) → Between a rs (b + 1) → among rs x ≡ true → (a ≤ x) × (x < b)
among_bounds a [] b x h k = absurd cc
among_bounds a (r ∷ rs) b x h k =
    bounded a b r.start r.end x (among rs x) h.0 (omega (arith, Between-end (r.end + 1) rs (b + 1) h.2))
    (λ v. let i = among_bounds (r.end + 1) rs b x h.2 v in (omega (arith, i.0, h.0, h.1), i.1)) k

within_bounds : (a b x : ℕ) (v : Bool) → (v ≡ true → (a ≤ x) × (x < b)) → (nat_le a x && (nat_lt x b && v)) ≡ v
within_bounds a b x true h = let k = h refl in let i = k.0 in let j = k.1 in grind (arith, nat_tests)
within_bounds a b x false h = grind (arith, nat_tests)

-- ranges of all SACKed octets are their runs
pub are_runs : (r : Ranges) (s : BoardView) → s.sacked ≡ octets_where (in_ranges r) s.una s.top → AreRanges s.una (s.top + 1) r → AreRuns s r.spans.items
are_runs r s shown h = record {
  apart = h.apart;
  octets = λ x. ap (λ k. contains k x) shown ∙ contains-octets_where (in_ranges r) s.una s.top x ∙ within_bounds s.una s.top x (in_ranges r x) (among_bounds s.una r.spans.items s.top x h.apart);
}

-- nothing lies after the end
pub held_past : (a b : ℕ) (r : Ranges) (x : ℕ) → AreRanges a (b + 1) r → b ≤ x → in_ranges r x ≡ false
held_past a b r x h l =
    elim (in_ranges r x) as (λ t. in_ranges r x ≡ t → in_ranges r x ≡ false) [
      | true ↦ λ t. let i = among_bounds a r.spans.items b x h.apart t in absurd (omega (arith, i.1))
      | false ↦ λ t. t
    ] refl

pub longer : (a b c : ℕ) (r : Ranges) → b ≤ c → AreRanges a b r → AreRanges a c r
longer a b c r l h = record { apart = Between-higher a r.spans.items b c l h.apart; total = h.total }
