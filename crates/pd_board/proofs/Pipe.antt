-- The pipe over ranges.
use Rattle.std.proofs.Common.{◌≡◌, ℕ, zero, suc, ◌+◌, ◌-◌, ◌*◌, ◌<◌, ◌≤◌, min, max, List, [], ◌∷◌, length, get_or, drop, Bool, true, false, cond, not, ◌&&◌, ◌||◌, refl, sym, ap, ◌∙◌, arith, subst}
use Rattle.std.specs.Prelude.{nat_le, nat_lt, nat_eq}
use Rattle.std.specs.List.{sum_by, count_by}
use Rattle.std.proofs.lemmas.List.Sums.{sum_by-cons}
use Rattle.std.proofs.lemmas.Bool.Decides.{nat_tests}
use Rattle.pd_seg.specs.declared.sack_spans.Span.{Span}
use Rattle.pd_board.specs.Loss.{shows_loss}
use Rattle.pd_board.specs.Octets.{size_where}
use Rattle.pd_board.specs.Predicates.{first_of, lost_from, pipe_from}
use Rattle.pd_board.proofs.Sets.{size_where-first, size_where-none, size_where-same, size_where-skip, size_where-le}
use Rattle.pd_board.specs.Board.{covers}
use Rattle.pd_board.specs.Runs.{among, Between}
use Rattle.pd_board.specs.Ranges.{octets_in, gap, pipe_over}
use Rattle.pd_board.proofs.Searching.{rest_in}
use Rattle.pd_board.proofs.Counted.{Between-lower, Between-end, none_below, octets_of, runs_of}

-- from a place at or before all of them, all of the ranges count
pub all_octets : (f : ℕ) (rs : List Span) (b : ℕ) → Between f rs b → sum_by (λ r. r.end - max r.start f) rs ≡ octets_in rs
all_octets f [] b h = refl
all_octets f (r ∷ rs) b h =
    sum_by-cons (λ q. q.end - max q.start f) r rs
    ∙ (λ i. (omega_here h.0) i + all_octets f rs b (Between-lower f (r.end + 1) rs b (omega (arith, h.0, h.1)) h.2) i)
    ∙ sym (sum_by-cons (λ q. q.end - q.start) r rs)
  where
    omega_here : f ≤ r.start → r.end - max r.start f ≡ r.end - r.start
    omega_here l = omega arith

all_runs : (f : ℕ) (rs : List Span) (b : ℕ) → Between f rs b → count_by (λ r. nat_le f r.start) rs ≡ length rs
all_runs f [] b h = refl
all_runs f (r ∷ rs) b h =
    let one : cond {A = ℕ} (nat_le f r.start) 1 0 ≡ 1 = here h.0 in
    let rest : count_by (λ q. nat_le f q.start) rs ≡ length rs = all_runs f rs b (Between-lower f (r.end + 1) rs b (omega (arith, h.0, h.1)) h.2) in
    sum_by-cons (λ q. cond (nat_le f q.start) 1 0) r rs ∙ omega (arith, one, rest)
  where
    here : f ≤ r.start → cond {A = ℕ} (nat_le f r.start) 1 0 ≡ 1
    here l = grind (arith, nat_tests)

module _ (p : ℕ → Bool) (una top smss high : ℕ) where
  pipe_first : (j : ℕ) → j < top → pipe_from p una top smss high j ≡ (cond (not (p j) && not (lost_from p una top smss (j + 1))) 1 0 + cond (not (p j) && nat_lt j high) 1 0) + pipe_from p una top smss high (j + 1)
  pipe_first j u =
      let f1 = size_where-first (λ x. not (p x) && not (lost_from p una top smss (x + 1))) j top u in
      let f2 = size_where-first (λ x. not (p x) && nat_lt x high) j top u in
      omega (arith, f1, f2)

  -- octets that are held add nothing
  pub held : (s e n : ℕ) → s + n ≡ e → e ≤ top → ((x : ℕ) → s ≤ x → x < e → p x ≡ true) → pipe_from p una top smss high s ≡ pipe_from p una top smss high e
  held s e zero d u h = ap (λ k. pipe_from p una top smss high k) (omega arith)
  held s e (suc n) d u h =
      let yes : p s ≡ true = h s (omega arith) (omega arith) in
      pipe_first s (omega arith) ∙ ap (λ b. (cond (not b && not (lost_from p una top smss (s + 1))) 1 0 + cond (not b && nat_lt s high) 1 0) + pipe_from p una top smss high (s + 1)) yes
      ∙ omega arith ∙ held (s + 1) e n (omega arith) u (λ x l m. h x (omega arith) m)

  step_gap : (i s n v : ℕ) (l pi : Bool) → i < s → pi ≡ false → v ≡ cond l 0 (s - (i + 1)) + (min high s - (i + 1)) + n
      → (cond (not pi && not l) 1 0 + cond (not pi && nat_lt i high) 1 0) + v ≡ (cond l 0 (s - i) + (min high s - i)) + n
  step_gap i s n v l pi d e h = grind (arith, nat_tests)

  -- a gap
  pub free : (i s n : ℕ) → i + n ≡ s → s ≤ top → ((x : ℕ) → i ≤ x → x < s → p x ≡ false) → pipe_from p una top smss high i ≡ (cond (lost_from p una top smss s) 0 (s - i) + (min high s - i)) + pipe_from p una top smss high s
  free i s zero d u h =
      let e : i ≡ s = omega arith in
      ap (λ k. pipe_from p una top smss high k) e ∙ nothing (lost_from p una top smss s) (pipe_from p una top smss high s) e
    where
      nothing : (l : Bool) (v : ℕ) → i ≡ s → v ≡ (cond l 0 (s - i) + (min high s - i)) + v
      nothing true v e = omega arith
      nothing false v e = omega arith
  free i s (suc n) d u h =
      let same : lost_from p una top smss (i + 1) ≡ lost_from p una top smss s =
      λ k. shows_loss smss
      (size_where-skip (first_of p una) (i + 1) s top n (omega arith) u (λ x l m. ap (λ b. b && (nat_eq x una || not (p (x - 1)))) (h x (omega arith) m)) k)
      (size_where-skip p (i + 1) s top n (omega arith) u (λ x l m. h x (omega arith) m) k) in
      pipe_first i (omega arith)
      ∙ ap (λ b. (cond (not (p i) && not b) 1 0 + cond (not (p i) && nat_lt i high) 1 0) + pipe_from p una top smss high (i + 1)) same
      ∙ step_gap i s (pipe_from p una top smss high s) (pipe_from p una top smss high (i + 1)) (lost_from p una top smss s) (p i) (omega arith) (h i (omega arith) (omega arith))
      (free (i + 1) s n (omega arith) u (λ x l m. h x (omega arith) m))

first_same : (una x i : ℕ) (px ix pb ib : Bool) → px ≡ ix → (ix ≡ true → una < x → i ≤ x - 1) → (i ≤ x - 1 → pb ≡ ib) → una ≤ x → (px && (nat_eq x una || not pb)) ≡ (ix && (nat_eq x una || not ib))
first_same una x i px ix pb ib e l h u = grind (arith, nat_tests)

-- what lies from the first of some ranges on
pub lost_over : (p : ℕ → Bool) (una top smss i : ℕ) (r : Span) (rs : List Span) → una ≤ i → Between i (r ∷ rs) (top + 1) → ((y : ℕ) → i ≤ y → p y ≡ among (r ∷ rs) y)
    → ((x : ℕ) → among (r ∷ rs) x ≡ true → una < x → i ≤ x - 1) → lost_from p una top smss r.start ≡ shows_loss smss (length rs + 1) (r.end - r.start + octets_in rs)
lost_over p una top smss i r rs l h same edge =
    let b : Between r.start (r ∷ rs) (top + 1) = (omega arith, h.1, h.2) in
    let octets : size_where p r.start top ≡ r.end - r.start + octets_in rs =
    size_where-same p (among (r ∷ rs)) r.start top (λ x m u. same x (omega (arith, h.0))) ∙ octets_of r.start (r ∷ rs) r.start top b ∙ all_octets r.start (r ∷ rs) (top + 1) b ∙ sum_by-cons (λ q. q.end - q.start) r rs in
    let runs : size_where (first_of p una) r.start top ≡ length rs + 1 =
    size_where-same (first_of p una) (first_of (among (r ∷ rs)) una) r.start top (λ x m u. first_same una x i _ _ (p (x - 1)) (among (r ∷ rs) (x - 1)) (same x (omega (arith, h.0))) (edge x) (same (x - 1)) (omega (arith, h.0)))
    ∙ runs_of una r.start (r ∷ rs) r.start top (omega (arith, h.0)) (omega (arith, h.0)) b ∙ all_runs r.start (r ∷ rs) (top + 1) b ∙ omega arith in
    λ k. shows_loss smss (runs k) (octets k)

-- the pipe over ranges
pub way_is : (p : ℕ → Bool) (una top smss high i : ℕ) (rs : List Span) → una ≤ i → Between i rs (top + 1) → i ≤ top → ((y : ℕ) → i ≤ y → p y ≡ among rs y)
    → ((x : ℕ) → among rs x ≡ true → una < x → i ≤ x - 1) → pipe_from p una top smss high i ≡ pipe_over smss high top i rs
way_is p una top smss high i [] l h t same edge =
    let none = size_where-none (λ x. not (p x) && not (lost_from p una top smss (x + 1))) top top (omega arith) in
    let none2 = size_where-none (λ x. not (p x) && nat_lt x high) top top (omega arith) in
    let not_lost : lost_from p una top smss top ≡ shows_loss smss 0 0 =
    λ k. shows_loss smss (size_where-none (first_of p una) top top (omega arith) k) (size_where-none p top top (omega arith) k) in
    free p una top smss high i top (top - i) (omega arith) (omega arith) (λ x m u. same x m)
    ∙ ap (λ b. (cond b 0 (top - i) + (min high top - i)) + pipe_from p una top smss high top) not_lost
    ∙ omega (arith, none, none2)
way_is p una top smss high i (r ∷ rs) l h t same edge =
    let b : Between r.start (r ∷ rs) (top + 1) = (omega arith, h.1, h.2) in
    let last : r.end + 1 ≤ top + 1 = Between-end (r.end + 1) rs (top + 1) h.2 in
    free p una top smss high i r.start (r.start - i) (omega (arith, h.0)) (omega (arith, h.1)) (λ x m u. same x m ∙ none_below r.start (r ∷ rs) (top + 1) x b u)
    ∙ ap (λ l. (cond l 0 (r.start - i) + (min high r.start - i)) + pipe_from p una top smss high r.start) (lost_over p una top smss i r rs l h same edge)
    ∙ ap (λ v. gap smss high (length rs + 1) (r.end - r.start + octets_in rs) i r.start + v)
    (held p una top smss high r.start r.end (r.end - r.start) (omega (arith, h.1)) (omega arith) (λ x m u. same x (omega (arith, h.0)) ∙ yes x m u)
    ∙ way_is p una top smss high r.end rs (omega (arith, h.0, h.1)) (Between-lower r.end (r.end + 1) rs (top + 1) (omega arith) h.2) (omega arith)
    (λ y m. same y (omega (arith, h.0, h.1)) ∙ past y m) (λ x e m. after_end x e))
  where
    yes : (x : ℕ) → r.start ≤ x → x < r.end → (covers r x || among rs x) ≡ true
    yes x m u = grind (arith, nat_tests)

    past : (y : ℕ) → r.end ≤ y → (covers r y || among rs y) ≡ among rs y
    past y m = grind (arith, nat_tests)

    after_end : (x : ℕ) → among rs x ≡ true → r.end ≤ x - 1
    after_end x e = far (none_below (r.end + 1) rs (top + 1) x h.2) e
      where
        far : (x < r.end + 1 → among rs x ≡ false) → among rs x ≡ true → r.end ≤ x - 1
        far f e = grind (arith, nat_tests)

pub way_small : (una top smss high : ℕ) (rs : List Span) → Between una rs (top + 1) → una ≤ top → pipe_over smss high top una rs ≤ 2 * top
way_small una top smss high rs h l =
    let p : ℕ → Bool = among rs in
    let e = way_is p una top smss high una rs (omega arith) h l (λ y m. refl) (λ x m u. omega arith) in
    omega (arith, e, size_where-le (λ x. not (p x) && not (lost_from p una top smss (x + 1))) una top, size_where-le (λ x. not (p x) && nat_lt x high) una top)

-- what is known of the next range and what follows it
pub record Next (n o place m top smss h W : ℕ) (r : Span) (d : List Span) : Type 0 where
  pub runs : n ≡ length d + 1
  pub octets : o ≡ r.end - r.start + octets_in d
  pub low : place ≤ r.start
  pub order : r.start < r.end
  pub apart : Between (r.end + 1) d (top + 1)
  pub high : r.end ≤ top
  pub pipe : m + ((cond (shows_loss smss n o) 0 (r.start - place) + (min h r.start - place)) + pipe_over smss h top r.end d) ≡ W

next_of : (runs octets place pipe top smss high W : ℕ) (r : Span) (d : List Span) → runs ≡ length (r ∷ d) → octets ≡ octets_in (r ∷ d) → Between place (r ∷ d) (top + 1) → pipe + pipe_over smss high top place (r ∷ d) ≡ W → Next runs octets place pipe top smss high W r d
next_of runs octets place pipe top smss high W r d e f h w =
    let f' : octets ≡ r.end - r.start + octets_in d = f ∙ sum_by-cons (λ q. q.end - q.start) r d in
    let e' : runs ≡ length d + 1 = omega (arith, e) in
    record {
      runs = e';
      octets = f';
      low = h.0;
      order = h.1;
      apart = h.2;
      high = omega (arith, Between-end (r.end + 1) d (top + 1) h.2);
      pipe = (λ k. pipe + ((cond (shows_loss smss (e' k) (f' k)) 0 (r.start - place) + (min high r.start - place)) + pipe_over smss high top r.end d)) ∙ w;
    }

pub next_range : (all v : List Span) (k : ℕ) (none : Span) (runs octets place pipe top smss high W : ℕ) → v ≡ all → k < length v → runs ≡ length (drop k all) → octets ≡ octets_in (drop k all) → Between place (drop k all) (top + 1) → pipe + pipe_over smss high top place (drop k all) ≡ W → Next runs octets place pipe top smss high W (get_or v k none) (drop (k + 1) all)
next_range all v k none runs octets place pipe top smss high W same l =
    subst (λ (s : List Span). runs ≡ length s → octets ≡ octets_in s → Between place s (top + 1) → pipe + pipe_over smss high top place s ≡ W → Next runs octets place pipe top smss high W (get_or v k none) (drop (k + 1) all))
    (sym (rest_in all v k none same l)) (next_of runs octets place pipe top smss high W (get_or v k none) (drop (k + 1) all))

last_gap : (smss high i top : ℕ) → gap smss high 0 0 i top ≡ (top - i) + (min high top - i)
last_gap smss high i top = grind (arith, nat_tests)

pub last_range : (rest : List Span) (place pipe una top smss high : ℕ) (all : List Span) → rest ≡ [] → pipe + pipe_over smss high top place rest ≡ pipe_over smss high top una all → Between una all (top + 1) → una ≤ top
    → (pipe + ((top - place) + (min high top - place)) ≡ pipe_from (among all) una top smss high una) × (pipe + ((top - place) + (min high top - place)) ≤ 2 * top)
last_range rest place pipe una top smss high all e h b l =
    let w : pipe + ((top - place) + (min high top - place)) ≡ pipe_over smss high top una all =
    ap (λ v. pipe + v) (sym (last_gap smss high place top) ∙ ap (pipe_over smss high top place) (sym e)) ∙ h in
    (w ∙ sym (way_is (among all) una top smss high una all (omega arith) b l (λ y m. refl) (λ x m u. omega arith)), omega (arith, w, way_small una top smss high all b l))
