-- The least and the greatest octet that passes a test.
use Rattle.std.proofs.Common.{◌≡◌, ℕ, zero, suc, ◌+◌, ◌-◌, ◌<◌, ◌≤◌, [], ◌∷◌, ◌++◌, Option, None, Some, Bool, true, false, cond, ◌&&◌, refl, sym, ap, ◌∙◌, reverse, arith}
use Rattle.std.specs.Prelude.{nat_lt}
use Rattle.std.specs.List.{range_with_len, find}
use Rattle.std.proofs.lemmas.List.{reverse-append}
use Rattle.pd_board.specs.Octets.{least_where, greatest_where, after}
use Rattle.pd_board.proofs.Sets.{lt, ge}

pub least_step : (p : ℕ → Bool) (a b : ℕ) → a < b → least_where p a b ≡ cond (p a) (Some a) (least_where p (a + 1) b)
least_step p a b h = let e : b - a ≡ suc (b - (a + 1)) = omega arith in rw e refl

pub least_empty : (p : ℕ → Bool) (a b : ℕ) → b ≤ a → least_where p a b ≡ None
least_empty p a b h = let e : b - a ≡ 0 = omega arith in rw e refl

pub least-none : (p : ℕ → Bool) (a b n : ℕ) → b ≤ a + n → ((x : ℕ) → a ≤ x → x < b → p x ≡ false) → least_where p a b ≡ None
least-none p a b zero u h = least_empty p a b (omega arith)
least-none p a b (suc n) u h =
    elim (nat_lt a b) as (λ t. nat_lt a b ≡ t → least_where p a b ≡ None) [
      | true ↦ λ t. least_step p a b (lt a b t) ∙ ap (λ c. cond c (Some a) (least_where p (a + 1) b)) (h a (omega arith) (lt a b t)) ∙ least-none p (a + 1) b n (omega arith) (λ x l m. h x (omega arith) m)
      | false ↦ λ t. least_empty p a b (ge a b t)
    ] refl

pub least-is : (p : ℕ → Bool) (a b r n : ℕ) → a + n ≡ r → r < b → ((x : ℕ) → a ≤ x → x < r → p x ≡ false) → p r ≡ true → least_where p a b ≡ Some r
least-is p a b r zero e u h y =
    let e' : a ≡ r = omega arith in
    least_step p a b (omega arith) ∙ ap (λ c. cond c (Some a) (least_where p (a + 1) b)) (ap p e' ∙ y) ∙ ap Some e'
least-is p a b r (suc n) e u h y =
    least_step p a b (omega arith) ∙ ap (λ c. cond c (Some a) (least_where p (a + 1) b)) (h a (omega arith) (omega arith))
    ∙ least-is p (a + 1) b r n (omega arith) u (λ x l m. h x (omega arith) m) y

-- the least of those that pass two tests, where the second holds below where it holds
abbrev pub only_if : (ℕ → Bool) → Option ℕ → Option ℕ
only_if q None = None
only_if q (Some x) = cond (q x) (Some x) None

false_and : (a b : Bool) → a ≡ false → (a && b) ≡ false
false_and a b e = rw e refl

and_false : (a b : Bool) → b ≡ false → (a && b) ≡ false
and_false true b e = e
and_false false b e = refl

true_and : (a b : Bool) → a ≡ true → (a && b) ≡ b
true_and a b e = rw e refl

not_up : (x y : Bool) → (y ≡ true → x ≡ true) → x ≡ false → y ≡ false
not_up true true h e = e
not_up true false h e = refl
not_up false true h e = sym (h refl)
not_up false false h e = refl

module _ (p q : ℕ → Bool) (down : (x y : ℕ) → x ≤ y → q y ≡ true → q x ≡ true) where
  pub least-both : (a n : ℕ) → find (λ x. p x && q x) (range_with_len a n) ≡ only_if q (find p (range_with_len a n))
  least-both a zero = refl
  least-both a (suc n) =
      elim (p a) as (λ t. p a ≡ t → cond (p a && q a) (Some a) rest ≡ only_if q (cond (p a) (Some a) others)) [
        | true ↦ λ t. ap (λ c. cond c (Some a) rest) (true_and (p a) (q a) t) ∙ here t ∙ ap (λ c. only_if q (cond c (Some a) others)) (sym t)
        | false ↦ λ t. ap (λ c. cond c (Some a) rest) (false_and (p a) (q a) t) ∙ least-both (a + 1) n ∙ ap (λ c. only_if q (cond c (Some a) others)) (sym t)
      ] refl
    where
      rest : Option ℕ
      rest = find (λ x. p x && q x) (range_with_len (a + 1) n)

      others : Option ℕ
      others = find p (range_with_len (a + 1) n)

      later : q a ≡ false → rest ≡ None
      later e =
          let same : a + 1 + n - (a + 1) ≡ n = omega arith in
          sym (ap (λ k. find (λ x. p x && q x) (range_with_len (a + 1) k)) same)
          ∙ least-none (λ x. p x && q x) (a + 1) (a + 1 + n) n (omega arith) (λ x l u. and_false (p x) (q x) (not_up (q a) (q x) (down a x (omega arith)) e))

      here : p a ≡ true → cond (q a) (Some a) rest ≡ cond (q a) (Some a) None
      here t = elim (q a) as (λ u. q a ≡ u → cond u (Some a) rest ≡ cond u (Some a) None) [ true ↦ λ u. refl | false ↦ λ u. later u ] refl

snoc : (a n : ℕ) → range_with_len a (suc n) ≡ range_with_len a n ++ (a + n) ∷ []
snoc a zero = ap (λ k. k ∷ []) (omega arith)
snoc a (suc n) = let e : a + 1 + n ≡ a + suc n = omega arith in ap (λ xs. a ∷ xs) (snoc (a + 1) n ∙ ap (λ k. range_with_len (a + 1) n ++ k ∷ []) e)

pub greatest_step : (p : ℕ → Bool) (a b : ℕ) → a ≤ b → greatest_where p a (b + 1) ≡ cond (p b) (Some b) (greatest_where p a b)
greatest_step p a b h =
    let e : b + 1 - a ≡ suc (b - a) = omega arith in
    let f : a + (b - a) ≡ b = omega arith in
    ap (λ n. find p (reverse (range_with_len a n))) e
    ∙ ap (λ xs. find p (reverse xs)) (snoc a (b - a))
    ∙ ap (find p) (reverse-append (range_with_len a (b - a)) ((a + (b - a)) ∷ []))
    ∙ ap (λ k. cond (p k) (Some k) (greatest_where p a b)) f

pub greatest_empty : (p : ℕ → Bool) (a b : ℕ) → b ≤ a → greatest_where p a b ≡ None
greatest_empty p a b h = let e : b - a ≡ 0 = omega arith in rw e refl

-- places after which nothing passes may be left out
pub greatest-below : (p : ℕ → Bool) (a r n : ℕ) → a ≤ r → ((x : ℕ) → r ≤ x → x < r + n → p x ≡ false) → greatest_where p a (r + n) ≡ greatest_where p a r
greatest-below p a r zero l h = ap (greatest_where p a) (omega arith)
greatest-below p a r (suc n) l h =
    let e : r + suc n ≡ r + n + 1 = omega arith in
    ap (greatest_where p a) e ∙ greatest_step p a (r + n) (omega arith)
    ∙ ap (λ c. cond c (Some (r + n)) (greatest_where p a (r + n))) (h (r + n) (omega arith) (omega arith))
    ∙ greatest-below p a r n l (λ x m u. h x m (omega arith))

pub greatest-is : (p : ℕ → Bool) (a r b : ℕ) → a ≤ r → r < b → ((x : ℕ) → r + 1 ≤ x → x < b → p x ≡ false) → p r ≡ true → greatest_where p a b ≡ Some r
greatest-is p a r b l u h y =
    let e : b ≡ r + 1 + (b - (r + 1)) = omega arith in
    ap (greatest_where p a) e ∙ greatest-below p a (r + 1) (b - (r + 1)) (omega arith) (λ x m v. h x m (omega arith))
    ∙ greatest_step p a r l ∙ ap (λ c. cond c (Some r) (greatest_where p a r)) y

pub greatest-none : (p : ℕ → Bool) (a b : ℕ) → a ≤ b → ((x : ℕ) → a ≤ x → x < b → p x ≡ false) → greatest_where p a b ≡ None
greatest-none p a b l h =
    let e : b ≡ a + (b - a) = omega arith in
    ap (greatest_where p a) e ∙ greatest-below p a a (b - a) (omega arith) (λ x m u. h x m (omega arith)) ∙ greatest_empty p a a (omega arith)

-- the greatest lies below the bound
pub greatest-under : (p : ℕ → Bool) (a n : ℕ) → after (greatest_where p a (a + n)) ≤ a + n
greatest-under p a zero = let e = ap after (greatest_empty p a (a + 0) (omega arith)) in omega (arith, e)
greatest-under p a (suc n) =
    let e : a + suc n ≡ a + n + 1 = omega arith in
    let step = ap after (ap (greatest_where p a) e ∙ greatest_step p a (a + n) (omega arith)) in
    let ih = greatest-under p a n in
    elim (p (a + n)) as (λ t. p (a + n) ≡ t → after (greatest_where p a (a + suc n)) ≤ a + suc n) [
      | true ↦ λ t. let f = ap (λ c. after (cond c (Some (a + n)) (greatest_where p a (a + n)))) t in omega (arith, step, f)
      | false ↦ λ t. let f = ap (λ c. after (cond c (Some (a + n)) (greatest_where p a (a + n)))) t in omega (arith, step, f, ih)
    ] refl

-- a test that agrees on the range has the same greatest
pub greatest-same : (p q : ℕ → Bool) (a n : ℕ) → ((x : ℕ) → a ≤ x → x < a + n → p x ≡ q x) → greatest_where p a (a + n) ≡ greatest_where q a (a + n)
greatest-same p q a zero h = greatest_empty p a (a + 0) (omega arith) ∙ sym (greatest_empty q a (a + 0) (omega arith))
greatest-same p q a (suc n) h =
    let e : a + suc n ≡ a + n + 1 = omega arith in
    let last : p (a + n) ≡ q (a + n) = h (a + n) (omega arith) (omega arith) in
    let rest : greatest_where p a (a + n) ≡ greatest_where q a (a + n) = greatest-same p q a n (λ x l u. h x l (omega arith)) in
    ap (greatest_where p a) e ∙ greatest_step p a (a + n) (omega arith)
    ∙ (λ i. cond (last i) (Some (a + n)) (rest i))
    ∙ sym (greatest_step q a (a + n) (omega arith)) ∙ sym (ap (greatest_where q a) e)

-- one that passes lies below the number after the greatest
pub greatest-reaches : (p : ℕ → Bool) (a n x : ℕ) → a ≤ x → x < a + n → p x ≡ true → x < after (greatest_where p a (a + n))
greatest-reaches p a zero x l u y = absurd (omega arith)
greatest-reaches p a (suc n) x l u y =
    let e : a + suc n ≡ a + n + 1 = omega arith in
    let step = ap after (ap (greatest_where p a) e ∙ greatest_step p a (a + n) (omega arith)) in
    elim (p (a + n)) as (λ t. p (a + n) ≡ t → x < after (greatest_where p a (a + suc n))) [
      | true ↦ λ t. let f = ap (λ c. after (cond c (Some (a + n)) (greatest_where p a (a + n)))) t in omega (arith, step, f)
      | false ↦ λ t.
          let f = ap (λ c. after (cond c (Some (a + n)) (greatest_where p a (a + n)))) t in
          let apart : x ≡ a + n → ⊥ = λ same. no (sym y ∙ ap p same ∙ t) in
          let ih = greatest-reaches p a n x l (below x (a + n) (omega arith) apart) y in
          omega (arith, step, f, ih)
    ] refl
  where
    no : true ≡ false → ⊥
    no bad = absurd cc

    below : (x m : ℕ) → x ≤ m → (x ≡ m → ⊥) → x < m
    below x m h apart = elim (nat_lt x m) as (λ t. nat_lt x m ≡ t → x < m) [
      | true ↦ λ t. lt x m t
      | false ↦ λ t. absurd (apart (let k = ge x m t in omega arith))
    ] refl

-- the greatest passes, in the range
pub greatest-passes : (p : ℕ → Bool) (a n m : ℕ) → after (greatest_where p a (a + n)) ≡ m + 1 → (p m ≡ true) × (a ≤ m) × (m < a + n)
greatest-passes p a zero m h = let e = ap after (greatest_empty p a (a + 0) (omega arith)) in absurd (omega (arith, e, h))
greatest-passes p a (suc n) m h =
    let e : a + suc n ≡ a + n + 1 = omega arith in
    let step = ap after (ap (greatest_where p a) e ∙ greatest_step p a (a + n) (omega arith)) in
    elim (p (a + n)) as (λ t. p (a + n) ≡ t → (p m ≡ true) × (a ≤ m) × (m < a + suc n)) [
      | true ↦ λ t.
          let f = ap (λ c. after (cond c (Some (a + n)) (greatest_where p a (a + n)))) t in
          let same : m ≡ a + n = omega (arith, step, f, h) in
          (ap p same ∙ t, omega arith, omega arith)
      | false ↦ λ t.
          let f = ap (λ c. after (cond c (Some (a + n)) (greatest_where p a (a + n)))) t in
          let ih = greatest-passes p a n m (sym f ∙ sym step ∙ h) in
          (ih.0, ih.1, omega (arith, ih.2))
    ] refl
