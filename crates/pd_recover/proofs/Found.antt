-- Octet numbers that are found: the least and the greatest that passes a test.
use Rattle.std.proofs.Common.{◌≡◌, ℕ, zero, suc, ◌+◌, ◌-◌, ◌<◌, ◌≤◌, [], ◌∷◌, ◌++◌, Some, None, Bool, true, false, cond, reverse, refl, sym, subst, ap, ◌∙◌, arith}
use Rattle.std.specs.Prelude.{unwrap_or, nat_eq}
use Rattle.std.specs.List.{range_with_len, find}
use Rattle.std.proofs.lemmas.Bool.Decides.{nat_tests}
use Rattle.std.proofs.lemmas.List.{reverse-append}
use Rattle.pd_board.specs.Octets.{least_where, greatest_where}

the_value : (x y : ℕ) → Some x ≡ Some y → x ≡ y
the_value x y e = ap (λ o. unwrap_or o 0) e

nothing : (x : ℕ) → None ≡ Some x → ⊥
nothing x e = cc

something : (x : ℕ) → Some x ≡ None → ⊥
something x e = cc

same : (a y : ℕ) → nat_eq a y ≡ true → y ≡ a
same a y t = grind (arith, nat_tests)

other : (a y : ℕ) → nat_eq a y ≡ false → a ≡ y → ⊥
other a y t e = grind (arith, nat_tests)

-- what holds at a number and at all others holds at all
pub split : (P : ℕ → Type 0) (a y : ℕ) → P a → ((a ≡ y → ⊥) → P y) → P y
split P a y here elsewhere =
    elim (nat_eq a y) as (λ b. nat_eq a y ≡ b → P y) [
      | true ↦ λ t. subst P (sym (same a y t)) here
      | false ↦ λ t. elsewhere (other a y t)
    ] refl

-- the least that passes lies in the interval, and none below it passes
pub record IsLeast (p : ℕ → Bool) (a b x : ℕ) : Type 0 where
  pub from : a ≤ x
  pub to : x < b
  pub passes : p x ≡ true
  pub first : (y : ℕ) → a ≤ y → y < x → p y ≡ false

-- the greatest that passes lies in the interval, and none above it passes
pub record IsGreatest (p : ℕ → Bool) (a b x : ℕ) : Type 0 where
  pub from : a ≤ x
  pub to : x < b
  pub passes : p x ≡ true
  pub last : (y : ℕ) → x < y → y < b → p y ≡ false

-- none passes
abbrev pub NonePasses : (ℕ → Bool) → ℕ → ℕ → Type 0
NonePasses p a b = (y : ℕ) → a ≤ y → y < b → p y ≡ false

least_here : (p : ℕ → Bool) (a n x : ℕ) → a ≡ x → p a ≡ true → IsLeast p a (a + suc n) x
least_here p a n x e holds = record {
  from = omega (arith, e);
  to = omega (arith, e);
  passes = ap p (sym e) ∙ holds;
  first = λ y l u. absurd (omega (arith, e, l, u));
}

least_later : (p : ℕ → Bool) (a n x : ℕ) → p a ≡ false → IsLeast p (a + 1) (a + 1 + n) x → IsLeast p a (a + suc n) x
least_later p a n x fails h = record {
  from = omega (arith, h.from);
  to = omega (arith, h.to);
  passes = h.passes;
  first = λ y l u. split (λ z. p z ≡ false) a y fails (λ d. h.first y (omega (arith, l, d)) u);
}

least_found : (p : ℕ → Bool) (a n x : ℕ) → find p (range_with_len a n) ≡ Some x → IsLeast p a (a + n) x
least_found p a zero x e = absurd (nothing x e)
least_found p a (suc n) x e =
    elim (p a) as (λ b. p a ≡ b → cond b (Some a) (find p (range_with_len (a + 1) n)) ≡ Some x → IsLeast p a (a + suc n) x) [
      | true ↦ λ holds f. least_here p a n x (the_value a x f) holds
      | false ↦ λ fails f. least_later p a n x fails (least_found p (a + 1) n x f)
    ] refl e

none_found : (p : ℕ → Bool) (a n : ℕ) → find p (range_with_len a n) ≡ None → NonePasses p a (a + n)
none_found p a zero e = λ y l u. absurd (omega (arith, l, u))
none_found p a (suc n) e =
    elim (p a) as (λ b. p a ≡ b → cond b (Some a) (find p (range_with_len (a + 1) n)) ≡ None → NonePasses p a (a + suc n)) [
      | true ↦ λ holds f. absurd (something a f)
      | false ↦ λ fails f. λ y l u. split (λ z. p z ≡ false) a y fails (λ d. none_found p (a + 1) n f y (omega (arith, l, d)) (omega (arith, u)))
    ] refl e

range-more : (a n : ℕ) → range_with_len a (suc n) ≡ range_with_len a n ++ (a + n) ∷ []
range-more a zero = let e : a ≡ a + 0 = omega arith in ap (λ k. k ∷ []) e
range-more a (suc n) =
    let e : a + 1 + n ≡ a + suc n = omega arith in
    ap (λ xs. a ∷ xs) (range-more (a + 1) n) ∙ ap (λ k. a ∷ (range_with_len (a + 1) n ++ k ∷ [])) e

range-back : (a n : ℕ) → reverse (range_with_len a (suc n)) ≡ (a + n) ∷ reverse (range_with_len a n)
range-back a n = ap reverse (range-more a n) ∙ reverse-append (range_with_len a n) ((a + n) ∷ [])

greatest_here : (p : ℕ → Bool) (a n x : ℕ) → a + n ≡ x → p (a + n) ≡ true → IsGreatest p a (a + suc n) x
greatest_here p a n x e holds = record {
  from = omega (arith, e);
  to = omega (arith, e);
  passes = ap p (sym e) ∙ holds;
  last = λ y l u. absurd (omega (arith, e, l, u));
}

greatest_before : (p : ℕ → Bool) (a n x : ℕ) → p (a + n) ≡ false → IsGreatest p a (a + n) x → IsGreatest p a (a + suc n) x
greatest_before p a n x fails h = record {
  from = h.from;
  to = omega (arith, h.to);
  passes = h.passes;
  last = λ y l u. split (λ z. p z ≡ false) (a + n) y fails (λ d. h.last y l (omega (arith, u, d)));
}

greatest_found : (p : ℕ → Bool) (a n x : ℕ) → find p (reverse (range_with_len a n)) ≡ Some x → IsGreatest p a (a + n) x
greatest_found p a zero x e = absurd (nothing x e)
greatest_found p a (suc n) x e =
    elim (p (a + n)) as (λ b. p (a + n) ≡ b → cond b (Some (a + n)) (find p (reverse (range_with_len a n))) ≡ Some x → IsGreatest p a (a + suc n) x) [
      | true ↦ λ holds f. greatest_here p a n x (the_value (a + n) x f) holds
      | false ↦ λ fails f. greatest_before p a n x fails (greatest_found p a n x f)
    ] refl (sym (ap (find p) (range-back a n)) ∙ e)

none_back : (p : ℕ → Bool) (a n : ℕ) → find p (reverse (range_with_len a n)) ≡ None → NonePasses p a (a + n)
none_back p a zero e = λ y l u. absurd (omega (arith, l, u))
none_back p a (suc n) e =
    elim (p (a + n)) as (λ b. p (a + n) ≡ b → cond b (Some (a + n)) (find p (reverse (range_with_len a n))) ≡ None → NonePasses p a (a + suc n)) [
      | true ↦ λ holds f. absurd (something (a + n) f)
      | false ↦ λ fails f. λ y l u. split (λ z. p z ≡ false) (a + n) y fails (λ d. none_back p a n f y l (omega (arith, u, d)))
    ] refl (sym (ap (find p) (range-back a n)) ∙ e)

pub least : (p : ℕ → Bool) (a b x : ℕ) → least_where p a b ≡ Some x → IsLeast p a b x
least p a b x e =
    let h = least_found p a (b - a) x e in
    record { from = h.from; to = omega (arith, h.from, h.to); passes = h.passes; first = h.first }

pub no_least : (p : ℕ → Bool) (a b : ℕ) → least_where p a b ≡ None → NonePasses p a b
no_least p a b e = λ y l u. none_found p a (b - a) e y l (omega (arith, l, u))

pub greatest : (p : ℕ → Bool) (a b x : ℕ) → greatest_where p a b ≡ Some x → IsGreatest p a b x
greatest p a b x e =
    let h = greatest_found p a (b - a) x e in
    record { from = h.from; to = omega (arith, h.from, h.to); passes = h.passes; last = λ y l u. h.last y l (omega (arith, h.from, l, u)) }

pub no_greatest : (p : ℕ → Bool) (a b : ℕ) → greatest_where p a b ≡ None → NonePasses p a b
no_greatest p a b e = λ y l u. none_back p a (b - a) e y l (omega (arith, l, u))
