-- The greatest number that passes.
use Rattle.std.proofs.Common.{◌≡◌, ℕ, zero, suc, ◌≤◌, ◌<◌, Bool, true, false, cond, nat_le, refl, sym, subst, arith, ◌⊎◌, inl, inr}
use Rattle.std.proofs.lemmas.Bool.Decides.{nat_tests}
use Rattle.pd_track.specs.Reuse.{greatest}

pub greatest_is : (p : ℕ → Bool) (n m : ℕ) → m ≤ n → ((m ≡ 0) ⊎ (p m ≡ true)) → ((j : ℕ) → m < j → j ≤ n → p j ≡ false) → greatest p n ≡ m
greatest_is p zero m le h none = omega arith
greatest_is p (suc n) m le h none = go (nat_le (suc n) m) refl (λ (less : m ≤ n). greatest_is p n m less h (λ j above below. none j above (omega arith)))
  where
    at_top : m ≡ suc n → (b : Bool) → p (suc n) ≡ b → ((m ≡ 0) ⊎ (p m ≡ true)) → cond b (suc n) (greatest p n) ≡ m
    at_top e true hb h = sym e
    at_top e false hb (inl z) = absurd (omega arith)
    at_top e false hb (inr t) = absurd (let f : p m ≡ false = subst (λ (x : ℕ). p x ≡ false) (sym e) hb in cc)

    go : (b : Bool) → nat_le (suc n) m ≡ b → (m ≤ n → greatest p n ≡ m) → cond (p (suc n)) (suc n) (greatest p n) ≡ m
    go true hb ih = let e : m ≡ suc n = grind (arith, nat_tests) in at_top e (p (suc n)) refl h
    go false hb ih = let less : m ≤ n = grind (arith, nat_tests) in rw (none (suc n) (omega arith) (omega arith)) (ih less)

-- it is at most n
pub greatest_within : (p : ℕ → Bool) (n : ℕ) → greatest p n ≤ n
greatest_within p zero = omega arith
greatest_within p (suc n) = go (p (suc n)) (greatest_within p n)
  where
    go : (b : Bool) → greatest p n ≤ n → cond b (suc n) (greatest p n) ≤ suc n
    go true h = omega arith
    go false h = omega arith

-- it passes, or is 0
pub greatest_passes : (p : ℕ → Bool) (n : ℕ) → (greatest p n ≡ 0) ⊎ (p (greatest p n) ≡ true)
greatest_passes p zero = inl refl
greatest_passes p (suc n) = go (p (suc n)) refl (greatest_passes p n)
  where
    go : (b : Bool) → p (suc n) ≡ b → ((greatest p n ≡ 0) ⊎ (p (greatest p n) ≡ true))
        → (cond b (suc n) (greatest p n) ≡ 0) ⊎ (p (cond b (suc n) (greatest p n)) ≡ true)
    go true e h = inr e
    go false e h = h

-- and none above it does
pub greatest_last : (p : ℕ → Bool) (n m : ℕ) → m ≤ n → p m ≡ true → m ≤ greatest p n
greatest_last p zero m le h = omega arith
greatest_last p (suc n) m le h = go (p (suc n)) refl (nat_le m n) refl (λ (less : m ≤ n). greatest_last p n m less h)
  where
    go : (b : Bool) → p (suc n) ≡ b → (c : Bool) → nat_le m n ≡ c → (m ≤ n → m ≤ greatest p n) → m ≤ cond b (suc n) (greatest p n)
    go true e c f ih = le
    go false e true f ih = ih (grind (arith, nat_tests))
    go false e false f ih =
        let top : m ≡ suc n = grind (arith, nat_tests) in
        absurd (let t : p (suc n) ≡ true = subst (λ (x : ℕ). p x ≡ true) top h in cc)
