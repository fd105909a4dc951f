-- Numbers that stop at the greatest of 64 bits.
use Rattle.std.proofs.Common.{◌≡◌, ℕ, zero, suc, ◌+◌, ◌-◌, ◌*◌, ◌/◌, ◌^◌, ◌≤◌, min, Bool, true, false, List, [], ◌∷◌, length, refl, ◌∙◌, arith, le_trans, inl, inr, lit≤}
use Rattle.std.specs.Prelude.{fold, ◌⊎◌, ⊤, nat_le}
use Rattle.std.proofs.lemmas.Bool.Decides.{nat_tests}
use Rattle.std.proofs.Math.Nat.{le-mul_of_pos_right}
use Rattle.std.specs.Char.{digit_value}
use Rattle.std.specs.Str.Parse.{digits_value, digits_value_after}
use Rattle.pd_lex.specs.Numbers.{capped_digit}
use Rattle.pd_lex.specs.Scanned.{wrapped_digit}

abbrev pub most : ℕ
most = 2 ^ 64 - 1

-- digits after a number don't make it less
grows : (r n : ℕ) (ds : List ℕ) → 1 ≤ r → n ≤ digits_value_after r n ds
grows r n [] h = omega arith
grows r n (d ∷ ds) h =
    let step : n ≤ n * r = le-mul_of_pos_right n (omega arith) in
    let more : n * r + digit_value d ≤ digits_value_after r (n * r + digit_value d) ds = grows r (n * r + digit_value d) ds h in
    le_trans (omega arith) more

-- a number that was stopped before stops again
pub digits_value_after-min : (r n : ℕ) (ds : List ℕ) → 1 ≤ r → (n ≤ most) ⊎ (most ≤ n) → min (digits_value_after r (min n most) ds) most ≡ min (digits_value_after r n ds) most
digits_value_after-min r n ds h (inl small) =
    let same : min n most ≡ n = omega arith in
    rw same refl
digits_value_after-min r n ds h (inr large) =
    let same : min n most ≡ most = omega arith in
    let left : most ≤ digits_value_after r most ds = grows r most ds h in
    let right : n ≤ digits_value_after r n ds = grows r n ds h in
    rw same (omega arith)

pub either : (n : ℕ) → (n ≤ most) ⊎ (most ≤ n)
either n = by_test (nat_le n most) refl
  where
    by_test : (b : Bool) → nat_le n most ≡ b → (n ≤ most) ⊎ (most ≤ n)
    by_test true h = inl (grind (arith, nat_tests))
    by_test false h = inr (grind (arith, nat_tests))

pub fold-capped_digit : (r n : ℕ) (ds : List ℕ) → 1 ≤ r → n ≤ most → fold (capped_digit r) n ds ≡ min (digits_value_after r n ds) most
fold-capped_digit r n [] h small = omega arith
fold-capped_digit r n (d ∷ ds) h small =
    let next : ℕ = n * r + digit_value d in
    let capped : capped_digit r n d ≡ min next most = omega arith in
    rw capped (fold-capped_digit r (min next most) ds h (omega arith) ∙ digits_value_after-min r next ds h (either next))

-- the same from no number on, as the code has it
pub capped_is : (r : ℕ) (ds : List ℕ) → 1 ≤ r → fold (capped_digit r) 0 ds ≡ min (digits_value r ds) most
capped_is r ds h = fold-capped_digit r 0 ds h (omega arith)

digit_small : (d : ℕ) → digit_value d ≤ 36
digit_small d = grind (arith, nat_tests)

-- the greatest number after which so many digits more write none above the greatest of 64 bits
abbrev roomy : ℕ → ℕ
roomy zero = most
roomy (suc k) = (roomy k - 36) / 10

roomy-most : (k : ℕ) → roomy k ≤ most
roomy-most zero = omega arith
roomy-most (suc k) = omega (arith, roomy-most k)

-- there is room for a digit before each of them
abbrev HasRoom : ℕ → Type 0
HasRoom zero = ⊤
HasRoom (suc k) = (36 ≤ roomy k) × HasRoom k

wrapped-capped : (k n : ℕ) (ds : List ℕ) → length ds ≤ k → n ≤ roomy k → HasRoom k → fold wrapped_digit n ds ≡ fold (capped_digit 10) n ds
wrapped-capped k n [] few small room = refl
wrapped-capped zero n (d ∷ ds) few small room = absurd (omega (arith, few))
wrapped-capped (suc k) n (d ∷ ds) few small room =
    let next : ℕ = n * 10 + digit_value d in
    let wrapped : wrapped_digit n d ≡ next = omega (arith, digit_small d, roomy-most k, room.0) in
    let capped : capped_digit 10 n d ≡ next = omega (arith, digit_small d, roomy-most k, room.0) in
    rw (wrapped, capped) (wrapped-capped k next ds (omega arith) (omega (arith, digit_small d, room.0)) room.1)

nine : HasRoom 9
nine = (lit≤ tt, (lit≤ tt, (lit≤ tt, (lit≤ tt, (lit≤ tt, (lit≤ tt, (lit≤ tt, (lit≤ tt, (lit≤ tt, tt)))))))))

-- few digits write no number above the greatest
pub few_is : (ds : List ℕ) → length ds ≤ 9 → fold wrapped_digit 0 ds ≡ min (digits_value 10 ds) most
few_is ds few = wrapped-capped 9 0 ds few (omega arith) nine ∙ capped_is 10 ds (omega arith)

pub ruleset capping = (capped_is)
