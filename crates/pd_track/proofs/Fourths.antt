-- Every fourth state of a list.
use Rattle.std.proofs.Common.{◌≡◌, ℕ, zero, suc, ◌+◌, ◌*◌, ◌%◌, ◌≤◌, ◌<◌, ◌==◌, Bool, true, false, cond, refl, ap, arith, List, [], ◌∷◌, ◌++◌, length, take, drop, slice_get}
use Rattle.std.proofs.lemmas.Bool.Decides.{nat_tests}
use Rattle.pd_run.specs.Step.{RunStateView}
use Rattle.pd_track.specs.Reuse.{every_fourth}

pub slice_get-every_fourth : (j k : ℕ) (rs : List RunStateView) → slice_get (every_fourth j rs) k ≡ slice_get rs (4 * k + j)
slice_get-every_fourth j k [] = refl
slice_get-every_fourth zero zero (r ∷ rs) = refl
slice_get-every_fourth zero (suc k) (r ∷ rs) = let e : 4 * suc k + 0 ≡ suc (4 * k + 3) = omega arith in rw e (slice_get-every_fourth 3 k rs)
slice_get-every_fourth (suc j) k (r ∷ rs) = let e : 4 * k + suc j ≡ suc (4 * k + j) = omega arith in rw e (slice_get-every_fourth j k rs)

pub length-every_fourth : (j i : ℕ) (rs : List RunStateView) → j + i ≡ 3 → (4 * length (every_fourth j rs) ≤ length rs + i) × (length rs + i < 4 * length (every_fourth j rs) + 4)
length-every_fourth j i [] h = (omega arith, omega arith)
length-every_fourth zero i (r ∷ rs) h = let rest = length-every_fourth 3 0 rs refl in (omega arith, omega arith)
length-every_fourth (suc j) i (r ∷ rs) h = let rest = length-every_fourth j (i + 1) rs (omega arith) in (omega arith, omega arith)

pub fourths_take : (j q m : ℕ) (rs : List RunStateView) → m ≡ 4 * q + j → take (suc q) (every_fourth j rs) ≡ every_fourth j (take (suc m) rs)
fourths_take j q m [] h = refl
fourths_take zero zero zero (r ∷ rs) h = refl
fourths_take zero zero (suc m) (r ∷ rs) h = absurd (omega arith)
fourths_take zero (suc q) zero (r ∷ rs) h = absurd (omega arith)
fourths_take zero (suc q) (suc m) (r ∷ rs) h = ap (λ (w : List RunStateView). r ∷ w) (fourths_take 3 q m rs (omega arith))
fourths_take (suc j) q zero (r ∷ rs) h = absurd (omega arith)
fourths_take (suc j) q (suc m) (r ∷ rs) h = fourths_take j q m rs (omega arith)

pub fourths_rest : (j q m : ℕ) (rs : List RunStateView) → m ≡ 4 * q + j → m < length rs → take (suc q) (every_fourth j rs) ++ every_fourth 3 (drop (suc m) rs) ≡ every_fourth j rs
fourths_rest j q m [] h lt = absurd (omega arith)
fourths_rest zero zero zero (r ∷ rs) h lt = refl
fourths_rest zero zero (suc m) (r ∷ rs) h lt = absurd (omega arith)
fourths_rest zero (suc q) zero (r ∷ rs) h lt = absurd (omega arith)
fourths_rest zero (suc q) (suc m) (r ∷ rs) h lt = ap (λ (w : List RunStateView). r ∷ w) (fourths_rest 3 q m rs (omega arith) (omega arith))
fourths_rest (suc j) q zero (r ∷ rs) h lt = absurd (omega arith)
fourths_rest (suc j) q (suc m) (r ∷ rs) h lt = fourths_rest j q m rs (omega arith) (omega arith)

-- the state after one more event, where n had passed, is the next of them if that many are a multiple of 4
pub fourths_next : (n j k : ℕ) (r : RunStateView) (rs : List RunStateView) → j + n % 4 ≡ 3 → k + (n + 1) % 4 ≡ 3 → every_fourth j (r ∷ rs) ≡ cond ((n + 1) % 4 == 0) (r ∷ []) [] ++ every_fourth k rs
fourths_next n zero k r rs h i = go ((n + 1) % 4 == 0) refl
  where
    go : (b : Bool) → ((n + 1) % 4 == 0) ≡ b → r ∷ every_fourth 3 rs ≡ cond b (r ∷ []) [] ++ every_fourth k rs
    go true is = let three : k ≡ 3 = grind (arith, nat_tests) in rw three refl
    go false is = absurd (let zeroth : (n + 1) % 4 ≡ 0 = omega arith in grind (arith, nat_tests))
fourths_next n (suc j) k r rs h i = go ((n + 1) % 4 == 0) refl
  where
    go : (b : Bool) → ((n + 1) % 4 == 0) ≡ b → every_fourth j rs ≡ cond b (r ∷ []) [] ++ every_fourth k rs
    go true is = absurd (let zeroth : (n + 1) % 4 ≡ 0 = grind (arith, nat_tests) in omega arith)
    go false is = let same : k ≡ j = omega arith in rw same refl
