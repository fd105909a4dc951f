-- The state of a track that serves a job.
use Rattle.std.proofs.Common.{◌≡◌, ℕ, zero, suc, ◌+◌, ◌-◌, ◌*◌, ◌/◌, ◌%◌, ◌≤◌, ◌<◌, ◌==◌, ◌&&◌, Bool, true, false, nat_le, refl, subst, arith, ◌⊎◌, inl, inr, length, min}
use Rattle.std.proofs.lemmas.Bool.Decides.{nat_tests}
use Rattle.pd_settings.specs.SettingSets.{agrees}
use Rattle.pd_settings.specs.declared.settings.Settings.{Settings}
use Rattle.pd_run.specs.Run.{states_of}
use Rattle.pd_track.specs.Reuse.{TrackView, greatest, is_usable, consulted_settings, reached, every_fourth}
use Rattle.pd_track.proofs.Fourths.{length-every_fourth}
use Rattle.pd_track.proofs.Greatest.{greatest_is}

all_true : (a b s : Bool) → a ≡ true → b ≡ true → s ≡ true → ((a && b) && s) ≡ true
all_true true true true h k l = refl
all_true true true false h k l = absurd cc
all_true true false s h k l = absurd cc
all_true false b s h k l = absurd cc

first_two : (a b s : Bool) → (a ≡ true → b ≡ true → s ≡ false) → ((a && b) && s) ≡ false
first_two true true s h = h refl refl
first_two true false s h = refl
first_two false b s h = refl

module _ (old : TrackView) (settings : Settings) (k q most : ℕ)
    (most_is : most ≡ min (k / 4) (length (every_fourth 3 (states_of old.text old.settings))))
    (within : q ≤ most)
    (none : (j : ℕ) → q < j → j ≤ most → agrees (consulted_settings old (4 * j)) old.settings settings ≡ false) where
  abbrev r : ℕ
  r = reached old.text old.settings

  bounds : (4 * length (every_fourth 3 (states_of old.text old.settings)) ≤ r + 0) × (r + 0 < 4 * length (every_fourth 3 (states_of old.text old.settings)) + 4)
  bounds = length-every_fourth 3 0 (states_of old.text old.settings) refl

  too_far : (j : ℕ) → 4 * q < j → j ≤ k → is_usable old settings j ≡ false
  too_far j above below = first_two (j % 4 == 0) (nat_le j r) (agrees (consulted_settings old j) old.settings settings) (λ four near.
      let f : j % 4 ≡ 0 = grind (arith, nat_tests) in
      let n : j ≤ r = grind (arith, nat_tests) in
      let e : 4 * (j / 4) ≡ j = omega arith in
      let b = bounds in
      subst (λ (x : ℕ). agrees (consulted_settings old x) old.settings settings ≡ false) e (none (j / 4) (omega arith) (omega arith)))

  pub picked : ((q ≡ 0) ⊎ (agrees (consulted_settings old (4 * q)) old.settings settings ≡ true)) → greatest (is_usable old settings) k ≡ 4 * q
  picked (inl z) = greatest_is (is_usable old settings) k (4 * q) (omega arith) (inl (omega arith)) too_far
  picked (inr t) =
      let b = bounds in
      greatest_is (is_usable old settings) k (4 * q) (omega arith)
      (inr (all_true (4 * q % 4 == 0) (nat_le (4 * q) r) (agrees (consulted_settings old (4 * q)) old.settings settings)
      (let z : 4 * q % 4 ≡ 0 = omega arith in grind (arith, nat_tests)) (let z : 4 * q ≤ r = omega arith in grind (arith, nat_tests)) t)) too_far

-- one state more doesn't serve
pub one_more : (p : ℕ → Bool) (most i : ℕ) → i < most → ((j : ℕ) → most < j + i → j ≤ most → p j ≡ false) → p (most - i) ≡ false
    → (j : ℕ) → most < j + (i + 1) → j ≤ most → p j ≡ false
one_more p most i lt all here j above below = go (nat_le (most + 1) (j + i)) refl
  where
    go : (b : Bool) → nat_le (most + 1) (j + i) ≡ b → p j ≡ false
    go true e = all j (grind (arith, nat_tests)) below
    go false e = let w : most - i ≡ j = grind (arith, nat_tests) in subst (λ (n : ℕ). p n ≡ false) w here

pub zero_or : (q : ℕ) (P : Type 0) → (0 < q → P) → (q ≡ 0) ⊎ P
zero_or zero P h = inl refl
zero_or (suc q) P h = inr (h (omega arith))
