-- The lines of a text, found by number.
use Rattle.std.proofs.Common.{◌≡◌, ℕ, ◌-◌, ◌<◌, ◌≤◌, Bool, true, false, cond, nat_le, List, [], length, get_or, Option, Some, None, refl, sym, ap, ◌∙◌, arith, ◌⊎◌, inl, inr}
use Rattle.std.specs.List.{slice_get}
use Rattle.std.proofs.lemmas.List.{get_or_past}
use Rattle.std.proofs.lemmas.Bool.{cases_lt}
use Rattle.std.proofs.lemmas.Option.{get_or_from_slice_get, slice_get_within, slice_get_cases}
use Rattle.std.proofs.lemmas.Bool.Decides.{nat_tests}
use Rattle.pd_lex.specs.Places.{line_at}

module _ (lines : List (List ℕ)) (n : ℕ) (one : 1 ≤ n) where
  counted : nat_le 1 n ≡ true
  counted = grind (arith, nat_tests)

  pub line_is : (line : List ℕ) → Some line ≡ cond (nat_le 1 n) (slice_get lines (n - 1)) None → line ≡ line_at lines n
  line_is line e = let found : slice_get lines (n - 1) ≡ Some line = sym (rw counted at e) in sym (get_or_from_slice_get lines (n - 1) line [] found)

  pub line_within : (line : List ℕ) → Some line ≡ cond (nat_le 1 n) (slice_get lines (n - 1)) None → n ≤ length lines
  line_within line e = let found : slice_get lines (n - 1) ≡ Some line = sym (rw counted at e) in omega (arith, slice_get_within lines (n - 1) line found)

  pub line_past : None ≡ cond (nat_le 1 n) (slice_get lines (n - 1)) None → length lines < n
  line_past e = by_cases (sym (rw counted at e)) (slice_get_cases lines (n - 1)).1
    where
      by_cases : slice_get lines (n - 1) ≡ None → (((x : List ℕ) × (n - 1 < length lines) × (slice_get lines (n - 1) ≡ Some x) × (get_or lines (n - 1) x ≡ x)) ⊎ ((length lines ≤ n - 1) × (slice_get lines (n - 1) ≡ None))) → length lines < n
      by_cases none (inl found) = absurd (let e = sym none ∙ found.2 in cc)
      by_cases none (inr past) = omega (arith, past.0)

-- a line that was found has a number
pub line_from_one : (n : ℕ) (line : List ℕ) (found : Option (List ℕ)) → Some line ≡ cond (nat_le 1 n) found None → 1 ≤ n
line_from_one n line found e = by_test (nat_le 1 n) refl
  where
    by_test : (t : Bool) → nat_le 1 n ≡ t → 1 ≤ n
    by_test true h = grind (arith, nat_tests)
    by_test false h = absurd (let none = rw h at e in cc)

-- a line that has an octet is one of the text
pub line_there : (lines : List (List ℕ)) (n : ℕ) → 0 < length (line_at lines n) → 1 ≤ n → n ≤ length lines
line_there lines n some one = by_cases (cases_lt (n - 1) (length lines))
  where
    by_cases : ((n - 1 < length lines) ⊎ (length lines ≤ n - 1)) → n ≤ length lines
    by_cases (inl lt) = omega (arith, lt)
    by_cases (inr past) = absurd (let none = get_or_past lines (n - 1) [] past in omega (arith, some, ap length none))

-- past the last line nothing stands
pub line_none : (lines : List (List ℕ)) (n : ℕ) → length lines < n → [] ≡ line_at lines n
line_none lines n past = sym (get_or_past lines (n - 1) [] (omega (arith, past)))
