-- Where places stand.
use Rattle.std.proofs.Common.{◌≡◌, ℕ, ◌≤◌, Bool, true, false, cond, ◌==◌, List, length, min, refl, arith}
use Rattle.std.proofs.lemmas.Bool.Decides.{nat_tests}
use Rattle.pd_lex.specs.declared.token.Place.{Place}
use Rattle.pd_lex.specs.Places.{first_place, line_at, clamped_place, octets_from, IsPlace}
use Rattle.pd_lex.proofs.Rests.{clamped_of_place}

pub octets_of_clamped : (lines : List (List ℕ)) (p q : Place) → IsPlace lines q → q ≡ clamped_place lines p → octets_from lines p ≡ octets_from lines q
unfolding octets_from
octets_of_clamped lines p q h e = rw (← e, clamped_of_place lines q h) refl

is_place_by : (lines : List (List ℕ)) (t : Bool) (p : Place) → (t ≡ false → IsPlace lines p) → IsPlace lines (cond t first_place p)
is_place_by lines true p h = record { from_one = omega arith; within = omega arith; at = omega arith }
is_place_by lines false p h = h refl

pub clamped_is_place : (lines : List (List ℕ)) (p : Place) → p.line ≤ length lines → IsPlace lines (clamped_place lines p)
unfolding clamped_place
clamped_is_place lines p le = is_place_by lines (p.line == 0) (record { line = p.line; at = min p.at (length (line_at lines p.line)) }) (λ not. record { from_one = is_positive p.line not; within = omega arith; at = omega arith })
  where
    is_positive : (n : ℕ) → (n == 0) ≡ false → 1 ≤ n
    is_positive n h = grind (arith, nat_tests)
