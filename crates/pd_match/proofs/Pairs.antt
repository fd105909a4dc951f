-- Lists as long agree where all their pairs do.
use Rattle.std.proofs.Common.{◌≡◌, Bool, ◌&&◌, List, [], ◌∷◌, length, refl, ap, arith}
use Rattle.std.specs.List.{zip, list_all}
use Rattle.pd_match.specs.Packets.{each_pair}

pub pairs_agree : {A B : Type 0} (test : A → B → Bool) (xs : List A) (ys : List B)
    → length xs ≡ length ys
    → list_all (λ p. test p.0 p.1) (zip xs ys) ≡ each_pair test xs ys
pairs_agree test [] [] long = refl
pairs_agree test [] (y ∷ ys) long = absurd (omega (arith, long))
pairs_agree test (x ∷ xs) [] long = absurd (omega (arith, long))
pairs_agree test (x ∷ xs) (y ∷ ys) long = ap (λ b. test x y && b) (pairs_agree test xs ys (omega (arith, long)))
