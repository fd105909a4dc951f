-- One octet compared with another.
use Rattle.std.proofs.Common.{◌≡◌, ℕ, Bool, true, false, ◌&&◌, nat_eq, [], ◌∷◌, refl}
use Rattle.std.specs.Str.{bytes_eq}

and_true : (t : Bool) → (t && true) ≡ t
and_true true = refl
and_true false = refl

pub one_octet : (a b : ℕ) → bytes_eq (a ∷ []) (b ∷ []) ≡ nat_eq a b
one_octet a b = and_true (nat_eq a b)
