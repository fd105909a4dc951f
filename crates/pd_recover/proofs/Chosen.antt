-- Properties of a value that is chosen among others.
use Rattle.std.proofs.Common.{◌≡◌, Option, Some, None, Bool, true, false, if◌then◌else◌, refl, subst, ap}
use Rattle.std.specs.Prelude.{unwrap_or, option_map, IfSome}
use Rattle.std.specs.Option.{option_or}

the_value : {X : Type 0} (x y : X) → Some x ≡ Some y → x ≡ y
the_value x y e = ap (λ o. unwrap_or o x) e

nothing : {X : Type 0} (x : X) → None ≡ Some x → ⊥
nothing x e = cc

-- what holds of each value that an option has holds of what is made of it
abbrev pub AllOf : {X : Type 0} → (X → Type 0) → Option X → Type 0
AllOf {X} P o = (v : X) → o ≡ Some v → P v

none_of : {X : Type 0} (P : X → Type 0) → AllOf P None
none_of P v e = absurd (nothing v e)

pub one_of : {X : Type 0} (P : X → Type 0) (x : X) → P x → AllOf P (Some x)
one_of P x h v e = subst P (the_value x v e) h

pub either_of : {X : Type 0} (P : X → Type 0) (a b : Option X) → AllOf P a → AllOf P b → AllOf P (option_or a b)
either_of P None b first second = second
either_of P (Some x) b first second = one_of P x (first x refl)

pub map_of : {X Y : Type 0} (P : Y → Type 0) (f : X → Y) (o : Option X) → ((x : X) → o ≡ Some x → P (f x)) → AllOf P (option_map f o)
map_of P f None h = none_of P
map_of P f (Some x) h = one_of P (f x) (h x refl)

pub allowed_of : {X : Type 0} (P : X → Type 0) (b : Bool) (o : Option X) → (b ≡ true → AllOf P o) → AllOf P (if b then o else None)
allowed_of P true o h = h refl
allowed_of P false o h = none_of P

pub if_some : {X : Type 0} (P : X → Type 0) (o : Option X) → AllOf P o → IfSome o P
if_some P None h = tt
if_some P (Some x) h = h x refl
