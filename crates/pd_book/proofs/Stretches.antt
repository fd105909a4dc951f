-- Which jobs a stretch of acts starts.
use Rattle.std.proofs.Common.{◌≡◌, ℕ, List, [], ◌∷◌, Bool, true, false, ◌&&◌, ◌||◌, refl}
use Rattle.std.specs.List.{list_any}
use Rattle.std.specs.Str.{bytes_eq}
use Rattle.pd_book.specs.declared.act.Act.{Act}
use Rattle.pd_book.specs.declared.act.Act.TheVariants.{Add, Edit, Remove, Set, Start, Finish, Abandon}
use Rattle.pd_book.specs.Acts.{starts}

pub or_left : (a b : Bool) → (a || b) ≡ false → a ≡ false
or_left true b h = h
or_left false b h = refl

pub or_right : (a b : Bool) → (a || b) ≡ false → b ≡ false
or_right true b h = absurd cc
or_right false b h = h

pub or_both : (a b : Bool) → a ≡ false → b ≡ false → (a || b) ≡ false
or_both true b h k = h
or_both false b h k = k

pub and_sub : (b x y : Bool) → (x ≡ false → y ≡ false) → (b && x) ≡ false → (b && y) ≡ false
and_sub true x y f h = f h
and_sub false x y f h = refl

pub and_up : (b x y : Bool) → (x ≡ true → y ≡ true) → (b && x) ≡ true → (b && y) ≡ true
and_up true x y f h = f h
and_up false x y f h = h

pub or_up : (a b c d : Bool) → (a ≡ true → c ≡ true) → (b ≡ true → d ≡ true) → (a || b) ≡ true → (c || d) ≡ true
or_up true b true d f g h = refl
or_up true b false d f g h = absurd (let e = f refl in cc)
or_up false b true d f g h = refl
or_up false b false d f g h = g h

-- no job that passes p is started for the name in these acts
abbrev pub NoStart : (ℕ → Bool) → List ℕ → List Act → Type 0
NoStart p n xs = list_any (starts p n) xs ≡ false

pub sub : (p q : ℕ → Bool) (n : List ℕ) (xs : List Act) → ((j : ℕ) → p j ≡ false → q j ≡ false) → NoStart p n xs → NoStart q n xs
sub p q n [] f h = refl
sub p q n (Start j m ∷ xs) f h =
    or_both _ _ (and_sub (bytes_eq n m) (p j) (q j) (f j) (or_left (bytes_eq n m && p j) _ h)) (sub p q n xs f (or_right (bytes_eq n m && p j) _ h))
sub p q n (Add m t ∷ xs) f h = sub p q n xs f h
sub p q n (Edit m t ∷ xs) f h = sub p q n xs f h
sub p q n (Remove m ∷ xs) f h = sub p q n xs f h
sub p q n (Set k v ∷ xs) f h = sub p q n xs f h
sub p q n (Finish j r ∷ xs) f h = sub p q n xs f h
sub p q n (Abandon j ∷ xs) f h = sub p q n xs f h

pub up : (p q : ℕ → Bool) (n : List ℕ) (xs : List Act) → ((j : ℕ) → p j ≡ true → q j ≡ true) → list_any (starts p n) xs ≡ true → list_any (starts q n) xs ≡ true
up p q n [] f h = h
up p q n (Start j m ∷ xs) f h = or_up (bytes_eq n m && p j) _ _ _ (and_up (bytes_eq n m) (p j) (q j) (f j)) (up p q n xs f) h
up p q n (Add m t ∷ xs) f h = up p q n xs f h
up p q n (Edit m t ∷ xs) f h = up p q n xs f h
up p q n (Remove m ∷ xs) f h = up p q n xs f h
up p q n (Set k v ∷ xs) f h = up p q n xs f h
up p q n (Finish j r ∷ xs) f h = up p q n xs f h
up p q n (Abandon j ∷ xs) f h = up p q n xs f h

both_step : (b x y : Bool) → (b && x) ≡ false → (b && y) ≡ false → (b && (x || y)) ≡ false
both_step true x y h k = or_both x y h k
both_step false x y h k = refl

pub both : (p q : ℕ → Bool) (n : List ℕ) (xs : List Act) → NoStart p n xs → NoStart q n xs → NoStart (λ j. p j || q j) n xs
both p q n [] h k = refl
both p q n (Start j m ∷ xs) h k =
    or_both _ _ (both_step (bytes_eq n m) (p j) (q j) (or_left (bytes_eq n m && p j) _ h) (or_left (bytes_eq n m && q j) _ k))
    (both p q n xs (or_right (bytes_eq n m && p j) _ h) (or_right (bytes_eq n m && q j) _ k))
both p q n (Add m t ∷ xs) h k = both p q n xs h k
both p q n (Edit m t ∷ xs) h k = both p q n xs h k
both p q n (Remove m ∷ xs) h k = both p q n xs h k
both p q n (Set k' v ∷ xs) h k = both p q n xs h k
both p q n (Finish j r ∷ xs) h k = both p q n xs h k
both p q n (Abandon j ∷ xs) h k = both p q n xs h k
