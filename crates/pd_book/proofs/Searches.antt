-- Searches, look-ups and facts of each element, in lists.
use Rattle.std.proofs.Common.{◌≡◌, ℕ, ◌==◌, List, [], ◌∷◌, ◌++◌, map, filter, find, Option, Some, None, is_some, Bool, true, false, not, ◌||◌, cond, refl, ap, sym, subst, ◌∙◌}
use Rattle.std.specs.List.{AllByRecursion}
use Rattle.std.specs.Map.{lookup}
use Rattle.std.proofs.lemmas.Bool.Decides.{Decides-eqb}

pub all_map : {A B : Type 0} (P : A → Type 0) (Q : B → Type 0) (f : A → B) (xs : List A) → ((x : A) → P x → Q (f x)) → AllByRecursion P xs → AllByRecursion Q (map f xs)
all_map P Q f [] g h = tt
all_map P Q f (x ∷ xs) g h = (g x h.0, all_map P Q f xs g h.1)

pub all_imp : {A : Type 0} (P Q : A → Type 0) (xs : List A) → ((x : A) → P x → Q x) → AllByRecursion P xs → AllByRecursion Q xs
all_imp P Q [] g h = tt
all_imp P Q (x ∷ xs) g h = (g x h.0, all_imp P Q xs g h.1)

pub all_push : {A : Type 0} (P : A → Type 0) (xs : List A) (y : A) → AllByRecursion P xs → P y → AllByRecursion P (xs ++ y ∷ [])
all_push P [] y h k = (k, tt)
all_push P (x ∷ xs) y h k = (h.0, all_push P xs y h.1 k)

pub all_filter : {A : Type 0} (P Q : A → Type 0) (p : A → Bool) (xs : List A) → ((x : A) → p x ≡ true → P x → Q x) → AllByRecursion P xs → AllByRecursion Q (filter p xs)
all_filter P Q p [] g h = tt
all_filter {A} P Q p (x ∷ xs) g h = go (p x) refl (all_filter P Q p xs g h.1)
  where
    go : (b : Bool) → p x ≡ b → AllByRecursion Q (filter p xs) → AllByRecursion Q (cond b (x ∷ filter p xs) (filter p xs))
    go true e k = (g x e h.0, k)
    go false e k = k

pub find_is : {A : Type 0} (p : A → Bool) (xs : List A) (y : A) → find p xs ≡ Some y → p y ≡ true
find_is p [] y h = absurd cc
find_is {A} p (x ∷ xs) y h = go (p x) refl h (find_is p xs y)
  where
    go : (b : Bool) → p x ≡ b → cond b (Some x) (find p xs) ≡ Some y → (find p xs ≡ Some y → p y ≡ true) → p y ≡ true
    go true e k f = let same : x ≡ y = cc in ap p (sym same) ∙ e
    go false e k f = f k

pub find_all : {A : Type 0} (P : A → Type 0) (p : A → Bool) (xs : List A) (y : A) → AllByRecursion P xs → find p xs ≡ Some y → P y
find_all P p [] y a h = absurd cc
find_all {A} P p (x ∷ xs) y a h = go (p x) h (find_all P p xs y a.1)
  where
    go : (b : Bool) → cond b (Some x) (find p xs) ≡ Some y → (find p xs ≡ Some y → P y) → P y
    go true k f = let same : x ≡ y = cc in subst P same a.0
    go false k f = f k

pub find_push : {A : Type 0} (p : A → Bool) (xs ys : List A) (y : A) → find p xs ≡ Some y → find p (xs ++ ys) ≡ Some y
find_push p [] ys y h = absurd cc
find_push {A} p (x ∷ xs) ys y h = go (p x) h (find_push p xs ys y)
  where
    go : (b : Bool) → cond b (Some x) (find p xs) ≡ Some y → (find p xs ≡ Some y → find p (xs ++ ys) ≡ Some y) → cond b (Some x) (find p (xs ++ ys)) ≡ Some y
    go true k f = k
    go false k f = f k

pub find_none : {A : Type 0} (p : A → Bool) (xs ys : List A) → AllByRecursion (λ x. p x ≡ false) xs → find p (xs ++ ys) ≡ find p ys
find_none p [] ys h = refl
find_none p (x ∷ xs) ys h = rw h.0 (find_none p xs ys h.1)

pub find_last : {A : Type 0} (p : A → Bool) (xs ys : List A) → find p xs ≡ None → find p (xs ++ ys) ≡ find p ys
find_last p [] ys h = refl
find_last {A} p (x ∷ xs) ys h = go (p x) h (find_last p xs ys)
  where
    go : (b : Bool) → cond b (Some x) (find p xs) ≡ None → (find p xs ≡ None → find p (xs ++ ys) ≡ find p ys) → cond b (Some x) (find p (xs ++ ys)) ≡ find p ys
    go true k f = absurd cc
    go false k f = f k

pub find_filter : {A : Type 0} (p q : A → Bool) (xs : List A) → ((x : A) → p x ≡ true → q x ≡ true) → find p (filter q xs) ≡ find p xs
find_filter p q [] f = refl
find_filter {A} p q (x ∷ xs) f = go (q x) (p x) refl (f x) (find_filter p q xs f)
  where
    go : (b c : Bool) → p x ≡ c → (p x ≡ true → b ≡ true) → find p (filter q xs) ≡ find p xs → find p (cond b (x ∷ filter q xs) (filter q xs)) ≡ cond c (Some x) (find p xs)
    go true true e g k = rw e refl
    go true false e g k = rw e k
    go false true e g k = absurd (let bad = g e in cc)
    go false false e g k = k

-- what is found after a filter passes it
pub found_kept : {A : Type 0} (p q : A → Bool) (xs : List A) (y : A) → find p (filter q xs) ≡ Some y → q y ≡ true
found_kept p q [] y h = absurd cc
found_kept {A} p q (x ∷ xs) y h = go (q x) refl h (found_kept p q xs y)
  where
    head : (b : Bool) → q x ≡ true → cond b (Some x) (find p (filter q xs)) ≡ Some y → (find p (filter q xs) ≡ Some y → q y ≡ true) → q y ≡ true
    head true e k f = let same : x ≡ y = cc in ap q (sym same) ∙ e
    head false e k f = f k

    go : (b : Bool) → q x ≡ b → find p (cond b (x ∷ filter q xs) (filter q xs)) ≡ Some y → (find p (filter q xs) ≡ Some y → q y ≡ true) → q y ≡ true
    go true e k f = head (p x) e k f
    go false e k f = f k

pub lookup_push : {K X : Type 0} (test : K → Bool) (xs ys : List (K × X)) (v : X) → lookup test xs ≡ Some v → lookup test (xs ++ ys) ≡ Some v
lookup_push test [] ys v h = absurd cc
lookup_push {K} {X} test (x ∷ xs) ys v h = go (test x.0) h (lookup_push test xs ys v)
  where
    go : (b : Bool) → cond b (Some x.1) (lookup test xs) ≡ Some v → (lookup test xs ≡ Some v → lookup test (xs ++ ys) ≡ Some v) → cond b (Some x.1) (lookup test (xs ++ ys)) ≡ Some v
    go true k f = k
    go false k f = f k

pub lookup_last : {K X : Type 0} (test : K → Bool) (xs ys : List (K × X)) → lookup test xs ≡ None → lookup test (xs ++ ys) ≡ lookup test ys
lookup_last test [] ys h = refl
lookup_last {K} {X} test (x ∷ xs) ys h = go (test x.0) h (lookup_last test xs ys)
  where
    go : (b : Bool) → cond b (Some x.1) (lookup test xs) ≡ None → (lookup test xs ≡ None → lookup test (xs ++ ys) ≡ lookup test ys) → cond b (Some x.1) (lookup test (xs ++ ys)) ≡ lookup test ys
    go true k f = absurd cc
    go false k f = f k

pub none_from_test : {A : Type 0} (o : Option A) → is_some o ≡ false → o ≡ None
none_from_test None h = refl
none_from_test (Some x) h = absurd cc

pub not_not : (b : Bool) → not b ≡ true → b ≡ false
not_not true h = absurd cc
not_not false h = refl

pub not_true : (b : Bool) → (b ≡ true → ⊥) → b ≡ false
not_true true f = absurd (f refl)
not_true false f = refl

pub or_false : (a b : Bool) → a ≡ false → b ≡ false → (a || b) ≡ false
or_false true b h k = h
or_false false b h k = k

pub only_if : {A : Type 0} (b : Bool) (x y : A) → cond b (Some x) None ≡ Some y → b ≡ true
only_if true x y h = refl
only_if false x y h = absurd cc

-- two numbers that differ
pub apart : (j k : ℕ) → (j ≡ k → ⊥) → (j == k) ≡ false
apart j k f = not_true (j == k) (λ e. f ((Decides-eqb j k).0 e))

pub differs : (j k : ℕ) → (j == k) ≡ false → j ≡ k → ⊥
differs j k h e = let yes : (j == k) ≡ true = (Decides-eqb j k).1 e in absurd cc
