-- A name is found exactly as the key's that has it.
use Rattle.std.proofs.Common.{◌≡◌, ℕ, Bool, true, false, cond, List, [], ◌∷◌, Some, refl, ap}
use Rattle.std.specs.Prelude.{find}
use Rattle.std.specs.Str.{bytes_eq}
use Rattle.std.proofs.lemmas.Slice.Eq.{bytes_eq-Decides}
use Rattle.pd_settings.specs.declared.keys.Key.{Key}
use Rattle.pd_settings.specs.declared.keys.Key.TheVariants.{Mss}
use Rattle.pd_settings.specs.Keys.{name_of, key_named}
use Rattle.pd_settings.specs.Rows.{all_keys}

-- what is found passes the test
find-passes : {A : Type 0} (p : A → Bool) (xs : List A) (x : A) → find p xs ≡ Some x → p x ≡ true
find-passes p [] x e = absurd cc
find-passes p (y ∷ ys) x e = go (p y) refl (find-passes p ys x) e
  where
    go : (b : Bool) → p y ≡ b → (find p ys ≡ Some x → p x ≡ true) → cond b (Some y) (find p ys) ≡ Some x → p x ≡ true
    go true is later e = let same : y ≡ x = cc in cc
    go false is later e = later e

pub named-is : (name : List ℕ) (key : Key) → key_named name ≡ Some key → name_of key ≡ name
named-is name key e = (bytes_eq-Decides (name_of key) name).0 (find-passes (λ k. bytes_eq (name_of k) name) all_keys key e)

pub named-name_of : (key : Key) → key_named (name_of key) ≡ Some key
named-name_of Mss = refl
named-name_of _ = refl

-- where a name is one key's, another key with that name is the same key
pub same_key : (name : List ℕ) (one other : Key) → key_named name ≡ Some one → name ≡ name_of other → one ≡ other
same_key name one other e same =
    let itself : key_named (name_of other) ≡ Some other = named-name_of other in
    let moved : key_named name ≡ key_named (name_of other) = ap key_named same in cc
