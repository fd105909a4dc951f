-- Lists as long agree in what their items become exactly where all pairs do.
use Rattle.std.proofs.Common.{◌≡◌, ◌≢◌, ℕ, zero, suc, ◌<◌, Bool, true, false, List, [], ◌∷◌, map, length, Option, MatchOption, refl, sym, arith}
use denote.Param.Members.{Mut}
use mathlib.Core.Bool.{true≢false}
use Rattle.std.specs.Bool.{MatchBool, Decides}
use Rattle.std.specs.Fn.{Called}
use Rattle.std.specs.Iterator.{YieldsThen}
use Rattle.std.specs.List.{FoldsTo, AllWithin, HoldsAt, zip}
use Rattle.std.proofs.lemmas.Iterator.{YieldsList, cases_from_all}

module _ {X Z Y : Type 0} (w : X → Y) (v : Z → Y) where
  each_image : (xs : List X) (ys : List Z) → length xs ≡ length ys → AllWithin (λ p. w p.0 ≡ v p.1) (zip xs ys) 0 (length (zip xs ys)) → map w xs ≡ map v ys
  each_image [] [] e h = refl
  each_image [] (y ∷ ys) e h = absurd (omega arith)
  each_image (x ∷ xs) [] e h = absurd (omega arith)
  each_image (x ∷ xs) (y ∷ ys) e h = λ i. h 0 (x, y) (omega arith) (omega arith) i ∷ each_image xs ys (omega arith) (λ k d a b. h (suc k) d (omega arith) (omega arith)) i

  one_differs : (k : ℕ) (xs : List X) (ys : List Z) → k < length (zip xs ys) → HoldsAt (λ p. w p.0 ≡ v p.1 → ⊥) (zip xs ys) k → map w xs ≡ map v ys → ⊥
  one_differs k [] ys l h q = omega (arith, l)
  one_differs k (x ∷ xs) [] l h q = omega (arith, l)
  one_differs zero (x ∷ xs) (y ∷ ys) l h q = h (x, y) (cc)
  one_differs (suc k) (x ∷ xs) (y ∷ ys) l h q = one_differs k xs ys (omega arith) h (cc)

  by_pairs : (xs : List X) (ys : List Z) (r : Bool) → length xs ≡ length ys
      → MatchBool r (AllWithin (λ p. w p.0 ≡ v p.1) (zip xs ys) 0 (length (zip xs ys))) ((k : ℕ) × (k < length (zip xs ys)) × HoldsAt (λ p. w p.0 ≢ v p.1) (zip xs ys) k) → Decides r (map w xs ≡ map v ys)
  by_pairs xs ys true e h = ((λ _. each_image xs ys e h), λ _. refl)
  by_pairs xs ys false e h = ((λ t. absurd (true≢false (sym t))), λ q. absurd (one_differs h.0 xs ys h.1 h.2 q))

pub images_from_all : {S A X Z Y F : Type 0} {steps : S → Option A → S → Type 0} {v : A → X × Z} {g : Mut F (A × Unit {0}) Bool} {s : S} (w : X → Y) (o : Z → Y) (u : S) (f : F) (r : Bool) (xs : List X) (ys : List Z)
    → (zs : List A) × (l : Option A) × (j : F) × YieldsThen steps s zs l u × FoldsTo (λ p x q. Called g p (x, tt) true q) f zs j × MatchOption l (r ≡ true) (λ x. (r ≡ false) × ((h : F) × Called g j (x, tt) false h))
    → YieldsList steps v s (zip xs ys) → length xs ≡ length ys → ((x : A) (q : F) → Called g f (x, tt) true q → (q ≡ f) × (w (v x).0 ≡ o (v x).1)) → ((x : A) (q : F) → Called g f (x, tt) false q → w (v x).0 ≢ o (v x).1) → Decides r (map w xs ≡ map o ys)
images_from_all w o u f r xs ys d e n yes' no' = by_pairs w o xs ys r n (cases_from_all u f r (λ p. w p.0 ≡ o p.1) (λ p. w p.0 ≢ o p.1) d e yes' no')
