-- Where no element is over its limit, the one at an index isn't.
use Rattle.std.proofs.Common.{◌≡◌, ℕ, ◌<◌, Bool, true, false, List, length, get_or, refl, sym, ◌∙◌}
use Rattle.std.proofs.lemmas.List.Folds.{list_any_at}
use Rattle.std.specs.List.{list_any}

not_true : {X : Type 0} (p : X → Bool) (xs : List X) (b : Bool) → (b ≡ true → list_any p xs ≡ true) → list_any p xs ≡ false → b ≡ false
not_true p xs true settles none = sym (settles refl) ∙ none
not_true p xs false settles none = refl

pub none_at : {X : Type 0} (p : X → Bool) (xs : List X) (i : ℕ) (d : X) → i < length xs → list_any p xs ≡ false → p (get_or xs i d) ≡ false
none_at p xs i d within none = not_true p xs (p (get_or xs i d)) (list_any_at p xs i d within) none
