-- Lists of names of rules.
use Rattle.std.specs.Prelude.{ℕ, not, Bool, List, [], ◌∷◌, ◌++◌, filter, fold, flat_map, bytes_eq, Option, Some, None, if◌then◌else◌}
use Rattle.std.specs.List.{list_any}

-- one, if there is one
abbrev pub as_list : {A : Type 0} → Option A → List A
as_list None = []
as_list (Some x) = x ∷ []

-- those that are there
abbrev pub present : {A : Type 0} → List (Option A) → List A
present options = flat_map as_list options

-- a name is among others
abbrev pub is_named : List (List ℕ) → List ℕ → Bool
is_named names name = list_any (λ each. bytes_eq each name) names

-- those of the names that aren't among others
abbrev pub entered : List (List ℕ) → List (List ℕ) → List (List ℕ)
entered before after = filter (λ name. not (is_named before name)) after

-- a name more, unless it is there
abbrev pub with_name : List (List ℕ) → List ℕ → List (List ℕ)
with_name names name = if is_named names name then names else names ++ name ∷ []

-- each name once
abbrev pub each_once : List (List ℕ) → List (List ℕ)
each_once names = fold with_name [] names
