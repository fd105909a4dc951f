-- Lines that come one after another in one row of octets.
use Rattle.std.specs.Prelude.{ℕ, zero, suc, ◌-◌, ◌==◌, Bool, ◌&&◌, nat_le, List, [], ◌∷◌, take, drop}

-- the octets from one place up to another
abbrev pub octets_between : List ℕ → ℕ → ℕ → List ℕ
octets_between octets from to = take (to - from) (drop from octets)

-- the lines that end at these places, the first of which begins at a place
abbrev pub lines_from : ℕ → List ℕ → List ℕ → List (List ℕ)
lines_from at octets [] = []
lines_from at octets (end ∷ ends) = octets_between octets at end ∷ lines_from end octets ends

-- the places go up from one to another, which is the last of them
abbrev pub are_ends : ℕ → ℕ → List ℕ → Bool
are_ends at last [] = at == last
are_ends at last (end ∷ ends) = nat_le at end && are_ends end last ends

-- where a line begins, the first of which begins at a place; after the last line, where that one ends
abbrev pub start_at : ℕ → ℕ → List ℕ → ℕ
start_at at zero ends = at
start_at at (suc i) [] = at
start_at at (suc i) (end ∷ ends) = start_at end i ends
