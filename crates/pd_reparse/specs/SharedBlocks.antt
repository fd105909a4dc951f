-- Items that are in blocks.
use Rattle.std.specs.Prelude.{List, flat_map}

-- the items of the blocks, in order
abbrev pub items_in : {X : Type 0} → List (List X) → List X
items_in blocks = flat_map (λ block. block) blocks
