-- The items of a text.
use Rattle.std.specs.Prelude.{◌≡◌, ℕ, List, ◌∷◌}
use Rattle.pd_text.specs.Text.{AreLines}
use Rattle.pd_lex.specs.declared.token.Place.{Place}
use Rattle.pd_lex.specs.Places.{first_place, place_after}
use Rattle.pd_lex.specs.Tokens.{Lexeme, Item, lexeme, AreItemsOf}
use Rattle.pd_lex.specs.Lexing.{items}

-- the items of every text are those that the longest piece at each place gives
abbrev pub ItemsAreLongest : Type 0
ItemsAreLongest = (lines : List (List ℕ)) → AreItemsOf lines (items lines first_place)

-- and nothing else is
abbrev pub NoOthersAreLongest : Type 0
NoOthersAreLongest = (lines : List (List ℕ)) (others : List Item) → AreItemsOf lines others → others ≡ items lines first_place

-- after a token stand the items from the place after it
abbrev pub GoOn : List (List ℕ) → List Item → Type 0
GoOn lines those = (x : Lexeme) (rest : List Item) → those ≡ lexeme x ∷ rest → rest ≡ items lines (place_after x.from x.text)

-- so it is in every text, from every place
abbrev pub ItemsGoOn : Type 0
ItemsGoOn = (lines : List (List ℕ)) (p : Place) → AreLines lines → GoOn lines (items lines p)
