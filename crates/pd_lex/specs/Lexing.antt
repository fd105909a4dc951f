-- The items of a text, piece by piece.
use Rattle.std.specs.Prelude.{◌≡◌, ℕ, zero, suc, List, [], ◌∷◌, length, max}
use Rattle.pd_lex.specs.declared.token.Place.{Place}
use Rattle.pd_lex.specs.declared.token.Token.{Token}
use Rattle.pd_lex.specs.declared.token.Lexed.{Lexed}
use Rattle.pd_lex.specs.declared.token.Lexed.TheVariants as lexed
use Rattle.pd_lex.specs.Places.{clamped_place, octets_from, place_after, before, between}
use Rattle.pd_lex.specs.Tokens.{Lexeme, Item, lexeme, ending, bad}
use Rattle.pd_lex.specs.Pieces.{Front, nothing, gap, token, stray, front}

-- the items from a place on, when it is known what is there and what the items of less are
abbrev pub followed : (Place → List ℕ → List Item) → ℕ → Place → List ℕ → Front → List Item
followed items last p s nothing = ending last ∷ []
followed items last p s (gap rest) = items (place_after p (before s rest)) rest
followed items last p s (token kind rest) = lexeme (record { kind = kind; text = before s rest; from = p }) ∷ items (place_after p (before s rest)) rest
followed items last p s stray = bad p.line ∷ []

-- the items of what is left at a place, in at most so many pieces
unfoldable pub items_within : ℕ → ℕ → Place → List ℕ → List Item
items_within zero last p s = ending last ∷ []
items_within (suc pieces) last p s = followed (items_within pieces last) last p s (front s)

-- the items of a text from a place on: the tokens in order, then the end or the first bad place
-- (a piece has an octet at least)
unfoldable pub items : List (List ℕ) → Place → List Item
items lines p = items_within (length (octets_from lines p)) (max 1 (length lines)) (clamped_place lines p) (octets_from lines p)

-- a token of the code as one of these
unfoldable pub lexeme_of : List (List ℕ) → Token → Lexeme
lexeme_of lines t = record { kind = t.kind; text = between lines t.from t.to; from = t.from }

-- the answer is the next item, and the others follow from the place after it
abbrev pub IsNext : List (List ℕ) → Place → Lexed → Type 0
IsNext lines p (lexed.Token t) = items lines p ≡ lexeme (lexeme_of lines t) ∷ items lines t.to
IsNext lines p lexed.End = items lines p ≡ ending (max 1 (length lines)) ∷ []
IsNext lines p (lexed.Bad line) = items lines p ≡ bad line ∷ []
