-- The items of texts that are equal in their first lines.
use Rattle.std.specs.Prelude.{◌≡◌, ℕ, ◌≤◌, true, List, [], ◌∷◌, length, take, max}
use Rattle.pd_text.specs.Text.{AreLines}
use Rattle.pd_lex.specs.declared.token.Place.{Place}
use Rattle.pd_lex.specs.Kinds.{stays_in_line}
use Rattle.pd_lex.specs.Places.{place_after}
use Rattle.pd_lex.specs.Tokens.{Lexeme, Item, lexeme, ending, bad}
use Rattle.pd_lex.specs.Lexing.{items}

-- the line of the place after a token
abbrev pub last_line : Lexeme → ℕ
last_line x = (place_after x.from x.text).line

-- the items come in order, from this line to the last: a token begins in this line or a later one, and those after it
-- not before the line of its end; a token of a kind that stays in its line ends where it begins
abbrev pub IsInOrder : ℕ → ℕ → List Item → Type 0
IsInOrder line last [] = Unit {0}
IsInOrder line last (lexeme x ∷ items) = (line ≤ x.from.line) × (x.from.line ≤ last) × (x.from.line ≤ last_line x) × (stays_in_line x.kind ≡ true → last_line x ≡ x.from.line) × IsInOrder (last_line x) last items
IsInOrder line last (ending n ∷ items) = n ≡ last
IsInOrder line last (bad n ∷ items) = (line ≤ n) × (n ≤ last)

-- as long as the tokens of one list end within the first `same` lines, the other list has the same
abbrev pub AgreeTo : ℕ → List Item → List Item → Type 0
AgreeTo same [] others = Unit {0}
AgreeTo same (lexeme x ∷ items) others = last_line x ≤ same → (rest : List Item) × (others ≡ lexeme x ∷ rest) × AgreeTo same items rest
AgreeTo same (ending n ∷ items) others = Unit {0}
AgreeTo same (bad n ∷ items) others = Unit {0}

-- the items of every text come in order, from every place; an empty text has line 1
abbrev pub ItemsAreInOrder : Type 0
ItemsAreInOrder = (lines : List (List ℕ)) (p : Place) → AreLines lines → IsInOrder p.line (max 1 (length lines)) (items lines p)

-- texts whose first `same` lines are equal have the same tokens there, from every place
abbrev pub FirstLinesAgree : Type 0
FirstLinesAgree = (lines others : List (List ℕ)) (same : ℕ) (p : Place) → AreLines lines → AreLines others → same ≤ length lines → take same lines ≡ take same others → AgreeTo same (items lines p) (items others p)
