-- The tokens of a text: at each place the longest piece.
use Rattle.std.specs.Prelude.{ℕ, List, [], ◌∷◌, length, max, Some, None}
use Rattle.pd_lex.specs.declared.token.TokenKind.{TokenKind}
use Rattle.pd_lex.specs.declared.token.Place.{Place}
use Rattle.pd_lex.specs.Places.{first_place, joined, place_after}
use Rattle.pd_lex.specs.Spellings.{IsLongest, IsStuck}

-- a token: its kind, its octets as written, newlines among them, and the place of the first
pub record Lexeme : Type 0 where
  pub kind : TokenKind
  pub text : List ℕ
  pub from : Place

-- a token; or, once, the last item: the end of the text or the first place where no token can be read, with its line
pub data Item : Type 0 where
  lexeme : Lexeme → Item
  ending : ℕ → Item
  bad : ℕ → Item

-- the line in which an item begins
abbrev pub line_of : Item → ℕ
line_of (lexeme x) = x.from.line
line_of (ending line) = line
line_of (bad line) = line

-- the items of what is left of a text from a place on: blanks and comments are passed over, the longest piece is the
-- token, and they end with the text, in its last line, or in the line where no piece fits
pub data AreItems (last : ℕ) : Place → List ℕ → List Item → Type 0 where
  at_end : {p : Place} → AreItems last p [] (ending last ∷ [])
  after_gap : {p : Place} {s text rest : List ℕ} {more : List Item} → IsLongest s None text rest → AreItems last (place_after p text) rest more → AreItems last p s more
  at_token : {p : Place} {s text rest : List ℕ} {kind : TokenKind} {more : List Item} → IsLongest s (Some kind) text rest → AreItems last (place_after p text) rest more → AreItems last p s (lexeme (record { kind = kind; text = text; from = p }) ∷ more)
  at_stuck : {p : Place} {s : List ℕ} → IsStuck s → AreItems last p s (bad p.line ∷ [])

-- the items of a text; an empty text ends in line 1
abbrev pub AreItemsOf : List (List ℕ) → List Item → Type 0
AreItemsOf lines items = AreItems (max 1 (length lines)) first_place (joined lines) items
