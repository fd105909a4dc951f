-- The lexer's answer at a place, in terms of spellings.
use Rattle.std.specs.Prelude.{◌≡◌, ℕ, ◌≤◌, true, List, [], length, Some}
use Rattle.pd_lex.specs.declared.token.Place.{Place}
use Rattle.pd_lex.specs.declared.token.Token.{Token}
use Rattle.pd_lex.specs.declared.token.Lexed.{Lexed}
use Rattle.pd_lex.specs.declared.token.Lexed.TheVariants as lexed
use Rattle.pd_lex.specs.Places.{IsPlace, octets_from, between, line_at}
use Rattle.pd_lex.specs.Kinds.{stays_in_line}
use Rattle.pd_lex.specs.Lexing.{IsNext, lexeme_of}
use Rattle.pd_lex.specs.Spellings.{IsLongest, IsStuck, Skips}

-- after blanks and comments the token is the longest piece, from its first place up to its last, both places of the text
pub record IsTokenAt (lines : List (List ℕ)) (p : Place) (t : Token) : Type 0 where
  pub skipped : Skips (octets_from lines p) (octets_from lines t.from)
  pub longest : IsLongest (octets_from lines t.from) (Some t.kind) (between lines t.from t.to) (octets_from lines t.to)
  pub from : IsPlace lines t.from
  pub after : IsPlace lines t.to

-- after blanks and comments, in this line, no piece fits
pub record IsBadAt (lines : List (List ℕ)) (p : Place) (line : ℕ) : Type 0 where
  pub at : Place
  pub skipped : Skips (octets_from lines p) (octets_from lines at)
  pub stuck : IsStuck (octets_from lines at)
  pub place : IsPlace lines at
  pub line_is : at.line ≡ line

-- the token, the end of the text after blanks and comments alone, or the bad line
abbrev pub IsCut : List (List ℕ) → Place → Lexed → Type 0
IsCut lines p (lexed.Token t) = IsTokenAt lines p t
IsCut lines p lexed.End = Skips (octets_from lines p) []
IsCut lines p (lexed.Bad line) = IsBadAt lines p line

-- a token and a bad place lie in a line of the text
abbrev pub HasLine : List (List ℕ) → Lexed → Type 0
HasLine lines (lexed.Token t) = (1 ≤ t.from.line) × (t.from.line ≤ length lines)
HasLine lines lexed.End = Unit {0}
HasLine lines (lexed.Bad line) = (1 ≤ line) × (line ≤ length lines)

-- a token whose kind stays in its line has its octets
abbrev pub HasText : List (List ℕ) → Lexed → Type 0
HasText lines (lexed.Token t) = stays_in_line t.kind ≡ true → t.text.now ≡ (lexeme_of lines t).text
HasText lines lexed.End = Unit {0}
HasText lines (lexed.Bad line) = Unit {0}

-- these are the octets of the line in which the place after a token lies
abbrev pub HasLineAfter : List (List ℕ) → Lexed → List ℕ → Type 0
HasLineAfter lines (lexed.Token t) octets = (1 ≤ t.to.line) × (octets ≡ line_at lines t.to.line)
HasLineAfter lines lexed.End octets = Unit {0}
HasLineAfter lines (lexed.Bad line) octets = Unit {0}

-- the item that is read at a place, and the octets of the line in which it ends
pub record IsReadAt (lines : List (List ℕ)) (p : Place) (found : Lexed) (octets : List ℕ) : Type 0 where
  pub next : IsNext lines p found
  pub cut : IsCut lines p found
  pub line : HasLine lines found
  pub text : HasText lines found
  pub after : HasLineAfter lines found octets
