-- A cursor over the items of a text.
use Rattle.std.specs.Prelude.{◌≡◌, ℕ, List, [], ◌∷◌, length, max, Result, Ok, Err, ⊤, true, Bool, Option, Some, None, if◌then◌else◌}
use Rattle.pd_lex.specs.declared.token.Token.{Token}
use Rattle.pd_lex.specs.declared.token.Lexed.{Lexed}
use Rattle.pd_lex.specs.declared.token.Lexed.TheVariants as lexed
use Rattle.pd_lex.specs.Tokens.{Item, lexeme, ending, bad}
use Rattle.pd_lex.specs.Lexing.{items, lexeme_of}
use Rattle.pd_lex.specs.Next.{HasText}
use Rattle.pd_script.specs.declared.parse_error.ParseError.{ParseError}
use Rattle.pd_script.specs.declared.parse_error.ParseError.TheVariants as parse_error
use Rattle.pd_script.specs.Reader.{Read}
use Rattle.pd_lex.specs.declared.token.Place.{Place}
use Rattle.pd_script.specs.Items.{is_header}
use Rattle.pd_script.specs.declared.script_header.HeaderItem.{HeaderItem}
use Rattle.pd_script.specs.Header.{header_item, place_after_item}

-- the items that are left: the next, as the lexer answered it, and those after it
abbrev pub left : List (List ℕ) → Lexed → List Item
left lines (lexed.Token t) = lexeme (lexeme_of lines t) ∷ items lines t.to
left lines lexed.End = ending (max 1 (length lines)) ∷ []
left lines (lexed.Bad line) = bad line ∷ []

-- the next item of a text, and with it the rest
abbrev pub IsPeeked : Lexed → List Item → Type 0
IsPeeked next ts = (lines : List (List ℕ)) × HasText lines next × (ts ≡ left lines next)

-- a token with the octets that it has itself
abbrev pub shown : Token → Item
shown t = lexeme (record { kind = t.kind; text = t.text.now; from = t.from })

-- the answer of a method of a cursor, and the rest that it left, are those of the reader; at a fault the cursor is there
abbrev pub Leaves : {X : Type 0} → Result X ParseError → List Item → Read X → Type 0
Leaves (Ok x) rest read = read ≡ Ok (x, rest)
Leaves (Err parse_error.Syntax) rest read = read ≡ Err rest
Leaves (Err parse_error.OutOfMemory) rest read = Unit {0}

-- the same of a method that leaves what it read in a state
abbrev pub Moves : {S : Type 0} → Result ⊤ ParseError → S → List Item → Read S → Type 0
Moves (Ok x) state rest read = read ≡ Ok (state, rest)
Moves (Err parse_error.Syntax) state rest read = read ≡ Err rest
Moves (Err parse_error.OutOfMemory) state rest read = Unit {0}

-- the same of a note, of which nothing is kept
abbrev pub SkipsNote : {X : Type 0} → Result X ParseError → List Item → Read (List ℕ) → Type 0
SkipsNote (Ok x) rest read = read ≡ Ok ([], rest)
SkipsNote (Err parse_error.Syntax) rest read = read ≡ Err rest
SkipsNote (Err parse_error.OutOfMemory) rest read = Unit {0}

-- at a place of a text a header item stands, with this place after it
pub record IsItemAt (lines : List (List ℕ)) (place : Place) (item : HeaderItem) (after : Place) : Type 0 where
  pub token : Item
  pub next : items lines place ≡ token ∷ items lines after
  pub test : is_header token ≡ true
  pub value : header_item token ≡ item
  pub end : place_after_item place token ≡ after

-- the value of an item that passes a test
abbrev pub given : {A : Type 0} → (Item → Bool) → (Item → A) → Item → Option A
given test value t = if test t then Some (value t) else None
