-- The answers of the lexer's steps, against the rest of the text.
use Rattle.std.specs.Prelude.{◌≡◌, ℕ, ◌+◌, ◌^◌, ◌<◌, ◌≤◌, Bool, true, false, not, ◌&&◌, nat_eq, List, [], ◌∷◌, length, take, drop, codes, Option, Some, None, if◌then◌else◌, ◌*◌, ◌%◌}
use Rattle.std.specs.List.{prefix_len, starts_with}
use Rattle.pd_lex.specs.declared.token.TokenKind.{TokenKind}
use Rattle.pd_lex.specs.declared.token.TokenKind.TheVariants.{Hex, Word, Str, Cmd, Code, Symbol}
use Rattle.pd_lex.specs.declared.token.Place.{Place}
use Rattle.pd_lex.specs.declared.scan.Piece.{Piece}
use Rattle.pd_lex.specs.declared.scan.Piece.TheVariants as pieces
use Rattle.pd_lex.specs.declared.scan.Opener.{Opener}
use Rattle.pd_lex.specs.declared.scan.Opener.TheVariants as openers
use Rattle.pd_lex.specs.declared.step.LexStep.{LexStep}
use Rattle.pd_lex.specs.declared.step.LexStep.TheVariants as steps
use Rattle.pd_lex.specs.Kinds.{stays_in_line}
use Rattle.pd_lex.specs.Octets.{is_digit, is_word, is_not_newline}
use Rattle.pd_lex.specs.Places.{octets_from, between, line_at, IsPlace}
use Rattle.pd_lex.specs.Pieces.{is_hex_number, opener_len, gap, token, stray, front}
use Rattle.std.specs.Char.{digit_value}

-- how many octets of the line a piece or its opener has
abbrev pub piece_len : Piece → ℕ
piece_len (pieces.Blank n) = n
piece_len (pieces.Whole kind n) = n
piece_len (pieces.Open o) = opener_len o
piece_len pieces.Stray = 1

-- the place from which this much is left
pub record IsLeftAt (lines : List (List ℕ)) (p : Place) (rest : List ℕ) : Type 0 where
  pub place : IsPlace lines p
  pub left : octets_from lines p ≡ rest

-- the place after an end, where there is one
abbrev pub IsClosed : List (List ℕ) → Option (List ℕ) → Option Place → Type 0
IsClosed lines None None = Unit {0}
IsClosed lines (Some rest) (Some p) = IsLeftAt lines p rest
IsClosed lines None (Some p) = ⊥
IsClosed lines (Some rest) None = ⊥

-- a place within a line, of which this much is left, one octet at least
pub record IsLeftInLine (lines : List (List ℕ)) (p : Place) (rest : List ℕ) : Type 0 where
  pub place : IsPlace lines p
  pub line : p.line ≤ length lines
  pub rest_is : rest ≡ drop p.at (line_at lines p.line)
  pub some : 0 < length rest
  pub small : p.at + length rest < 2 ^ 64

-- a letter or `_` is at the front
abbrev pub begins_name : List ℕ → Bool
begins_name [] = false
begins_name (b ∷ s) = is_word b && not (is_digit b)

-- a run of letters, digits and `_`, among them one that is no digit
abbrev pub run_piece : List ℕ → Piece
run_piece s = let n = prefix_len is_word s in if is_hex_number (take n s) then pieces.Whole Hex n else pieces.Whole Word n

-- `//` with the rest of the line, `/*`, or the slash
abbrev pub slash_piece : List ℕ → Piece
slash_piece s = if starts_with nat_eq s (codes "//") then pieces.Blank (prefix_len is_not_newline s) else (if starts_with nat_eq s (codes "/*") then pieces.Open openers.Comment else pieces.Whole Symbol 1)

-- `%{`, or the percent sign
abbrev pub percent_piece : List ℕ → Piece
percent_piece s = if starts_with nat_eq s (codes "%{") then pieces.Open openers.Brace else pieces.Whole Symbol 1

-- one step: what is at a place, and the place after it
abbrev pub IsStep : List (List ℕ) → Place → LexStep → Type 0
IsStep lines p (steps.Gap q) = IsPlace lines q × (front (octets_from lines p) ≡ gap (octets_from lines q))
IsStep lines p (steps.Token kind text q) = IsPlace lines q × (front (octets_from lines p) ≡ token kind (octets_from lines q)) × (stays_in_line kind ≡ true → q.line ≡ p.line) × (stays_in_line kind ≡ true → text.now ≡ between lines p q)
IsStep lines p steps.Stray = front (octets_from lines p) ≡ stray

-- the kind of token that it opens, or a comment
abbrev pub opener_kind : Opener → Option TokenKind
opener_kind openers.Comment = None
opener_kind openers.Quote = Some Str
opener_kind openers.Backquote = Some Cmd
opener_kind openers.Brace = Some Code

-- the step over what was opened, to the place after its end
abbrev pub IsClosing : Opener → Place → LexStep → Type 0
IsClosing o q (steps.Gap r) = (opener_kind o ≡ None) × (r ≡ q)
IsClosing o q (steps.Token kind text r) = (opener_kind o ≡ Some kind) × (r ≡ q)
IsClosing o q steps.Stray = ⊥

-- a number with one decimal digit more, modulo 2^64
abbrev pub wrapped_digit : ℕ → ℕ → ℕ
wrapped_digit n digit = (n * 10 % 2 ^ 64 + digit_value digit) % 2 ^ 64

-- the octet at the front, or 0
abbrev pub first_octet_or_zero : List ℕ → ℕ
first_octet_or_zero [] = 0
first_octet_or_zero (b ∷ s) = b
