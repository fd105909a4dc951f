-- The front of a text: a blank, a comment or a token.
use Rattle.std.specs.Prelude.{ℕ, ◌+◌, Bool, ◌&&◌, nat_lt, nat_eq, ◌==◌, List, [], ◌∷◌, length, take, drop, codes, Option, Some, None, if◌then◌else◌}
use Rattle.std.specs.List.{prefix_len, list_all, starts_with}
use Rattle.pd_lex.specs.declared.token.TokenKind.{TokenKind}
use Rattle.pd_lex.specs.declared.token.TokenKind.TheVariants.{Int, Hex, Word, Decimal, Dots, Opt, Str, Cmd, Code, Symbol}
use Rattle.pd_lex.specs.declared.scan.Piece.{Piece}
use Rattle.pd_lex.specs.declared.scan.Piece.TheVariants.{Blank, Whole, Open, Stray}
use Rattle.pd_lex.specs.declared.scan.Opener.{Opener}
use Rattle.pd_lex.specs.declared.scan.Opener.TheVariants as openers
use Rattle.pd_lex.specs.Octets.{quote, dash, point, equals, backslash, backquote, is_digit, is_hex_digit, is_word, is_blank, is_nonblank, is_not_newline, is_printable}

-- `0x` and one or more hexadecimal digits
abbrev pub is_hex_number : List ℕ → Bool
is_hex_number s = starts_with nat_eq s (codes "0x") && nat_lt 2 (length s) && list_all is_hex_digit (drop 2 s)

-- the length of a point with one or more digits, or 0
abbrev pub fraction_len : List ℕ → ℕ
fraction_len [] = 0
fraction_len (b ∷ s) = if (b == point) && nat_lt 0 (prefix_len is_digit s) then prefix_len is_digit s + 1 else 0

-- the length of `=` with all up to the next blank, or 0
abbrev pub len_of_equals_and_option_value : List ℕ → ℕ
len_of_equals_and_option_value [] = 0
len_of_equals_and_option_value (b ∷ s) = if b == equals then prefix_len is_nonblank s + 1 else 0

-- a run of letters, digits and `_`; digits alone may go on as a decimal
unfoldable pub word_piece : List ℕ → Piece
word_piece s =
    let n = prefix_len is_word s in
    let fraction = fraction_len (drop n s) in
    if list_all is_digit (take n s) then (if nat_lt 0 fraction then Whole Decimal (n + fraction) else Whole Int n)
    else (if is_hex_number (take n s) then Whole Hex n else Whole Word n)

-- `...`, a decimal without a whole part, or the point
unfoldable pub point_piece : List ℕ → Piece
point_piece s =
    let fraction = fraction_len s in
    if starts_with nat_eq s (codes "...") then Whole Dots 3
    else (if nat_lt 0 fraction then Whole Decimal fraction else Whole Symbol 1)

-- `--` with a name and a value, or the minus
unfoldable pub dash_piece : List ℕ → Piece
dash_piece s =
    let name = prefix_len is_word (drop 2 s) in
    if starts_with nat_eq s (codes "--") && nat_lt 0 name then Whole Opt (2 + name + len_of_equals_and_option_value (drop name (drop 2 s)))
    else Whole Symbol 1

-- the piece at the front of a line
unfoldable pub piece : List ℕ → Piece
piece [] = Stray
piece (b ∷ s) =
    if is_blank b then Blank 1
    else (if is_word b then word_piece (b ∷ s)
    else (if b == point then point_piece (b ∷ s)
    else (if b == dash then dash_piece (b ∷ s)
    else (if starts_with nat_eq (b ∷ s) (codes "//") then Blank (prefix_len is_not_newline (b ∷ s))
    else (if starts_with nat_eq (b ∷ s) (codes "/*") then Open openers.Comment
    else (if b == quote then Open openers.Quote
    else (if b == backquote then Open openers.Backquote
    else (if starts_with nat_eq (b ∷ s) (codes "%{") then Open openers.Brace
    else (if is_printable b then Whole Symbol 1 else Stray)))))))))

-- the octets after the first place where these two octets come one after the other
abbrev pub find_rest_after_octet_pair : ℕ → ℕ → List ℕ → Option (List ℕ)
find_rest_after_octet_pair x y [] = None
find_rest_after_octet_pair x y (b ∷ s) = if starts_with nat_eq (b ∷ s) (x ∷ y ∷ []) then Some (drop 1 s) else find_rest_after_octet_pair x y s

-- the octets after the first backquote
abbrev pub rest_after_backquote : List ℕ → Option (List ℕ)
rest_after_backquote [] = None
rest_after_backquote (b ∷ s) = if b == backquote then Some s else rest_after_backquote s

-- the octets after the first `"`; a backslash takes the next octet with it
abbrev pub rest_after_unescaped_quote : List ℕ → Option (List ℕ)
rest_after_unescaped_quote [] = None
rest_after_unescaped_quote (b ∷ []) = if b == quote then Some [] else None
rest_after_unescaped_quote (b ∷ c ∷ s) = if b == quote then Some (c ∷ s) else (if b == backslash then rest_after_unescaped_quote s else rest_after_unescaped_quote (c ∷ s))

-- the octets after the end of the piece that was opened: `*/`, `"`, a backquote or `}%`
abbrev pub rest_after_closing : Opener → List ℕ → Option (List ℕ)
rest_after_closing openers.Comment s = find_rest_after_octet_pair 42 47 s
rest_after_closing openers.Quote s = rest_after_unescaped_quote s
rest_after_closing openers.Backquote s = rest_after_backquote s
rest_after_closing openers.Brace s = find_rest_after_octet_pair 125 37 s

-- the octets that open it: `/*`, `"`, a backquote or `%{`
abbrev pub opener_text : Opener → List ℕ
opener_text openers.Comment = codes "/*"
opener_text openers.Quote = codes "\""
opener_text openers.Backquote = codes "`"
opener_text openers.Brace = codes "%{"

-- how many octets open it
abbrev pub opener_len : Opener → ℕ
opener_len o = length (opener_text o)

-- the front of a text: nothing, a blank or a comment, a token, or an octet that begins nothing; and the octets
-- after it
pub data Front : Type 0 where
  nothing : Front
  gap : List ℕ → Front
  token : TokenKind → List ℕ → Front
  stray : Front

-- the piece that was opened, when it is known which octets are left after its end
abbrev pub closed : Opener → Option (List ℕ) → Front
closed o None = stray
closed openers.Comment (Some rest) = gap rest
closed openers.Quote (Some rest) = token Str rest
closed openers.Backquote (Some rest) = token Cmd rest
closed openers.Brace (Some rest) = token Code rest

-- a piece of the line at the front of what is left
abbrev pub parted : List ℕ → Piece → Front
parted s (Blank n) = gap (drop n s)
parted s (Whole kind n) = token kind (drop n s)
parted s (Open o) = closed o (rest_after_closing o (drop (opener_len o) s))
parted s Stray = stray

-- the front of a text: nothing where it ends, else the piece that comes first
unfoldable pub front : List ℕ → Front
front [] = nothing
front (b ∷ s) = parted (b ∷ s) (piece (b ∷ s))
