-- How blanks, comments and tokens are spelled, and which of them is at the front of a text: the longest.
use Rattle.std.specs.Prelude.{◌≡◌, ◌≢◌, ℕ, ◌≤◌, ◌<◌, Bool, false, IsTrue, List, [], ◌∷◌, ◌++◌, length, codes, Option, Some, None, ◌⊎◌}
use Rattle.std.specs.List.{list_all}
use Rattle.pd_lex.specs.declared.token.TokenKind.{TokenKind}
use Rattle.pd_lex.specs.declared.token.TokenKind.TheVariants.{Int, Hex, Word, Decimal, Dots, Opt, Str, Cmd, Code, Symbol}
use Rattle.pd_lex.specs.Octets.{quote, backslash, is_digit, is_hex_digit, is_word, is_blank, is_nonblank, is_not_newline, is_no_backquote, is_printable}

-- each octet passes a test
abbrev pub AreAll : (ℕ → Bool) → List ℕ → Type 0
AreAll test text = IsTrue (list_all test text)

-- one or more octets that pass it
abbrev pub AreSome : (ℕ → Bool) → List ℕ → Type 0
AreSome test text = (0 < length text) × AreAll test text

-- `0x` and one or more hexadecimal digits
abbrev pub IsHex : List ℕ → Type 0
IsHex text = (digits : List ℕ) × (text ≡ codes "0x" ++ digits) × AreSome is_hex_digit digits

-- letters, digits and `_` that are no Int and no Hex
abbrev pub IsWord : List ℕ → Type 0
IsWord text = AreSome is_word text × (¬ AreAll is_digit text) × (¬ IsHex text)

-- zero or more digits, a point, one or more digits
abbrev pub IsDecimal : List ℕ → Type 0
IsDecimal text = (whole : List ℕ) × (part : List ℕ) × (text ≡ whole ++ (codes "." ++ part)) × AreAll is_digit whole × AreSome is_digit part

-- nothing, or `=` and octets that are no blanks
abbrev pub IsValue : List ℕ → Type 0
IsValue text = (text ≡ []) ⊎ ((value : List ℕ) × (text ≡ codes "=" ++ value) × AreAll is_nonblank value)

-- `--`, a name of letters, digits and `_`, and a value
abbrev pub IsOpt : List ℕ → Type 0
IsOpt text = (name : List ℕ) × (value : List ℕ) × (text ≡ codes "--" ++ name ++ value) × AreSome is_word name × IsValue value

-- the parts of a string: any octet but `"` and a backslash, and a backslash with any octet after it
pub data IsQuoted : List ℕ → Type 0 where
  empty : IsQuoted []
  plain : {b : ℕ} {text : List ℕ} → b ≢ quote → b ≢ backslash → IsQuoted text → IsQuoted (b ∷ text)
  escaped : {b : ℕ} {text : List ℕ} → IsQuoted text → IsQuoted (backslash ∷ b ∷ text)

-- `"` to the next `"` that no backslash takes
abbrev pub IsStr : List ℕ → Type 0
IsStr text = (body : List ℕ) × (text ≡ codes "\"" ++ body ++ codes "\"") × IsQuoted body

-- a backquote to the next
abbrev pub IsCmd : List ℕ → Type 0
IsCmd text = (body : List ℕ) × (text ≡ codes "`" ++ body ++ codes "`") × AreAll is_no_backquote body

-- these octets are nowhere in the text, one after the other
abbrev pub HasNo : List ℕ → List ℕ → Type 0
HasNo octets text = (front back : List ℕ) → text ≢ front ++ (octets ++ back)

-- `%{` to the next `}%`
abbrev pub IsCode : List ℕ → Type 0
IsCode text = (body : List ℕ) × (text ≡ codes "%{" ++ body ++ codes "}%") × HasNo (codes "}%") body

-- a printable octet that is no letter, digit or `_`
abbrev pub IsSymbol : List ℕ → Type 0
IsSymbol text = (b : ℕ) × (text ≡ b ∷ []) × IsTrue (is_printable b) × (is_word b ≡ false)

-- how a token of each kind is spelled
abbrev pub IsSpelled : TokenKind → List ℕ → Type 0
IsSpelled Int text = AreSome is_digit text
IsSpelled Hex text = IsHex text
IsSpelled Word text = IsWord text
IsSpelled Decimal text = IsDecimal text
IsSpelled Dots text = text ≡ codes "..."
IsSpelled Opt text = IsOpt text
IsSpelled Str text = IsStr text
IsSpelled Cmd text = IsCmd text
IsSpelled Code text = IsCode text
IsSpelled Symbol text = IsSymbol text

-- one blank: a space, a tab, a carriage return or a newline
abbrev pub IsBlank : List ℕ → Type 0
IsBlank text = (b : ℕ) × (text ≡ b ∷ []) × IsTrue (is_blank b)

-- `//` to the end of the line
abbrev pub IsLineComment : List ℕ → Type 0
IsLineComment text = (body : List ℕ) × (text ≡ codes "//" ++ body) × AreAll is_not_newline body

-- `/*` to the next `*/`
abbrev pub IsBlockComment : List ℕ → Type 0
IsBlockComment text = (body : List ℕ) × (text ≡ codes "/*" ++ body ++ codes "*/") × HasNo (codes "*/") body

-- a token of this kind; without a kind a blank or a comment
abbrev pub IsPiece : Option TokenKind → List ℕ → Type 0
IsPiece None text = IsBlank text ⊎ IsLineComment text ⊎ IsBlockComment text
IsPiece (Some kind) text = IsSpelled kind text

-- `/*`, `"`, a backquote or `%{` is at the front: what it opens must be closed, and it is never a symbol
abbrev pub IsOpened : List ℕ → Type 0
IsOpened s = (more : List ℕ) × ((s ≡ codes "/*" ++ more) ⊎ (s ≡ codes "\"" ++ more) ⊎ (s ≡ codes "`" ++ more) ⊎ (s ≡ codes "%{" ++ more))

-- a piece that the text begins with
pub record Fits (s : List ℕ) (kind : Option TokenKind) (text : List ℕ) : Type 0 where
  pub more : List ℕ
  pub cut : s ≡ text ++ more
  pub spelled : IsPiece kind text
  pub unopened : kind ≡ Some Symbol → ¬ IsOpened s

-- the longest of them, what is left after it, and no other kind is spelled so
pub record IsLongest (s : List ℕ) (kind : Option TokenKind) (text rest : List ℕ) : Type 0 where
  pub cut : s ≡ text ++ rest
  pub fits : Fits s kind text
  pub longest : (other : Option TokenKind) (prefix : List ℕ) → Fits s other prefix → length prefix ≤ length text
  pub only : (other : Option TokenKind) → IsPiece other text → other ≡ kind

-- the text doesn't end, and no piece fits
pub record IsStuck (s : List ℕ) : Type 0 where
  pub some : 0 < length s
  pub none : (kind : Option TokenKind) (text : List ℕ) → ¬ Fits s kind text

-- one text is what is left of another, once blanks and comments are cut off
pub data Skips : List ℕ → List ℕ → Type 0 where
  here : {s : List ℕ} → Skips s s
  past : {s text rest t : List ℕ} → IsLongest s None text rest → Skips rest t → Skips s t
