-- No two kinds fit the same octets.
use Rattle.std.proofs.Common.{◌≡◌, ℕ, Bool, true, false, cond, ◌==◌, List, [], ◌∷◌, ◌++◌, Option, Some, None, refl, sym, ◌∙◌, arith, inl, inr}
use Rattle.std.specs.List.{list_all}
use Rattle.std.proofs.lemmas.List.Folds.{list_all-append}
use Rattle.std.proofs.lemmas.Bool.Decides.{nat_tests}
use Rattle.pd_lex.specs.declared.token.TokenKind.{TokenKind}
use Rattle.pd_lex.specs.declared.token.TokenKind.TheVariants.{Int, Hex, Word, Decimal, Dots, Opt, Str, Cmd, Code, Symbol}
use Rattle.pd_lex.specs.Octets.{is_digit, is_hex_digit, is_word, is_blank, is_printable}
use Rattle.pd_lex.specs.Pieces.{is_hex_number}
use Rattle.pd_lex.specs.Spellings.{AreAll, AreSome, IsWord, IsSpelled, IsPiece}
use Rattle.pd_lex.proofs.Rests.{and_first}
use Rattle.pd_lex.proofs.Endings.{and-false}
use Rattle.pd_lex.proofs.Bounds.{word_is_no_blank, digit_is_word, hex_digit_is_word, all_also}
use Rattle.pd_lex.proofs.Spelled.{hex_is, is_hex_of}

-- the kind of octets that some kind fits
word_kind : List ℕ → TokenKind
word_kind text = cond (list_all is_word text) (cond (list_all is_digit text) Int (cond (is_hex_number text) Hex Word)) Decimal

point_kind : List ℕ → TokenKind
point_kind [] = Symbol
point_kind (b ∷ text) = cond (b == 46) Dots Decimal

longer_kind : TokenKind → List ℕ → Option TokenKind
longer_kind kind [] = Some Symbol
longer_kind kind (b ∷ text) = Some kind

slash_kind : List ℕ → Option TokenKind
slash_kind [] = Some Symbol
slash_kind (b ∷ text) = None

kind_of : List ℕ → Option TokenKind
kind_of [] = None
kind_of (b ∷ text) =
    cond (is_blank b) None
    (cond (is_word b) (Some (word_kind (b ∷ text)))
    (cond (b == 46) (Some (point_kind text))
    (cond (b == 45) (longer_kind Opt text)
    (cond (b == 47) (slash_kind text)
    (cond (b == 34) (longer_kind Str text)
    (cond (b == 96) (longer_kind Cmd text)
    (cond (b == 37) (longer_kind Code text) (Some Symbol))))))))

at_word : (b : ℕ) (text : List ℕ) → is_word b ≡ true → kind_of (b ∷ text) ≡ Some (word_kind (b ∷ text))
unfolding kind_of
at_word b text h = rw (word_is_no_blank b h, h) refl

all_words : (b : ℕ) (text : List ℕ) (kind : TokenKind) → list_all is_word (b ∷ text) ≡ true → cond (list_all is_digit (b ∷ text)) Int (cond (is_hex_number (b ∷ text)) Hex Word) ≡ kind → kind_of (b ∷ text) ≡ Some kind
unfolding word_kind
all_words b text kind all is = at_word b text (and_first (is_word b) (list_all is_word text) all) ∙ rw (all, is) refl

fails_of : (t : Bool) → (t ≡ true → ⊥) → t ≡ false
fails_of true h = absurd (h refl)
fails_of false h = refl

int_kind : (text : List ℕ) → AreSome is_digit text → kind_of text ≡ Some Int
int_kind [] h = absurd (omega (arith, h.0))
int_kind (b ∷ text) h = all_words b text Int (all_also is_digit is_word digit_is_word (b ∷ text) h.1) (rw h.1 refl)

hex_kind : (digits : List ℕ) → AreSome is_hex_digit digits → kind_of (48 ∷ 120 ∷ digits) ≡ Some Hex
hex_kind digits h = all_words 48 (120 ∷ digits) Hex (all_also is_hex_digit is_word hex_digit_is_word digits h.1) (rw (is_hex_of digits h.0 h.1) refl)

word_kind_is : (text : List ℕ) → IsWord text → kind_of text ≡ Some Word
word_kind_is [] h = absurd (omega (arith, h.0.0))
word_kind_is (b ∷ text) h =
    all_words b text Word h.0.1 (rw (fails_of (list_all is_digit (b ∷ text)) h.1, fails_of (is_hex_number (b ∷ text)) (λ e. h.2 (hex_is (b ∷ text) e))) refl)

point_is_no_word : (whole part : List ℕ) → list_all is_word (whole ++ 46 ∷ part) ≡ false
point_is_no_word whole part = list_all-append is_word whole (46 ∷ part) ∙ and-false (list_all is_word whole)

decimal_kind : (whole part : List ℕ) → AreAll is_digit whole → AreSome is_digit part → kind_of (whole ++ 46 ∷ part) ≡ Some Decimal
unfolding kind_of point_kind word_kind
decimal_kind [] [] digits some = absurd (omega (arith, some.0))
decimal_kind [] (d ∷ part) digits some = rw (no_point d (and_first (is_digit d) (list_all is_digit part) some.1)) refl
  where
    no_point : (d : ℕ) → is_digit d ≡ true → (d == 46) ≡ false
    no_point d h = grind (arith, nat_tests)
decimal_kind (w ∷ whole) part digits some =
    at_word w (whole ++ 46 ∷ part) (digit_is_word w (and_first (is_digit w) (list_all is_digit whole) digits)) ∙ rw (point_is_no_word (w ∷ whole) part) refl

longer-end : (kind : TokenKind) (body : List ℕ) (b : ℕ) (rest : List ℕ) → longer_kind kind (body ++ b ∷ rest) ≡ Some kind
unfolding longer_kind
longer-end kind [] b rest = refl
longer-end kind (c ∷ body) b rest = refl

either_way : (t : Bool) (x y z : Option TokenKind) → x ≡ z → y ≡ z → cond t x y ≡ z
either_way true x y z e f = e
either_way false x y z e f = f

printable_is_no_blank : (b : ℕ) → is_printable b ≡ true → is_blank b ≡ false
printable_is_no_blank b h = grind (arith, nat_tests)

symbol_kind : (b : ℕ) → is_printable b ≡ true → is_word b ≡ false → kind_of (b ∷ []) ≡ Some Symbol
unfolding kind_of point_kind longer_kind slash_kind
symbol_kind b prints other =
    let s = Some Symbol in
    let percent = either_way (b == 37) s s s refl refl in
    let backquote = either_way (b == 96) s _ s refl percent in
    let quote = either_way (b == 34) s _ s refl backquote in
    let slash = either_way (b == 47) s _ s refl quote in
    let dash = either_way (b == 45) s _ s refl slash in
    rw (printable_is_no_blank b prints, other) (either_way (b == 46) s _ s refl dash)

blank_kind : (b : ℕ) → is_blank b ≡ true → kind_of (b ∷ []) ≡ None
unfolding kind_of
blank_kind b h = rw h refl

gap_kind : (text : List ℕ) → IsPiece None text → kind_of text ≡ None
unfolding kind_of slash_kind
gap_kind text (inl (b, is, h)) = rw is (blank_kind b h)
gap_kind text (inr (inl (body, is, h))) = rw is refl
gap_kind text (inr (inr (body, is, h))) = rw is refl

token_kind : (kind : TokenKind) (text : List ℕ) → IsSpelled kind text → kind_of text ≡ Some kind
unfolding kind_of point_kind longer_kind
token_kind Int text h = int_kind text h
token_kind Hex text (digits, is, some) = rw is (hex_kind digits some)
token_kind Word text h = word_kind_is text h
token_kind Decimal text (whole, part, is, digits, some) = rw is (decimal_kind whole part digits some)
token_kind Dots text h = rw h refl
token_kind Opt text (name, value, is, some, valued) = rw is refl
token_kind Str text (body, is, quoted) = rw is (longer-end Str body 34 [])
token_kind Cmd text (body, is, none) = rw is (longer-end Cmd body 96 [])
token_kind Code text (body, is, none) = rw is refl
token_kind Symbol text (b, is, prints, other) = rw is (symbol_kind b prints other)

piece_kind : (kind : Option TokenKind) (text : List ℕ) → IsPiece kind text → kind_of text ≡ kind
piece_kind None text h = gap_kind text h
piece_kind (Some kind) text h = token_kind kind text h

pub one_kind : (a b : Option TokenKind) (text : List ℕ) → IsPiece a text → IsPiece b text → a ≡ b
one_kind a b text h g = sym (piece_kind a text h) ∙ piece_kind b text g
