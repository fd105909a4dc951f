-- The common tokens as pieces.
use Rattle.std.proofs.Common.{◌≡◌, ◌∙◌, ℕ, ◌+◌, ◌<◌, Bool, true, false, not, ◌&&◌, nat_eq, ◌==◌, cond, get_or, List, [], ◌∷◌, length, take, drop, refl, subst, arith}
use Rattle.std.specs.Prelude.{fold}
use Rattle.std.specs.List.{prefix_len}
use Rattle.std.proofs.lemmas.Bool.Decides.{nat_tests}
use Rattle.std.proofs.Math.Numerals.{one-add}
use Rattle.pd_lex.specs.declared.scan.Piece.TheVariants.{Whole}
use Rattle.pd_lex.specs.declared.token.Place.{Place}
use Rattle.pd_lex.specs.declared.token.TokenKind.{TokenKind}
use Rattle.pd_lex.specs.declared.token.TokenKind.TheVariants.{Int, Word, Decimal, Symbol}
use Rattle.pd_lex.specs.declared.classes.OctetClass.TheVariants as classes
use Rattle.pd_lex.specs.Classes.{begins_more, class_of}
use Rattle.pd_lex.specs.Octets.{is_digit, is_word, is_blank, is_printable}
use Rattle.pd_lex.specs.Pieces.{fraction_len, word_piece, piece, front, token}
use Rattle.pd_lex.specs.Scanned.{first_octet_or_zero, wrapped_digit, begins_name}
use Rattle.pd_lex.specs.Spellings.{IsSymbol, IsSpelled}
use Rattle.pd_lex.specs.Kinds.{stays_in_line}
use Rattle.pd_lex.specs.Places.{octets_from, before, between}
use Rattle.pd_lex.proofs.Longest.{longest_token}
use Rattle.pd_lex.proofs.Rests.{and_first}
use Rattle.pd_lex.proofs.Bounds.{digit_is_word}
use Rattle.pd_lex.proofs.Words.{int_is, decimal_is, name_is}

-- one digit more
pub digits_len_on : (b : ℕ) (s : List ℕ) → is_digit b ≡ true → prefix_len is_digit (b ∷ s) ≡ 1 + prefix_len is_digit s
digits_len_on b s h = rw (h, one-add (prefix_len is_digit s)) refl

pub digits_fold_on : (n b : ℕ) (s : List ℕ) → is_digit b ≡ true → fold wrapped_digit n (take (prefix_len is_digit (b ∷ s)) (b ∷ s)) ≡ fold wrapped_digit (wrapped_digit n b) (take (prefix_len is_digit s) s)
digits_fold_on n b s h = rw (h, one-add (prefix_len is_digit s)) refl

pub digits_stop : (b : ℕ) (s : List ℕ) → is_digit b ≡ false → prefix_len is_digit (b ∷ s) ≡ 0
digits_stop b s h = rw h refl

-- letters, digits and `_`
no_blank : (b : ℕ) → is_word b ≡ true → is_blank b ≡ false
no_blank b h = grind (arith, nat_tests)

pub word_piece_is : (b : ℕ) (s : List ℕ) → is_word b ≡ true → word_piece (b ∷ s) ≡ piece (b ∷ s)
unfolding piece
word_piece_is b s h = rw (no_blank b h, h) refl

-- an Int, where no run and no point goes on after its digits
pub int_piece : (s : List ℕ) → 0 < prefix_len is_digit s → fraction_len (drop (prefix_len is_digit s) s) ≡ 0 → prefix_len is_word (drop (prefix_len is_digit s) s) ≡ 0 → Whole Int (prefix_len is_digit s) ≡ piece s
int_piece [] h f w = absurd (omega (arith, h))
int_piece (b ∷ s) h f w = by_first (is_digit b) refl
  where
    by_first : (t : Bool) → is_digit b ≡ t → Whole Int (prefix_len is_digit (b ∷ s)) ≡ piece (b ∷ s)
    by_first true d = int_is (b ∷ s) f w ∙ word_piece_is b s (digit_is_word b d)
    by_first false d = absurd (omega (arith, h, digits_stop b s d))

-- a Decimal, where a point and digits go on after its digits
pub decimal_piece : (s : List ℕ) → 0 < prefix_len is_digit s → 0 < fraction_len (drop (prefix_len is_digit s) s) → Whole Decimal (prefix_len is_digit s + fraction_len (drop (prefix_len is_digit s) s)) ≡ piece s
decimal_piece [] h f = absurd (omega (arith, h))
decimal_piece (b ∷ s) h f = by_first (is_digit b) refl
  where
    by_first : (t : Bool) → is_digit b ≡ t → Whole Decimal (prefix_len is_digit (b ∷ s) + fraction_len (drop (prefix_len is_digit (b ∷ s)) (b ∷ s))) ≡ piece (b ∷ s)
    by_first true d = decimal_is (b ∷ s) f ∙ word_piece_is b s (digit_is_word b d)
    by_first false d = absurd (omega (arith, h, digits_stop b s d))

-- an octet that begins a symbol and nothing else
pub symbol_piece : (b : ℕ) (s : List ℕ) → class_of b ≡ classes.Symbol → Whole Symbol 1 ≡ piece (b ∷ s)
unfolding piece
symbol_piece b s h = by_tests (is_digit b) (is_word b) (b == 46) (is_printable b) (begins_more b) refl refl refl refl refl h
  where
    no_blank_here : is_printable b ≡ true → is_blank b ≡ false
    no_blank_here h = grind (arith, nat_tests)

    grind_dash : begins_more b ≡ false → (b == 45) ≡ false
    grind_dash h = grind (arith, nat_tests)

    grind_slash : begins_more b ≡ false → nat_eq 47 b ≡ false
    grind_slash h = grind (arith, nat_tests)

    grind_quote : begins_more b ≡ false → (b == 34) ≡ false
    grind_quote h = grind (arith, nat_tests)

    grind_backquote : begins_more b ≡ false → (b == 96) ≡ false
    grind_backquote h = grind (arith, nat_tests)

    grind_percent : begins_more b ≡ false → nat_eq 37 b ≡ false
    grind_percent h = grind (arith, nat_tests)

    by_tests : (d w p r m : Bool) → is_digit b ≡ d → is_word b ≡ w → (b == 46) ≡ p → is_printable b ≡ r → begins_more b ≡ m → cond d classes.Digit (cond w classes.Letter (cond p classes.Point (cond (r && not m) classes.Symbol classes.Other))) ≡ classes.Symbol → Whole Symbol 1 ≡ piece (b ∷ s)
    by_tests true w p r m de we pe re me h = absurd cc
    by_tests false true p r m de we pe re me h = absurd cc
    by_tests false false true r m de we pe re me h = absurd cc
    by_tests false false false false m de we pe re me h = absurd cc
    by_tests false false false true true de we pe re me h = absurd cc
    by_tests false false false true false de we pe re me h =
        rw (no_blank_here re, we, pe, grind_dash me, grind_slash me, grind_quote me, grind_backquote me, grind_percent me, re) refl

pub symbol_front : (s : List ℕ) → 0 < length s → class_of (get_or s 0 0) ≡ classes.Symbol → Whole Symbol 1 ≡ piece s
symbol_front [] h e = absurd (omega (arith, h))
symbol_front (b ∷ s) h e = symbol_piece b s e

pub name_piece : (s : List ℕ) → begins_name s ≡ true → Whole Word (prefix_len is_word s) ≡ piece s
name_piece [] h = absurd cc
name_piece (b ∷ s) h = name_is (b ∷ s) h ∙ word_piece_is b s (and_first (is_word b) (not (is_digit b)) h)

-- a symbol has one octet
pub symbol_text : (text : List ℕ) → IsSymbol text → text ≡ first_octet_or_zero text ∷ []
symbol_text text (b, is, printable, word) = rw is refl

pub symbol_in : (lines : List (List ℕ)) (p q : Place) (kind : TokenKind) (text : List ℕ) → front (octets_from lines p) ≡ token kind (octets_from lines q) → (stays_in_line kind ≡ true → text ≡ between lines p q) → kind ≡ Symbol → text ≡ first_octet_or_zero text ∷ []
unfolding between
symbol_in lines p q kind text e same is =
    let s = octets_from lines p in
    let r = octets_from lines q in
    let spelled : IsSpelled Symbol (before s r) = subst (λ (k : TokenKind). IsSpelled k (before s r)) is (longest_token s r kind e).fits.spelled in
    let t : text ≡ before s r = same (rw is refl) in
    rw t (symbol_text (before s r) spelled)
