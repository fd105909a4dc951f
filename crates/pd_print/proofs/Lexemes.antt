-- Which token is at the front of what was written.
use Rattle.std.proofs.Common.{◌≡◌, ℕ, ◌+◌, ◌<◌, Bool, true, false, not, ◌&&◌, nat_lt, ◌==◌, List, [], ◌∷◌, ◌++◌, length, drop, refl, sym, ap, ◌∙◌, arith}
use Rattle.std.specs.List.{list_all, prefix_len}
use Rattle.std.proofs.Math.Seq.{drop-append_seam, drop-append-add}
use Rattle.std.proofs.Math.Numerals.{add-one}
use Rattle.std.proofs.lemmas.Bool.Decides.{nat_tests}
use Rattle.pd_lex.specs.declared.classes.OctetClass.TheVariants as classes
use Rattle.pd_lex.specs.declared.scan.Piece.TheVariants.{Whole}
use Rattle.pd_lex.specs.declared.token.TokenKind.{TokenKind}
use Rattle.pd_lex.specs.declared.token.TokenKind.TheVariants.{Int, Word, Decimal, Dots, Symbol}
use Rattle.pd_lex.specs.Classes.{class_of}
use Rattle.pd_lex.specs.Octets.{is_digit, is_word}
use Rattle.pd_lex.specs.Pieces.{fraction_len, point_piece, dash_piece, piece, gap, token, parted, front}
use Rattle.pd_lex.specs.Scanned.{begins_name}
use Rattle.pd_lex.proofs.Bounds.{digit_is_word}
use Rattle.pd_lex.proofs.FastTokens.{int_piece, decimal_piece, name_piece, symbol_piece}
use Rattle.pd_script.proofs.Apart.{and-left, and-right, not-true}
use Rattle.pd_print.proofs.DigitLemmas.{Written}
use Rattle.pd_print.proofs.Seconds.{run_len}

-- no letter, digit or `_` goes on
abbrev pub ends_word : List ℕ → Bool
ends_word [] = true
ends_word (b ∷ s) = not (is_word b)

-- and no point
abbrev pub ends_number : List ℕ → Bool
ends_number [] = true
ends_number (b ∷ s) = not (is_word b) && not (b == 46)

pub number_ends_word : (s : List ℕ) → ends_number s ≡ true → ends_word s ≡ true
number_ends_word [] h = refl
number_ends_word (b ∷ s) h = and-left (not (is_word b)) (not (b == 46)) h

no_word : (s : List ℕ) → ends_word s ≡ true → prefix_len is_word s ≡ 0
no_word [] h = refl
no_word (b ∷ s) h = rw (not-true (is_word b) h) refl

no_digit : (s : List ℕ) → ends_word s ≡ true → prefix_len is_digit s ≡ 0
no_digit [] h = refl
no_digit (b ∷ s) h = by_test (is_digit b) refl
  where
    by_test : (t : Bool) → is_digit b ≡ t → prefix_len is_digit (b ∷ s) ≡ 0
    by_test true e = absurd (let both : true ≡ false = sym (digit_is_word b e) ∙ not-true (is_word b) h in cc)
    by_test false e = rw e refl

no_fraction : (s : List ℕ) → ends_number s ≡ true → fraction_len s ≡ 0
no_fraction [] h = refl
no_fraction (b ∷ s) h = rw (not-true (b == 46) (and-right (not (is_word b)) (not (b == 46)) h)) refl

-- a piece at the front
front_by : (s : List ℕ) (kind : TokenKind) (n : ℕ) (rest : List ℕ) → 0 < length s → Whole kind n ≡ piece s → drop n s ≡ rest → front s ≡ token kind rest
unfolding front
front_by [] kind n rest h e d = absurd (omega (arith, h))
front_by (b ∷ s) kind n rest h e d = ap (parted (b ∷ s)) (sym e) ∙ ap (token kind) d

some_before : (xs ys : List ℕ) → 0 < length xs → 0 < length (xs ++ ys)
some_before [] ys h = absurd (omega (arith, h))
some_before (x ∷ xs) ys h = omega arith

-- a number
pub int_front : (ds rest : List ℕ) (n : ℕ) → Written n ds → ends_number rest ≡ true → front (ds ++ rest) ≡ token Int rest
int_front ds rest n w ends =
    let word = number_ends_word rest ends in
    let run : prefix_len is_digit (ds ++ rest) ≡ length ds = run_len is_digit ds rest w.digits (no_digit rest word) in
    let left : drop (prefix_len is_digit (ds ++ rest)) (ds ++ rest) ≡ rest = rw run (drop-append_seam ds rest) in
    let is : Whole Int (prefix_len is_digit (ds ++ rest)) ≡ piece (ds ++ rest) =
    int_piece (ds ++ rest) (rw run w.some) (ap fraction_len left ∙ no_fraction rest ends) (ap (prefix_len is_word) left ∙ no_word rest word) in
    front_by (ds ++ rest) Int (prefix_len is_digit (ds ++ rest)) rest (some_before ds rest w.some) is left

-- digits, a point and digits
some_is : (n : ℕ) → 0 < n → nat_lt 0 n ≡ true
some_is n h = grind (arith, nat_tests)

pub decimal_front : (whole ds rest : List ℕ) (n : ℕ) → Written n whole → list_all is_digit ds ≡ true → 0 < length ds → ends_word rest ≡ true → front (whole ++ (46 ∷ (ds ++ rest))) ≡ token Decimal rest
decimal_front whole ds rest n w digits some ends =
    front_by s Decimal (prefix_len is_digit s + fraction_len (drop (prefix_len is_digit s) s)) rest (some_before whole point w.some) (decimal_piece s (rw run w.some) (rw fraction (omega arith))) left
  where
    point : List ℕ
    point = 46 ∷ (ds ++ rest)

    s : List ℕ
    s = whole ++ (46 ∷ (ds ++ rest))

    run : prefix_len is_digit (whole ++ (46 ∷ (ds ++ rest))) ≡ length whole
    run = run_len is_digit whole (46 ∷ (ds ++ rest)) w.digits refl

    after : drop (prefix_len is_digit (whole ++ (46 ∷ (ds ++ rest)))) (whole ++ (46 ∷ (ds ++ rest))) ≡ 46 ∷ (ds ++ rest)
    after = rw run (drop-append_seam whole (46 ∷ (ds ++ rest)))

    decimals : prefix_len is_digit (ds ++ rest) ≡ length ds
    decimals = run_len is_digit ds rest digits (no_digit rest ends)

    fraction : fraction_len (drop (prefix_len is_digit (whole ++ (46 ∷ (ds ++ rest)))) (whole ++ (46 ∷ (ds ++ rest)))) ≡ length ds + 1
    fraction = ap fraction_len after ∙ rw (decimals, some_is (length ds) some) refl

    left : drop (prefix_len is_digit (whole ++ (46 ∷ (ds ++ rest))) + fraction_len (drop (prefix_len is_digit (whole ++ (46 ∷ (ds ++ rest)))) (whole ++ (46 ∷ (ds ++ rest))))) (whole ++ (46 ∷ (ds ++ rest))) ≡ rest
    left = rw (fraction, run) (drop-append-add whole (46 ∷ (ds ++ rest)) (length ds + 1) ∙ rw (add-one (length ds)) (drop-append_seam ds rest))

-- a word
pub word_front : (w rest : List ℕ) → begins_name w ≡ true → list_all is_word w ≡ true → ends_word rest ≡ true → front (w ++ rest) ≡ token Word rest
word_front [] rest b h ends = absurd cc
word_front (x ∷ w) rest b h ends =
    let run : prefix_len is_word ((x ∷ w) ++ rest) ≡ length (x ∷ w) = run_len is_word (x ∷ w) rest h (no_word rest ends) in
    let left : drop (prefix_len is_word ((x ∷ w) ++ rest)) ((x ∷ w) ++ rest) ≡ rest = rw run (drop-append_seam (x ∷ w) rest) in
    front_by ((x ∷ w) ++ rest) Word (prefix_len is_word ((x ∷ w) ++ rest)) rest (omega arith) (name_piece ((x ∷ w) ++ rest) b) left

-- symbols
pub symbol_front : (b : ℕ) (rest : List ℕ) → class_of b ≡ classes.Symbol → front (b ∷ rest) ≡ token Symbol rest
symbol_front b rest h = front_by (b ∷ rest) Symbol 1 rest (omega arith) (symbol_piece b rest h) refl

pub point_front : (rest : List ℕ) → front (46 ∷ 32 ∷ rest) ≡ token Symbol (32 ∷ rest)
unfolding front piece point_piece
point_front rest = refl

pub dash_front : (rest : List ℕ) → front (45 ∷ 32 ∷ rest) ≡ token Symbol (32 ∷ rest)
unfolding front piece dash_piece
dash_front rest = refl

pub minus_front : (rest : List ℕ) → front (45 ∷ 49 ∷ rest) ≡ token Symbol (49 ∷ rest)
unfolding front piece dash_piece
minus_front rest = refl

pub dots_front : (rest : List ℕ) → front (46 ∷ 46 ∷ 46 ∷ rest) ≡ token Dots rest
unfolding front piece point_piece
dots_front rest = refl

-- blanks
pub space_front : (rest : List ℕ) → front (32 ∷ rest) ≡ gap rest
unfolding front piece
space_front rest = refl

pub newline_front : (rest : List ℕ) → front (10 ∷ rest) ≡ gap rest
unfolding front piece
newline_front rest = refl
