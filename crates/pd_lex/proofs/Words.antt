-- Runs of digits within runs of letters, digits and `_`.
use Rattle.std.proofs.Common.{◌≡◌, ℕ, ◌+◌, ◌<◌, Bool, true, false, ◌&&◌, not, nat_lt, nat_eq, ◌==◌, List, [], ◌∷◌, take, drop, refl, arith}
use Rattle.std.specs.List.{prefix_len, list_all}
use Rattle.std.proofs.lemmas.Bool.Decides.{nat_tests}
use Rattle.std.proofs.Math.Numerals.{one-add}
use Rattle.pd_lex.specs.declared.scan.Piece.TheVariants.{Whole}
use Rattle.pd_lex.specs.declared.token.TokenKind.TheVariants.{Int, Word, Decimal}
use Rattle.pd_lex.specs.Octets.{is_digit, is_word}
use Rattle.pd_lex.specs.Pieces.{fraction_len, word_piece}
use Rattle.pd_lex.specs.Scanned.{begins_name, run_piece}

-- a run goes on after the octets at its front that pass a narrower test
module _ (p q : ℕ → Bool) (within : (b : ℕ) → p b ≡ true → q b ≡ true) where
  narrow_first : (s : List ℕ) → prefix_len q s ≡ prefix_len p s + prefix_len q (drop (prefix_len p s) s)
  narrow_first [] = refl
  narrow_first (b ∷ s) = by_first (p b) refl (narrow_first s)
    where
      by_first : (t : Bool) → p b ≡ t → prefix_len q s ≡ prefix_len p s + prefix_len q (drop (prefix_len p s) s) → prefix_len q (b ∷ s) ≡ prefix_len p (b ∷ s) + prefix_len q (drop (prefix_len p (b ∷ s)) (b ∷ s))
      by_first true h more = rw (h, within b h, one-add (prefix_len p s)) (omega (arith, more))
      by_first false h more = rw h (omega arith)

  -- all of it passes that test where nothing of it is left after them
  narrow_all : (s : List ℕ) → list_all p (take (prefix_len q s) s) ≡ (prefix_len q (drop (prefix_len p s) s) == 0)
  narrow_all [] = refl
  narrow_all (b ∷ s) = by_first (p b) (q b) refl refl (narrow_all s)
    where
      by_first : (t u : Bool) → p b ≡ t → q b ≡ u → list_all p (take (prefix_len q s) s) ≡ (prefix_len q (drop (prefix_len p s) s) == 0) → list_all p (take (prefix_len q (b ∷ s)) (b ∷ s)) ≡ (prefix_len q (drop (prefix_len p (b ∷ s)) (b ∷ s)) == 0)
      by_first true u h w more = rw (h, within b h, one-add (prefix_len q s), one-add (prefix_len p s), h) more
      by_first false true h w more = rw (h, w, one-add, h) (grind (arith, nat_tests))
      by_first false false h w more = rw (h, w) refl

digit_is_word : (b : ℕ) → is_digit b ≡ true → is_word b ≡ true
digit_is_word b h = rw h refl

digits_first : (s : List ℕ) → prefix_len is_word s ≡ prefix_len is_digit s + prefix_len is_word (drop (prefix_len is_digit s) s)
digits_first = narrow_first is_digit is_word digit_is_word

all_digits : (s : List ℕ) → list_all is_digit (take (prefix_len is_word s) s) ≡ (prefix_len is_word (drop (prefix_len is_digit s) s) == 0)
all_digits = narrow_all is_digit is_word digit_is_word

-- no run goes on at a point
no_run : (s : List ℕ) → 0 < fraction_len s → prefix_len is_word s ≡ 0
no_run [] h = refl
no_run (b ∷ s) h = grind (arith, nat_tests)

pub decimal_is : (s : List ℕ) → 0 < fraction_len (drop (prefix_len is_digit s) s) → Whole Decimal (prefix_len is_digit s + fraction_len (drop (prefix_len is_digit s) s)) ≡ word_piece s
unfolding word_piece
decimal_is s h =
    let none = no_run (drop (prefix_len is_digit s) s) h in
    let n : prefix_len is_word s ≡ prefix_len is_digit s = omega (arith, digits_first s, none) in
    rw (all_digits s, none, n, nat_lt_of 0 (fraction_len (drop (prefix_len is_digit s) s)) h) refl
  where
    nat_lt_of : (a b : ℕ) → a < b → nat_lt a b ≡ true
    nat_lt_of a b h = grind (arith, nat_tests)

module _ (s : List ℕ) where
  pub int_is : fraction_len (drop (prefix_len is_digit s) s) ≡ 0 → prefix_len is_word (drop (prefix_len is_digit s) s) ≡ 0 → Whole Int (prefix_len is_digit s) ≡ word_piece s
  unfolding word_piece
  int_is h none =
      let n : prefix_len is_word s ≡ prefix_len is_digit s = omega (arith, digits_first s, none) in
      rw (all_digits s, none, n, h) refl

  -- digits and more of the run
  pub run_is : 0 < prefix_len is_word (drop (prefix_len is_digit s) s) → run_piece s ≡ word_piece s
  unfolding word_piece
  run_is more = rw (all_digits s, is_not_zero (prefix_len is_word (drop (prefix_len is_digit s) s)) more) refl
    where
      is_not_zero : (n : ℕ) → 0 < n → (n == 0) ≡ false
      is_not_zero n h = grind (arith, nat_tests)

-- no digit, no number
pub name_is : (s : List ℕ) → begins_name s ≡ true → Whole Word (prefix_len is_word s) ≡ word_piece s
unfolding word_piece
name_is [] h = absurd cc
name_is (b ∷ s) h = by_first (is_word b) (is_digit b) refl refl h
  where
    not_zero : is_digit b ≡ false → nat_eq 48 b ≡ false
    not_zero h = grind (arith, nat_tests)

    by_first : (t u : Bool) → is_word b ≡ t → is_digit b ≡ u → (t && not u) ≡ true → Whole Word (prefix_len is_word (b ∷ s)) ≡ word_piece (b ∷ s)
    by_first true true w d h = absurd cc
    by_first true false w d h = rw (w, one-add, d, not_zero d) refl
    by_first false u w d h = absurd cc

-- a run has an octet at least where the first passes the test
pub goes_on_is : (b : ℕ) (s : List ℕ) → nat_lt 0 (prefix_len is_word (b ∷ s)) ≡ is_word b
goes_on_is b s = by_first (is_word b) refl
  where
    by_first : (t : Bool) → is_word b ≡ t → nat_lt 0 (prefix_len is_word (b ∷ s)) ≡ is_word b
    by_first true h = rw h (grind (arith, nat_tests))
    by_first false h = rw h refl

pub none_goes_on : (n : ℕ) → nat_lt 0 n ≡ false → n ≡ 0
none_goes_on n h = grind (arith, nat_tests)
