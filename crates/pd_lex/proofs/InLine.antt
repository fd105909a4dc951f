-- The piece at the front of a line is that at the front of all that is left: no such piece goes past a newline.
use Rattle.std.proofs.Common.{◌≡◌, ℕ, ◌+◌, Bool, false, cond, List, [], ◌∷◌, ◌++◌, drop, refl, ap, arith}
use Rattle.std.specs.List.{prefix_len}
use Rattle.std.proofs.lemmas.List.{drop-append-le, take-append-le}
use Rattle.std.proofs.lemmas.List.Sums.{prefix_len-le-length}
use Rattle.pd_lex.specs.Octets.{is_digit, is_word, is_nonblank, is_not_newline}
use Rattle.pd_lex.specs.Pieces.{fraction_len, len_of_equals_and_option_value, word_piece, point_piece, dash_piece, piece}

-- no run goes on past a newline
pub prefix_len_in_line : (p : ℕ → Bool) (s more : List ℕ) → p 10 ≡ false → prefix_len p (s ++ 10 ∷ more) ≡ prefix_len p s
prefix_len_in_line p [] more h = rw h refl
prefix_len_in_line p (b ∷ s) more h = ap (λ n. cond (p b) (1 + n) 0) (prefix_len_in_line p s more h)

pub fraction_in_line : (s more : List ℕ) → fraction_len (s ++ 10 ∷ more) ≡ fraction_len s
fraction_in_line [] more = refl
fraction_in_line (b ∷ s) more = rw (prefix_len_in_line is_digit s more refl) refl

pub value_in_line : (s more : List ℕ) → len_of_equals_and_option_value (s ++ 10 ∷ more) ≡ len_of_equals_and_option_value s
value_in_line [] more = refl
value_in_line (b ∷ s) more = rw (prefix_len_in_line is_nonblank s more refl) refl

pub word_in_line : (s more : List ℕ) → word_piece (s ++ 10 ∷ more) ≡ word_piece s
unfolding word_piece
word_in_line s more =
    let le = prefix_len-le-length is_word s in
    rw (prefix_len_in_line is_word s more refl, drop-append-le (prefix_len is_word s) s (10 ∷ more) le, take-append-le (prefix_len is_word s) s (10 ∷ more) le, fraction_in_line (drop (prefix_len is_word s) s) more) refl

pub point_in_line : (s more : List ℕ) → point_piece (s ++ 10 ∷ more) ≡ point_piece s
unfolding point_piece
point_in_line [] more = refl
point_in_line (a ∷ []) more = rw (fraction_in_line (a ∷ []) more) grind arith
point_in_line (a ∷ b ∷ []) more = rw (fraction_in_line (a ∷ b ∷ []) more) grind arith
point_in_line (a ∷ b ∷ c ∷ s) more = rw (fraction_in_line (a ∷ b ∷ c ∷ s) more) refl

pub dash_in_line : (s more : List ℕ) → dash_piece (s ++ 10 ∷ more) ≡ dash_piece s
unfolding dash_piece
dash_in_line [] more = refl
dash_in_line (a ∷ []) more = grind arith
dash_in_line (a ∷ b ∷ s) more =
    let le = prefix_len-le-length is_word s in
    rw (prefix_len_in_line is_word s more refl, drop-append-le (prefix_len is_word s) s (10 ∷ more) le, value_in_line (drop (prefix_len is_word s) s) more) refl

pub piece_in_line : (b : ℕ) (s more : List ℕ) → piece (b ∷ s ++ 10 ∷ more) ≡ piece (b ∷ s)
unfolding piece
piece_in_line b [] more = rw (word_in_line (b ∷ []) more, point_in_line (b ∷ []) more, dash_in_line (b ∷ []) more) refl
piece_in_line b (c ∷ s) more = rw (word_in_line (b ∷ c ∷ s) more, point_in_line (b ∷ c ∷ s) more, dash_in_line (b ∷ c ∷ s) more, prefix_len_in_line is_not_newline s more refl) refl
