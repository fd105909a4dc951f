-- A piece has an octet at least, and leaves the last part of the text.
use Rattle.std.proofs.Common.{◌≡◌, ℕ, ◌+◌, ◌-◌, ◌<◌, ◌≤◌, Bool, true, false, ◌&&◌, cond, nat_lt, nat_eq, ◌==◌, List, [], ◌∷◌, ◌++◌, length, take, drop, Option, Some, None, refl, sym, ap, ◌∙◌, arith}
use Rattle.std.specs.List.{prefix_len, list_all, starts_with}
use Rattle.std.proofs.lemmas.List.{drop-drop, length-drop, take-append-drop}
use Rattle.std.proofs.lemmas.List.Sums.{prefix_len-le-length}
use Rattle.std.proofs.lemmas.Bool.Decides.{nat_tests}
use Rattle.pd_lex.specs.declared.token.TokenKind.TheVariants.{Int, Hex, Word, Decimal, Dots, Opt, Symbol}
use Rattle.pd_lex.specs.declared.scan.Piece.{Piece}
use Rattle.pd_lex.specs.declared.scan.Piece.TheVariants.{Blank, Whole, Open, Stray}
use Rattle.pd_lex.specs.declared.scan.Opener.{Opener}
use Rattle.pd_lex.specs.declared.scan.Opener.TheVariants.{Comment, Quote, Backquote, Brace}
use Rattle.pd_lex.specs.Octets.{is_digit, is_word, is_blank, is_nonblank, is_not_newline, is_printable}
use Rattle.pd_lex.specs.Pieces.{is_hex_number, fraction_len, len_of_equals_and_option_value, word_piece, point_piece, dash_piece, piece, rest_after_closing, opener_text, opener_len, Front, nothing, gap, token, stray, closed, parted, front}
use Rattle.pd_lex.specs.Places.{before}
use Rattle.pd_lex.specs.Scanned.{piece_len}
use Rattle.pd_lex.proofs.Endings.{end_suffix}

-- what holds of each outcome of a test holds of both

-- a piece has an octet at least, and no more than there are
pub record IsWithin (s : List ℕ) (p : Piece) : Type 0 where
  pub some : 0 < piece_len p
  pub fits : piece_len p ≤ length s

begins_two : (s : List ℕ) (x y : ℕ) → starts_with nat_eq s (x ∷ y ∷ []) ≡ true → 2 ≤ length s
begins_two [] x y h = absurd cc
begins_two (a ∷ []) x y h = absurd (first_fails (nat_eq x a) h)
  where
    first_fails : (t : Bool) → (t && false) ≡ true → ⊥
    first_fails true h = cc
    first_fails false h = cc
begins_two (a ∷ b ∷ s) x y h = omega arith

begins_three : (s : List ℕ) (x y z : ℕ) → starts_with nat_eq s (x ∷ y ∷ z ∷ []) ≡ true → 3 ≤ length s
begins_three [] x y z h = absurd cc
begins_three (a ∷ s) x y z h = let more = begins_two s y z (second (nat_eq x a) (starts_with nat_eq s (y ∷ z ∷ [])) h) in omega arith
  where
    second : (t u : Bool) → (t && u) ≡ true → u ≡ true
    second true u h = h
    second false u h = absurd cc

-- what holds of each outcome of a test holds of both
choose : (s : List ℕ) (t : Bool) (x y : Piece) → (t ≡ true → IsWithin s x) → (t ≡ false → IsWithin s y) → IsWithin s (cond t x y)
choose s true x y f g = f refl
choose s false x y f g = g refl

pub fraction_fits : (s : List ℕ) → fraction_len s ≤ length s
fraction_fits [] = omega arith
fraction_fits (b ∷ s) = let run = prefix_len-le-length is_digit s in grind (arith, nat_tests)

pub value_fits : (s : List ℕ) → len_of_equals_and_option_value s ≤ length s
value_fits [] = omega arith
value_fits (b ∷ s) = let run = prefix_len-le-length is_nonblank s in grind (arith, nat_tests)

pub run_begins : (p : ℕ → Bool) (b : ℕ) (s : List ℕ) → p b ≡ true → 0 < prefix_len p (b ∷ s)
run_begins p b s h = rw h (omega arith)

word_within : (b : ℕ) (s : List ℕ) → is_word b ≡ true → IsWithin (b ∷ s) (word_piece (b ∷ s))
unfolding word_piece
word_within b s h =
    let n = prefix_len is_word (b ∷ s) in
    let f = fraction_len (drop n (b ∷ s)) in
    let some = run_begins is_word b s h in
    let run = prefix_len-le-length is_word (b ∷ s) in
    let more = fraction_fits (drop n (b ∷ s)) in
    let rest = length-drop n (b ∷ s) in
    let decimal : IsWithin (b ∷ s) (Whole Decimal (n + f)) = record { some = omega arith; fits = omega arith } in
    let int : IsWithin (b ∷ s) (Whole Int n) = record { some = some; fits = run } in
    let hex : IsWithin (b ∷ s) (Whole Hex n) = record { some = some; fits = run } in
    let word : IsWithin (b ∷ s) (Whole Word n) = record { some = some; fits = run } in
    let digits = choose (b ∷ s) (nat_lt 0 f) (Whole Decimal (n + f)) (Whole Int n) (λ _. decimal) (λ _. int) in
    let others = choose (b ∷ s) (is_hex_number (take n (b ∷ s))) (Whole Hex n) (Whole Word n) (λ _. hex) (λ _. word) in
    choose (b ∷ s) (list_all is_digit (take n (b ∷ s))) (cond (nat_lt 0 f) (Whole Decimal (n + f)) (Whole Int n)) (cond (is_hex_number (take n (b ∷ s))) (Whole Hex n) (Whole Word n)) (λ _. digits) (λ _. others)

pub symbol_within : (b : ℕ) (s : List ℕ) → IsWithin (b ∷ s) (Whole Symbol 1)
symbol_within b s = record { some = omega arith; fits = omega arith }

pub positive : (n : ℕ) → nat_lt 0 n ≡ true → 0 < n
positive n h = grind (arith, nat_tests)

point_within : (b : ℕ) (s : List ℕ) → IsWithin (b ∷ s) (point_piece (b ∷ s))
unfolding point_piece
point_within b s =
    let f = fraction_len (b ∷ s) in
    let fits = fraction_fits (b ∷ s) in
    let no_dots = choose (b ∷ s) (nat_lt 0 f) (Whole Decimal f) (Whole Symbol 1) (λ h. record { some = positive f h; fits = fits }) (λ _. symbol_within b s) in
    choose (b ∷ s) (starts_with nat_eq (b ∷ s) (46 ∷ 46 ∷ 46 ∷ [])) (Whole Dots 3) (cond (nat_lt 0 f) (Whole Decimal f) (Whole Symbol 1)) (λ h. record { some = omega arith; fits = begins_three (b ∷ s) 46 46 46 h }) (λ _. no_dots)

first_of : (t u : Bool) → (t && u) ≡ true → t ≡ true
first_of true u h = refl
first_of false u h = absurd cc

dash_within : (b : ℕ) (s : List ℕ) → IsWithin (b ∷ s) (dash_piece (b ∷ s))
unfolding dash_piece
dash_within b s =
    let name = prefix_len is_word (drop 2 (b ∷ s)) in
    let run = prefix_len-le-length is_word (drop 2 (b ∷ s)) in
    let value = value_fits (drop name (drop 2 (b ∷ s))) in
    let rest = length-drop name (drop 2 (b ∷ s)) in
    let dashes : starts_with nat_eq (b ∷ s) (45 ∷ 45 ∷ []) ≡ true → 2 ≤ length (b ∷ s) = begins_two (b ∷ s) 45 45 in
    let two = length-drop 2 (b ∷ s) in
    choose (b ∷ s) (starts_with nat_eq (b ∷ s) (45 ∷ 45 ∷ []) && nat_lt 0 name) (Whole Opt (2 + name + len_of_equals_and_option_value (drop name (drop 2 (b ∷ s))))) (Whole Symbol 1) (λ h. let le = dashes (first_of _ _ h) in record { some = omega arith; fits = omega arith }) (λ _. symbol_within b s)

-- the tests that the octets of a symbol fail
pub record IsOther (b : ℕ) (s : List ℕ) : Type 0 where
  pub word : is_word b ≡ false
  pub blank : is_blank b ≡ false
  pub point : (b == 46) ≡ false
  pub dash : (b == 45) ≡ false
  pub line_comment : starts_with nat_eq (b ∷ s) (47 ∷ 47 ∷ []) ≡ false
  pub comment : starts_with nat_eq (b ∷ s) (47 ∷ 42 ∷ []) ≡ false
  pub quote : (b == 34) ≡ false
  pub backquote : (b == 96) ≡ false
  pub brace : starts_with nat_eq (b ∷ s) (37 ∷ 123 ∷ []) ≡ false

-- why a piece is what it is
pub data IsShaped (b : ℕ) (s : List ℕ) : Piece → Type 0 where
  at_blank : is_blank b ≡ true → IsShaped b s (Blank 1)
  at_word : is_word b ≡ true → IsShaped b s (word_piece (b ∷ s))
  at_point : (b == 46) ≡ true → IsShaped b s (point_piece (b ∷ s))
  at_dash : (b == 45) ≡ true → IsShaped b s (dash_piece (b ∷ s))
  at_line_comment : starts_with nat_eq (b ∷ s) (47 ∷ 47 ∷ []) ≡ true → IsShaped b s (Blank (prefix_len is_not_newline (b ∷ s)))
  at_opener : (o : Opener) → starts_with nat_eq (b ∷ s) (opener_text o) ≡ true → IsShaped b s (Open o)
  at_symbol : IsOther b s → is_printable b ≡ true → IsShaped b s (Whole Symbol 1)
  at_stray : IsOther b s → is_printable b ≡ false → IsShaped b s Stray

shaped_by : (b : ℕ) (s : List ℕ) (t : Bool) (x y : Piece) → (t ≡ true → IsShaped b s x) → (t ≡ false → IsShaped b s y) → IsShaped b s (cond t x y)
shaped_by b s true x y f g = f refl
shaped_by b s false x y f g = g refl

quote_opens : (b : ℕ) (s : List ℕ) → (b == 34) ≡ true → starts_with nat_eq (b ∷ s) (34 ∷ []) ≡ true
quote_opens b s h = let e : b ≡ 34 = grind (arith, nat_tests) in rw e refl

backquote_opens : (b : ℕ) (s : List ℕ) → (b == 96) ≡ true → starts_with nat_eq (b ∷ s) (96 ∷ []) ≡ true
backquote_opens b s h = let e : b ≡ 96 = grind (arith, nat_tests) in rw e refl

pub shaped : (b : ℕ) (s : List ℕ) → IsShaped b s (piece (b ∷ s))
unfolding piece
shaped b s =
    shaped_by b s (is_blank b) _ _ at_blank (λ h1.
    shaped_by b s (is_word b) _ _ at_word (λ h2.
    shaped_by b s (b == 46) _ _ at_point (λ h3.
    shaped_by b s (b == 45) _ _ at_dash (λ h4.
    shaped_by b s (starts_with nat_eq (b ∷ s) (47 ∷ 47 ∷ [])) _ _ at_line_comment (λ h5.
    shaped_by b s (starts_with nat_eq (b ∷ s) (47 ∷ 42 ∷ [])) _ _ (λ t. at_opener Comment t) (λ h6.
    shaped_by b s (b == 34) _ _ (λ t. at_opener Quote (quote_opens b s t)) (λ h7.
    shaped_by b s (b == 96) _ _ (λ t. at_opener Backquote (backquote_opens b s t)) (λ h8.
    shaped_by b s (starts_with nat_eq (b ∷ s) (37 ∷ 123 ∷ [])) _ _ (λ t. at_opener Brace t) (λ h9.
    let other : IsOther b s = record { word = h2; blank = h1; point = h3; dash = h4; line_comment = h5; comment = h6; quote = h7; backquote = h8; brace = h9 } in
    shaped_by b s (is_printable b) _ _ (at_symbol other) (at_stray other))))))))))

opener_within : (o : Opener) (b : ℕ) (s : List ℕ) → starts_with nat_eq (b ∷ s) (opener_text o) ≡ true → IsWithin (b ∷ s) (Open o)
opener_within Comment b s h = record { some = omega arith; fits = begins_two (b ∷ s) 47 42 h }
opener_within Quote b s h = record { some = omega arith; fits = omega arith }
opener_within Backquote b s h = record { some = omega arith; fits = omega arith }
opener_within Brace b s h = record { some = omega arith; fits = begins_two (b ∷ s) 37 123 h }

line_comment_within : (b : ℕ) (s : List ℕ) → starts_with nat_eq (b ∷ s) (47 ∷ 47 ∷ []) ≡ true → IsWithin (b ∷ s) (Blank (prefix_len is_not_newline (b ∷ s)))
line_comment_within b s h =
    let slash : nat_eq 47 b ≡ true = first_of (nat_eq 47 b) _ h in
    let e : b ≡ 47 = grind (arith, nat_tests) in
    record { some = run_begins is_not_newline b s (rw e refl); fits = prefix_len-le-length is_not_newline (b ∷ s) }

within_shape : (b : ℕ) (s : List ℕ) (p : Piece) → IsShaped b s p → IsWithin (b ∷ s) p
within_shape b s p (at_blank h) = record { some = omega arith; fits = omega arith }
within_shape b s p (at_word h) = word_within b s h
within_shape b s p (at_point h) = point_within b s
within_shape b s p (at_dash h) = dash_within b s
within_shape b s p (at_line_comment h) = line_comment_within b s h
within_shape b s p (at_opener o h) = opener_within o b s h
within_shape b s p (at_symbol other h) = symbol_within b s
within_shape b s p (at_stray other h) = record { some = omega arith; fits = omega arith }

pub piece_within : (b : ℕ) (s : List ℕ) → IsWithin (b ∷ s) (piece (b ∷ s))
piece_within b s = within_shape b s (piece (b ∷ s)) (shaped b s)

-- what is left after some octets, one at least
pub record IsRest (s rest : List ℕ) : Type 0 where
  pub taken : ℕ
  pub some : 0 < taken
  pub fits : taken ≤ length s
  pub left : rest ≡ drop taken s

pub IsRest-before : (s rest : List ℕ) (h : IsRest s rest) → before s rest ≡ take h.taken s
IsRest-before s rest h =
    let n : length s - length rest ≡ h.taken = omega (arith, h.fits, ap length h.left, length-drop h.taken s) in
    rw n refl

pub IsRest-cut : (s rest : List ℕ) → IsRest s rest → s ≡ before s rest ++ rest
IsRest-cut s rest h = rw (IsRest-before s rest h, h.left) (sym (take-append-drop h.taken s))

pub IsRest-shorter : (s rest : List ℕ) → IsRest s rest → length rest < length s
IsRest-shorter s rest h = omega (arith, h.some, h.fits, ap length h.left, length-drop h.taken s)

-- each piece leaves a rest
abbrev pub LeavesRest : List ℕ → Front → Type 0
LeavesRest s nothing = Unit {0}
LeavesRest s (gap rest) = IsRest s rest
LeavesRest s (token kind rest) = IsRest s rest
LeavesRest s stray = Unit {0}

closed_leaves : (s : List ℕ) (o : Opener) (r : Option (List ℕ)) → ((rest : List ℕ) → r ≡ Some rest → IsRest s rest) → LeavesRest s (closed o r)
closed_leaves s o None h = tt
closed_leaves s Comment (Some rest) h = h rest refl
closed_leaves s Quote (Some rest) h = h rest refl
closed_leaves s Backquote (Some rest) h = h rest refl
closed_leaves s Brace (Some rest) h = h rest refl

rest_after_end : (s : List ℕ) (o : Opener) → IsWithin s (Open o) → (rest : List ℕ) → rest_after_closing o (drop (opener_len o) s) ≡ Some rest → IsRest s rest
rest_after_end s o h rest e =
    let last = end_suffix o (drop (opener_len o) s) rest e in
    let n = length-drop (opener_len o) s in
    record { taken = opener_len o + last.0; some = omega (arith, h.some); fits = omega (arith, h.fits, last.1, n); left = last.2 ∙ rw drop-drop refl }

parted_leaves : (s : List ℕ) (p : Piece) → IsWithin s p → LeavesRest s (parted s p)
parted_leaves s (Blank n) h = record { taken = n; some = h.some; fits = h.fits; left = refl }
parted_leaves s (Whole kind n) h = record { taken = n; some = h.some; fits = h.fits; left = refl }
parted_leaves s (Open o) h = closed_leaves s o (rest_after_closing o (drop (opener_len o) s)) (rest_after_end s o h)
parted_leaves s Stray h = tt

pub front_leaves : (s : List ℕ) → LeavesRest s (front s)
unfolding front
front_leaves [] = tt
front_leaves (b ∷ s) = parted_leaves (b ∷ s) (piece (b ∷ s)) (piece_within b s)
