-- No piece that the text begins with is longer than the one that is cut.
use Rattle.std.proofs.Common.{◌≡◌, ◌≢◌, ℕ, ◌+◌, ◌<◌, ◌≤◌, Bool, true, false, ◌&&◌, not, cond, nat_lt, nat_eq, eqb, ◌==◌, List, [], ◌∷◌, ◌++◌, length, take, drop, Option, Some, None, refl, sym, ap, ◌∙◌, arith, zero-add, append_assoc, append-nil, length-append, ◌⊎◌, inl, inr}
use Rattle.std.specs.List.{prefix_len, list_all, starts_with}
use Rattle.std.proofs.lemmas.List.{length-drop, take_at, drop_at}
use Rattle.std.proofs.lemmas.Bool.Decides.{nat_tests, eqb_tells}
use Rattle.pd_lex.specs.declared.token.TokenKind.{TokenKind}
use Rattle.pd_lex.specs.declared.token.TokenKind.TheVariants.{Int, Hex, Word, Decimal, Dots, Opt, Str, Cmd, Code, Symbol}
use Rattle.pd_lex.specs.declared.scan.Piece.{Piece}
use Rattle.pd_lex.specs.declared.scan.Piece.TheVariants.{Blank, Whole, Open, Stray}
use Rattle.pd_lex.specs.declared.scan.Opener.{Opener}
use Rattle.pd_lex.specs.declared.scan.Opener.TheVariants.{Comment, Quote, Backquote, Brace}
use Rattle.pd_lex.specs.Octets.{is_digit, is_hex_digit, is_word, is_blank, is_nonblank, is_not_newline, is_no_backquote, is_printable}
use Rattle.pd_lex.specs.Pieces.{is_hex_number, fraction_len, len_of_equals_and_option_value, word_piece, point_piece, dash_piece, piece, find_rest_after_octet_pair, rest_after_unescaped_quote, rest_after_backquote, rest_after_closing, opener_text, opener_len, Front, nothing, gap, token, stray, closed, parted, front}
use Rattle.pd_lex.specs.Scanned.{piece_len}
use Rattle.pd_lex.specs.Spellings.{IsValue, IsQuoted, empty, plain, escaped, HasNo, IsSpelled, IsPiece, IsOpened, Fits}
use Rattle.pd_lex.proofs.Endings.{and-false}
use Rattle.pd_lex.proofs.Fronts.{IsWithin, piece_within, IsShaped, at_blank, at_word, at_point, at_dash, at_line_comment, at_opener, at_symbol, at_stray, shaped, run_begins, positive}
use Rattle.pd_lex.proofs.Rests.{and_first, and_second}

-- a front that takes so many octets at least
abbrev pub Takes : List ℕ → ℕ → Front → Type 0
Takes s n nothing = ⊥
Takes s n (gap rest) = n + length rest ≤ length s
Takes s n (token kind rest) = n + length rest ≤ length s
Takes s n stray = ⊥

-- a piece of a line of so many octets at least
pub record IsLong (n : ℕ) (p : Piece) : Type 0 where
  pub long : n ≤ piece_len p
  pub whole : (o : Opener) → p ≢ Open o
  pub some : p ≢ Stray

long_taken : (s : List ℕ) (n : ℕ) (p : Piece) → IsWithin s p → IsLong n p → Takes s n (parted s p)
long_taken s n (Blank m) w h = omega (arith, w.fits, h.long, length-drop m s)
long_taken s n (Whole kind m) w h = omega (arith, w.fits, h.long, length-drop m s)
long_taken s n (Open o) w h = absurd (h.whole o refl)
long_taken s n Stray w h = absurd (h.some refl)

whole_long : (n m : ℕ) (kind : TokenKind) → n ≤ m → IsLong n (Whole kind m)
whole_long n m kind le = record { long = le; whole = λ o e. cc; some = λ e. cc }

blank_long : (n m : ℕ) → n ≤ m → IsLong n (Blank m)
blank_long n m le = record { long = le; whole = λ o e. cc; some = λ e. cc }

long_either : (n : ℕ) (t : Bool) (x y : Piece) → (t ≡ true → IsLong n x) → (t ≡ false → IsLong n y) → IsLong n (cond t x y)
long_either n true x y f g = f refl
long_either n false x y f g = g refl

front_takes : (b : ℕ) (s : List ℕ) (n : ℕ) → IsLong n (piece (b ∷ s)) → Takes (b ∷ s) n (front (b ∷ s))
unfolding front
front_takes b s n h = long_taken (b ∷ s) n (piece (b ∷ s)) (piece_within b s) h

-- runs
run_at_least : (p : ℕ → Bool) (text more : List ℕ) → list_all p text ≡ true → length text ≤ prefix_len p (text ++ more)
run_at_least p [] more h = omega arith
run_at_least p (b ∷ text) more h =
    let rest = run_at_least p text more (and_second (p b) (list_all p text) h) in
    rw (and_first (p b) (list_all p text) h) (omega arith)

run_up_to : (p : ℕ → Bool) (text : List ℕ) (b : ℕ) (more : List ℕ) → list_all p text ≡ true → p b ≡ false → prefix_len p (text ++ b ∷ more) ≡ length text
run_up_to p [] b more h stop = rw stop refl
run_up_to p (c ∷ text) b more h stop = rw (and_first (p c) (list_all p text) h, run_up_to p text b more (and_second (p c) (list_all p text) h) stop) (omega arith)

pub word_is_no_blank : (b : ℕ) → is_word b ≡ true → is_blank b ≡ false
word_is_no_blank b h = grind (arith, nat_tests)

pub digit_is_word : (b : ℕ) → is_digit b ≡ true → is_word b ≡ true
digit_is_word b h = rw h refl

at_a_word : (b : ℕ) (s : List ℕ) → is_word b ≡ true → piece (b ∷ s) ≡ word_piece (b ∷ s)
unfolding piece
at_a_word b s h = rw (word_is_no_blank b h, h) refl

word_long : (s : List ℕ) (n : ℕ) → n ≤ prefix_len is_word s → IsLong n (word_piece s)
unfolding word_piece
word_long s n le =
    let m = prefix_len is_word s in
    let f = fraction_len (drop m s) in
    long_either n (list_all is_digit (take m s)) _ _ (λ _. long_either n (nat_lt 0 f) _ _ (λ _. whole_long n (m + f) Decimal (omega arith)) (λ _. whole_long n m Int le)) (λ _. long_either n (is_hex_number (take m s)) _ _ (λ _. whole_long n m Hex le) (λ _. whole_long n m Word le))

run_taken : (text more : List ℕ) → 0 < length text → list_all is_word text ≡ true → Takes (text ++ more) (length text) (front (text ++ more))
run_taken [] more some all = absurd (omega arith)
run_taken (b ∷ text) more some all =
    front_takes b (text ++ more) (length (b ∷ text)) (rw (at_a_word b (text ++ more) (and_first (is_word b) (list_all is_word text) all)) (word_long (b ∷ text ++ more) (length (b ∷ text)) (run_at_least is_word (b ∷ text) more all)))

pub all_also : (p q : ℕ → Bool) → ((b : ℕ) → p b ≡ true → q b ≡ true) → (text : List ℕ) → list_all p text ≡ true → list_all q text ≡ true
all_also p q also [] h = refl
all_also p q also (b ∷ text) h = rw (also b (and_first (p b) (list_all p text) h), all_also p q also text (and_second (p b) (list_all p text) h)) refl

pub hex_digit_is_word : (b : ℕ) → is_hex_digit b ≡ true → is_word b ≡ true
hex_digit_is_word b h = grind (arith, nat_tests)

int_taken : (text more : List ℕ) → 0 < length text → list_all is_digit text ≡ true → Takes (text ++ more) (length text) (front (text ++ more))
int_taken text more some all = run_taken text more some (all_also is_digit is_word digit_is_word text all)

hex_taken : (digits more : List ℕ) → list_all is_hex_digit digits ≡ true → Takes (48 ∷ 120 ∷ digits ++ more) (length (48 ∷ 120 ∷ digits)) (front (48 ∷ 120 ∷ digits ++ more))
hex_taken digits more all = run_taken (48 ∷ 120 ∷ digits) more (omega arith) (all_also is_hex_digit is_word hex_digit_is_word digits all)

-- decimals
point_stops_word : is_word 46 ≡ false
point_stops_word = refl

fraction_at_least : (part more : List ℕ) → 0 < length part → list_all is_digit part ≡ true → length part + 1 ≤ fraction_len (46 ∷ part ++ more)
fraction_at_least part more some all =
    let run = run_at_least is_digit part more all in
    grind (arith, nat_tests)

no_dots : (part more : List ℕ) → 0 < length part → list_all is_digit part ≡ true → starts_with nat_eq (46 ∷ part ++ more) (46 ∷ 46 ∷ 46 ∷ []) ≡ false
no_dots [] more some all = absurd (omega arith)
no_dots (d ∷ part) more some all = let digit = and_first (is_digit d) (list_all is_digit part) all in let apart : nat_eq 46 d ≡ false = no_point d digit in rw apart refl
  where
    no_point : (d : ℕ) → is_digit d ≡ true → nat_eq 46 d ≡ false
    no_point d h = grind (arith, nat_tests)

point_long : (part more : List ℕ) → 0 < length part → list_all is_digit part ≡ true → IsLong (length part + 1) (point_piece (46 ∷ part ++ more))
unfolding point_piece
point_long part more some all =
    let f = fraction_len (46 ∷ part ++ more) in
    let le = fraction_at_least part more some all in
    rw (no_dots part more some all) (long_either (length part + 1) (nat_lt 0 f) (Whole Decimal f) (Whole Symbol 1) (λ _. whole_long (length part + 1) f Decimal le) (λ h. absurd (none_left f h le)))
  where
    none_left : (f : ℕ) → nat_lt 0 f ≡ false → length part + 1 ≤ f → ⊥
    none_left f h le = grind (arith, nat_tests)

point_taken : (part more : List ℕ) → 0 < length part → list_all is_digit part ≡ true → Takes (46 ∷ part ++ more) (length part + 1) (front (46 ∷ part ++ more))
unfolding piece
point_taken part more some all = front_takes 46 (part ++ more) (length part + 1) (point_long part more some all)

decimal_long : (whole part more : List ℕ) → list_all is_digit whole ≡ true → 0 < length part → list_all is_digit part ≡ true → IsLong (length whole + (length part + 1)) (word_piece (whole ++ (46 ∷ part ++ more)))
unfolding word_piece
decimal_long whole part more digits some all =
    let n = run_up_to is_word whole 46 (part ++ more) (all_also is_digit is_word digit_is_word whole digits) point_stops_word in
    let le = fraction_at_least part more some all in
    let f = fraction_len (46 ∷ part ++ more) in
    rw (n, take_at whole (46 ∷ part ++ more) (length whole) refl, drop_at whole (46 ∷ part ++ more) (length whole) refl, digits) (long_either (length whole + (length part + 1)) (nat_lt 0 f) (Whole Decimal (length whole + f)) (Whole Int (length whole)) (λ _. whole_long (length whole + (length part + 1)) (length whole + f) Decimal (omega arith)) (λ h. absurd (none_left f h le)))
  where
    none_left : (f : ℕ) → nat_lt 0 f ≡ false → length part + 1 ≤ f → ⊥
    none_left f h le = grind (arith, nat_tests)

decimal_taken : (whole part more : List ℕ) → list_all is_digit whole ≡ true → 0 < length part → list_all is_digit part ≡ true → Takes (whole ++ (46 ∷ part ++ more)) (length whole + (length part + 1)) (front (whole ++ (46 ∷ part ++ more)))
decimal_taken [] part more digits some all = rw zero-add (point_taken part more some all)
decimal_taken (w ∷ whole) part more digits some all =
    let word = digit_is_word w (and_first (is_digit w) (list_all is_digit whole) digits) in
    front_takes w (whole ++ (46 ∷ part ++ more)) (length (w ∷ whole) + (length part + 1)) (rw (at_a_word w (whole ++ (46 ∷ part ++ more)) word) (decimal_long (w ∷ whole) part more digits some all))

dots_taken : (more : List ℕ) → Takes (46 ∷ 46 ∷ 46 ∷ more) 3 (front (46 ∷ 46 ∷ 46 ∷ more))
unfolding piece point_piece
dots_taken more = front_takes 46 (46 ∷ 46 ∷ more) 3 (whole_long 3 3 Dots (omega arith))

-- options
value_at_least : (value more : List ℕ) → list_all is_nonblank value ≡ true → length value + 1 ≤ len_of_equals_and_option_value (61 ∷ value ++ more)
value_at_least value more all = let run = run_at_least is_nonblank value more all in omega arith

name_long : (name more : List ℕ) → 0 < length name → list_all is_word name ≡ true → IsLong (2 + length name) (dash_piece (45 ∷ 45 ∷ name ++ more))
unfolding dash_piece
name_long name more some all =
    let run = run_at_least is_word name more all in
    let n = prefix_len is_word (name ++ more) in
    long_either (2 + length name) (nat_lt 0 n) (Whole Opt (2 + n + len_of_equals_and_option_value (drop n (name ++ more)))) (Whole Symbol 1) (λ _. whole_long (2 + length name) (2 + n + len_of_equals_and_option_value (drop n (name ++ more))) Opt (omega arith)) (λ h. absurd (none_left n h run))
  where
    none_left : (n : ℕ) → nat_lt 0 n ≡ false → length name ≤ n → ⊥
    none_left n h le = grind (arith, nat_tests)

value_long : (name value more : List ℕ) → 0 < length name → list_all is_word name ≡ true → list_all is_nonblank value ≡ true → IsLong (2 + (length name + (1 + length value))) (dash_piece (45 ∷ 45 ∷ name ++ (61 ∷ value ++ more)))
unfolding dash_piece
value_long name value more some all solid =
    let n = run_up_to is_word name 61 (value ++ more) all refl in
    let le = value_at_least value more solid in
    let v = len_of_equals_and_option_value (61 ∷ value ++ more) in
    rw (n, drop_at name (61 ∷ value ++ more) (length name) refl) (long_either (2 + (length name + (1 + length value))) (nat_lt 0 (length name)) (Whole Opt (2 + length name + v)) (Whole Symbol 1) (λ _. whole_long (2 + (length name + (1 + length value))) (2 + length name + v) Opt (omega arith)) (λ h. absurd (none_left (length name) h some)))
  where
    none_left : (n : ℕ) → nat_lt 0 n ≡ false → 0 < n → ⊥
    none_left n h le = grind (arith, nat_tests)

name_taken : (name more : List ℕ) → 0 < length name → list_all is_word name ≡ true → Takes (45 ∷ 45 ∷ name ++ more) (2 + length name) (front (45 ∷ 45 ∷ name ++ more))
unfolding piece
name_taken name more some all = front_takes 45 (45 ∷ name ++ more) (2 + length name) (name_long name more some all)

value_taken : (name value more : List ℕ) → 0 < length name → list_all is_word name ≡ true → list_all is_nonblank value ≡ true → Takes (45 ∷ 45 ∷ name ++ (61 ∷ value ++ more)) (2 + (length name + (1 + length value))) (front (45 ∷ 45 ∷ name ++ (61 ∷ value ++ more)))
unfolding piece
value_taken name value more some all solid = front_takes 45 (45 ∷ name ++ (61 ∷ value ++ more)) (2 + (length name + (1 + length value))) (value_long name value more some all solid)

-- what is closed
closed_taken : (b : ℕ) (s : List ℕ) (o : Opener) (n : ℕ) (r : List ℕ) → piece (b ∷ s) ≡ Open o → rest_after_closing o (drop (opener_len o) (b ∷ s)) ≡ Some r → n + length r ≤ length (b ∷ s) → Takes (b ∷ s) n (front (b ∷ s))
unfolding front
closed_taken b s o n r is e le = rw (is, e) (both o)
  where
    both : (o : Opener) → Takes (b ∷ s) n (closed o (Some r))
    both Comment = le
    both Quote = le
    both Backquote = le
    both Brace = le

quote_ends_here : (more : List ℕ) → rest_after_unescaped_quote (34 ∷ more) ≡ Some more
quote_ends_here [] = refl
quote_ends_here (c ∷ more) = refl

differs : (a b : ℕ) → a ≢ b → (a == b) ≡ false
differs a b h = grind (arith, nat_tests)

plain_octet : (b : ℕ) (s more : List ℕ) → b ≢ 34 → b ≢ 92 → rest_after_unescaped_quote (b ∷ (s ++ 34 ∷ more)) ≡ rest_after_unescaped_quote (s ++ 34 ∷ more)
plain_octet b [] more h g = rw (differs b 34 h, differs b 92 g) refl
plain_octet b (c ∷ s) more h g = rw (differs b 34 h, differs b 92 g) refl

quoted_ends : {body : List ℕ} (more : List ℕ) → IsQuoted body → rest_after_unescaped_quote (body ++ 34 ∷ more) ≡ Some more
quoted_ends more empty = quote_ends_here more
quoted_ends more (plain {b} {text} h g rest) = plain_octet b text more h g ∙ quoted_ends more rest
quoted_ends more (escaped rest) = quoted_ends more rest

backquote_ends : (body more : List ℕ) → list_all is_no_backquote body ≡ true → rest_after_backquote (body ++ 96 ∷ more) ≡ Some more
backquote_ends [] more h = refl
backquote_ends (b ∷ body) more h = rw (no_end b (and_first (is_no_backquote b) (list_all is_no_backquote body) h)) (backquote_ends body more (and_second (is_no_backquote b) (list_all is_no_backquote body) h))
  where
    no_end : (b : ℕ) → not (b == 96) ≡ true → (b == 96) ≡ false
    no_end b h = grind (arith, nat_tests)

pub same_octet : (a : ℕ) → eqb a a ≡ true
same_octet a = grind (arith, nat_tests)

other_order : (x y : ℕ) → eqb x y ≡ false → eqb y x ≡ false
other_order x y h = grind (arith, nat_tests)

pair_test : (x y b c : ℕ) → ((x ≡ b) × (y ≡ c) → ⊥) → (eqb x b && (eqb y c && true)) ≡ false
pair_test x y b c none = by_tests (eqb_tells x b) (eqb_tells y c)
  where
    by_tests : ((eqb x b ≡ true) × (x ≡ b)) ⊎ ((eqb x b ≡ false) × (x ≢ b)) → ((eqb y c ≡ true) × (y ≡ c)) ⊎ ((eqb y c ≡ false) × (y ≢ c)) → (eqb x b && (eqb y c && true)) ≡ false
    by_tests (inr f) o = rw f.0 refl
    by_tests (inl t) (inr f) = rw (f.0, and-false) refl
    by_tests (inl t) (inl u) = absurd (none (t.1, u.1))

no_pair_here : (x y b : ℕ) (body more : List ℕ) → eqb x y ≡ false → HasNo (x ∷ y ∷ []) (b ∷ body) → starts_with nat_eq (b ∷ (body ++ x ∷ y ∷ more)) (x ∷ y ∷ []) ≡ false
no_pair_here x y b [] more apart none = rw (other_order x y apart, and-false) refl
no_pair_here x y b (c ∷ body) more apart none = pair_test x y b c (λ e. none [] body (let first = e.0 in let second = e.1 in cc))

HasNo-tail : (x y b : ℕ) (body : List ℕ) → HasNo (x ∷ y ∷ []) (b ∷ body) → HasNo (x ∷ y ∷ []) body
HasNo-tail x y b body none front back e = none (b ∷ front) back (ap (λ (l : List ℕ). b ∷ l) e)

pair_ends : (x y : ℕ) (body more : List ℕ) → eqb x y ≡ false → HasNo (x ∷ y ∷ []) body → find_rest_after_octet_pair x y (body ++ x ∷ y ∷ more) ≡ Some more
pair_ends x y [] more apart none = rw (same_octet x, same_octet y) refl
pair_ends x y (b ∷ body) more apart none = rw (no_pair_here x y b body more apart none) (pair_ends x y body more apart (HasNo-tail x y b body none))

str_taken : (body more : List ℕ) → IsQuoted body → Takes (34 ∷ body ++ 34 ∷ more) (length (34 ∷ body ++ 34 ∷ [])) (front (34 ∷ body ++ 34 ∷ more))
unfolding piece
str_taken body more h = closed_taken 34 (body ++ 34 ∷ more) Quote (length (34 ∷ body ++ 34 ∷ [])) more refl (quoted_ends more h) (omega (arith, length-append body (34 ∷ []), length-append body (34 ∷ more)))

cmd_taken : (body more : List ℕ) → list_all is_no_backquote body ≡ true → Takes (96 ∷ body ++ 96 ∷ more) (length (96 ∷ body ++ 96 ∷ [])) (front (96 ∷ body ++ 96 ∷ more))
unfolding piece
cmd_taken body more h = closed_taken 96 (body ++ 96 ∷ more) Backquote (length (96 ∷ body ++ 96 ∷ [])) more refl (backquote_ends body more h) (omega (arith, length-append body (96 ∷ []), length-append body (96 ∷ more)))

code_taken : (body more : List ℕ) → HasNo (125 ∷ 37 ∷ []) body → Takes (37 ∷ 123 ∷ body ++ 125 ∷ 37 ∷ more) (length (37 ∷ 123 ∷ body ++ 125 ∷ 37 ∷ [])) (front (37 ∷ 123 ∷ body ++ 125 ∷ 37 ∷ more))
unfolding piece
code_taken body more h = closed_taken 37 (123 ∷ body ++ 125 ∷ 37 ∷ more) Brace (length (37 ∷ 123 ∷ body ++ 125 ∷ 37 ∷ [])) more refl (pair_ends 125 37 body more refl h) (omega (arith, length-append body (125 ∷ 37 ∷ []), length-append body (125 ∷ 37 ∷ more)))

block_comment_taken : (body more : List ℕ) → HasNo (42 ∷ 47 ∷ []) body → Takes (47 ∷ 42 ∷ body ++ 42 ∷ 47 ∷ more) (length (47 ∷ 42 ∷ body ++ 42 ∷ 47 ∷ [])) (front (47 ∷ 42 ∷ body ++ 42 ∷ 47 ∷ more))
unfolding piece
block_comment_taken body more h = closed_taken 47 (42 ∷ body ++ 42 ∷ 47 ∷ more) Comment (length (47 ∷ 42 ∷ body ++ 42 ∷ 47 ∷ [])) more refl (pair_ends 42 47 body more refl h) (omega (arith, length-append body (42 ∷ 47 ∷ []), length-append body (42 ∷ 47 ∷ more)))

-- comments to the end of the line, and blanks
line_comment_taken : (body more : List ℕ) → list_all is_not_newline body ≡ true → Takes (47 ∷ 47 ∷ body ++ more) (length (47 ∷ 47 ∷ body)) (front (47 ∷ 47 ∷ body ++ more))
unfolding piece
line_comment_taken body more h = front_takes 47 (47 ∷ body ++ more) (length (47 ∷ 47 ∷ body)) (blank_long (length (47 ∷ 47 ∷ body)) (prefix_len is_not_newline (47 ∷ 47 ∷ body ++ more)) (run_at_least is_not_newline (47 ∷ 47 ∷ body) more h))

blank_taken : (b : ℕ) (more : List ℕ) → is_blank b ≡ true → Takes (b ∷ more) 1 (front (b ∷ more))
unfolding piece
blank_taken b more h = front_takes b more 1 (rw h (blank_long 1 1 (omega arith)))

-- symbols: any piece but an opener has an octet
pub begins_pair : (b x y : ℕ) (s : List ℕ) → starts_with nat_eq (b ∷ s) (x ∷ y ∷ []) ≡ true → (more : List ℕ) × (b ∷ s ≡ x ∷ y ∷ more)
begins_pair b x y [] h = absurd (let g = rw and-false at h in cc)
begins_pair b x y (c ∷ s) h = (s, both (eqb_tells x b) (eqb_tells y c))
  where
    both : ((eqb x b ≡ true) × (x ≡ b)) ⊎ ((eqb x b ≡ false) × (x ≢ b)) → ((eqb y c ≡ true) × (y ≡ c)) ⊎ ((eqb y c ≡ false) × (y ≢ c)) → b ∷ c ∷ s ≡ x ∷ y ∷ s
    both (inr f) o = absurd (let g = rw f.0 at h in cc)
    both (inl t) (inr f) = absurd (let g = rw (f.0, and-false) at h in cc)
    both (inl t) (inl u) = cc (t.1, u.1)

pub begins_one : (b x : ℕ) (s : List ℕ) → starts_with nat_eq (b ∷ s) (x ∷ []) ≡ true → b ∷ s ≡ x ∷ s
begins_one b x s h = same (eqb_tells x b)
  where
    same : ((eqb x b ≡ true) × (x ≡ b)) ⊎ ((eqb x b ≡ false) × (x ≢ b)) → b ∷ s ≡ x ∷ s
    same (inr f) = absurd (let g = rw f.0 at h in cc)
    same (inl t) = cc (t.1)

pub opener_opens : (o : Opener) (b : ℕ) (s : List ℕ) → starts_with nat_eq (b ∷ s) (opener_text o) ≡ true → IsOpened (b ∷ s)
opener_opens Comment b s h = let p = begins_pair b 47 42 s h in (p.0, inl p.1)
opener_opens Quote b s h = (s, inr (inl (begins_one b 34 s h)))
opener_opens Backquote b s h = (s, inr (inr (inl (begins_one b 96 s h))))
opener_opens Brace b s h = let p = begins_pair b 37 123 s h in (p.0, inr (inr (inr p.1)))

point_some : (s : List ℕ) → IsLong 1 (point_piece s)
unfolding point_piece
point_some s =
    let f = fraction_len s in
    long_either 1 (starts_with nat_eq s (46 ∷ 46 ∷ 46 ∷ [])) (Whole Dots 3) (cond (nat_lt 0 f) (Whole Decimal f) (Whole Symbol 1)) (λ _. whole_long 1 3 Dots (omega arith)) (λ _. long_either 1 (nat_lt 0 f) (Whole Decimal f) (Whole Symbol 1) (λ h. whole_long 1 f Decimal (positive f h)) (λ _. whole_long 1 1 Symbol (omega arith)))

dash_some : (s : List ℕ) → IsLong 1 (dash_piece s)
unfolding dash_piece
dash_some s =
    let n = prefix_len is_word (drop 2 s) in
    long_either 1 (starts_with nat_eq s (45 ∷ 45 ∷ []) && nat_lt 0 n) (Whole Opt (2 + n + len_of_equals_and_option_value (drop n (drop 2 s)))) (Whole Symbol 1) (λ _. whole_long 1 (2 + n + len_of_equals_and_option_value (drop n (drop 2 s))) Opt (omega arith)) (λ _. whole_long 1 1 Symbol (omega arith))

symbol_long : (b : ℕ) (s : List ℕ) (p : Piece) → is_printable b ≡ true → ¬ IsOpened (b ∷ s) → IsWithin (b ∷ s) p → IsShaped b s p → IsLong 1 p
symbol_long b s p prints closed_here w (at_blank h) = blank_long 1 1 (omega arith)
symbol_long b s p prints closed_here w (at_word h) = word_long (b ∷ s) 1 (run_begins is_word b s h)
symbol_long b s p prints closed_here w (at_point h) = point_some (b ∷ s)
symbol_long b s p prints closed_here w (at_dash h) = dash_some (b ∷ s)
symbol_long b s p prints closed_here w (at_line_comment h) = blank_long 1 (prefix_len is_not_newline (b ∷ s)) w.some
symbol_long b s p prints closed_here w (at_opener o h) = absurd (closed_here (opener_opens o b s h))
symbol_long b s p prints closed_here w (at_symbol other h) = whole_long 1 1 Symbol (omega arith)
symbol_long b s p prints closed_here w (at_stray other h) = absurd (let e : true ≡ false = sym prints ∙ h in cc)

symbol_taken : (b : ℕ) (more : List ℕ) → is_printable b ≡ true → ¬ IsOpened (b ∷ more) → Takes (b ∷ more) 1 (front (b ∷ more))
symbol_taken b more prints closed_here = front_takes b more 1 (symbol_long b more (piece (b ∷ more)) prints closed_here (piece_within b more) (shaped b more))

-- all kinds
taken_as : (s text more whole all : List ℕ) → s ≡ text ++ more → text ≡ whole → whole ++ more ≡ all → Takes all (length whole) (front all) → Takes s (length text) (front s)
taken_as s text more whole all cut is same h = rw (cut, is, same) h

bound_gap : (s text more : List ℕ) → s ≡ text ++ more → IsPiece None text → Takes s (length text) (front s)
bound_gap s text more cut (inl (b, is, blank)) = taken_as s text more (b ∷ []) (b ∷ more) cut is refl (blank_taken b more blank)
bound_gap s text more cut (inr (inl (body, is, inside))) = taken_as s text more (47 ∷ 47 ∷ body) (47 ∷ 47 ∷ body ++ more) cut is refl (line_comment_taken body more inside)
bound_gap s text more cut (inr (inr (body, is, none))) = taken_as s text more (47 ∷ 42 ∷ body ++ 42 ∷ 47 ∷ []) (47 ∷ 42 ∷ body ++ 42 ∷ 47 ∷ more) cut is (rw append_assoc refl) (block_comment_taken body more none)

taken_len : (all : List ℕ) (n m : ℕ) → n ≡ m → Takes all n (front all) → Takes all m (front all)
taken_len all n m e h = rw (← e) h

bound_value : (s text more name value : List ℕ) → s ≡ text ++ more → text ≡ 45 ∷ 45 ∷ name ++ value → 0 < length name → list_all is_word name ≡ true → IsValue value → Takes s (length text) (front s)
bound_value s text more name value cut is some all (inl none) =
    let bare : text ≡ 45 ∷ 45 ∷ name = is ∙ rw (none, append-nil name) refl in
    taken_as s text more (45 ∷ 45 ∷ name) (45 ∷ 45 ∷ name ++ more) cut bare refl (taken_len (45 ∷ 45 ∷ name ++ more) (2 + length name) (length (45 ∷ 45 ∷ name)) (omega arith) (name_taken name more some all))
bound_value s text more name value cut is some all (inr (octets, has, solid)) =
    let full : text ≡ 45 ∷ 45 ∷ name ++ (61 ∷ octets) = is ∙ rw has refl in
    let whole = 45 ∷ 45 ∷ name ++ (61 ∷ octets ++ more) in
    taken_as s text more (45 ∷ 45 ∷ name ++ (61 ∷ octets)) whole cut full (rw append_assoc refl) (taken_len whole (2 + (length name + (1 + length octets))) (length (45 ∷ 45 ∷ name ++ (61 ∷ octets))) (omega (arith, length-append name (61 ∷ octets))) (value_taken name octets more some all solid))

bound_token : (kind : TokenKind) (s text more : List ℕ) → s ≡ text ++ more → IsSpelled kind text → (kind ≡ Symbol → ¬ IsOpened s) → Takes s (length text) (front s)
bound_token Int s text more cut h unopened = taken_as s text more text (text ++ more) cut refl refl (int_taken text more h.0 h.1)
bound_token Hex s text more cut (digits, is, some) unopened = taken_as s text more (48 ∷ 120 ∷ digits) (48 ∷ 120 ∷ digits ++ more) cut is refl (hex_taken digits more some.1)
bound_token Word s text more cut h unopened = taken_as s text more text (text ++ more) cut refl refl (run_taken text more h.0.0 h.0.1)
bound_token Decimal s text more cut (whole, part, is, digits, some) unopened =
    let all = whole ++ (46 ∷ part ++ more) in
    taken_as s text more (whole ++ 46 ∷ part) all cut is (rw append_assoc refl) (taken_len all (length whole + (length part + 1)) (length (whole ++ 46 ∷ part)) (omega (arith, length-append whole (46 ∷ part))) (decimal_taken whole part more digits some.0 some.1))
bound_token Dots s text more cut h unopened = taken_as s text more (46 ∷ 46 ∷ 46 ∷ []) (46 ∷ 46 ∷ 46 ∷ more) cut h refl (dots_taken more)
bound_token Opt s text more cut (name, value, is, some, valued) unopened = bound_value s text more name value cut is some.0 some.1 valued
bound_token Str s text more cut (body, is, quoted) unopened = taken_as s text more (34 ∷ body ++ 34 ∷ []) (34 ∷ body ++ 34 ∷ more) cut is (rw append_assoc refl) (str_taken body more quoted)
bound_token Cmd s text more cut (body, is, none) unopened = taken_as s text more (96 ∷ body ++ 96 ∷ []) (96 ∷ body ++ 96 ∷ more) cut is (rw append_assoc refl) (cmd_taken body more none)
bound_token Code s text more cut (body, is, none) unopened = taken_as s text more (37 ∷ 123 ∷ body ++ 125 ∷ 37 ∷ []) (37 ∷ 123 ∷ body ++ 125 ∷ 37 ∷ more) cut is (rw append_assoc refl) (code_taken body more none)
bound_token Symbol s text more cut (b, is, prints, no_word) unopened =
    let here : s ≡ b ∷ more = cut ∙ rw is refl in
    taken_as s text more (b ∷ []) (b ∷ more) cut is refl (symbol_taken b more prints (rw here at (unopened refl)))

-- every piece that fits is no longer than the one that is cut
pub bound : (s : List ℕ) (kind : Option TokenKind) (text : List ℕ) → Fits s kind text → Takes s (length text) (front s)
bound s None text h = bound_gap s text h.more h.cut h.spelled
bound s (Some kind) text h = bound_token kind s text h.more h.cut h.spelled (λ is. h.unopened (ap (λ (k : TokenKind). Some k) is))
