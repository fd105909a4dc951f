-- The piece that is cut is spelled as its kind says.
use Rattle.std.proofs.Common.{◌≡◌, ◌≢◌, ℕ, suc, ◌+◌, ◌-◌, ◌<◌, ◌≤◌, Bool, true, false, ◌&&◌, cond, nat_lt, nat_eq, eqb, ◌==◌, List, [], ◌∷◌, ◌++◌, length, get_or, take, drop, Option, Some, None, refl, sym, ap, ◌∙◌, arith, add-one, append_assoc, length-append, ◌⊎◌, inl, inr}
use Rattle.std.specs.List.{prefix_len, list_all, starts_with}
use Rattle.std.proofs.Math.Numerals.{one-add}
use Rattle.std.proofs.lemmas.List.{length-drop, take_at, take-append-drop, length-take-le}
use Rattle.std.proofs.Math.Seq.{take-append-add}
use Rattle.std.proofs.lemmas.List.Sums.{prefix_len-le-length}
use Rattle.std.proofs.lemmas.List.Folds.{length-prefix_len}
use Rattle.std.proofs.lemmas.Bool.Decides.{nat_tests, eqb_tells}
use Rattle.pd_lex.specs.declared.token.TokenKind.{TokenKind}
use Rattle.pd_lex.specs.declared.token.TokenKind.TheVariants.{Int, Hex, Word, Decimal, Dots, Opt, Symbol}
use Rattle.pd_lex.specs.declared.scan.Piece.{Piece}
use Rattle.pd_lex.specs.declared.scan.Piece.TheVariants.{Blank, Whole, Open, Stray}
use Rattle.pd_lex.specs.declared.scan.Opener.{Opener}
use Rattle.pd_lex.specs.declared.scan.Opener.TheVariants.{Comment, Quote, Backquote, Brace}
use Rattle.pd_lex.specs.Octets.{is_digit, is_hex_digit, is_word, is_nonblank, is_not_newline, is_no_backquote, is_printable}
use Rattle.pd_lex.specs.Places.{before}
use Rattle.pd_lex.specs.Pieces.{is_hex_number, fraction_len, len_of_equals_and_option_value, word_piece, point_piece, dash_piece, piece, find_rest_after_octet_pair, rest_after_unescaped_quote, rest_after_backquote, rest_after_closing, opener_text, opener_len, Front, nothing, gap, token, stray, closed, parted, front}
use Rattle.pd_lex.specs.Spellings.{AreAll, AreSome, IsHex, IsValue, IsOpt, IsQuoted, empty, plain, escaped, IsStr, IsCmd, HasNo, IsCode, IsSpelled, IsLineComment, IsBlockComment, IsPiece, IsOpened}
use Rattle.pd_lex.proofs.Fronts.{IsWithin, piece_within, IsOther, IsShaped, at_blank, at_word, at_point, at_dash, at_line_comment, at_opener, at_symbol, at_stray, shaped, run_begins, positive}
use Rattle.pd_lex.proofs.Bounds.{begins_pair, begins_one, same_octet}
use Rattle.pd_lex.proofs.Rests.{and_first, and_second}

-- runs
run_passes : (p : ℕ → Bool) (s : List ℕ) → list_all p (take (prefix_len p s) s) ≡ true
run_passes p [] = refl
run_passes p (b ∷ s) = by_test (p b) refl (run_passes p s)
  where
    by_test : (t : Bool) → p b ≡ t → list_all p (take (prefix_len p s) s) ≡ true → list_all p (take (cond t (1 + prefix_len p s) 0) (b ∷ s)) ≡ true
    by_test true e h = rw one-add (rw e h)
    by_test false e h = refl

run_length : (p : ℕ → Bool) (s : List ℕ) → length (take (prefix_len p s) s) ≡ prefix_len p s
run_length p s = length-prefix_len p s

-- a whole piece and how it is spelled
pub record IsGood (s : List ℕ) (kind : TokenKind) (n : ℕ) : Type 0 where
  pub spelled : IsSpelled kind (take n s)
  pub unopened : kind ≡ Symbol → ¬ IsOpened s

abbrev pub IsSound : List ℕ → Piece → Type 0
IsSound s (Blank n) = IsPiece None (take n s)
IsSound s (Whole kind n) = IsGood s kind n
IsSound s (Open o) = starts_with nat_eq s (opener_text o) ≡ true
IsSound s Stray = Unit {0}

sound_either : (s : List ℕ) (t : Bool) (x y : Piece) → (t ≡ true → IsSound s x) → (t ≡ false → IsSound s y) → IsSound s (cond t x y)
sound_either s true x y f g = f refl
sound_either s false x y f g = g refl

no_symbol : (s : List ℕ) (kind : TokenKind) (n : ℕ) → kind ≢ Symbol → IsSpelled kind (take n s) → IsSound s (Whole kind n)
no_symbol s kind n other h = record { spelled = h; unopened = λ e. absurd (other e) }

-- a point and digits
fraction_spelled : (s : List ℕ) → 0 < fraction_len s → (part : List ℕ) × (take (fraction_len s) s ≡ 46 ∷ part) × AreSome is_digit part
fraction_spelled [] h = absurd (omega arith)
fraction_spelled (b ∷ s) h = by_test ((b == 46) && nat_lt 0 (prefix_len is_digit s)) refl h
  where
    is_point : (b : ℕ) → (b == 46) ≡ true → b ≡ 46
    is_point b h = grind (arith, nat_tests)

    by_test : (t : Bool) → ((b == 46) && nat_lt 0 (prefix_len is_digit s)) ≡ t → 0 < cond t (prefix_len is_digit s + 1) 0 → (part : List ℕ) × (take (cond t (prefix_len is_digit s + 1) 0) (b ∷ s) ≡ 46 ∷ part) × AreSome is_digit part
    by_test true e h =
        let n = prefix_len is_digit s in
        let point = is_point b (and_first (b == 46) (nat_lt 0 n) e) in
        let some = positive n (and_second (b == 46) (nat_lt 0 n) e) in
        (take n s, rw (add-one, point) refl, (omega (arith, run_length is_digit s), run_passes is_digit s))
    by_test false e h = absurd (omega arith)

take_sum : (n m : ℕ) (s : List ℕ) → n ≤ length s → take (n + m) s ≡ take n s ++ take m (drop n s)
take_sum n m s le =
    let len = length-take-le n s le in
    let whole = take-append-drop n s in
    let e = take-append-add (take n s) (drop n s) m in
    rw (len, whole) at e

-- letters, digits and `_`
pub hex_is : (s : List ℕ) → is_hex_number s ≡ true → IsHex s
hex_is [] h = absurd cc
hex_is (b ∷ s) h =
    let start = starts_with nat_eq (b ∷ s) (48 ∷ 120 ∷ []) in
    let long = nat_lt 2 (length (b ∷ s)) in
    let all = list_all is_hex_digit (drop 2 (b ∷ s)) in
    let front = and_first (start && long) all h in
    let is = begins_pair b 48 120 s (and_first start long front) in
    let rest : drop 2 (b ∷ s) ≡ is.0 = ap (drop 2) is.1 in
    let digits : list_all is_hex_digit is.0 ≡ true = rw rest at (and_second (start && long) all h) in
    let more : 2 < length (b ∷ s) = longer (length (b ∷ s)) (and_second start long front) in
    (is.0, is.1, (omega (arith, more, ap length is.1), digits))
  where
    longer : (n : ℕ) → nat_lt 2 n ≡ true → 2 < n
    longer n h = grind (arith, nat_tests)

pub is_hex_of : (digits : List ℕ) → 0 < length digits → list_all is_hex_digit digits ≡ true → is_hex_number (48 ∷ 120 ∷ digits) ≡ true
is_hex_of digits some all = rw (longer (length (48 ∷ 120 ∷ digits)) (omega arith), all) refl
  where
    longer : (n : ℕ) → 2 < n → nat_lt 2 n ≡ true
    longer n h = grind (arith, nat_tests)

no_hex : (s : List ℕ) → is_hex_number s ≡ false → ¬ IsHex s
no_hex s fails (digits, is, some) = let yes : is_hex_number s ≡ true = rw is (is_hex_of digits some.0 some.1) in let e : true ≡ false = sym yes ∙ fails in cc

word_sound : (b : ℕ) (s : List ℕ) → is_word b ≡ true → IsSound (b ∷ s) (word_piece (b ∷ s))
unfolding word_piece
word_sound b s h =
    let n = prefix_len is_word (b ∷ s) in
    let f = fraction_len (drop n (b ∷ s)) in
    let run = take n (b ∷ s) in
    let some : 0 < length run = omega (arith, run_length is_word (b ∷ s), run_begins is_word b s h) in
    sound_either (b ∷ s) (list_all is_digit run) (cond (nat_lt 0 f) (Whole Decimal (n + f)) (Whole Int n)) (cond (is_hex_number run) (Whole Hex n) (Whole Word n))
    (λ digits. sound_either (b ∷ s) (nat_lt 0 f) (Whole Decimal (n + f)) (Whole Int n) (λ more. no_symbol (b ∷ s) Decimal (n + f) (λ e. cc) (let part = fraction_spelled (drop n (b ∷ s)) (positive f more) in (run, part.0, take_sum n f (b ∷ s) (prefix_len-le-length is_word (b ∷ s)) ∙ rw part.1 refl, digits, part.2))) (λ _. no_symbol (b ∷ s) Int n (λ e. cc) (some, digits)))
    (λ others. sound_either (b ∷ s) (is_hex_number run) (Whole Hex n) (Whole Word n) (λ hex. no_symbol (b ∷ s) Hex n (λ e. cc) (hex_is run hex)) (λ fails. no_symbol (b ∷ s) Word n (λ e. cc) ((some, run_passes is_word (b ∷ s)), λ digits. (let e : true ≡ false = sym digits ∙ others in cc), no_hex run fails)))

-- the octets that open nothing
not_opened : (b : ℕ) (s : List ℕ) → b ≢ 47 → b ≢ 34 → b ≢ 96 → b ≢ 37 → ¬ IsOpened (b ∷ s)
not_opened b s slash quote backquote percent (more, inl e) = slash (ap (λ (l : List ℕ). get_or l 0 0) e)
not_opened b s slash quote backquote percent (more, inr (inl e)) = quote (ap (λ (l : List ℕ). get_or l 0 0) e)
not_opened b s slash quote backquote percent (more, inr (inr (inl e))) = backquote (ap (λ (l : List ℕ). get_or l 0 0) e)
not_opened b s slash quote backquote percent (more, inr (inr (inr e))) = percent (ap (λ (l : List ℕ). get_or l 0 0) e)

dots_are : (s : List ℕ) → starts_with nat_eq (46 ∷ s) (46 ∷ 46 ∷ 46 ∷ []) ≡ true → take 3 (46 ∷ s) ≡ 46 ∷ 46 ∷ 46 ∷ []
dots_are [] h = absurd cc
dots_are (b ∷ s) h = let is = begins_pair b 46 46 s h in ap (λ (l : List ℕ). take 3 (46 ∷ l)) is.1

point_symbol : (s : List ℕ) → IsSound (46 ∷ s) (Whole Symbol 1)
point_symbol s = record { spelled = (46, refl, refl, refl); unopened = λ _. not_opened 46 s (λ e. cc) (λ e. cc) (λ e. cc) (λ e. cc) }

point_sound : (s : List ℕ) → IsSound (46 ∷ s) (point_piece (46 ∷ s))
unfolding point_piece
point_sound s =
    let f = fraction_len (46 ∷ s) in
    sound_either (46 ∷ s) (starts_with nat_eq (46 ∷ s) (46 ∷ 46 ∷ 46 ∷ [])) (Whole Dots 3) (cond (nat_lt 0 f) (Whole Decimal f) (Whole Symbol 1))
    (λ h. no_symbol (46 ∷ s) Dots 3 (λ e. cc) (dots_are s h))
    (λ _. sound_either (46 ∷ s) (nat_lt 0 f) (Whole Decimal f) (Whole Symbol 1) (λ h. no_symbol (46 ∷ s) Decimal f (λ e. cc) (let part = fraction_spelled (46 ∷ s) (positive f h) in ([], part.0, part.1, refl, part.2))) (λ _. point_symbol s))

-- options
value_spelled : (s : List ℕ) → IsValue (take (len_of_equals_and_option_value s) s)
value_spelled [] = inl refl
value_spelled (b ∷ s) = by_test (b == 61) refl
  where
    is_equals : (b : ℕ) → (b == 61) ≡ true → b ≡ 61
    is_equals b h = grind (arith, nat_tests)

    by_test : (t : Bool) → (b == 61) ≡ t → IsValue (take (cond t (prefix_len is_nonblank s + 1) 0) (b ∷ s))
    by_test true e = inr (take (prefix_len is_nonblank s) s, rw (add-one, is_equals b e) refl, run_passes is_nonblank s)
    by_test false e = inl refl

opt_spelled : (more : List ℕ) → 0 < prefix_len is_word more → IsOpt (take (2 + prefix_len is_word more + len_of_equals_and_option_value (drop (prefix_len is_word more) more)) (45 ∷ 45 ∷ more))
opt_spelled more some =
    let n = prefix_len is_word more in
    let v = len_of_equals_and_option_value (drop n more) in
    let sum : 2 + n + v ≡ suc (suc (n + v)) = omega arith in
    (take n more, take v (drop n more), rw (sum, take_sum n v more (prefix_len-le-length is_word more)) refl, (omega (arith, run_length is_word more), run_passes is_word more), value_spelled (drop n more))

dashes_list : (s more : List ℕ) → s ≡ 45 ∷ 45 ∷ more → 0 < prefix_len is_word (drop 2 s) → IsOpt (take (2 + prefix_len is_word (drop 2 s) + len_of_equals_and_option_value (drop (prefix_len is_word (drop 2 s)) (drop 2 s))) s)
dashes_list s more is some = rw is (opt_spelled more (rw is at some))

dashes_then : (s : List ℕ) → starts_with nat_eq (45 ∷ s) (45 ∷ 45 ∷ []) ≡ true → 0 < prefix_len is_word (drop 2 (45 ∷ s)) → IsOpt (take (2 + prefix_len is_word (drop 2 (45 ∷ s)) + len_of_equals_and_option_value (drop (prefix_len is_word (drop 2 (45 ∷ s))) (drop 2 (45 ∷ s)))) (45 ∷ s))
dashes_then s h some =
    let is = begins_pair 45 45 45 s h in
    dashes_list (45 ∷ s) is.0 is.1 some

dash_symbol : (s : List ℕ) → IsSound (45 ∷ s) (Whole Symbol 1)
dash_symbol s = record { spelled = (45, refl, refl, refl); unopened = λ _. not_opened 45 s (λ e. cc) (λ e. cc) (λ e. cc) (λ e. cc) }

dash_sound : (s : List ℕ) → IsSound (45 ∷ s) (dash_piece (45 ∷ s))
unfolding dash_piece
dash_sound s =
    let starts = starts_with nat_eq (45 ∷ s) (45 ∷ 45 ∷ []) in
    let n = prefix_len is_word (drop 2 (45 ∷ s)) in
    let v = len_of_equals_and_option_value (drop n (drop 2 (45 ∷ s))) in
    sound_either (45 ∷ s) (starts && nat_lt 0 n) (Whole Opt (2 + n + v)) (Whole Symbol 1)
    (λ h. no_symbol (45 ∷ s) Opt (2 + n + v) (λ e. cc) (dashes_then s (and_first starts (nat_lt 0 n) h) (positive n (and_second starts (nat_lt 0 n) h))))
    (λ _. dash_symbol s)

-- comments to the end of the line
take_one_more : (n b : ℕ) (s : List ℕ) → take (1 + n) (b ∷ s) ≡ b ∷ take n s
take_one_more n b s = rw one-add refl

line_comment_sound : (s more : List ℕ) → s ≡ 47 ∷ 47 ∷ more → IsLineComment (take (prefix_len is_not_newline s) s)
line_comment_sound s more is =
    let n = prefix_len is_not_newline more in
    let slashes = take_one_more (1 + n) 47 (47 ∷ more) ∙ ap (λ (l : List ℕ). 47 ∷ l) (take_one_more n 47 more) in
    (take n more, rw is slashes, run_passes is_not_newline more)

pair_begins : (s more : List ℕ) (x y : ℕ) → s ≡ x ∷ y ∷ more → starts_with nat_eq s (x ∷ y ∷ []) ≡ true
pair_begins s more x y is = rw (is, same_octet x, same_octet y) refl

one_is : (b x : ℕ) (s more : List ℕ) → b ∷ s ≡ x ∷ more → (b == x) ≡ true
one_is b x s more is = rw (ap (λ (l : List ℕ). get_or l 0 0) is) (same_octet x)

both_ways : (t : Bool) → t ≡ true → t ≡ false → ⊥
both_ways t holds fails = let e : true ≡ false = sym holds ∙ fails in cc

symbol_sound : (b : ℕ) (s : List ℕ) → IsOther b s → is_printable b ≡ true → IsSound (b ∷ s) (Whole Symbol 1)
symbol_sound b s other prints = record { spelled = (b, refl, prints, other.word); unopened = λ _. unopened }
  where
    unopened : ¬ IsOpened (b ∷ s)
    unopened (more, inl e) = both_ways (starts_with nat_eq (b ∷ s) (47 ∷ 42 ∷ [])) (pair_begins (b ∷ s) more 47 42 e) other.comment
    unopened (more, inr (inl e)) = both_ways (b == 34) (one_is b 34 s more e) other.quote
    unopened (more, inr (inr (inl e))) = both_ways (b == 96) (one_is b 96 s more e) other.backquote
    unopened (more, inr (inr (inr e))) = both_ways (starts_with nat_eq (b ∷ s) (37 ∷ 123 ∷ [])) (pair_begins (b ∷ s) more 37 123 e) other.brace

is_octet : (b x : ℕ) → (b == x) ≡ true → b ≡ x
is_octet b x h = grind (arith, nat_tests)

sound_shape : (b : ℕ) (s : List ℕ) (p : Piece) → IsShaped b s p → IsSound (b ∷ s) p
sound_shape b s p (at_blank h) = inl (b, refl, h)
sound_shape b s p (at_word h) = word_sound b s h
sound_shape b s p (at_point h) = rw (is_octet b 46 h) (point_sound s)
sound_shape b s p (at_dash h) = rw (is_octet b 45 h) (dash_sound s)
sound_shape b s p (at_line_comment h) = let is = begins_pair b 47 47 s h in inr (inl (line_comment_sound (b ∷ s) is.0 is.1))
sound_shape b s p (at_opener o h) = h
sound_shape b s p (at_symbol other h) = symbol_sound b s other h
sound_shape b s p (at_stray other h) = tt

-- what is closed: the octets before the end, and the end
abbrev pub Tells : ℕ → ℕ → Type 0
Tells b x = ((eqb b x ≡ true) × (b ≡ x)) ⊎ ((eqb b x ≡ false) × (b ≢ x))

abbrev pub QuotedBefore : List ℕ → List ℕ → Type 0
QuotedBefore s r = (body : List ℕ) × (s ≡ body ++ 34 ∷ r) × IsQuoted body

quote_last : (b : ℕ) (r : List ℕ) → rest_after_unescaped_quote (b ∷ []) ≡ Some r → Tells b 34 → QuotedBefore (b ∷ []) r
quote_last b r e (inl t) = let g : Some [] ≡ Some r = rw t.0 at e in ([], cc (t.1), empty)
quote_last b r e (inr f) = absurd (let g = rw f.0 at e in cc)

quote_step : (b c : ℕ) (s r : List ℕ) → rest_after_unescaped_quote (b ∷ c ∷ s) ≡ Some r → (rest_after_unescaped_quote s ≡ Some r → QuotedBefore s r) → (rest_after_unescaped_quote (c ∷ s) ≡ Some r → QuotedBefore (c ∷ s) r) → Tells b 34 → Tells b 92 → QuotedBefore (b ∷ c ∷ s) r
quote_step b c s r e after next (inl t) u = let g : Some (c ∷ s) ≡ Some r = rw t.0 at e in ([], cc (t.1), empty)
quote_step b c s r e after next (inr f) (inl t) =
    let g : rest_after_unescaped_quote s ≡ Some r = rw (f.0, t.0) at e in
    let q = after g in
    (92 ∷ c ∷ q.0, ap (λ (n : ℕ). n ∷ c ∷ s) t.1 ∙ ap (λ (l : List ℕ). 92 ∷ c ∷ l) q.1, escaped q.2)
quote_step b c s r e after next (inr f) (inr g) =
    let h : rest_after_unescaped_quote (c ∷ s) ≡ Some r = rw (f.0, g.0) at e in
    let q = next h in
    (b ∷ q.0, ap (λ (l : List ℕ). b ∷ l) q.1, plain f.1 g.1 q.2)

quoted_before : (s r : List ℕ) → rest_after_unescaped_quote s ≡ Some r → QuotedBefore s r
quoted_before [] r e = absurd cc
quoted_before (b ∷ []) r e = quote_last b r e (eqb_tells b 34)
quoted_before (b ∷ c ∷ s) r e = quote_step b c s r e (quoted_before s r) (quoted_before (c ∷ s) r) (eqb_tells b 34) (eqb_tells b 92)

abbrev pub BackquoteBefore : List ℕ → List ℕ → Type 0
BackquoteBefore s r = (body : List ℕ) × (s ≡ body ++ 96 ∷ r) × AreAll is_no_backquote body

backquote_step : (b : ℕ) (s r : List ℕ) → rest_after_backquote (b ∷ s) ≡ Some r → (rest_after_backquote s ≡ Some r → BackquoteBefore s r) → Tells b 96 → BackquoteBefore (b ∷ s) r
backquote_step b s r e next (inl t) = let g : Some s ≡ Some r = rw t.0 at e in ([], cc (t.1), refl)
backquote_step b s r e next (inr f) =
    let g : rest_after_backquote s ≡ Some r = rw f.0 at e in
    let q = next g in
    (b ∷ q.0, ap (λ (l : List ℕ). b ∷ l) q.1, rw f.0 q.2)

backquote_before : (s r : List ℕ) → rest_after_backquote s ≡ Some r → BackquoteBefore s r
backquote_before [] r e = absurd cc
backquote_before (b ∷ s) r e = backquote_step b s r e (backquote_before s r) (eqb_tells b 96)

none_in_nothing : (x y : ℕ) → HasNo (x ∷ y ∷ []) []
none_in_nothing x y [] back e = cc
none_in_nothing x y (f ∷ front) back e = cc

abbrev pub PairBefore : ℕ → ℕ → List ℕ → List ℕ → Type 0
PairBefore x y s r = (body : List ℕ) × (s ≡ body ++ x ∷ y ∷ r) × HasNo (x ∷ y ∷ []) body

no_pair_first : (x y b : ℕ) (s body r : List ℕ) → starts_with nat_eq (b ∷ s) (x ∷ y ∷ []) ≡ false → s ≡ body ++ x ∷ y ∷ r → HasNo (x ∷ y ∷ []) body → HasNo (x ∷ y ∷ []) (b ∷ body)
no_pair_first x y b s body r fails is none [] back e =
    let first : b ≡ x = ap (λ (l : List ℕ). get_or l 0 0) e in
    let second : body ≡ y ∷ back = ap (drop 1) e in
    both_ways (starts_with nat_eq (b ∷ s) (x ∷ y ∷ [])) (pair_begins (b ∷ s) (back ++ x ∷ y ∷ r) x y (rw (is, second, first) refl)) fails
no_pair_first x y b s body r fails is none (f ∷ front) back e = none front back (ap (drop 1) e)

pair_step : (x y b : ℕ) (s r : List ℕ) (t : Bool) → starts_with nat_eq (b ∷ s) (x ∷ y ∷ []) ≡ t → cond t (Some (drop 1 s)) (find_rest_after_octet_pair x y s) ≡ Some r → (find_rest_after_octet_pair x y s ≡ Some r → PairBefore x y s r) → PairBefore x y (b ∷ s) r
pair_step x y b s r true starts e next =
    let is = begins_pair b x y s starts in
    let rest : drop 1 s ≡ is.0 = ap (drop 2) is.1 in
    let left : is.0 ≡ r = sym rest ∙ some_is (drop 1 s) r e in
    ([], rw (← left) is.1, none_in_nothing x y)
  where
    some_is : (a b : List ℕ) → ◌≡◌ {A = Option (List ℕ)} (Some a) (Some b) → a ≡ b
    some_is a b e = cc
pair_step x y b s r false fails e next =
    let q = next e in
    (b ∷ q.0, ap (λ (l : List ℕ). b ∷ l) q.1, no_pair_first x y b s q.0 r fails q.1 q.2)

pair_before : (x y : ℕ) (s r : List ℕ) → find_rest_after_octet_pair x y s ≡ Some r → PairBefore x y s r
pair_before x y [] r e = absurd cc
pair_before x y (b ∷ s) r e = pair_step x y b s r (starts_with nat_eq (b ∷ s) (x ∷ y ∷ [])) refl e (pair_before x y s r)

-- the piece at the front of the text is spelled as it should be
abbrev pub IsWell : List ℕ → Front → Type 0
IsWell s nothing = Unit {0}
IsWell s (gap rest) = IsPiece None (before s rest)
IsWell s (token kind rest) = IsSpelled kind (before s rest) × (kind ≡ Symbol → ¬ IsOpened s)
IsWell s stray = Unit {0}

pub before_is : (s text rest : List ℕ) → s ≡ text ++ rest → before s rest ≡ text
before_is s text rest e =
    let n : length s - length rest ≡ length text = omega (arith, ap length e, length-append text rest) in
    rw (n, e) (take_at text rest (length text) refl)

comment_well : (s more rest : List ℕ) → s ≡ 47 ∷ 42 ∷ more → PairBefore 42 47 more rest → IsBlockComment (before s rest)
comment_well s more rest is (body, cut, none) = (body, before_is s (47 ∷ 42 ∷ body ++ 42 ∷ 47 ∷ []) rest (is ∙ rw (cut, append_assoc) refl), none)

code_well : (s more rest : List ℕ) → s ≡ 37 ∷ 123 ∷ more → PairBefore 125 37 more rest → IsCode (before s rest)
code_well s more rest is (body, cut, none) = (body, before_is s (37 ∷ 123 ∷ body ++ 125 ∷ 37 ∷ []) rest (is ∙ rw (cut, append_assoc) refl), none)

str_well : (s more rest : List ℕ) → s ≡ 34 ∷ more → QuotedBefore more rest → IsStr (before s rest)
str_well s more rest is (body, cut, quoted) = (body, before_is s (34 ∷ body ++ 34 ∷ []) rest (is ∙ rw (cut, append_assoc) refl), quoted)

cmd_well : (s more rest : List ℕ) → s ≡ 96 ∷ more → BackquoteBefore more rest → IsCmd (before s rest)
cmd_well s more rest is (body, cut, none) = (body, before_is s (96 ∷ body ++ 96 ∷ []) rest (is ∙ rw (cut, append_assoc) refl), none)

pair_and_rest : (b x y : ℕ) (s more : List ℕ) → b ∷ s ≡ x ∷ y ∷ more → b ∷ s ≡ x ∷ y ∷ drop 1 s
pair_and_rest b x y s more e = e ∙ ap (λ (l : List ℕ). x ∷ y ∷ l) (sym (ap (drop 2) e))

closed_well : (o : Opener) (b : ℕ) (s rest : List ℕ) → starts_with nat_eq (b ∷ s) (opener_text o) ≡ true → rest_after_closing o (drop (opener_len o) (b ∷ s)) ≡ Some rest → IsWell (b ∷ s) (closed o (Some rest))
closed_well Comment b s rest starts e =
    let is = begins_pair b 47 42 s starts in
    inr (inr (comment_well (b ∷ s) (drop 2 (b ∷ s)) rest (pair_and_rest b 47 42 s is.0 is.1) (pair_before 42 47 (drop 2 (b ∷ s)) rest e)))
closed_well Quote b s rest starts e = (str_well (b ∷ s) s rest (begins_one b 34 s starts) (quoted_before s rest e), λ is. absurd cc)
closed_well Backquote b s rest starts e = (cmd_well (b ∷ s) s rest (begins_one b 96 s starts) (backquote_before s rest e), λ is. absurd cc)
closed_well Brace b s rest starts e =
    let is = begins_pair b 37 123 s starts in
    (code_well (b ∷ s) (drop 2 (b ∷ s)) rest (pair_and_rest b 37 123 s is.0 is.1) (pair_before 125 37 (drop 2 (b ∷ s)) rest e), λ is. absurd cc)

open_well : (o : Opener) (b : ℕ) (s : List ℕ) (r : Option (List ℕ)) → starts_with nat_eq (b ∷ s) (opener_text o) ≡ true → rest_after_closing o (drop (opener_len o) (b ∷ s)) ≡ r → IsWell (b ∷ s) (closed o r)
open_well o b s None starts e = tt
open_well o b s (Some rest) starts e = closed_well o b s rest starts e

before_drop : (s : List ℕ) (n : ℕ) → n ≤ length s → before s (drop n s) ≡ take n s
before_drop s n le = let m : length s - length (drop n s) ≡ n = omega (arith, length-drop n s) in rw m refl

piece_well : (b : ℕ) (s : List ℕ) (p : Piece) → IsWithin (b ∷ s) p → IsSound (b ∷ s) p → IsWell (b ∷ s) (parted (b ∷ s) p)
piece_well b s (Blank n) w h = rw (before_drop (b ∷ s) n w.fits) h
piece_well b s (Whole kind n) w h = (rw (before_drop (b ∷ s) n w.fits) h.spelled, h.unopened)
piece_well b s (Open o) w h = open_well o b s (rest_after_closing o (drop (opener_len o) (b ∷ s))) h refl
piece_well b s Stray w h = tt

pub front_well : (s : List ℕ) → IsWell s (front s)
unfolding front
front_well [] = tt
front_well (b ∷ s) = piece_well b s (piece (b ∷ s)) (piece_within b s) (sound_shape b s (piece (b ∷ s)) (shaped b s))
