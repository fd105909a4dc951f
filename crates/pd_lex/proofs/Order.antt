-- The tokens of a text come in the order of their lines.
use Rattle.std.proofs.Common.{◌≡◌, ℕ, zero, suc, ◌+◌, ◌<◌, ◌≤◌, Bool, true, false, cond, ◌==◌, List, [], ◌∷◌, ◌++◌, length, drop, min, max, Option, Some, None, refl, sym, ap, subst, ◌∙◌, arith, ◌⊎◌, inl, inr}
use Rattle.std.specs.List.{list_all}
use Rattle.std.proofs.lemmas.List.{drop-append-le, nil_from_length}
use Rattle.std.proofs.lemmas.Bool.{cases_lt}
use Rattle.std.proofs.lemmas.Bool.Decides.{nat_tests}
use Rattle.pd_text.specs.Text.{has_no_newline}
use Rattle.pd_lex.specs.declared.token.TokenKind.{TokenKind}
use Rattle.pd_lex.specs.declared.token.Place.{Place}
use Rattle.pd_lex.specs.declared.scan.Piece.{Piece}
use Rattle.pd_lex.specs.declared.scan.Piece.TheVariants.{Blank, Whole, Open, Stray}
use Rattle.pd_lex.specs.declared.scan.Opener.{Opener}
use Rattle.pd_lex.specs.declared.scan.Opener.TheVariants.{Comment, Quote, Backquote, Brace}
use Rattle.pd_lex.specs.declared.token.TokenKind.TheVariants.{Str, Cmd, Code}
use Rattle.pd_lex.specs.Kinds.{stays_in_line}
use Rattle.pd_lex.specs.Places.{first_place, joined, line_at, clamped_place, octets_from, place_after, before, IsPlace}
use Rattle.pd_lex.specs.Pieces.{piece, rest_after_closing, opener_len, Front, nothing, gap, token, stray, closed, parted, front}
use Rattle.pd_lex.specs.Tokens.{Item, lexeme, ending, bad}
use Rattle.pd_lex.specs.Lexing.{items}
use Rattle.pd_lex.specs.Scanned.{IsLeftAt}
use Rattle.pd_lex.specs.Agreement.{IsInOrder}
use Rattle.pd_lex.proofs.Longest.{not_empty}
use Rattle.pd_lex.proofs.Items.{line_within, items_from, items_past, items_over_gap, items_at_token, items_at_end, items_at_stray}
use Rattle.pd_lex.proofs.Texts.{clamped_is_place}
use Rattle.pd_lex.proofs.Rests.{octets_in_line, octets_past, advance, further_in_line, same_place}
use Rattle.pd_lex.proofs.Steps.{front_is}
use Rattle.pd_lex.proofs.Fronts.{IsWithin, piece_within, IsRest, IsRest-cut, LeavesRest, front_leaves, IsRest-shorter}

-- no octet leads back
pub after_rises : (p : Place) (text : List ℕ) → p.line ≤ (place_after p text).line
after_rises p [] = omega arith
after_rises p (b ∷ text) = by_test (b == 10) (after_rises (record { line = p.line + 1; at = 0 }) text) (after_rises (record { line = p.line; at = p.at + 1 }) text)
  where
    by_test : (t : Bool) → p.line + 1 ≤ (place_after (record { line = p.line + 1; at = 0 }) text).line → p.line ≤ (place_after (record { line = p.line; at = p.at + 1 }) text).line → p.line ≤ (place_after (cond t (record { line = p.line + 1; at = 0 }) (record { line = p.line; at = p.at + 1 })) text).line
    by_test true next same = omega (arith, next)
    by_test false next same = same

-- the place after the first piece, and the items from there on
module _ (lines : List (List ℕ)) (plain : list_all has_no_newline lines ≡ true) (p : Place) (h : IsPlace lines p) (rest : List ℕ) where
  after : Place
  after = place_after p (before (octets_from lines p) rest)

  pub left_after : IsRest (octets_from lines p) rest → IsLeftAt lines (place_after p (before (octets_from lines p) rest)) rest
  left_after r = advance lines plain p (before (octets_from lines p) rest) rest h (IsRest-cut (octets_from lines p) rest r)

  pub gap_rest : front (octets_from lines p) ≡ gap rest → IsRest (octets_from lines p) rest
  gap_rest e = subst (LeavesRest (octets_from lines p)) e (front_leaves (octets_from lines p))

  pub token_rest : (kind : TokenKind) → front (octets_from lines p) ≡ token kind rest → IsRest (octets_from lines p) rest
  token_rest kind e = subst (LeavesRest (octets_from lines p)) e (front_leaves (octets_from lines p))

  pub items_after_gap : front (octets_from lines p) ≡ gap rest → items lines p ≡ items lines (place_after p (before (octets_from lines p) rest))
  items_after_gap e =
      let q = left_after (gap_rest e) in
      items_over_gap lines plain p (place_after p (before (octets_from lines p) rest)) h q.place (e ∙ ap gap (sym q.left))

  pub items_after_token : (kind : TokenKind) → front (octets_from lines p) ≡ token kind rest → items lines p ≡ lexeme (record { kind = kind; text = before (octets_from lines p) rest; from = p }) ∷ items lines (place_after p (before (octets_from lines p) rest))
  items_after_token kind e =
      let q = left_after (token_rest kind e) in
      items_at_token lines plain p (place_after p (before (octets_from lines p) rest)) kind h q.place (e ∙ ap (token kind) (sym q.left)) ∙ rw q.left refl

pub by_line : (n m : ℕ) (A : Type 0) → (n < m → A) → (m ≤ n → A) → A
by_line n m A f g = either (cases_lt n m)
  where
    either : ((n < m) ⊎ (m ≤ n)) → A
    either (inl lt) = f lt
    either (inr le) = g le

-- a token of a kind that stays in its line ends in the line in which it begins
kind_of : {a b : TokenKind} {r s : List ℕ} → token a r ≡ token b s → a ≡ b
kind_of e = cc

rest_of : {a b : TokenKind} {r s : List ℕ} → token a r ≡ token b s → r ≡ s
rest_of e = cc

leaves_line : (a b : TokenKind) → stays_in_line a ≡ false → a ≡ b → stays_in_line b ≡ true → ⊥
leaves_line a b fails is h = let e : true ≡ false = sym h ∙ ap stays_in_line (sym is) ∙ fails in cc

closed_leaves_line : (o : Opener) (r : Option (List ℕ)) (kind : TokenKind) (rest : List ℕ) → closed o r ≡ token kind rest → stays_in_line kind ≡ true → ⊥
closed_leaves_line o None kind rest e h = cc
closed_leaves_line Comment (Some r) kind rest e h = cc
closed_leaves_line Quote (Some r) kind rest e h = leaves_line Str kind refl (kind_of e) h
closed_leaves_line Backquote (Some r) kind rest e h = leaves_line Cmd kind refl (kind_of e) h
closed_leaves_line Brace (Some r) kind rest e h = leaves_line Code kind refl (kind_of e) h

nothing_is_no_token : (kind : TokenKind) (rest : List ℕ) → front [] ≡ token kind rest → ⊥
unfolding front
nothing_is_no_token kind rest e = cc

newline_is_no_token : (more : List ℕ) (kind : TokenKind) (rest : List ℕ) → front (10 ∷ more) ≡ token kind rest → ⊥
unfolding front piece
newline_is_no_token more kind rest e = cc

module _ (lines : List (List ℕ)) (plain : list_all has_no_newline lines ≡ true) (p : Place) (h : IsPlace lines p) (rest : List ℕ) (kind : TokenKind) (e : front (octets_from lines p) ≡ token kind rest) (stays : stays_in_line kind ≡ true) where
  piece_stays : p.line ≤ length lines → (b : ℕ) (s : List ℕ) → b ∷ s ≡ drop p.at (line_at lines p.line) → (q : Piece) → IsWithin (b ∷ s) q → parted (b ∷ s ++ 10 ∷ joined (drop p.line lines)) q ≡ token kind rest → (place_after p (before (octets_from lines p) rest)).line ≡ p.line
  piece_stays le b s is (Blank n) w f = absurd cc
  piece_stays le b s is (Whole k n) w f =
      let more = 10 ∷ joined (drop p.line lines) in
      let left : rest ≡ drop n (b ∷ s) ++ more = sym (rest_of f) ∙ drop-append-le n (b ∷ s) more w.fits in
      let fits : n ≤ length (drop p.at (line_at lines p.line)) = omega (arith, w.fits, ap length is) in
      let on = further_in_line lines p h le n fits in
      let there = left_after lines plain p h rest (token_rest lines plain p h rest kind e) in
      let same : length (octets_from lines (place_after p (before (octets_from lines p) rest))) ≡ length (octets_from lines (record { line = p.line; at = p.at + n })) = ap length (there.left ∙ left ∙ ap (λ (l : List ℕ). drop n l ++ more) is ∙ sym on.left) in
      ap (λ (x : Place). x.line) (same_place lines (place_after p (before (octets_from lines p) rest)) (record { line = p.line; at = p.at + n }) there.place on.place same)
  piece_stays le b s is (Open o) w f = absurd (closed_leaves_line o (rest_after_closing o (drop (opener_len o) (b ∷ s ++ 10 ∷ joined (drop p.line lines)))) kind rest f stays)
  piece_stays le b s is Stray w f = absurd cc

  line_stays : p.line ≤ length lines → (s : List ℕ) → s ≡ drop p.at (line_at lines p.line) → (place_after p (before (octets_from lines p) rest)).line ≡ p.line
  line_stays le [] is = absurd (newline_is_no_token (joined (drop p.line lines)) kind rest (ap front (sym (octets_in_line lines p h le ∙ ap (λ (l : List ℕ). l ++ 10 ∷ joined (drop p.line lines)) (sym is))) ∙ e))
  line_stays le (b ∷ s) is = piece_stays le b s is (piece (b ∷ s)) (piece_within b s) (sym (front_is lines p h le b s is) ∙ e)

  token_stays : (place_after p (before (octets_from lines p) rest)).line ≡ p.line
  token_stays = by_line (length lines) p.line ((place_after p (before (octets_from lines p) rest)).line ≡ p.line) (λ lt. absurd (nothing_is_no_token kind rest (ap front (sym (octets_past lines p lt)) ∙ e))) (λ le. line_stays le (drop p.at (line_at lines p.line)) refl)

-- tokens come in order
pub rises_from : (n m last : ℕ) (xs : List Item) → n ≤ m → IsInOrder m last xs → IsInOrder n last xs
rises_from n m last [] le h = tt
rises_from n m last (lexeme x ∷ xs) le h = (omega (arith, h.0), h.1, h.2, h.3, h.4)
rises_from n m last (ending line ∷ xs) le h = h
rises_from n m last (bad line ∷ xs) le h = (omega (arith, h.0), h.1)

closed_some : (o : Opener) (r : Option (List ℕ)) → closed o r ≡ nothing → ⊥
closed_some o None e = cc
closed_some Comment (Some rest) e = cc
closed_some Quote (Some rest) e = cc
closed_some Backquote (Some rest) e = cc
closed_some Brace (Some rest) e = cc

parted_some : (s : List ℕ) (p : Piece) → parted s p ≡ nothing → ⊥
parted_some s (Blank n) e = cc
parted_some s (Whole kind n) e = cc
parted_some s (Open o) e = closed_some o (rest_after_closing o (drop (opener_len o) s)) e
parted_some s Stray e = cc

pub nothing_left : (s : List ℕ) → front s ≡ nothing → s ≡ []
unfolding front
nothing_left [] e = refl
nothing_left (b ∷ s) e = absurd (parted_some (b ∷ s) (piece (b ∷ s)) e)

module _ (lines : List (List ℕ)) (plain : list_all has_no_newline lines ≡ true) where
  rises_by : (k : ℕ) (p : Place) → IsPlace lines p → length (octets_from lines p) ≤ suc k → ((q : Place) → IsPlace lines q → length (octets_from lines q) ≤ k → IsInOrder q.line (max 1 (length lines)) (items lines q)) → (f : Front) → front (octets_from lines p) ≡ f → IsInOrder p.line (max 1 (length lines)) (items lines p)
  rises_by k p h le ih nothing e = rw (items_at_end lines plain p h (nothing_left (octets_from lines p) e)) refl
  rises_by k p h le ih (gap rest) e =
      let r = gap_rest lines plain p h rest e in
      let q = left_after lines plain p h rest r in
      let less = IsRest-shorter (octets_from lines p) rest r in
      let more = ih (place_after p (before (octets_from lines p) rest)) q.place (omega (arith, ap length q.left)) in
      rw (items_after_gap lines plain p h rest e) (rises_from p.line (place_after p (before (octets_from lines p) rest)).line (max 1 (length lines)) (items lines (place_after p (before (octets_from lines p) rest))) (after_rises p (before (octets_from lines p) rest)) more)
  rises_by k p h le ih (token kind rest) e =
      let r = token_rest lines plain p h rest kind e in
      let q = left_after lines plain p h rest r in
      let less = IsRest-shorter (octets_from lines p) rest r in
      let more = ih (place_after p (before (octets_from lines p) rest)) q.place (omega (arith, ap length q.left)) in
      let here = line_within lines plain p h (omega (arith, less)) in
      rw (items_after_token lines plain p h rest kind e) (omega arith, omega (arith, here.1), after_rises p (before (octets_from lines p) rest), token_stays lines plain p h rest kind e, more)
  rises_by k p h le ih stray e =
      let here = line_within lines plain p h (not_empty (octets_from lines p) e) in
      rw (items_at_stray lines plain p h e) (omega arith, omega (arith, here.1))

  rises_within : (k : ℕ) (p : Place) → IsPlace lines p → length (octets_from lines p) ≤ k → IsInOrder p.line (max 1 (length lines)) (items lines p)
  rises_within zero p h le = rw (items_at_end lines plain p h (nil_from_length (octets_from lines p) (omega arith))) refl
  rises_within (suc k) p h le = rises_by k p h le (rises_within k) (front (octets_from lines p)) refl

  pub items_rise : (p : Place) → IsPlace lines p → IsInOrder p.line (max 1 (length lines)) (items lines p)
  items_rise p h = rises_within (length (octets_from lines p)) p h (omega arith)

-- a place is no earlier than it says
pub clamped_rises : (lines : List (List ℕ)) (p : Place) → p.line ≤ (clamped_place lines p).line
unfolding clamped_place
clamped_rises lines p = by_test (p.line == 0) refl
  where
    is_zero : (n : ℕ) → (n == 0) ≡ true → n ≡ 0
    is_zero n h = grind (arith, nat_tests)

    by_test : (t : Bool) → (p.line == 0) ≡ t → p.line ≤ (cond t first_place (record { line = p.line; at = min p.at (length (line_at lines p.line)) })).line
    by_test true e = omega (arith, is_zero p.line e)
    by_test false e = omega arith

pub rise : (lines : List (List ℕ)) (p : Place) → list_all has_no_newline lines ≡ true → IsInOrder p.line (max 1 (length lines)) (items lines p)
rise lines p plain = by_line (length lines) p.line (IsInOrder p.line (max 1 (length lines)) (items lines p)) past within
  where
    past : length lines < p.line → IsInOrder p.line (max 1 (length lines)) (items lines p)
    past lt = rw (items_past lines plain p lt) refl

    within : p.line ≤ length lines → IsInOrder p.line (max 1 (length lines)) (items lines p)
    within le =
        let h = clamped_is_place lines p le in
        rw (items_from lines p (clamped_place lines p) h refl) (rises_from p.line (clamped_place lines p).line (max 1 (length lines)) (items lines (clamped_place lines p)) (clamped_rises lines p) (items_rise lines plain (clamped_place lines p) h))
