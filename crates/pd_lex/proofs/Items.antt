-- The items from a place on, one piece at a time.
use Rattle.std.proofs.Common.{◌≡◌, ℕ, zero, suc, ◌<◌, ◌≤◌, true, List, [], ◌∷◌, length, max, refl, sym, ap, subst, ◌∙◌, arith, ◌⊎◌, inl, inr}
use Rattle.std.specs.List.{list_all}
use Rattle.pd_text.specs.Text.{has_no_newline}
use Rattle.pd_lex.specs.declared.token.TokenKind.{TokenKind}
use Rattle.pd_lex.specs.declared.token.Place.{Place}
use Rattle.pd_lex.specs.Places.{clamped_place, octets_from, place_after, before, IsPlace}
use Rattle.pd_lex.specs.Pieces.{Front, nothing, gap, token, stray, front}
use Rattle.pd_lex.specs.Tokens.{Item, lexeme, ending, bad}
use Rattle.pd_lex.specs.Lexing.{followed, items_within, items}
use Rattle.pd_lex.specs.Spellings.{IsStuck}
use Rattle.std.proofs.lemmas.Bool.{cases_lt}
use Rattle.pd_lex.proofs.Rests.{clamped_of_place, octets_past, advance, same_place}
use Rattle.pd_lex.proofs.Fronts.{IsRest, IsRest-cut, IsRest-shorter, LeavesRest, front_leaves}

-- the items of less are the same with more pieces allowed
same_followed : (last : ℕ) (p : Place) (s : List ℕ) (f : Front) (xs ys : Place → List ℕ → List Item) → LeavesRest s f → ((q : Place) (r : List ℕ) → length r < length s → xs q r ≡ ys q r) → followed xs last p s f ≡ followed ys last p s f
same_followed last p s nothing xs ys h same = refl
same_followed last p s (gap r) xs ys h same = same (place_after p (before s r)) r (IsRest-shorter s r h)
same_followed last p s (token kind r) xs ys h same = ap (λ (more : List Item). lexeme (record { kind = kind; text = before s r; from = p }) ∷ more) (same (place_after p (before s r)) r (IsRest-shorter s r h))
same_followed last p s stray xs ys h same = refl

pub enough : (j k last : ℕ) (p : Place) (s : List ℕ) → length s ≤ j → length s ≤ k → items_within j last p s ≡ items_within k last p s
unfolding items_within front
enough zero zero last p s hj hk = refl
enough zero (suc k) last p [] hj hk = refl
enough zero (suc k) last p (b ∷ s) hj hk = absurd (omega arith)
enough (suc j) zero last p [] hj hk = refl
enough (suc j) zero last p (b ∷ s) hj hk = absurd (omega arith)
enough (suc j) (suc k) last p s hj hk = same_followed last p s (front s) (items_within j last) (items_within k last) (front_leaves s) (λ q r lt. enough j k last q r (omega arith) (omega arith))

-- all items of what is left at a place
abbrev pub all_within : ℕ → Place → List ℕ → List Item
all_within last p s = items_within (length s) last p s

pub one_piece : (last : ℕ) (p : Place) (s : List ℕ) → all_within last p s ≡ followed (all_within last) last p s (front s)
unfolding items_within front
one_piece last p [] = refl
one_piece last p (b ∷ s) = same_followed last p (b ∷ s) (front (b ∷ s)) (items_within (length s) last) (all_within last) (front_leaves (b ∷ s)) (λ q r lt. enough (length s) (length r) last q r (omega arith) (omega arith))

pub items_from : (lines : List (List ℕ)) (p q : Place) → IsPlace lines q → q ≡ clamped_place lines p → items lines p ≡ items lines q
unfolding items octets_from
items_from lines p q h e = rw (← e, clamped_of_place lines q h) refl

module _ (lines : List (List ℕ)) (plain : list_all has_no_newline lines ≡ true) where
  items_at : (p : Place) → IsPlace lines p → items lines p ≡ all_within (max 1 (length lines)) p (octets_from lines p)
  unfolding items
  items_at p h = rw (clamped_of_place lines p h) refl

  pub items_past : (p : Place) → length lines < p.line → items lines p ≡ ending (max 1 (length lines)) ∷ []
  unfolding items items_within
  items_past p h = rw (octets_past lines p h) refl

  -- the place after a piece
  after : (p q : Place) → IsPlace lines p → IsPlace lines q → IsRest (octets_from lines p) (octets_from lines q) → place_after p (before (octets_from lines p) (octets_from lines q)) ≡ q
  after p q h g r =
      let on = advance lines plain p (before (octets_from lines p) (octets_from lines q)) (octets_from lines q) h (IsRest-cut (octets_from lines p) (octets_from lines q) r) in
      same_place lines (place_after p (before (octets_from lines p) (octets_from lines q))) q on.place g (ap length on.left)

  rest_of_gap : (s r : List ℕ) → front s ≡ gap r → IsRest s r
  rest_of_gap s r e = subst (LeavesRest s) e (front_leaves s)

  rest_of_token : (s r : List ℕ) (kind : TokenKind) → front s ≡ token kind r → IsRest s r
  rest_of_token s r kind e = subst (LeavesRest s) e (front_leaves s)

  pub gap_shorter : (p q : Place) → front (octets_from lines p) ≡ gap (octets_from lines q) → length (octets_from lines q) < length (octets_from lines p)
  gap_shorter p q e = IsRest-shorter (octets_from lines p) (octets_from lines q) (rest_of_gap (octets_from lines p) (octets_from lines q) e)

  pub items_over_gap : (p q : Place) → IsPlace lines p → IsPlace lines q → front (octets_from lines p) ≡ gap (octets_from lines q) → items lines p ≡ items lines q
  items_over_gap p q h g e =
      let there = after p q h g (rest_of_gap (octets_from lines p) (octets_from lines q) e) in
      items_at p h ∙ one_piece (max 1 (length lines)) p (octets_from lines p) ∙ rw (e, there) (sym (items_at q g))

  pub items_at_token : (p q : Place) (kind : TokenKind) → IsPlace lines p → IsPlace lines q → front (octets_from lines p) ≡ token kind (octets_from lines q) → items lines p ≡ lexeme (record { kind = kind; text = before (octets_from lines p) (octets_from lines q); from = p }) ∷ items lines q
  items_at_token p q kind h g e =
      let there = after p q h g (rest_of_token (octets_from lines p) (octets_from lines q) kind e) in
      items_at p h ∙ one_piece (max 1 (length lines)) p (octets_from lines p) ∙ rw (e, there, items_at q g) refl

  pub items_at_end : (p : Place) → IsPlace lines p → octets_from lines p ≡ [] → items lines p ≡ ending (max 1 (length lines)) ∷ []
  unfolding items_within
  items_at_end p h e = items_at p h ∙ rw e refl

  pub items_at_stray : (p : Place) → IsPlace lines p → front (octets_from lines p) ≡ stray → items lines p ≡ bad p.line ∷ []
  items_at_stray p h e = items_at p h ∙ one_piece (max 1 (length lines)) p (octets_from lines p) ∙ rw e refl

  token_shorter : (p q : Place) (kind : TokenKind) → front (octets_from lines p) ≡ token kind (octets_from lines q) → length (octets_from lines q) < length (octets_from lines p)
  token_shorter p q kind e = IsRest-shorter (octets_from lines p) (octets_from lines q) (rest_of_token (octets_from lines p) (octets_from lines q) kind e)

  -- a place from which something is left lies in a line of the text
  pub line_within : (p : Place) → IsPlace lines p → 0 < length (octets_from lines p) → (1 ≤ p.line) × (p.line ≤ length lines)
  line_within p h some = by_lines (cases_lt (length lines) p.line)
    where
      by_lines : ((length lines < p.line) ⊎ (p.line ≤ length lines)) → (1 ≤ p.line) × (p.line ≤ length lines)
      by_lines (inl lt) = absurd (omega (arith, ap length (octets_past lines p lt)))
      by_lines (inr le) = (h.from_one, le)

  pub token_line : (p q : Place) (kind : TokenKind) → IsPlace lines p → front (octets_from lines p) ≡ token kind (octets_from lines q) → (1 ≤ p.line) × (p.line ≤ length lines)
  token_line p q kind h e = line_within p h (omega (arith, token_shorter p q kind e))

  pub stuck_line : (p : Place) → IsPlace lines p → IsStuck (octets_from lines p) → (1 ≤ p.line) × (p.line ≤ length lines)
  stuck_line p h stuck = line_within p h stuck.some
