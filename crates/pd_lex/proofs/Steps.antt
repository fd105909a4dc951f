-- The steps of the lexer, line by line, against what is left of the text.
use Rattle.std.proofs.Common.{◌≡◌, ℕ, ◌+◌, ◌-◌, ◌<◌, ◌≤◌, List, [], ◌∷◌, ◌++◌, length, take, drop, true, Option, Some, None, refl, ap, ◌∙◌, arith, length-append}
use Rattle.std.proofs.lemmas.List.{drop-append-le, length-drop, take-append-le}
use Rattle.pd_lex.specs.declared.token.Place.{Place}
use Rattle.pd_lex.specs.declared.token.TokenKind.{TokenKind}
use Rattle.pd_lex.specs.declared.token.TokenKind.TheVariants.{Str, Cmd, Code}
use Rattle.pd_lex.specs.declared.scan.Opener.{Opener}
use Rattle.pd_lex.specs.declared.scan.Opener.TheVariants.{Comment, Quote, Backquote, Brace}
use Rattle.pd_lex.specs.declared.scan.Piece.TheVariants.{Blank, Whole, Open, Stray}
use Rattle.pd_lex.specs.declared.step.LexStep.{LexStep}
use Rattle.pd_lex.specs.declared.step.LexStep.TheVariants as steps
use Rattle.pd_lex.specs.Kinds.{stays_in_line}
use Rattle.pd_lex.specs.Places.{joined, line_at, octets_from, between, IsPlace}
use Rattle.pd_lex.specs.Pieces.{piece, rest_after_closing, opener_len, gap, token, closed, parted, front}
use Rattle.pd_lex.specs.Scanned.{IsLeftAt, IsClosed, opener_kind, IsClosing, IsStep}
use Rattle.pd_lex.proofs.InLine.{piece_in_line}
use Rattle.pd_lex.proofs.Endings.{end_in_line, end_past_line, end_suffix, end_of_nothing}
use Rattle.pd_lex.proofs.Rests.{octets_in_line, octets_past, further_in_line, next_line}

module _ (lines : List (List ℕ)) (p : Place) (h : IsPlace lines p) (le : p.line ≤ length lines) where
  -- what was opened ends in the line of a place, or where it ends in the lines after it
  closed_from : (o : Opener) (r : List ℕ) (k : ℕ) → k ≤ length (drop p.at (line_at lines p.line)) → r ≡ drop k (drop p.at (line_at lines p.line)) → rest_after_closing o (drop p.at (line_at lines p.line)) ≡ Some r → IsClosed lines (rest_after_closing o (octets_from lines p)) (Some (record { line = p.line; at = p.at + (length (drop p.at (line_at lines p.line)) - length r) }))
  closed_from o r k fits last e =
      let s = drop p.at (line_at lines p.line) in
      let n : length s - length r ≡ k = omega (arith, fits, ap length last, length-drop k s) in
      let left : IsLeftAt lines (record { line = p.line; at = p.at + k }) (r ++ 10 ∷ joined (drop p.line lines)) = rw last (further_in_line lines p h le k fits) in
      rw (octets_in_line lines p h le, end_in_line o s (joined (drop p.line lines)) r e, n) left

  pub closed_at : (o : Opener) (r : List ℕ) → rest_after_closing o (drop p.at (line_at lines p.line)) ≡ Some r → IsClosed lines (rest_after_closing o (octets_from lines p)) (Some (record { line = p.line; at = p.at + (length (drop p.at (line_at lines p.line)) - length r) }))
  closed_at o r e = let last = end_suffix o (drop p.at (line_at lines p.line)) r e in closed_from o r last.0 last.1 last.2 e

  pub not_closed_at : (o : Opener) → rest_after_closing o (drop p.at (line_at lines p.line)) ≡ None → rest_after_closing o (octets_from lines p) ≡ rest_after_closing o (octets_from lines (record { line = p.line + 1; at = 0 }))
  not_closed_at o e =
      let next = next_line lines p h le in
      rw (octets_in_line lines p h le, end_past_line o (drop p.at (line_at lines p.line)) (joined (drop p.line lines)) e, next.left) refl

pub not_closed : (lines : List (List ℕ)) (p : Place) (o : Opener) → length lines < p.line → rest_after_closing o (octets_from lines p) ≡ None
not_closed lines p o lt = rw (octets_past lines p lt) (end_of_nothing o)

module _ (lines : List (List ℕ)) (p : Place) (h : IsPlace lines p) (le : p.line ≤ length lines) where
  pub front_is : (b : ℕ) (s : List ℕ) → b ∷ s ≡ drop p.at (line_at lines p.line) → front (octets_from lines p) ≡ parted (b ∷ s ++ 10 ∷ joined (drop p.line lines)) (piece (b ∷ s))
  unfolding front
  front_is b s e = rw (octets_in_line lines p h le, ← e, piece_in_line b s (joined (drop p.line lines))) refl

  pub step_newline : drop p.at (line_at lines p.line) ≡ [] → IsStep lines p (steps.Gap (record { line = p.line + 1; at = 0 }))
  unfolding front piece
  step_newline e =
      let next = next_line lines p h le in
      (next.place, rw (octets_in_line lines p h le, e, next.left) refl)

  -- a piece of the line, and the place after it
  after_piece : (s : List ℕ) (n : ℕ) → s ≡ drop p.at (line_at lines p.line) → n ≤ length s → IsLeftAt lines (record { line = p.line; at = p.at + n }) (drop n (s ++ 10 ∷ joined (drop p.line lines)))
  after_piece s n e fits = rw (drop-append-le n s (10 ∷ joined (drop p.line lines)) fits, e) (further_in_line lines p h le n (rw (← e) fits))

  pub step_blank : (s : List ℕ) (n : ℕ) → s ≡ drop p.at (line_at lines p.line) → Blank n ≡ piece s → 0 < length s → n ≤ length s → IsStep lines p (steps.Gap (record { line = p.line; at = p.at + n }))
  step_blank [] n e is some fits = absurd (omega arith)
  step_blank (b ∷ s) n e is some fits =
      let there = after_piece (b ∷ s) n e fits in
      (there.place, front_is b s e ∙ rw (← is, there.left) refl)

  -- the octets of a piece of the line
  piece_text : (s : List ℕ) (n : ℕ) → s ≡ drop p.at (line_at lines p.line) → n ≤ length s → take n s ≡ between lines p (record { line = p.line; at = p.at + n })
  unfolding between
  piece_text s n e fits =
      let more = 10 ∷ joined (drop p.line lines) in
      let whole : octets_from lines p ≡ s ++ more = octets_in_line lines p h le ∙ rw e refl in
      let k : length (s ++ more) - length (drop n (s ++ more)) ≡ n = omega (arith, length-drop n (s ++ more), length-append s more) in
      rw (whole, (after_piece s n e fits).left, k, take-append-le n s more fits) refl

  pub step_whole : (s : List ℕ) (kind : TokenKind) (n : ℕ) → s ≡ drop p.at (line_at lines p.line) → Whole kind n ≡ piece s → 0 < length s → n ≤ length s → let q : Place = record { line = p.line; at = p.at + n } in IsPlace lines q × (front (octets_from lines p) ≡ token kind (octets_from lines q)) × (stays_in_line kind ≡ true → q.line ≡ p.line) × (stays_in_line kind ≡ true → take n s ≡ between lines p q)
  step_whole [] kind n e is some fits = absurd (omega arith)
  step_whole (b ∷ s) kind n e is some fits =
      let there = after_piece (b ∷ s) n e fits in
      (there.place, front_is b s e ∙ rw (← is, there.left) refl, λ _. refl, λ _. piece_text (b ∷ s) n e fits)

  pub step_stray : (s : List ℕ) → s ≡ drop p.at (line_at lines p.line) → Stray ≡ piece s → 0 < length s → IsStep lines p steps.Stray
  step_stray [] e is some = absurd (omega arith)
  step_stray (b ∷ s) e is some = front_is b s e ∙ rw (← is) refl

  -- what was opened, and the place inside
  pub inside_place : (s : List ℕ) (o : Opener) → s ≡ drop p.at (line_at lines p.line) → opener_len o ≤ length s → IsPlace lines (record { line = p.line; at = p.at + opener_len o })
  inside_place s o e fits = (after_piece s (opener_len o) e fits).place

  open_front : (s : List ℕ) (o : Opener) → s ≡ drop p.at (line_at lines p.line) → Open o ≡ piece s → 0 < length s → opener_len o ≤ length s → front (octets_from lines p) ≡ closed o (rest_after_closing o (octets_from lines (record { line = p.line; at = p.at + opener_len o })))
  open_front [] o e is some fits = absurd (omega arith)
  open_front (b ∷ s) o e is some fits =
      let there = after_piece (b ∷ s) (opener_len o) e fits in
      front_is b s e ∙ rw (← is, there.left) refl

  over_token : (o : Opener) (kind : TokenKind) (rest : List ℕ) (q : Place) → opener_kind o ≡ Some kind → front (octets_from lines p) ≡ closed o (Some rest) → IsLeftAt lines q rest → (front (octets_from lines p) ≡ token kind (octets_from lines q)) × (stays_in_line kind ≡ true → ⊥)
  over_token Comment kind rest q is e c = absurd cc
  over_token Quote kind rest q is e c = let same : Str ≡ kind = cc in (e ∙ rw (c.left, ← same) refl, rw (← same) (λ not. absurd cc))
  over_token Backquote kind rest q is e c = let same : Cmd ≡ kind = cc in (e ∙ rw (c.left, ← same) refl, rw (← same) (λ not. absurd cc))
  over_token Brace kind rest q is e c = let same : Code ≡ kind = cc in (e ∙ rw (c.left, ← same) refl, rw (← same) (λ not. absurd cc))

  over_gap : (o : Opener) (rest : List ℕ) (q : Place) → opener_kind o ≡ None → front (octets_from lines p) ≡ closed o (Some rest) → IsLeftAt lines q rest → front (octets_from lines p) ≡ gap (octets_from lines q)
  over_gap Comment rest q is e c = e ∙ rw c.left refl
  over_gap Quote rest q is e c = absurd cc
  over_gap Backquote rest q is e c = absurd cc
  over_gap Brace rest q is e c = absurd cc

  step_over : (o : Opener) (r : Option (List ℕ)) (q : Place) (step : LexStep) → IsClosing o q step → front (octets_from lines p) ≡ closed o r → IsClosed lines r (Some q) → IsStep lines p step
  step_over o None q step is e c = absurd c
  step_over o (Some rest) q (steps.Gap r) is e c = rw is.1 (c.place, over_gap o rest q is.0 e c)
  step_over o (Some rest) q (steps.Token kind text r) is e c =
      let over = over_token o kind rest q is.0 e c in
      rw is.1 (c.place, over.0, λ stays. absurd (over.1 stays), λ stays. absurd (over.1 stays))
  step_over o (Some rest) q steps.Stray is e c = absurd is

  step_unclosed : (o : Opener) (r : Option (List ℕ)) → front (octets_from lines p) ≡ closed o r → IsClosed lines r None → IsStep lines p steps.Stray
  step_unclosed o None e c = e
  step_unclosed o (Some rest) e c = absurd c

  pub step_closed : (s : List ℕ) (o : Opener) → s ≡ drop p.at (line_at lines p.line) → Open o ≡ piece s → 0 < length s → opener_len o ≤ length s → (q : Place) → IsClosed lines (rest_after_closing o (octets_from lines (record { line = p.line; at = p.at + opener_len o }))) (Some q) → (step : LexStep) → IsClosing o q step → IsStep lines p step
  step_closed s o e is some fits q c step closing = step_over o _ q step closing (open_front s o e is some fits) c

  pub step_open : (s : List ℕ) (o : Opener) → s ≡ drop p.at (line_at lines p.line) → Open o ≡ piece s → 0 < length s → opener_len o ≤ length s → IsClosed lines (rest_after_closing o (octets_from lines (record { line = p.line; at = p.at + opener_len o }))) None → IsStep lines p steps.Stray
  step_open s o e is some fits c = step_unclosed o _ (open_front s o e is some fits) c
