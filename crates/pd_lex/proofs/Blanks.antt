-- Going on over blanks, to the next piece or the next line.
use Rattle.std.proofs.Common.{◌≡◌, ℕ, ◌+◌, ◌<◌, ◌≤◌, Bool, true, false, ◌==◌, List, [], ◌∷◌, length, drop, min, refl, sym, subst, ◌∙◌, arith, ◌⊎◌, inl, inr}
use Rattle.std.specs.List.{prefix_len, list_all}
use Rattle.std.proofs.lemmas.List.{drop-drop, drop_all, length-drop}
use Rattle.std.proofs.lemmas.List.Sums.{prefix_len-le-length}
use Rattle.std.proofs.lemmas.Bool.{cases_lt}
use Rattle.std.proofs.lemmas.Bool.Decides.{nat_tests}
use Rattle.pd_text.specs.Text.{has_no_newline}
use Rattle.pd_lex.specs.declared.token.Place.{Place}
use Rattle.pd_lex.specs.Octets.{is_blank}
use Rattle.pd_lex.specs.Places.{first_place, line_at, clamped_place, octets_from, IsPlace}
use Rattle.pd_lex.specs.Pieces.{piece, gap, front}
use Rattle.pd_lex.specs.declared.token.Lexed.{Lexed}
use Rattle.pd_lex.specs.declared.token.Lexed.TheVariants as lexed
use Rattle.pd_lex.specs.Lexing.{items, IsNext}
use Rattle.pd_lex.specs.Next.{IsCut}
use Rattle.pd_lex.specs.Spellings.{Skips, here}
use Rattle.pd_lex.proofs.Rests.{place_is, clamped_of_place, clamped_first}
use Rattle.pd_lex.proofs.Texts.{octets_of_clamped}
use Rattle.pd_lex.proofs.Items.{items_from, items_over_gap, gap_shorter}
use Rattle.pd_lex.proofs.Longest.{longest_gap, Skips-then, Skips-over}
use Rattle.pd_lex.proofs.Steps.{step_blank, step_newline}

not_zero : (n : ℕ) → 1 ≤ n → (n == 0) ≡ false
not_zero n h = grind (arith, nat_tests)

min_is : (a b : ℕ) → b ≤ a → min a b ≡ b
min_is a b h = omega arith

-- from the second place the text goes on as from the first: only blanks and comments are between them
pub record GoesOn (lines : List (List ℕ)) (p q : Place) : Type 0 where
  pub place : IsPlace lines q
  pub same : items lines p ≡ items lines q
  pub skipped : Skips (octets_from lines p) (octets_from lines q)
  pub shorter : length (octets_from lines q) ≤ length (octets_from lines p)

skips_to : (s t : List ℕ) → s ≡ t → Skips s t
skips_to s t e = rw e here

-- a place stands where it says
pub stands : (lines : List (List ℕ)) (p q : Place) → IsPlace lines q → q ≡ clamped_place lines p → GoesOn lines p q
stands lines p q h e =
    let octets = octets_of_clamped lines p q h e in
    record { place = h; same = items_from lines p q h e; skipped = skips_to _ _ octets; shorter = rw octets (omega arith) }

-- line 0 stands for the first place
pub first_stands : (lines : List (List ℕ)) (p : Place) → p.line ≡ 0 → GoesOn lines p first_place
first_stands lines p e = stands lines p first_place (record { from_one = omega arith; within = omega arith; at = omega arith }) (sym (clamped_first lines p e))

module _ (lines : List (List ℕ)) (plain : list_all has_no_newline lines ≡ true) where
  pub then_gap : (p q r : Place) → GoesOn lines p q → IsPlace lines r → front (octets_from lines q) ≡ gap (octets_from lines r) → GoesOn lines p r
  then_gap p q r on h e = record {
    place = h;
    same = on.same ∙ items_over_gap lines plain q r on.place h e;
    skipped = Skips-then on.skipped (longest_gap (octets_from lines q) (octets_from lines r) e);
    shorter = omega (arith, on.shorter, gap_shorter lines plain q r e);
  }

  pub then_shorter : (p q r : Place) → GoesOn lines p q → front (octets_from lines q) ≡ gap (octets_from lines r) → length (octets_from lines r) < length (octets_from lines p)
  then_shorter p q r on e = omega (arith, on.shorter, gap_shorter lines plain q r e)

  -- one blank further on
  one_blank : (p q : Place) (b : ℕ) (s : List ℕ) → q.line ≤ length lines → GoesOn lines p q → drop q.at (line_at lines q.line) ≡ b ∷ s → is_blank b ≡ true → GoesOn lines p (record { line = q.line; at = q.at + 1 })
  unfolding piece
  one_blank p q b s le on e blank =
      let step = step_blank lines q on.place le (b ∷ s) 1 (sym e) (rw blank refl) (omega arith) (omega arith) in
      then_gap p q (record { line = q.line; at = q.at + 1 }) on step.0 step.1

  none_on : (p q : Place) (n : ℕ) → GoesOn lines p q → n ≡ q.at → GoesOn lines p (record { line = q.line; at = n })
  none_on p q n on e = subst (GoesOn lines p) (place_is q (record { line = q.line; at = n }) refl (sym e)) on

  -- over all blanks at a place
  over_run : (p q : Place) (s : List ℕ) → q.line ≤ length lines → GoesOn lines p q → drop q.at (line_at lines q.line) ≡ s → (n : ℕ) → n ≡ q.at + prefix_len is_blank s → GoesOn lines p (record { line = q.line; at = n })
  over_run p q [] le on e n is = none_on p q n on (omega (arith, is))
  over_run p q (b ∷ s) le on e n is = by_first (is_blank b) refl (over_run p (record { line = q.line; at = q.at + 1 }) s le)
    where
      by_first : (t : Bool) → is_blank b ≡ t → (GoesOn lines p (record { line = q.line; at = q.at + 1 }) → drop (q.at + 1) (line_at lines q.line) ≡ s → (n : ℕ) → n ≡ q.at + 1 + prefix_len is_blank s → GoesOn lines p (record { line = q.line; at = n })) → GoesOn lines p (record { line = q.line; at = n })
      by_first true h more =
          let less : prefix_len is_blank (b ∷ s) ≡ 1 + prefix_len is_blank s = rw h refl in
          more (one_blank p q b s le on e h) (sym (drop-drop 1 q.at (line_at lines q.line)) ∙ rw e refl) n (omega (arith, is, less))
      by_first false h more =
          let none : prefix_len is_blank (b ∷ s) ≡ 0 = rw h refl in
          none_on p q n on (omega (arith, is, none))

module _ (lines : List (List ℕ)) (plain : list_all has_no_newline lines ≡ true) (p : Place) (one : 1 ≤ p.line) (le : p.line ≤ length lines) where
  from_place : p.at ≤ length (line_at lines p.line) → GoesOn lines p p
  from_place fits =
      let h : IsPlace lines p = record { from_one = one; within = omega arith; at = fits } in
      stands lines p p h (sym (clamped_of_place lines p h))

  -- over blanks to an octet of the line
  pub over_blanks : (n : ℕ) → n ≡ p.at + prefix_len is_blank (drop p.at (line_at lines p.line)) → n < length (line_at lines p.line) → GoesOn lines p (record { line = p.line; at = n })
  over_blanks n e lt = over_run lines plain p p (drop p.at (line_at lines p.line)) le (from_place (omega (arith, e))) refl n e

  -- to the newline, where no other octet is left in the line
  to_newline : (n : ℕ) → n ≡ p.at + prefix_len is_blank (drop p.at (line_at lines p.line)) → length (line_at lines p.line) ≤ n → GoesOn lines p (record { line = p.line; at = length (line_at lines p.line) })
  unfolding clamped_place
  to_newline n e ge = by_place (cases_lt (length (line_at lines p.line)) p.at)
    where
      by_place : ((length (line_at lines p.line) < p.at) ⊎ (p.at ≤ length (line_at lines p.line))) → GoesOn lines p (record { line = p.line; at = length (line_at lines p.line) })
      by_place (inl lt) = stands lines p (record { line = p.line; at = length (line_at lines p.line) }) (record { from_one = one; within = omega arith; at = omega arith }) (rw (not_zero p.line one, min_is p.at (length (line_at lines p.line)) (omega arith)) refl)
      by_place (inr fits) =
          let run = prefix_len-le-length is_blank (drop p.at (line_at lines p.line)) in
          over_run lines plain p p (drop p.at (line_at lines p.line)) le (from_place fits) refl (length (line_at lines p.line)) (omega (arith, e, run, length-drop p.at (line_at lines p.line)))

  newline_gap : IsPlace lines (record { line = p.line; at = length (line_at lines p.line) }) → let q : Place = record { line = p.line + 1; at = 0 } in IsPlace lines q × (front (octets_from lines (record { line = p.line; at = length (line_at lines p.line) })) ≡ gap (octets_from lines q))
  newline_gap h = step_newline lines (record { line = p.line; at = length (line_at lines p.line) }) h le (drop_all (length (line_at lines p.line)) (line_at lines p.line) (omega arith))

  -- over the newline
  pub over_line : (n : ℕ) → n ≡ p.at + prefix_len is_blank (drop p.at (line_at lines p.line)) → length (line_at lines p.line) ≤ n → GoesOn lines p (record { line = p.line + 1; at = 0 })
  over_line n e ge =
      let on = to_newline n e ge in
      let newline = newline_gap on.place in
      then_gap lines plain p (record { line = p.line; at = length (line_at lines p.line) }) (record { line = p.line + 1; at = 0 }) on newline.0 newline.1

  pub line_shorter : (n : ℕ) → n ≡ p.at + prefix_len is_blank (drop p.at (line_at lines p.line)) → length (line_at lines p.line) ≤ n → length (octets_from lines (record { line = p.line + 1; at = 0 })) < length (octets_from lines p)
  line_shorter n e ge =
      let on = to_newline n e ge in
      then_shorter lines plain p (record { line = p.line; at = length (line_at lines p.line) }) (record { line = p.line + 1; at = 0 }) on (newline_gap on.place).1

-- what is at the second place is at the first, where the text goes on from it as from there
module _ (lines : List (List ℕ)) (p q : Place) (same : items lines p ≡ items lines q) (skipped : Skips (octets_from lines p) (octets_from lines q)) where
  pub next_on : (next : Lexed) → IsNext lines q next → IsNext lines p next
  next_on (lexed.Token t) h = same ∙ h
  next_on lexed.End h = same ∙ h
  next_on (lexed.Bad line) h = same ∙ h

  pub cut_on : (next : Lexed) → IsCut lines q next → IsCut lines p next
  cut_on (lexed.Token t) h = record { skipped = Skips-over skipped h.skipped; longest = h.longest; from = h.from; after = h.after }
  cut_on lexed.End h = Skips-over skipped h
  cut_on (lexed.Bad line) h = record { at = h.at; skipped = Skips-over skipped h.skipped; stuck = h.stuck; place = h.place; line_is = h.line_is }
