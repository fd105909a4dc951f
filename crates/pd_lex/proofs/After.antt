-- The items after a token are those from the place after it.
use Rattle.std.proofs.Common.{◌≡◌, ℕ, zero, suc, ◌<◌, ◌≤◌, true, List, ◌∷◌, length, sym, ap, ◌∙◌, arith, refl}
use Rattle.std.specs.List.{list_all}
use Rattle.std.proofs.lemmas.List.{nil_from_length}
use Rattle.pd_text.specs.Text.{has_no_newline}
use Rattle.pd_lex.specs.declared.token.Place.{Place}
use Rattle.pd_lex.specs.Places.{clamped_place, octets_from, place_after, before, IsPlace}
use Rattle.pd_lex.specs.Pieces.{Front, nothing, gap, token, stray, front}
use Rattle.pd_lex.specs.Tokens.{Lexeme, Item, lexeme}
use Rattle.pd_lex.specs.Lexing.{items}
use Rattle.pd_lex.specs.Laws.{GoOn}
use Rattle.pd_lex.proofs.Fronts.{IsRest-shorter}
use Rattle.pd_lex.proofs.Items.{items_from, items_past, items_at_end, items_at_stray}
use Rattle.pd_lex.proofs.Order.{by_line, left_after, gap_rest, items_after_gap, items_after_token, nothing_left}
use Rattle.pd_lex.proofs.Texts.{clamped_is_place}

module _ (lines : List (List ℕ)) (plain : list_all has_no_newline lines ≡ true) where
  on_by : (k : ℕ) (p : Place) → IsPlace lines p → length (octets_from lines p) ≤ suc k → ((q : Place) → IsPlace lines q → length (octets_from lines q) ≤ k → GoOn lines (items lines q)) → (f : Front) → front (octets_from lines p) ≡ f → GoOn lines (items lines p)
  on_by k p h le ih nothing e = rw (items_at_end lines plain p h (nothing_left (octets_from lines p) e)) (λ x rest is. absurd cc)
  on_by k p h le ih (gap rest) e =
      let r = gap_rest lines plain p h rest e in
      let q = left_after lines plain p h rest r in
      let less = IsRest-shorter (octets_from lines p) rest r in
      rw (items_after_gap lines plain p h rest e) (ih (place_after p (before (octets_from lines p) rest)) q.place (omega (arith, less, ap length q.left)))
  on_by k p h le ih (token kind rest) e = rw (items_after_token lines plain p h rest kind e) (λ x others is. at_token x others is)
    where
      first : Lexeme
      first = record { kind = kind; text = before (octets_from lines p) rest; from = p }

      after_first : List Item
      after_first = items lines (place_after p (before (octets_from lines p) rest))

      at_token : (x : Lexeme) (others : List Item) → lexeme (record { kind = kind; text = before (octets_from lines p) rest; from = p }) ∷ items lines (place_after p (before (octets_from lines p) rest)) ≡ lexeme x ∷ others → others ≡ items lines (place_after x.from x.text)
      at_token x others is =
          let same : first ≡ x = cc in
          let more : after_first ≡ others = cc in
          sym more ∙ ap (λ (y : Lexeme). items lines (place_after y.from y.text)) same
  on_by k p h le ih stray e = rw (items_at_stray lines plain p h e) (λ x rest is. absurd cc)

  on_within : (k : ℕ) (p : Place) → IsPlace lines p → length (octets_from lines p) ≤ k → GoOn lines (items lines p)
  on_within zero p h le = rw (items_at_end lines plain p h (nil_from_length (octets_from lines p) (omega arith))) (λ x rest is. absurd cc)
  on_within (suc k) p h le = on_by k p h le (on_within k) (front (octets_from lines p)) refl

pub go_on : (lines : List (List ℕ)) (p : Place) → list_all has_no_newline lines ≡ true → GoOn lines (items lines p)
go_on lines p plain = by_line (length lines) p.line (GoOn lines (items lines p)) past within
  where
    past : length lines < p.line → GoOn lines (items lines p)
    past lt = rw (items_past lines plain p lt) (λ x rest is. absurd cc)

    within : p.line ≤ length lines → GoOn lines (items lines p)
    within le =
        let h = clamped_is_place lines p le in
        rw (items_from lines p (clamped_place lines p) h refl) (on_within lines plain (length (octets_from lines (clamped_place lines p))) (clamped_place lines p) h (omega arith))
