-- Places of tokens: the place after one, and that the items of a text stand where they say.
use Rattle.std.proofs.Common.{◌≡◌, ℕ, ◌+◌, ◌<◌, ◌≤◌, zero, suc, Bool, true, false, List, [], ◌∷◌, length, max, refl, sym, ap, subst, ◌∙◌, arith}
use Rattle.std.specs.List.{list_all}
use Rattle.std.proofs.lemmas.List.{nil_from_length}
use Rattle.pd_text.specs.Text.{has_no_newline}
use Rattle.pd_lex.specs.declared.token.Place.{Place}
use Rattle.pd_lex.specs.declared.token.Token.{Token}
use Rattle.pd_lex.specs.Places.{clamped_place, octets_from, place_after, before, between, IsPlace}
use Rattle.pd_lex.specs.Pieces.{Front, nothing, gap, token, stray, front}
use Rattle.pd_lex.specs.Tokens.{Item, lexeme, ending, bad}
use Rattle.pd_lex.specs.Lexing.{items}
use Rattle.pd_lex.specs.Next.{IsTokenAt}
use Rattle.pd_lex.proofs.Fronts.{IsRest-shorter}
use Rattle.pd_lex.proofs.Items.{items_from, items_past, items_at_end, items_at_stray}
use Rattle.pd_lex.proofs.Order.{by_line, left_after, gap_rest, items_after_gap, items_after_token, nothing_left}
use Rattle.pd_lex.proofs.Rests.{advance, same_place}
use Rattle.pd_lex.proofs.Texts.{clamped_is_place}
use Rattle.pd_script.specs.Next.{place_of}

-- the place that the lexer answers after a token is the one after its octets
pub token_after : (lines : List (List ℕ)) → list_all has_no_newline lines ≡ true → (p : Place) (t : Token) → IsTokenAt lines p t → place_after t.from (between lines t.from t.to) ≡ t.to
token_after lines plain p t h =
    let text = between lines t.from t.to in
    let left = advance lines plain t.from text (octets_from lines t.to) h.from h.longest.cut in
    same_place lines (place_after t.from text) t.to left.place h.after (ap length left.left)

abbrev pub is_bad : Item → Bool
is_bad (lexeme x) = false
is_bad (ending line) = false
is_bad (bad line) = true

-- an item that is not bad, and what is after it, are the items from its own place on
abbrev pub StandThere : List (List ℕ) → List Item → Type 0
StandThere lines those = (t : Item) (rest : List Item) → those ≡ t ∷ rest → is_bad t ≡ false → items lines (place_of t) ≡ t ∷ rest

module _ (lines : List (List ℕ)) (plain : list_all has_no_newline lines ≡ true) where
  end_stands : StandThere lines (ending (max 1 (length lines)) ∷ [])
  end_stands t rest is good =
      let there : items lines (record { line = max 1 (length lines) + 1; at = 0 }) ≡ ending (max 1 (length lines)) ∷ [] = items_past lines plain (record { line = max 1 (length lines) + 1; at = 0 }) (omega arith) in
      let first : ending (max 1 (length lines)) ≡ t = cc in
      subst (λ (x : Item). items lines (place_of x) ≡ t ∷ rest) first (there ∙ is)

  stand_by : (k : ℕ) (p : Place) → IsPlace lines p → length (octets_from lines p) ≤ suc k → ((q : Place) → IsPlace lines q → length (octets_from lines q) ≤ k → StandThere lines (items lines q)) → (f : Front) → front (octets_from lines p) ≡ f → StandThere lines (items lines p)
  stand_by k p h le ih nothing e = rw (items_at_end lines plain p h (nothing_left (octets_from lines p) e)) end_stands
  stand_by k p h le ih (gap rest) e =
      let r = gap_rest lines plain p h rest e in
      let q = left_after lines plain p h rest r in
      let less = IsRest-shorter (octets_from lines p) rest r in
      rw (items_after_gap lines plain p h rest e) (ih (place_after p (before (octets_from lines p) rest)) q.place (omega (arith, less, ap length q.left)))
  stand_by k p h le ih (token kind rest) e = λ t others is good. at_token t others is
    where
      cut : items lines p ≡ lexeme (record { kind = kind; text = before (octets_from lines p) rest; from = p }) ∷ items lines (place_after p (before (octets_from lines p) rest))
      cut = items_after_token lines plain p h rest kind e

      at_token : (t : Item) (others : List Item) → items lines p ≡ t ∷ others → items lines (place_of t) ≡ t ∷ others
      at_token t others is =
          let first : lexeme (record { kind = kind; text = before (octets_from lines p) rest; from = p }) ≡ t = (let both = sym cut ∙ is in cc) in
          let there : p ≡ place_of t = ap (λ (x : Item). place_of x) first in
          ap (λ (x : Place). items lines x) (sym there) ∙ is
  stand_by k p h le ih stray e = λ t others is good. absurd (let both = sym (items_at_stray lines plain p h e) ∙ is in let first : bad p.line ≡ t = cc in let b : true ≡ false = ap (λ (x : Item). is_bad x) first ∙ good in cc)

  stand_within : (k : ℕ) (p : Place) → IsPlace lines p → length (octets_from lines p) ≤ k → StandThere lines (items lines p)
  stand_within zero p h le = rw (items_at_end lines plain p h (nil_from_length (octets_from lines p) (omega arith))) end_stands
  stand_within (suc k) p h le = stand_by k p h le (stand_within k) (front (octets_from lines p)) refl

  pub stand_there : (p : Place) → StandThere lines (items lines p)
  stand_there p = by_line (length lines) p.line (StandThere lines (items lines p)) past within
    where
      past : length lines < p.line → StandThere lines (items lines p)
      past lt = rw (items_past lines plain p lt) end_stands

      within : p.line ≤ length lines → StandThere lines (items lines p)
      within le =
          let h = clamped_is_place lines p le in
          rw (items_from lines p (clamped_place lines p) h refl) (stand_within (length (octets_from lines (clamped_place lines p))) (clamped_place lines p) h (omega arith))
