-- A note is read as it is spelled.
use Rattle.std.proofs.Common.{◌≡◌, ℕ, ◌<◌, Bool, true, false, cond, List, [], ◌∷◌, ◌++◌, length, Option, Some, None, Ok, Err, refl, sym, ap, subst, ◌∙◌, arith, append_assoc}
use Rattle.std.specs.Prelude.{◌==◌}
use Rattle.std.specs.List.{list_all}
use Rattle.std.proofs.lemmas.Bool.Decides.{nat_tests}
use Rattle.std.proofs.lemmas.List.Folds.{list_all-append}
use Rattle.pd_lex.specs.Tokens.{Item, lexeme, ending, bad}
use Rattle.pd_script.specs.declared.brackets.Bracket.{Bracket}
use Rattle.pd_script.specs.declared.brackets.Bracket.TheVariants as brackets
use Rattle.pd_script.specs.Items.{is_symbol, is_symbol_kind}
use Rattle.pd_script.specs.Brackets.{pairs_after}
use Rattle.pd_script.specs.Arguments.{Balances}
use Rattle.pd_script.specs.Reader.{Reader, ends, goes, moved, machine_at}
use Rattle.pd_script.proofs.Laws.{Full, any, ok, value_is, rest_is}
use Rattle.pd_script.proofs.Machines.{Laws-machine}
use Rattle.pd_script.proofs.Matches.{Reads}
use Rattle.pd_script.proofs.Apart.{and-left, and-right, is_lexeme, lexical, symbol_kind, symbol_apart}
use Rattle.pd_script.proofs.ArgumentLaws.{closing, plain_closing}
use Rattle.pd_script.proofs.ArgumentSteps.{onto-nil}
use Rattle.pd_script.proofs.ArgumentSound.{balanced_lexemes}
use Rattle.pd_script.specs.ArgumentReading.{note_move, note_extended_to, note_part_at, note_part_by, is_last, after_token}

-- any tokens with balanced brackets, and the bracket that ends a note, whose own pair counts among the 16
pub record IsInNote (nothing : List ℕ) (ts rest : List Item) : Type 0 where
  pub inside : List Item
  pub closing : Item
  pub spelled : ts ≡ inside ++ closing ∷ rest
  pub balanced : Balances (λ pairs t. false) 15 [] inside
  pub ends : is_symbol 41 closing ≡ true
  pub value : nothing ≡ []

abbrev within : List Bracket → Reader (List ℕ)
within pairs = machine_at note_move pairs

closes : (pairs : List Bracket) (tail : List Item) → within pairs (closing pairs ++ tail) ≡ ok [] tail
unfolding machine_at closing
closes [] tail = refl
closes (brackets.Round ∷ pairs) tail = rw (closes pairs tail) refl
closes (brackets.Square ∷ pairs) tail = rw (closes pairs tail) refl
closes (brackets.Curly ∷ pairs) tail = rw (closes pairs tail) refl

full_within : (pairs : List Bracket) → Full (within pairs) any []
full_within pairs = record { more = closing pairs; value = []; spelled = plain_closing pairs; reads = λ tail h. closes pairs tail }

-- ---- what is read is spelled so

record Run (pairs : List Bracket) (v : List ℕ) (ts rest : List Item) : Type 0 where
  inside : List Item
  closing_item : Item
  spelled : ts ≡ inside ++ closing_item ∷ rest
  balanced : Balances (λ p t. false) 15 pairs inside
  last : is_symbol 41 closing_item ≡ true
  value : v ≡ []

led_run : (pairs : List Bracket) (t : Item) (ts : List Item) (v : List ℕ) (rest : List Item) (o : Option (List Bracket)) → pairs_after 15 pairs t ≡ o → moved (λ p. within p ts) t ts (note_extended_to o) ≡ ok v rest → ((p : List Bracket) → within p ts ≡ ok v rest → Run p v ts rest) → Run pairs v (t ∷ ts) rest
led_run pairs t ts v rest None is e ih = absurd cc
led_run pairs t ts v rest (Some next) is e ih =
    let R = ih next (sym (onto-nil (within next ts)) ∙ e) in
    record { inside = t ∷ R.inside; closing_item = R.closing_item; spelled = ap (λ (x : List Item). t ∷ x) R.spelled; balanced = (refl, next, is, R.balanced); last = R.last; value = R.value }

outside_run : (t : Item) (ts : List Item) (v : List ℕ) (rest : List Item) (b : Bool) → is_symbol 41 t ≡ b → moved (λ p. within p ts) t ts (cond b (ends []) (note_extended_to (pairs_after 15 [] t))) ≡ ok v rest → ((p : List Bracket) → within p ts ≡ ok v rest → Run p v ts rest) → Run [] v (t ∷ ts) rest
outside_run t ts v rest true h e ih =
    let none : List ℕ = [] in
    record { inside = []; closing_item = t; spelled = ap (λ (x : List Item). t ∷ x) (rest_is none v ts rest e); balanced = refl; last = h; value = sym (value_is none v ts rest e) }
outside_run t ts v rest false h e ih = led_run [] t ts v rest (pairs_after 15 [] t) refl e ih

run_of : (ts : List Item) (pairs : List Bracket) (v : List ℕ) (rest : List Item) → within pairs ts ≡ ok v rest → Run pairs v ts rest
unfolding machine_at
run_of [] pairs v rest e = absurd cc
run_of (t ∷ ts) [] v rest e = outside_run t ts v rest (is_symbol 41 t) refl e (λ p h. run_of ts p v rest h)
run_of (t ∷ ts) (b ∷ pairs) v rest e = led_run (b ∷ pairs) t ts v rest (pairs_after 15 (b ∷ pairs) t) refl e (λ p h. run_of ts p v rest h)

-- ---- what is spelled so is read

no_outer_bracket : (t : Item) (next : List Bracket) (b : Bool) → is_symbol 41 t ≡ b → pairs_after 15 [] t ≡ Some next → is_symbol 41 t ≡ false
no_outer_bracket t next false h e = h
no_outer_bracket (lexeme x) next true h e = absurd (let none : pairs_after 15 [] (lexeme x) ≡ None = rw (symbol_apart 41 40 refl (lexeme x) h, symbol_apart 41 91 refl (lexeme x) h, symbol_apart 41 123 refl (lexeme x) h, h) refl in cc)
no_outer_bracket (ending line) next true h e = absurd cc
no_outer_bracket (bad line) next true h e = absurd cc

part_move : (pairs : List Bracket) (t : Item) (next : List Bracket) → pairs_after 15 pairs t ≡ Some next → note_move pairs t ≡ goes next []
part_move [] t next is = rw (no_outer_bracket t next (is_symbol 41 t) refl is, is) refl
part_move (b ∷ pairs) t next is = rw is refl

over_inside : (inside : List Item) (pairs : List Bracket) (ts : List Item) → Balances (λ p t. false) 15 pairs inside → within pairs (inside ++ ts) ≡ within [] ts
unfolding machine_at
over_inside [] pairs ts balanced = ap (λ (p : List Bracket). within p ts) balanced
over_inside (t ∷ inside) pairs ts balanced = rw (part_move pairs t balanced.1 balanced.2) (onto-nil (within balanced.1 (inside ++ ts)) ∙ over_inside inside balanced.1 ts balanced.3)

in_note_complete : (ts : List Item) (v : List ℕ) (rest : List Item) → IsInNote v ts rest → within [] ts ≡ ok v rest
unfolding machine_at
in_note_complete ts v rest h =
    let here : within [] (h.closing ∷ rest) ≡ ok [] rest = rw h.ends refl in
    rw (h.spelled, h.value) (over_inside h.inside [] (h.closing ∷ rest) h.balanced ∙ here)

in_note_sound : (ts : List Item) (v : List ℕ) (rest : List Item) → within [] ts ≡ ok v rest → IsInNote v ts rest
in_note_sound ts v rest e =
    let R = run_of ts [] v rest e in
    record { inside = R.inside; closing = R.closing_item; spelled = R.spelled; balanced = R.balanced; ends = R.last; value = R.value }

in_note_takes : (ts : List Item) (v : List ℕ) (rest : List Item) → IsInNote v ts rest → (front : List Item) × (ts ≡ front ++ rest) × (list_all is_lexeme front ≡ true)
in_note_takes ts v rest h = (h.inside ++ h.closing ∷ [], h.spelled ∙ sym (append_assoc h.inside (h.closing ∷ []) rest), rw (list_all-append is_lexeme h.inside (h.closing ∷ []), balanced_lexemes (λ p t. false) 15 [] h.inside h.balanced, lexical is_symbol_kind (is_symbol 41) (symbol_kind 41) h.closing h.ends) refl)

pub Reads-in_note : Reads (machine_at note_move []) IsInNote any any
Reads-in_note = record { laws = Laws-machine note_move full_within []; sound = in_note_sound; complete = λ ts v rest h stops. in_note_complete ts v rest h; takes = in_note_takes }

-- ---- one step over the tokens of a note

led_goes : (t : Item) (ts : List Item) (o : Option (List Bracket)) (next : List Bracket) (ys : List Item) → note_part_by t ts o ≡ Ok (next, ys) → (moved (λ p. within p ts) t ts (note_extended_to o) ≡ within next ys) × (ts ≡ ys)
led_goes t ts None next ys h = absurd cc
led_goes t ts (Some pairs) next ys h =
    let same : (pairs, ts) ≡ (next, ys) = cc in
    (onto-nil (within pairs ts) ∙ ap (λ (x : List Bracket × List Item). within x.0 x.1) same, ap (λ (x : List Bracket × List Item). x.1) same)

led_stuck : (t : Item) (ts : List Item) (o : Option (List Bracket)) (rest : List Item) → note_part_by t ts o ≡ Err rest → moved (λ p. within p ts) t ts (note_extended_to o) ≡ Err rest
led_stuck t ts None rest h = cc
led_stuck t ts (Some pairs) rest h = absurd cc

not_last : (pairs : List Bracket) (t : Item) (ts : List Item) → is_last pairs (t ∷ ts) ≡ false → note_move pairs t ≡ note_extended_to (pairs_after 15 pairs t)
not_last [] t ts h = rw h refl
not_last (b ∷ pairs) t ts h = refl

pub note_goes : (pairs next : List Bracket) (xs ys : List Item) → is_last pairs xs ≡ false → note_part_at pairs xs ≡ Ok (next, ys) → (within pairs xs ≡ within next ys) × (length ys < length xs)
unfolding machine_at
note_goes pairs next [] ys h e = absurd cc
note_goes pairs next (t ∷ ts) ys h e =
    let L = led_goes t ts (pairs_after 15 pairs t) next ys e in
    (rw (not_last pairs t ts h) L.0, rw (← L.1) (omega arith))

pub note_stuck : (pairs : List Bracket) (xs rest : List Item) → is_last pairs xs ≡ false → note_part_at pairs xs ≡ Err rest → within pairs xs ≡ Err rest
unfolding machine_at
note_stuck pairs [] rest h e = cc
note_stuck pairs (t ∷ ts) rest h e = rw (not_last pairs t ts h) (led_stuck t ts (pairs_after 15 pairs t) rest e)

no_pairs : (pairs : List Bracket) → (length pairs == 0) ≡ true → pairs ≡ []
no_pairs [] h = refl
no_pairs (b ∷ pairs) h = absurd (grind (arith, nat_tests))

pub note_ends : (pairs : List Bracket) (xs : List Item) → is_last pairs xs ≡ true → within pairs xs ≡ Ok ([], after_token xs)
unfolding machine_at
note_ends pairs [] h = absurd (let g = and-right (length pairs == 0) _ h in cc)
note_ends pairs (lexeme x ∷ ts) h =
    let none : pairs ≡ [] = no_pairs pairs (and-left (length pairs == 0) _ h) in
    let last : is_symbol 41 (lexeme x) ≡ true = and-right (length pairs == 0) _ h in
    let here : within [] (lexeme x ∷ ts) ≡ ok [] ts = rw last refl in
    subst (λ (p : List Bracket). within p (lexeme x ∷ ts) ≡ ok [] ts) (sym none) here
note_ends pairs (ending line ∷ ts) h = absurd (let g = and-right (length pairs == 0) _ h in cc)
note_ends pairs (bad line ∷ ts) h = absurd (let g = and-right (length pairs == 0) _ h in cc)
