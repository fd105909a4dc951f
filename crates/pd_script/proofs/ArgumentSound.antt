-- The machine reads just the arguments of a call.
use Rattle.std.proofs.Common.{◌≡◌, ℕ, Bool, true, false, cond, List, [], ◌∷◌, ◌++◌, Option, Some, None, refl, sym, ap, subst, ◌∙◌, append_assoc, inl, inr}
use Rattle.std.specs.Prelude.{◌⊎◌}
use Rattle.pd_lex.specs.Tokens.{Item, lexeme, ending, bad}
use Rattle.std.specs.List.{list_all}
use Rattle.std.proofs.lemmas.List.Folds.{list_all-append}
use Rattle.pd_script.specs.Items.{is_symbol, is_symbol_kind, is_int_of_any_size, is_word, next_is}
use Rattle.pd_script.specs.Reader.{Reader, stuck, ends, goes, moved, machine_at}
use Rattle.pd_script.specs.declared.argument_builder.ArgumentBuilder.{ArgumentBuilder}
use Rattle.pd_script.specs.declared.argument_builder.ArgumentBuilder.TheVariants as argument_builder
use Rattle.pd_script.specs.declared.brackets.Bracket.{Bracket}
use Rattle.pd_script.specs.declared.calls.Argument.{Argument}
use Rattle.pd_script.specs.declared.calls.Argument.TheVariants as arguments
use Rattle.pd_script.specs.Brackets.{pairs_after}
use Rattle.pd_script.specs.Arguments.{is_parting, Balances, argument_of, IsArgument, IsSomeArguments, IsArguments}
use Rattle.pd_script.proofs.Laws.{ok, value_is, rest_is}
use Rattle.pd_script.specs.EventReading.{arguments_at, no_arguments_at}
use Rattle.pd_script.proofs.ArgumentLaws.{is_empty-extended_builder}
use Rattle.pd_script.proofs.ArgumentSteps.{onto-nil}
use Rattle.pd_script.proofs.Machines.{onto_ok}
use Rattle.pd_script.proofs.Apart.{is_lexeme, lexical, symbol_kind, symbol_apart, symbol_no_int, symbol_no_word}
use Rattle.pd_script.specs.ArgumentReading.{at_start, argument_move, move_within, extended_to, single_token_builder, extended_builder, built_argument, is_empty}

-- ---- drafts and arguments

builder_after : ArgumentBuilder → List Item → ArgumentBuilder
builder_after d [] = d
builder_after d (t ∷ ts) = builder_after (extended_builder d t) ts

mixed : (ts : List Item) → built_argument (builder_after argument_builder.Mixed ts) ≡ arguments.Other
unfolding builder_after
mixed [] = refl
mixed (t ∷ ts) = mixed ts

one_item : (t : Item) (i w b : Bool) → is_int_of_any_size t ≡ i → is_word t ≡ w → is_symbol 91 t ≡ b → built_argument (single_token_builder t) ≡ argument_of (t ∷ [])
one_item t true w b hi hw hb = rw hi refl
one_item t false true b hi hw hb = rw (hi, hw) refl
one_item t false false true hi hw hb = rw (hi, hw, hb) refl
one_item t false false false hi hw hb = rw (hi, hw, hb) refl

opens : (t : Item) → is_symbol 91 t ≡ true → single_token_builder t ≡ argument_builder.Opened
opens t h = rw (symbol_no_int 91 t h, symbol_no_word 91 t h, h) refl

-- after a token that is no `[` an argument is none of the short forms
no_longer : (t u : Item) (i w : Bool) → is_int_of_any_size t ≡ i → is_word t ≡ w → is_symbol 91 t ≡ false → extended_builder (single_token_builder t) u ≡ argument_builder.Mixed
no_longer t u true w hi hw h = rw hi refl
no_longer t u false true hi hw h = rw (hi, hw) refl
no_longer t u false false hi hw h = rw (hi, hw, h) refl

no_longer_at : (t u : Item) → is_symbol 91 t ≡ false → extended_builder (single_token_builder t) u ≡ argument_builder.Mixed
no_longer_at t u h = no_longer t u (is_int_of_any_size t) (is_word t) refl refl h

two_items : (t u : Item) (b i : Bool) → is_symbol 91 t ≡ b → is_int_of_any_size u ≡ i → built_argument (extended_builder (single_token_builder t) u) ≡ arguments.Other
two_items t u true true h hi = rw (opens t h, hi) refl
two_items t u true false h hi = rw (opens t h, hi) refl
two_items t u false i h hi = rw (no_longer_at t u h) refl

-- after `[`
element : (o t c : Item) (i s : Bool) → is_symbol 91 o ≡ true → is_int_of_any_size t ≡ i → is_symbol 93 c ≡ s → built_argument (extended_builder (extended_builder argument_builder.Opened t) c) ≡ argument_of (o ∷ t ∷ c ∷ [])
element o t c true true ho hi hs = rw (ho, hi, hs) refl
element o t c true false ho hi hs = rw (ho, hi, hs) refl
element o t c false s ho hi hs = rw (ho, hi) refl

no_element : (t c u : Item) (more : List Item) (i s : Bool) → is_int_of_any_size t ≡ i → is_symbol 93 c ≡ s → built_argument (builder_after (extended_builder (extended_builder (extended_builder argument_builder.Opened t) c) u) more) ≡ arguments.Other
no_element t c u more true true hi hs = rw (hi, hs) (mixed more)
no_element t c u more true false hi hs = rw (hi, hs) (mixed more)
no_element t c u more false s hi hs = rw hi (mixed more)

three_items : (o t c : Item) (more : List Item) (b : Bool) → is_symbol 91 o ≡ b → built_argument (builder_after argument_builder.Empty (o ∷ t ∷ c ∷ more)) ≡ argument_of (o ∷ t ∷ c ∷ more)
unfolding builder_after
three_items o t c [] true h = rw (opens o h) (element o t c (is_int_of_any_size t) (is_symbol 93 c) h refl refl)
three_items o t c (u ∷ more) true h = rw (opens o h) (no_element t c u more (is_int_of_any_size t) (is_symbol 93 c) refl refl)
three_items o t c [] false h = rw (no_longer_at o t h, h) refl
three_items o t c (u ∷ more) false h = rw (no_longer_at o t h) (mixed more)

-- what was drafted is the argument that the items are
drafted_is : (t : Item) (ts : List Item) → built_argument (builder_after argument_builder.Empty (t ∷ ts)) ≡ argument_of (t ∷ ts)
unfolding builder_after
drafted_is t [] = one_item t (is_int_of_any_size t) (is_word t) (is_symbol 91 t) refl refl refl
drafted_is t (u ∷ []) = two_items t u (is_symbol 91 t) (is_int_of_any_size u) refl refl
drafted_is t (u ∷ c ∷ more) = three_items t u c more (is_symbol 91 t) refl

is_empty-builder_after : (d : ArgumentBuilder) (ts : List Item) → is_empty d ≡ false → is_empty (builder_after d ts) ≡ false
unfolding builder_after
is_empty-builder_after d [] h = h
is_empty-builder_after d (t ∷ ts) h = is_empty-builder_after (extended_builder d t) ts (is_empty-extended_builder d t)

-- ---- what the machine reads is spelled so

abbrev within : List Bracket → ArgumentBuilder → Reader (List Argument)
within pairs d = machine_at argument_move (record { pairs = pairs; builder = d })

-- what follows an argument: the last bracket, or a comma and more arguments
abbrev IsAfter : List Argument → Item → List Item → List Item → Type 0
IsAfter vs c after rest = ((is_symbol 41 c ≡ true) × (vs ≡ []) × (after ≡ rest)) ⊎ ((is_symbol 44 c ≡ true) × IsSomeArguments vs after rest)

-- the items of the argument that go on from a state, and what follows it
record Run (pairs : List Bracket) (d : ArgumentBuilder) (vs : List Argument) (ts rest : List Item) : Type 0 where
  front : List Item
  c : Item
  after : List Item
  more : List Argument
  items : ts ≡ front ++ c ∷ after
  balanced : Balances is_parting 16 pairs front
  some : is_empty (builder_after d front) ≡ false
  value : built_argument (builder_after d front) ∷ more ≡ vs
  follows : IsAfter more c after rest

some_by : (front : List Item) (c : Item) (after : List Item) (more : List Argument) (ts rest : List Item) → ts ≡ front ++ c ∷ after → Balances is_parting 16 [] front → is_empty (builder_after argument_builder.Empty front) ≡ false → IsAfter more c after rest → IsSomeArguments (built_argument (builder_after argument_builder.Empty front) ∷ more) ts rest
unfolding builder_after
some_by [] c after more ts rest items balanced some follows = absurd cc
some_by (t ∷ front) c after [] ts rest items balanced some (inl h) =
    let left : c ∷ after ≡ c ∷ rest = ap (λ (x : List Item). c ∷ x) h.2 in
    (c, record { first = t; others = front; spelled = items ∙ ap (λ (x : List Item). (t ∷ front) ++ x) left; balanced = balanced; value = drafted_is t front }, h.0)
some_by (t ∷ front) c after (b ∷ more) ts rest items balanced some (inl h) = absurd (let e = h.1 in cc)
some_by (t ∷ front) c after [] ts rest items balanced some (inr h) = absurd h.1
some_by (t ∷ front) c after (b ∷ more) ts rest items balanced some (inr h) =
    (c, after, record { first = t; others = front; spelled = items; balanced = balanced; value = drafted_is t front }, h.0, h.1)

some_from_run : (vs : List Argument) (ts rest : List Item) → Run [] argument_builder.Empty vs ts rest → IsSomeArguments vs ts rest
some_from_run vs ts rest r = subst (λ (x : List Argument). IsSomeArguments x ts rest) r.value (some_by r.front r.c r.after r.more ts rest r.items r.balanced r.some r.follows)

led_run : (pairs : List Bracket) (d : ArgumentBuilder) (t : Item) (ts : List Item) (vs : List Argument) (rest : List Item) (o : Option (List Bracket)) → pairs_after 16 pairs t ≡ o → is_parting pairs t ≡ false → moved (λ j. machine_at argument_move j ts) t ts (extended_to d t o) ≡ ok vs rest → ((p : List Bracket) (e : ArgumentBuilder) → within p e ts ≡ ok vs rest → Run p e vs ts rest) → Run pairs d vs (t ∷ ts) rest
unfolding builder_after
led_run pairs d t ts vs rest None is parting e ih = absurd cc
led_run pairs d t ts vs rest (Some next) is parting e ih =
    let R = ih next (extended_builder d t) (sym (onto-nil (within next (extended_builder d t) ts)) ∙ e) in
    record { front = t ∷ R.front; c = R.c; after = R.after; more = R.more; items = ap (λ (x : List Item). t ∷ x) R.items; balanced = (parting, next, is, R.balanced); some = R.some; value = R.value; follows = R.follows }

outside_run : (d : ArgumentBuilder) (t : Item) (ts : List Item) (vs : List Argument) (rest : List Item) (a b em : Bool) → is_symbol 41 t ≡ a → is_symbol 44 t ≡ b → is_empty d ≡ em → moved (λ j. machine_at argument_move j ts) t ts (cond a (cond em stuck (ends (built_argument d ∷ []))) (cond b (cond em stuck (goes at_start (built_argument d ∷ []))) (extended_to d t (pairs_after 16 [] t)))) ≡ ok vs rest → ((p : List Bracket) (e : ArgumentBuilder) (ws : List Argument) → within p e ts ≡ ok ws rest → Run p e ws ts rest) → Run [] d vs (t ∷ ts) rest
unfolding builder_after
outside_run d t ts vs rest true b true ha hb hem e ih = absurd cc
outside_run d t ts vs rest true b false ha hb hem e ih =
    record { front = []; c = t; after = ts; more = []; items = refl; balanced = refl; some = hem; value = value_is (built_argument d ∷ []) vs ts rest e; follows = inl (ha, refl, rest_is (built_argument d ∷ []) vs ts rest e) }
outside_run d t ts vs rest false true true ha hb hem e ih = absurd cc
outside_run d t ts vs rest false true false ha hb hem e ih =
    let O = onto_ok (built_argument d ∷ []) (within [] argument_builder.Empty ts) vs rest e in
    record { front = []; c = t; after = ts; more = O.0; items = refl; balanced = refl; some = hem; value = O.2; follows = inr (hb, some_from_run O.0 ts rest (ih [] argument_builder.Empty O.0 O.1)) }
outside_run d t ts vs rest false false em ha hb hem e ih = led_run [] d t ts vs rest (pairs_after 16 [] t) refl hb e (λ p f h. ih p f vs h)

run_of : (ts : List Item) (pairs : List Bracket) (d : ArgumentBuilder) (vs : List Argument) (rest : List Item) → within pairs d ts ≡ ok vs rest → Run pairs d vs ts rest
unfolding machine_at
run_of [] pairs d vs rest e = absurd cc
run_of (t ∷ ts) [] d vs rest e = outside_run d t ts vs rest (is_symbol 41 t) (is_symbol 44 t) (is_empty d) refl refl refl e (λ p f ws h. run_of ts p f ws rest h)
run_of (t ∷ ts) (b ∷ pairs) d vs rest e = led_run (b ∷ pairs) d t ts vs rest (pairs_after 16 (b ∷ pairs) t) refl refl e (λ p f h. run_of ts p f vs rest h)

-- ---- what is spelled so is read

no_outer_bracket : (t : Item) (next : List Bracket) (b : Bool) → is_symbol 41 t ≡ b → pairs_after 16 [] t ≡ Some next → is_symbol 41 t ≡ false
no_outer_bracket t next false h e = h
no_outer_bracket (lexeme x) next true h e = absurd (let none : pairs_after 16 [] (lexeme x) ≡ None = rw (symbol_apart 41 40 refl (lexeme x) h, symbol_apart 41 91 refl (lexeme x) h, symbol_apart 41 123 refl (lexeme x) h, h) refl in cc)
no_outer_bracket (ending line) next true h e = absurd cc
no_outer_bracket (bad line) next true h e = absurd cc

part_move : (pairs : List Bracket) (d : ArgumentBuilder) (t : Item) (next : List Bracket) → is_parting pairs t ≡ false → pairs_after 16 pairs t ≡ Some next → move_within pairs d t ≡ goes (record { pairs = next; builder = extended_builder d t }) []
part_move [] d t next parting is = rw (no_outer_bracket t next (is_symbol 41 t) refl is, parting, is) refl
part_move (b ∷ pairs) d t next parting is = rw is refl

over_front : (front : List Item) (pairs : List Bracket) (d : ArgumentBuilder) (ts : List Item) → Balances is_parting 16 pairs front → within pairs d (front ++ ts) ≡ within [] (builder_after d front) ts
unfolding machine_at builder_after
over_front [] pairs d ts balanced = ap (λ (p : List Bracket). within p d ts) balanced
over_front (t ∷ front) pairs d ts balanced =
    rw (part_move pairs d t balanced.1 balanced.0 balanced.2) (onto-nil (within balanced.1 (extended_builder d t) (front ++ ts)) ∙ over_front front balanced.1 (extended_builder d t) ts balanced.3)

-- up to what follows an argument
over_argument : (a : Argument) (ts rest : List Item) → IsArgument a ts rest → (d : ArgumentBuilder) × (within [] argument_builder.Empty ts ≡ within [] d rest) × (is_empty d ≡ false) × (built_argument d ≡ a)
unfolding builder_after
over_argument a ts rest h =
    (builder_after argument_builder.Empty (h.first ∷ h.others), ap (λ (x : List Item). within [] argument_builder.Empty x) h.spelled ∙ over_front (h.first ∷ h.others) [] argument_builder.Empty rest h.balanced, is_empty-builder_after (extended_builder argument_builder.Empty h.first) h.others (is_empty-extended_builder argument_builder.Empty h.first), drafted_is h.first h.others ∙ sym h.value)

some_complete : (vs : List Argument) (ts rest : List Item) → IsSomeArguments vs ts rest → within [] argument_builder.Empty ts ≡ ok vs rest
unfolding machine_at
some_complete [] ts rest h = absurd h
some_complete (a ∷ []) ts rest h =
    let A = over_argument a ts (h.0 ∷ rest) h.1 in
    let here : within [] A.0 (h.0 ∷ rest) ≡ ok (built_argument A.0 ∷ []) rest = rw (h.2, A.2) refl in
    A.1 ∙ here ∙ ap (λ (x : Argument). ok (x ∷ []) rest) A.3
some_complete (a ∷ b ∷ more) ts rest h =
    let A = over_argument a ts (h.0 ∷ h.1) h.2 in
    let ih = some_complete (b ∷ more) h.1 rest h.4 in
    let here : within [] A.0 (h.0 ∷ h.1) ≡ ok (built_argument A.0 ∷ b ∷ more) rest = rw (symbol_apart 44 41 refl h.0 h.3, h.3, A.2, ih) refl in
    A.1 ∙ here ∙ ap (λ (x : Argument). ok (x ∷ b ∷ more) rest) A.3

-- ---- with those that have none

begins_other : (vs : List Argument) (ts rest : List Item) → within [] argument_builder.Empty ts ≡ ok vs rest → next_is (is_symbol 41) ts ≡ false
unfolding machine_at
begins_other vs [] rest e = absurd cc
begins_other vs (t ∷ ts) rest e = by_test (is_symbol 41 t) refl
  where
    by_test : (b : Bool) → is_symbol 41 t ≡ b → is_symbol 41 t ≡ false
    by_test true h = absurd (let stuck_there = rw h at e in cc)
    by_test false h = h

some_are : (vs : List Argument) (ts rest : List Item) → IsSomeArguments vs ts rest → IsArguments vs ts rest
some_are [] ts rest h = absurd h
some_are (a ∷ more) ts rest h = h

pub arguments_sound : (ts : List Item) (vs : List Argument) (rest : List Item) → arguments_at ts ≡ ok vs rest → IsArguments vs ts rest
unfolding arguments_at machine_at
arguments_sound [] vs rest e = absurd cc
arguments_sound (t ∷ ts) vs rest e = by_test (is_symbol 41 t) refl e
  where
    by_test : (b : Bool) → is_symbol 41 t ≡ b → cond b (no_arguments_at (t ∷ ts)) (within [] argument_builder.Empty (t ∷ ts)) ≡ ok vs rest → IsArguments vs (t ∷ ts) rest
    by_test true h e =
        let none : List Argument = [] in
        let got : ok none ts ≡ ok vs rest = rw h at e in
        subst (λ (x : List Argument). IsArguments x (t ∷ ts) rest) (value_is none vs ts rest got) (t, ap (λ (x : List Item). t ∷ x) (rest_is none vs ts rest got), h)
    by_test false h e = some_are vs (t ∷ ts) rest (some_from_run vs (t ∷ ts) rest (run_of (t ∷ ts) [] argument_builder.Empty vs rest e))

pub arguments_complete : (ts : List Item) (vs : List Argument) (rest : List Item) → IsArguments vs ts rest → arguments_at ts ≡ ok vs rest
unfolding arguments_at
arguments_complete ts [] rest h = rw (h.1, h.2) refl
arguments_complete ts (a ∷ more) rest h =
    let e = some_complete (a ∷ more) ts rest h in
    rw (begins_other (a ∷ more) ts rest e) e

-- ---- arguments are tokens

paired_lexeme : (most : ℕ) (pairs next : List Bracket) (t : Item) → pairs_after most pairs t ≡ Some next → is_lexeme t ≡ true
paired_lexeme most pairs next (lexeme x) h = refl
paired_lexeme most pairs next (ending line) h = absurd cc
paired_lexeme most pairs next (bad line) h = absurd cc

pub balanced_lexemes : (parts : List Bracket → Item → Bool) (most : ℕ) (pairs : List Bracket) (ts : List Item) → Balances parts most pairs ts → list_all is_lexeme ts ≡ true
balanced_lexemes parts most pairs [] h = refl
balanced_lexemes parts most pairs (t ∷ ts) h = rw (paired_lexeme most pairs h.1 t h.2, balanced_lexemes parts most h.1 ts h.3) refl

some_take : (vs : List Argument) (ts rest : List Item) → IsSomeArguments vs ts rest → (front : List Item) × (ts ≡ front ++ rest) × (list_all is_lexeme front ≡ true)
some_take [] ts rest h = absurd h
some_take (a ∷ []) ts rest h =
    let A = h.1 in
    let front : List Item = A.first ∷ A.others in
    (front ++ h.0 ∷ [], A.spelled ∙ sym (append_assoc front (h.0 ∷ []) rest), rw (list_all-append is_lexeme front (h.0 ∷ []), balanced_lexemes is_parting 16 [] front A.balanced, lexical is_symbol_kind (is_symbol 41) (symbol_kind 41) h.0 h.2) refl)
some_take (a ∷ b ∷ more) ts rest h =
    let A = h.2 in
    let R = some_take (b ∷ more) h.1 rest h.4 in
    let front : List Item = A.first ∷ A.others in
    (front ++ h.0 ∷ R.0, A.spelled ∙ ap (λ (x : List Item). front ++ h.0 ∷ x) R.1 ∙ sym (append_assoc front (h.0 ∷ R.0) rest), rw (list_all-append is_lexeme front (h.0 ∷ R.0), balanced_lexemes is_parting 16 [] front A.balanced, lexical is_symbol_kind (is_symbol 44) (symbol_kind 44) h.0 h.3, R.2) refl)

pub arguments_take : (ts : List Item) (vs : List Argument) (rest : List Item) → IsArguments vs ts rest → (front : List Item) × (ts ≡ front ++ rest) × (list_all is_lexeme front ≡ true)
arguments_take ts [] rest h = (h.0 ∷ [], h.1, rw (lexical is_symbol_kind (is_symbol 41) (symbol_kind 41) h.0 h.2) refl)
arguments_take ts (a ∷ more) rest h = some_take (a ∷ more) ts rest h
