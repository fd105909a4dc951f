-- One step over the tokens of arguments.
use Rattle.std.proofs.Common.{◌≡◌, ◌<◌, Bool, true, false, List, [], ◌∷◌, ◌++◌, length, Option, Some, None, Ok, Err, refl, sym, ap, subst, ◌∙◌, arith, append_assoc}
use Rattle.std.specs.Prelude.{◌||◌, ◌==◌}
use Rattle.std.proofs.lemmas.Bool.Decides.{nat_tests}
use Rattle.pd_lex.specs.Tokens.{Item, lexeme, ending, bad}
use Rattle.pd_script.specs.Items.{is_symbol, next_is}
use Rattle.pd_script.specs.Reader.{Read, Reader, stuck, ends, goes, onto, moved, machine_at}
use Rattle.pd_script.specs.declared.argument_builder.BracketContext.{BracketContext}
use Rattle.pd_script.specs.declared.argument_builder.ArgumentBuilder.{ArgumentBuilder}
use Rattle.pd_script.specs.declared.argument_builder.ArgumentBuilder.TheVariants as argument_builder
use Rattle.pd_script.specs.declared.brackets.Bracket.{Bracket}
use Rattle.pd_script.specs.declared.calls.Argument.{Argument}
use Rattle.pd_script.specs.Brackets.{pairs_after}
use Rattle.pd_script.specs.EventReading.{arguments_at}
use Rattle.pd_script.proofs.Apart.{and-left, and-right, or-no}
use Rattle.pd_script.specs.ArgumentReading.{at_start, argument_move, move_within, extended_to, extended_builder, built_argument, is_empty, part_at, part_by, after_token, is_between}

pub onto-nil : {A : Type 0} (r : Read (List A)) → onto [] r ≡ r
onto-nil (Ok x) = refl
onto-nil (Err x) = refl

pub onto-append : {A : Type 0} (a b : List A) (r : Read (List A)) → onto (a ++ b) r ≡ onto a (onto b r)
onto-append a b (Ok x) = rw append_assoc refl
onto-append a b (Err x) = refl

abbrev within : BracketContext → Reader (List Argument)
within i = machine_at argument_move i

-- ---- a part of an argument

led_goes : (d : ArgumentBuilder) (t : Item) (ts : List Item) (o : Option (List Bracket)) (j : BracketContext) (ys : List Item) → part_by d t ts o ≡ Ok (j, ys) → (moved (λ n. within n ts) t ts (extended_to d t o) ≡ onto [] (within j ys)) × (ts ≡ ys)
led_goes d t ts None j ys h = absurd cc
led_goes d t ts (Some pairs) j ys h =
    let made : BracketContext = record { pairs = pairs; builder = extended_builder d t } in
    let same : (made, ts) ≡ (j, ys) = cc in
    (ap (λ (x : BracketContext × List Item). onto [] (within x.0 x.1)) same, ap (λ (x : BracketContext × List Item). x.1) same)

led_stuck : (d : ArgumentBuilder) (t : Item) (ts : List Item) (o : Option (List Bracket)) (rest : List Item) → part_by d t ts o ≡ Err rest → moved (λ n. within n ts) t ts (extended_to d t o) ≡ Err rest
led_stuck d t ts None rest h = cc
led_stuck d t ts (Some pairs) rest h = absurd cc

not_between : (pairs : List Bracket) (d : ArgumentBuilder) (t : Item) (ts : List Item) → is_between (record { pairs = pairs; builder = d }) (t ∷ ts) ≡ false → move_within pairs d t ≡ extended_to d t (pairs_after 16 pairs t)
not_between [] d t ts h = let no = or-no (is_symbol 41 t) (is_symbol 44 t) h in rw (no.0, no.1) refl
not_between (b ∷ pairs) d t ts h = refl

pub part_goes : (i j : BracketContext) (xs ys : List Item) → is_between i xs ≡ false → part_at i xs ≡ Ok (j, ys) → (within i xs ≡ within j ys) × (length ys < length xs)
unfolding machine_at
part_goes i j [] ys h e = absurd cc
part_goes i j (t ∷ ts) ys h e =
    let L = led_goes i.builder t ts (pairs_after 16 i.pairs t) j ys e in
    let move : argument_move i t ≡ extended_to i.builder t (pairs_after 16 i.pairs t) = not_between i.pairs i.builder t ts h in
    (rw move (L.0 ∙ onto-nil (within j ys)), rw (← L.1) (omega arith))

pub part_stuck : (i : BracketContext) (xs rest : List Item) → is_between i xs ≡ false → part_at i xs ≡ Err rest → within i xs ≡ Err rest
unfolding machine_at
part_stuck i [] rest h e = cc
part_stuck i (t ∷ ts) rest h e =
    let move : argument_move i t ≡ extended_to i.builder t (pairs_after 16 i.pairs t) = not_between i.pairs i.builder t ts h in
    rw move (led_stuck i.builder t ts (pairs_after 16 i.pairs t) rest e)

-- ---- between arguments

-- a token is there, outside all pairs
record Between (i : BracketContext) (xs : List Item) : Type 0 where
  t : Item
  ts : List Item
  items : xs ≡ t ∷ ts
  after : after_token xs ≡ ts
  outside : i.pairs ≡ []
  stop : (is_symbol 41 t || is_symbol 44 t) ≡ true

no_pairs : (pairs : List Bracket) → (length pairs == 0) ≡ true → pairs ≡ []
no_pairs [] h = refl
no_pairs (b ∷ pairs) h = absurd (grind (arith, nat_tests))

between : (i : BracketContext) (xs : List Item) → is_between i xs ≡ true → Between i xs
between i [] h = absurd (let g = and-right (length i.pairs == 0) _ h in cc)
between i (lexeme x ∷ ts) h = record { t = lexeme x; ts = ts; items = refl; after = refl; outside = no_pairs i.pairs (and-left (length i.pairs == 0) _ h); stop = and-right (length i.pairs == 0) _ h }
between i (ending line ∷ ts) h = absurd (let g = and-right (length i.pairs == 0) _ h in cc)
between i (bad line ∷ ts) h = absurd (let g = and-right (length i.pairs == 0) _ h in cc)

stuck_by : (d : ArgumentBuilder) (t : Item) (a b : Bool) → is_symbol 41 t ≡ a → is_symbol 44 t ≡ b → (a || b) ≡ true → is_empty d ≡ true → move_within [] d t ≡ stuck
stuck_by d t true b h g e s = rw (h, s) refl
stuck_by d t false true h g e s = rw (h, g, s) refl
stuck_by d t false false h g e s = absurd cc

move_outside : (i : BracketContext) (t : Item) → i.pairs ≡ [] → argument_move i t ≡ move_within [] i.builder t
move_outside i t h = ap (λ (pairs : List Bracket). move_within pairs i.builder t) h

-- with an empty draft an argument begins there
pub emptied : (i : BracketContext) (xs : List Item) → is_between i xs ≡ true → record { pairs = i.pairs; builder = argument_builder.Empty } ≡ at_start
emptied i xs h = rw (between i xs h).outside refl

pub empty_stuck : (i : BracketContext) (xs : List Item) → is_between i xs ≡ true → is_empty i.builder ≡ true → within i xs ≡ Err xs
unfolding machine_at
empty_stuck i xs h e =
    let B = between i xs h in
    let move : argument_move i B.t ≡ stuck = move_outside i B.t B.outside ∙ stuck_by i.builder B.t (is_symbol 41 B.t) (is_symbol 44 B.t) refl refl B.stop e in
    subst (λ (ys : List Item). within i ys ≡ Err ys) (sym B.items) (rw move refl)

last_move : (d : ArgumentBuilder) (t : Item) → is_empty d ≡ false → is_symbol 41 t ≡ true → move_within [] d t ≡ ends (built_argument d ∷ [])
last_move d t e s = rw (s, e) refl

comma_move : (d : ArgumentBuilder) (t : Item) → is_empty d ≡ false → is_symbol 41 t ≡ false → (is_symbol 41 t || is_symbol 44 t) ≡ true → move_within [] d t ≡ goes at_start (built_argument d ∷ [])
comma_move d t e s h = let comma : is_symbol 44 t ≡ true = rw s at h in rw (s, comma, e) refl

pub last_ends : (i : BracketContext) (xs : List Item) → is_between i xs ≡ true → is_empty i.builder ≡ false → next_is (is_symbol 41) xs ≡ true → within i xs ≡ Ok (built_argument i.builder ∷ [], after_token xs)
unfolding machine_at
last_ends i xs h e s =
    let B = between i xs h in
    let closing : is_symbol 41 B.t ≡ true = subst (λ (ys : List Item). next_is (is_symbol 41) ys ≡ true) B.items s in
    let move : argument_move i B.t ≡ ends (built_argument i.builder ∷ []) = move_outside i B.t B.outside ∙ last_move i.builder B.t e closing in
    let here : within i (B.t ∷ B.ts) ≡ Ok (built_argument i.builder ∷ [], B.ts) = rw move refl in
    subst (λ (ys : List Item). within i ys ≡ Ok (built_argument i.builder ∷ [], B.ts)) (sym B.items) here ∙ ap (λ (ys : List Item). Ok (built_argument i.builder ∷ [], ys)) (sym B.after)

pub comma_parts : (i : BracketContext) (xs : List Item) → is_between i xs ≡ true → is_empty i.builder ≡ false → next_is (is_symbol 41) xs ≡ false → (within i xs ≡ onto (built_argument i.builder ∷ []) (within at_start (after_token xs))) × (length (after_token xs) < length xs)
unfolding machine_at
comma_parts i xs h e s =
    let B = between i xs h in
    let open_bracket : is_symbol 41 B.t ≡ false = subst (λ (ys : List Item). next_is (is_symbol 41) ys ≡ false) B.items s in
    let move : argument_move i B.t ≡ goes at_start (built_argument i.builder ∷ []) = move_outside i B.t B.outside ∙ comma_move i.builder B.t e open_bracket B.stop in
    let here : within i (B.t ∷ B.ts) ≡ onto (built_argument i.builder ∷ []) (within at_start B.ts) = rw move refl in
    let less : length B.ts < length xs = omega (arith, ap length B.items) in
    (subst (λ (ys : List Item). within i ys ≡ onto (built_argument i.builder ∷ []) (within at_start B.ts)) (sym B.items) here ∙ ap (λ (ys : List Item). onto (built_argument i.builder ∷ []) (within at_start ys)) (sym B.after), subst (λ (ys : List Item). length ys < length xs) (sym B.after) less)

-- ---- all arguments

pub no_arguments : (xs : List Item) → next_is (is_symbol 41) xs ≡ true → arguments_at xs ≡ Ok ([], after_token xs)
unfolding arguments_at
no_arguments [] h = absurd cc
no_arguments (lexeme x ∷ ts) h = rw h refl
no_arguments (ending line ∷ ts) h = absurd cc
no_arguments (bad line ∷ ts) h = absurd cc

pub some_arguments : (xs : List Item) → next_is (is_symbol 41) xs ≡ false → arguments_at xs ≡ within at_start xs
unfolding arguments_at
some_arguments xs h = rw h refl
