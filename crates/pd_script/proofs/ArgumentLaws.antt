-- The law of the arguments of a call.
use Rattle.std.proofs.Common.{◌≡◌, ℕ, Bool, true, false, cond, List, [], ◌∷◌, ◌++◌, refl, ◌∙◌}
use Rattle.std.specs.Prelude.{not}
use Rattle.std.specs.List.{list_all}
use Rattle.pd_lex.specs.declared.token.TokenKind.{TokenKind}
use Rattle.pd_lex.specs.declared.token.TokenKind.TheVariants as kinds
use Rattle.pd_lex.specs.Places.{first_place}
use Rattle.pd_lex.specs.Tokens.{Item, lexeme, line_of}
use Rattle.pd_script.specs.Items.{is_symbol, is_int_of_any_size, is_word}
use Rattle.pd_script.specs.Reader.{onto, machine_at, done, one}
use Rattle.pd_script.specs.TokenReading.{symbol_at}
use Rattle.pd_script.specs.EventReading.{arguments_at, no_arguments_at}
use Rattle.pd_script.specs.declared.argument_builder.BracketContext.{BracketContext}
use Rattle.pd_script.proofs.Plain.{is_plain}
use Rattle.pd_script.specs.declared.calls.Argument.{Argument}
use Rattle.pd_script.specs.declared.brackets.Bracket.{Bracket}
use Rattle.pd_script.specs.declared.brackets.Bracket.TheVariants as brackets
use Rattle.pd_script.specs.declared.argument_builder.ArgumentBuilder.{ArgumentBuilder}
use Rattle.pd_script.specs.declared.argument_builder.ArgumentBuilder.TheVariants as argument_builder
use Rattle.pd_script.proofs.Laws.{Laws, Laws-one, Laws-done, Laws-bind, Laws-when, Full, Stops, any, ok}
use Rattle.pd_script.proofs.Machines.{Laws-machine}
use Rattle.pd_script.proofs.Apart.{not-true, not-false}
use Rattle.pd_script.specs.ArgumentReading.{at_start, argument_move, extended_builder, built_argument, is_empty}

abbrev pub a_token : TokenKind → List ℕ → Item
a_token kind text = lexeme (record { kind = kind; text = text; from = first_place })

abbrev pub closer : Bracket → Item
closer brackets.Round = a_token kinds.Symbol (41 ∷ [])
closer brackets.Square = a_token kinds.Symbol (93 ∷ [])
closer brackets.Curly = a_token kinds.Symbol (125 ∷ [])

abbrev pub a_word : Item
a_word = a_token kinds.Word (97 ∷ [])

-- the pairs that are open are closed, and then the call's own
unfoldable pub closing : List Bracket → List Item
closing [] = closer brackets.Round ∷ []
closing (b ∷ pairs) = closer b ∷ closing pairs

-- what the argument is then
at_close : List Bracket → ArgumentBuilder → ArgumentBuilder
at_close [] d = d
at_close (b ∷ pairs) d = at_close pairs (extended_builder d (closer b))

one_of : (b : Bool) (x y : ArgumentBuilder) → is_empty x ≡ false → is_empty y ≡ false → is_empty (cond b x y) ≡ false
one_of true x y h g = h
one_of false x y h g = g

pub is_empty-extended_builder : (d : ArgumentBuilder) (t : Item) → is_empty (extended_builder d t) ≡ false
is_empty-extended_builder argument_builder.Empty t = one_of (is_int_of_any_size t) _ _ refl (one_of (is_word t) _ _ refl (one_of (is_symbol 91 t) _ _ refl refl))
is_empty-extended_builder (argument_builder.Single a) t = refl
is_empty-extended_builder argument_builder.Opened t = one_of (is_int_of_any_size t) _ _ refl refl
is_empty-extended_builder (argument_builder.Numbered n) t = one_of (is_symbol 93 t) _ _ refl refl
is_empty-extended_builder (argument_builder.Element n) t = refl
is_empty-extended_builder argument_builder.Mixed t = refl

abbrev state : List Bracket → ArgumentBuilder → BracketContext
state pairs d = record { pairs = pairs; builder = d }

closes : (pairs : List Bracket) (d : ArgumentBuilder) (tail : List Item) → is_empty d ≡ false → machine_at argument_move (state pairs d) (closing pairs ++ tail) ≡ ok (built_argument (at_close pairs d) ∷ []) tail
unfolding machine_at closing at_close
closes [] d tail h = rw h refl
closes (brackets.Round ∷ pairs) d tail h = rw (closes pairs (extended_builder d (closer brackets.Round)) tail (is_empty-extended_builder d (closer brackets.Round))) refl
closes (brackets.Square ∷ pairs) d tail h = rw (closes pairs (extended_builder d (closer brackets.Square)) tail (is_empty-extended_builder d (closer brackets.Square))) refl
closes (brackets.Curly ∷ pairs) d tail h = rw (closes pairs (extended_builder d (closer brackets.Curly)) tail (is_empty-extended_builder d (closer brackets.Curly))) refl

pub plain_closing : (pairs : List Bracket) → list_all is_plain (closing pairs) ≡ true
unfolding closing
plain_closing [] = refl
plain_closing (brackets.Round ∷ pairs) = plain_closing pairs
plain_closing (brackets.Square ∷ pairs) = plain_closing pairs
plain_closing (brackets.Curly ∷ pairs) = plain_closing pairs

goes_on_by_word : (pairs : List Bracket) (d : ArgumentBuilder) (ts : List Item) → machine_at argument_move (state pairs d) (a_word ∷ ts) ≡ onto [] (machine_at argument_move (state pairs (extended_builder d a_word)) ts)
unfolding machine_at
goes_on_by_word [] d ts = refl
goes_on_by_word (b ∷ pairs) d ts = refl

full_within : (s : BracketContext) → Full (machine_at argument_move s) any []
full_within s =
    let d = extended_builder s.builder a_word in
    record {
      more = a_word ∷ closing s.pairs;
      value = built_argument (at_close s.pairs d) ∷ [];
      spelled = plain_closing s.pairs;
      reads = λ tail h. goes_on_by_word s.pairs s.builder (closing s.pairs ++ tail) ∙ rw (closes s.pairs d tail (is_empty-extended_builder s.builder a_word)) refl;
    }

-- arguments don't begin with the bracket that ends them
begins_within : (ts : List Item) (v : List Argument) (rest : List Item) → machine_at argument_move at_start ts ≡ ok v rest → Stops (λ t. not (is_symbol 41 t)) ts
unfolding machine_at
begins_within [] v rest e = tt
begins_within (t ∷ ts) v rest e = by_test (is_symbol 41 t) refl
  where
    by_test : (b : Bool) → is_symbol 41 t ≡ b → not (is_symbol 41 t) ≡ true
    by_test true h = absurd (let stuck_there = rw h at e in cc)
    by_test false h = not-false (is_symbol 41 t) h

pub Laws-arguments : Laws arguments_at any any
unfolding arguments_at
Laws-arguments =
    let within : Laws (machine_at argument_move at_start) (λ t. not (is_symbol 41 t)) any = (let l = Laws-machine argument_move full_within at_start in record { took = l.took; failed = l.failed; full = l.full; begins = λ ts v rest e h. begins_within ts v rest e }) in
    Laws-when (is_symbol 41) no_arguments_at (machine_at argument_move at_start) (is_symbol 41) (λ t. not (is_symbol 41 t)) any any
    (Laws-bind (symbol_at 41) (λ line. done []) (is_symbol 41) any any any
    (Laws-bind (one (is_symbol 41)) (λ t. done (line_of t)) (is_symbol 41) any any any (Laws-one (is_symbol 41) (closer brackets.Round) refl refl) (λ t. Laws-done (line_of t) any) (λ t h. refl))
    (λ line. Laws-done [] any)
    (λ t h. refl))
    within
    (λ t h. h)
    (λ t h. not-true (is_symbol 41 t) h)
    (λ v rest e. absurd cc)
    (λ t h. refl)
    (λ t h. refl)
