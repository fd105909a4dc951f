-- The steps of the loop over events.
use Rattle.std.proofs.Common.{◌≡◌, ℕ, ◌+◌, Bool, true, false, cond, List, [], ◌∷◌, ◌++◌, length, is_some, Option, Some, None, Ok, refl, sym, ap, ◌∙◌, arith}
use Rattle.std.proofs.lemmas.List.{length-append}
use Rattle.pd_lex.specs.declared.token.Place.{Place}
use Rattle.pd_lex.specs.Tokens.{Item}
use Rattle.pd_script.specs.declared.script_events.Event.{Event}
use Rattle.pd_script.specs.declared.event_reader.NextEvent.TheVariants.{Got, End, Fault}
use Rattle.pd_script.specs.Items.{is_end, starts_event, starts_event_or_end, next_is}
use Rattle.pd_script.specs.EventReading.{next_line, event_at}
use Rattle.pd_script.specs.Script.{followed, at_end, in_front}
use Rattle.pd_script.specs.declared.parsed.EventsAndFault.{EventsAndFault}
use Rattle.pd_script.specs.Next.{place_of_next_token_or_end, lookahead_line_of, next_in}
use Rattle.pd_script.proofs.Finding.{in_front-append, in_front-none}

-- an event that no token follows is before the end
pub got_ends : (ts : List Item) (e : Event) (after : Place) (lookahead_line : Option ℕ) (rest : List Item) → Got e after lookahead_line ≡ next_in ts → followed starts_event_or_end (event_at ts) ≡ Ok (e, rest) → is_some lookahead_line ≡ false → next_is is_end rest ≡ true
unfolding next_in
got_ends ts e after lookahead_line rest h g none = by_test (next_is starts_event ts) refl
  where
    no_reach : (b : Bool) → next_is is_end rest ≡ b → lookahead_line ≡ cond b None (Some (next_line rest)) → next_is is_end rest ≡ true
    no_reach true t r = t
    no_reach false t r = absurd (let some : true ≡ false = sym (ap is_some r) ∙ none in cc)

    by_end : (b : Bool) → Got e after lookahead_line ≡ cond b End (Fault (next_line ts)) → ⊥
    by_end true k = cc
    by_end false k = cc

    by_test : (b : Bool) → next_is starts_event ts ≡ b → next_is is_end rest ≡ true
    by_test true start =
        let made : Got e after lookahead_line ≡ Got e (place_of_next_token_or_end rest) (lookahead_line_of rest) = rw (start, g) at h in
        no_reach (next_is is_end rest) refl cc
    by_test false start = absurd (by_end (next_is is_end ts) (rw start at h))

-- after the last event that a script may have stands its end
pub none_left : (ts : List Item) → next_is is_end ts ≡ true → at_end ts ≡ record { events = []; fault = None }
none_left ts h = rw h refl

-- reading stops after some events
pub stops : (es : List Event) (f g : EventsAndFault) (fault : Option ℕ) → in_front es f ≡ g → f ≡ record { events = []; fault = fault } → g ≡ record { events = es; fault = fault }
stops es f g fault h e = sym h ∙ ap (λ (x : EventsAndFault). in_front es x) e ∙ in_front-none es fault

-- reading goes on with one event more
pub goes_further : (ds es : List Event) (e : Event) (f g h : EventsAndFault) → es ≡ ds ++ e ∷ [] → in_front ds f ≡ g → f ≡ in_front (e ∷ []) h → in_front es h ≡ g
goes_further ds es e f g h q i next =
    ap (λ (list : List Event). in_front list h) q
    ∙ in_front-append ds e h ∙ ap (λ (x : EventsAndFault). in_front ds x) (sym next) ∙ i

pub one_longer : (ds es : List Event) (e : Event) (i : ℕ) → es ≡ ds ++ e ∷ [] → length ds ≡ i → length es ≡ i + 1
one_longer ds es e i q l = omega (arith, ap length q, length-append ds (e ∷ []), l)
