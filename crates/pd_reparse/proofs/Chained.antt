-- The events of a reading come one after the other.
use Rattle.std.proofs.Common.{◌≡◌, ℕ, zero, suc, Bool, true, false, cond, List, [], ◌∷◌, ◌++◌, Ok, Err, refl, sym, subst, ◌∙◌}
use Rattle.pd_text.specs.Text.{AreLines}
use Rattle.pd_lex.specs.declared.token.Place.{Place}
use Rattle.pd_lex.specs.Places.{first_place}
use Rattle.pd_lex.specs.Tokens.{Item}
use Rattle.pd_lex.specs.Lexing.{items}
use Rattle.pd_script.specs.declared.event_reader.NextEvent.TheVariants.{Got}
use Rattle.pd_script.specs.declared.script_events.Event.{Event}
use Rattle.pd_script.specs.Items.{starts_event, is_end, starts_event_or_end, next_is}
use Rattle.pd_script.specs.Laws.{ItemsStandThere}
use Rattle.pd_script.specs.Next.{place_of_next_token_or_end, lookahead_line_of, IsNextEvent}
use Rattle.pd_script.specs.Reader.{Read}
use Rattle.pd_script.specs.EventReading.{event_at}
use Rattle.pd_script.specs.Script.{followed, may_follow, after_header}
use Rattle.pd_script.proofs.Apart.{or-left, or-right}
use Rattle.pd_script.proofs.GrammarLaws.{Reads-event}
use Rattle.pd_script.proofs.Laws.{ok}
use Rattle.pd_reparse.specs.declared.parsed_event.ParsedEvent.{ParsedEvent}
use Rattle.pd_reparse.specs.Laws.{AreChained, place_of_events, EventsAreChained}
use Rattle.pd_reparse.specs.Reading.{with_parsed_event, no_parsed_event, parsed_events_in}
use Rattle.pd_reparse.proofs.First.{header_parts}
use Rattle.pd_reparse.proofs.ReadOn.{events_were}

-- what may follow an event is another event or the end
on_after : (n : ℕ) (rest : List Item) → next_is (may_follow n) rest ≡ true → next_is starts_event_or_end rest ≡ true
on_after n [] h = absurd cc
on_after zero (t ∷ rest) h = or-right (starts_event t) (is_end t) h
on_after (suc n) (t ∷ rest) h = h

module _ (law : ItemsStandThere) (lines : List (List ℕ)) (plain : AreLines lines) where
  stand : (p : Place) (front rest : List Item) → items lines p ≡ front ++ rest → next_is starts_event_or_end rest ≡ true → items lines (place_of_next_token_or_end rest) ≡ rest
  stand p front [] e h = absurd cc
  stand p front (t ∷ rest) e h = law lines p front t rest plain e h

  none : (place : Place) → AreChained lines place []
  unfolding AreChained
  none place = tt

  -- an event, and those that are found from the token after it on
  one : (place after : Place) (rest : List Item) (e : Event) (ds : List ParsedEvent) → IsNextEvent lines place (Got e after (lookahead_line_of rest)) → AreChained lines after ds → AreChained lines place (record { event = e; lookahead_line = lookahead_line_of rest; after = after } ∷ ds)
  unfolding AreChained
  one place after rest e ds is others = (is, others)

  -- what is found among these items, if they begin an event and are at the place, is chained from there on
  IsChained : ℕ → Place → List Item → Type 0
  IsChained n place ts = (next_is starts_event ts ≡ true → items lines place ≡ ts) → AreChained lines place (parsed_events_in n ts).events

  by_follow : (n : ℕ) → ((p : Place) (us : List Item) → IsChained n p us) → (place : Place) (ts : List Item) (e : Event) (rest : List Item) → event_at ts ≡ ok e rest → items lines place ≡ ts → (b : Bool) → next_is (may_follow n) rest ≡ b → AreChained lines place (with_parsed_event (parsed_events_in n) (cond b (Ok (e, rest)) (Err rest))).events
  unfolding IsChained
  by_follow n ih place ts e rest read there false h = none place
  by_follow n ih place ts e rest read there true h =
      let on = on_after n rest h in
      let T = Reads-event.laws.took ts e rest read in
      let after : items lines (place_of_next_token_or_end rest) ≡ rest = stand place T.front rest (there ∙ T.parts) on in
      let is : IsNextEvent lines place (Got e (place_of_next_token_or_end rest) (lookahead_line_of rest)) = rw (there, after) (Reads-event.sound ts e rest read, on, refl) in
      one place (place_of_next_token_or_end rest) rest e (parsed_events_in n rest).events is (ih (place_of_next_token_or_end rest) rest (λ s. after))

  by_read : (n : ℕ) → ((p : Place) (us : List Item) → IsChained n p us) → (place : Place) (ts : List Item) → items lines place ≡ ts → (r : Read Event) → event_at ts ≡ r → AreChained lines place (with_parsed_event (parsed_events_in n) (followed (may_follow n) r)).events
  by_read n ih place ts there (Err rest) h = none place
  by_read n ih place ts there (Ok x) h = by_follow n ih place ts x.0 x.1 h there (next_is (may_follow n) x.1) refl

  by_start : (n : ℕ) → ((p : Place) (us : List Item) → IsChained n p us) → (place : Place) (ts : List Item) → (next_is starts_event ts ≡ true → items lines place ≡ ts) → (b : Bool) → next_is starts_event ts ≡ b → AreChained lines place (cond b (with_parsed_event (parsed_events_in n) (followed (may_follow n) (event_at ts))) (no_parsed_event ts)).events
  by_start n ih place ts at true h = by_read n ih place ts (at h) (event_at ts) refl
  by_start n ih place ts at false h = none place

  chained : (n : ℕ) (place : Place) (ts : List Item) → IsChained n place ts
  unfolding parsed_events_in IsChained
  chained zero place ts = λ at. none place
  chained (suc n) place ts = λ at. by_start n (chained n) place ts at (next_is starts_event ts) refl

pub are_chained : ItemsStandThere → EventsAreChained
unfolding IsChained
are_chained law lines plain =
    let all = items lines first_place in
    let H = header_parts all in
    let found = chained law lines plain 4096 (place_of_events lines) (after_header all) (λ s. stand law lines plain first_place H.front (after_header all) H.parts (starts_on (after_header all) s)) in
    subst (λ (ds : List ParsedEvent). AreChained lines (place_of_events lines) ds) (sym (events_were lines)) found
  where
    starts_on : (ts : List Item) → next_is starts_event ts ≡ true → next_is starts_event_or_end ts ≡ true
    starts_on [] s = absurd cc
    starts_on (t ∷ ts) s = or-left (starts_event t) (is_end t) s
