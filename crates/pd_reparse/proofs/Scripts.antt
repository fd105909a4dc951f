-- A reading without what decided its events is the script.
use Rattle.std.proofs.Common.{◌≡◌, ℕ, zero, suc, Bool, true, false, cond, List, ◌∷◌, Ok, Err, refl, ap}
use Rattle.pd_lex.specs.Places.{first_place}
use Rattle.pd_lex.specs.Tokens.{Item}
use Rattle.pd_lex.specs.Lexing.{items}
use Rattle.pd_script.specs.Items.{starts_event, next_is}
use Rattle.pd_script.specs.Reader.{Read}
use Rattle.pd_script.specs.EventReading.{event_at}
use Rattle.pd_script.specs.Script.{found_in, followed, may_follow, with_event, at_end, script_in, script_of, after_header}
use Rattle.pd_script.specs.declared.script_events.Event.{Event}
use Rattle.pd_script.specs.declared.parsed.EventsAndFault.{EventsAndFault}
use Rattle.pd_reparse.specs.Reading.{ParsedEventsAndFault, with_parsed_event, no_parsed_event, parsed_events_in, reading_in, reading_of, events_of, script_part}

-- the same events and fault
record IsPart (found : EventsAndFault) (parsed_event : ParsedEventsAndFault) : Type 0 where
  events : events_of parsed_event.events ≡ found.events
  fault : parsed_event.fault ≡ found.fault

by_read : (n : ℕ) (r : Read Event) → ((ts : List Item) → IsPart (found_in n ts) (parsed_events_in n ts)) → IsPart (with_event (found_in n) r) (with_parsed_event (parsed_events_in n) r)
by_read n (Ok x) ih = record { events = ap (λ (es : List Event). x.0 ∷ es) (ih x.1).events; fault = (ih x.1).fault }
by_read n (Err rest) ih = record { events = refl; fault = refl }

by_test : (n : ℕ) (ts : List Item) (b : Bool) → ((us : List Item) → IsPart (found_in n us) (parsed_events_in n us)) → IsPart (cond b (with_event (found_in n) (followed (may_follow n) (event_at ts))) (at_end ts)) (cond b (with_parsed_event (parsed_events_in n) (followed (may_follow n) (event_at ts))) (no_parsed_event ts))
by_test n ts true ih = by_read n (followed (may_follow n) (event_at ts)) ih
by_test n ts false ih = record { events = refl; fault = refl }

part : (n : ℕ) (ts : List Item) → IsPart (found_in n ts) (parsed_events_in n ts)
unfolding found_in parsed_events_in
part zero ts = record { events = refl; fault = refl }
part (suc n) ts = by_test n ts (next_is starts_event ts) (part n)

pub reading_is_script : (lines : List (List ℕ)) → script_part (reading_of lines) ≡ script_of lines
unfolding reading_of reading_in script_of script_in
reading_is_script lines =
    let P = part 4096 (after_header (items lines first_place)) in
    rw (P.events, P.fault) refl
