-- One event after the other.
use Rattle.std.specs.Prelude.{◌≡◌, ℕ, suc, true, List, [], ◌∷◌, ◌++◌, drop}
use Rattle.pd_lex.specs.Tokens.{Item}
use Rattle.pd_script.specs.Items.{is_end, next_is}
use Rattle.pd_reparse.specs.declared.reparse.ReadStep.{ReadStep}
use Rattle.pd_reparse.specs.declared.reparse.ReadStep.TheVariants.{Goes, Stops}
use Rattle.pd_reparse.specs.Reading.{parsed_events_in, ReadingView, ParsedEventsAndFault, events_of}
use Rattle.pd_script.specs.Header.{HeaderView}
use Rattle.pd_script.specs.declared.script_events.Event.{Event}
use Rattle.pd_reparse.specs.declared.parsed_event.ParsedEvent.{ParsedEvent}

-- and without the first so many
abbrev pub events_after : ℕ → List ParsedEvent → List Event
events_after n ds = events_of (drop n ds)

-- events in front of those that are found further on
abbrev pub in_front : List ParsedEvent → ParsedEventsAndFault → ParsedEventsAndFault
in_front ds found = record { events = ds ++ found.events; fault = found.fault }

-- a header, some events, and after them those of the items, at most so many
abbrev pub IsReadOn : ReadingView → HeaderView → List ParsedEvent → ℕ → List Item → Type 0
IsReadOn r header front more ts = r ≡ record { header = header; events = front ++ (parsed_events_in more ts).events; fault = (parsed_events_in more ts).fault }

-- the first event of the items, where so many more may follow it, and the others in what is left; or none
abbrev pub IsStep : List Item → List Item → ℕ → ParsedEvent → ReadStep → Type 0
IsStep rest ts more d Goes = (parsed_events_in (suc more) ts ≡ in_front (d ∷ []) (parsed_events_in more rest)) × (more ≡ 0 → next_is is_end rest ≡ true)
IsStep rest ts more d (Stops fault) = parsed_events_in (suc more) ts ≡ record { events = []; fault = fault }
