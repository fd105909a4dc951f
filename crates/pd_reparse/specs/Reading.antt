-- The reading of a text: its script, and which line decides each event.
use Rattle.std.specs.Prelude.{◌≡◌, ℕ, zero, suc, ◌≤◌, nat_le, Bool, false, List, [], ◌∷◌, take, length, map, count_by, Option, Some, None, Ok, Err, if◌then◌else◌}
use Rattle.pd_text.specs.Text.{AreLines}
use Rattle.pd_lex.specs.declared.token.Place.{Place}
use Rattle.pd_lex.specs.Places.{first_place}
use Rattle.pd_lex.specs.Tokens.{Item}
use Rattle.pd_lex.specs.Lexing.{items}
use Rattle.pd_script.specs.Items.{starts_event, next_is}
use Rattle.pd_script.specs.Reader.{Read}
use Rattle.pd_script.specs.EventReading.{next_line, event_at}
use Rattle.pd_script.specs.Script.{followed, may_follow, at_end, header_in, after_header}
use Rattle.pd_script.specs.Header.{HeaderView}
use Rattle.pd_script.specs.Next.{place_of_next_token_or_end, lookahead_line_of}
use Rattle.pd_script.specs.declared.script_events.Event.{Event}
use Rattle.pd_script.specs.declared.parsed.Parsed.{Parsed}
use Rattle.pd_reparse.specs.declared.parsed_event.ParsedEvent.{ParsedEvent}

-- a header, events with what decided them, and the line of the fault
pub record ReadingView : Type 0 where
  pub header : HeaderView
  pub events : List ParsedEvent
  pub fault : Option ℕ

-- the events among them, and the line of the fault
pub record ParsedEventsAndFault : Type 0 where
  pub events : List ParsedEvent
  pub fault : Option ℕ

-- an event that these items follow: the line of the first decided it, and there reading goes on
abbrev pub parsed_event : Event → List Item → ParsedEvent
parsed_event event rest = record { event = event; lookahead_line = lookahead_line_of rest; after = place_of_next_token_or_end rest }

-- an event that was read and what decided it, in front of those that are found further on; or the line of the fault
abbrev pub with_parsed_event : (List Item → ParsedEventsAndFault) → Read Event → ParsedEventsAndFault
with_parsed_event others (Ok x) = record { events = parsed_event x.0 x.1 ∷ (others x.1).events; fault = (others x.1).fault }
with_parsed_event others (Err rest) = record { events = []; fault = Some (next_line rest) }

-- no event: a fault where the text doesn't end there
abbrev pub no_parsed_event : List Item → ParsedEventsAndFault
no_parsed_event ts = record { events = []; fault = (at_end ts).fault }

-- the events of the items, at most so many, each kept where what follows it may, with what decided it
unfoldable pub parsed_events_in : ℕ → List Item → ParsedEventsAndFault
parsed_events_in zero ts = no_parsed_event ts
parsed_events_in (suc n) ts = if next_is starts_event ts then with_parsed_event (parsed_events_in n) (followed (may_follow n) (event_at ts)) else no_parsed_event ts

-- the reading of the items of a text: a header, and at most 4,096 events
unfoldable pub reading_in : List Item → ReadingView
reading_in ts =
    let found = parsed_events_in 4096 (after_header ts) in
    record { header = header_in ts; events = found.events; fault = found.fault }

-- the reading of a text
unfoldable pub reading_of : List (List ℕ) → ReadingView
reading_of lines = reading_in (items lines first_place)

-- the events alone
abbrev pub events_of : List ParsedEvent → List Event
events_of ds = map (λ (d : ParsedEvent). d.event) ds

-- a reading without what decided its events
abbrev pub script_part : ReadingView → Parsed
script_part r = record { header = r.header; events = events_of r.events; fault = r.fault }

-- the place after some events that begin at a place
abbrev pub last_place : Place → List ParsedEvent → Place
last_place place [] = place
last_place place (d ∷ ds) = last_place d.after ds

-- a line at or below the first so many; no line is none of them
abbrev pub is_decided_within_first_lines : ℕ → Option ℕ → Bool
is_decided_within_first_lines same None = false
is_decided_within_first_lines same (Some line) = nat_le line same

-- where an event isn't decided by some first lines, none after it is
abbrev pub ReachesRise : List ParsedEvent → Type 0
ReachesRise [] = Unit {0}
ReachesRise (d ∷ ds) = ((same : ℕ) → is_decided_within_first_lines same d.lookahead_line ≡ false → count_by (λ (e : ParsedEvent). is_decided_within_first_lines same e.lookahead_line) ds ≡ 0) × ReachesRise ds

-- how many events the first lines of a text decide
unfoldable pub kept_of : ℕ → ReadingView → ℕ
kept_of same r = count_by (λ (d : ParsedEvent). is_decided_within_first_lines same d.lookahead_line) r.events

-- the reading is that of some text whose first lines are those of this one
pub record IsReadingOfFirst (same : ℕ) (lines : List (List ℕ)) (r : ReadingView) : Type 0 where
  pub text : List (List ℕ)
  pub plain : AreLines text
  pub read : r ≡ reading_of text
  pub within : same ≤ length text
  pub equal : take same text ≡ take same lines
