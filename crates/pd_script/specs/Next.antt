-- The next event from a place of a text on.
use Rattle.std.specs.Prelude.{◌≡◌, ℕ, ◌+◌, true, false, List, [], ◌∷◌, ◌++◌, Option, Some, None, Ok, Err, if◌then◌else◌}
use Rattle.pd_lex.specs.declared.token.Place.{Place}
use Rattle.pd_lex.specs.Places.{first_place}
use Rattle.pd_lex.specs.Tokens.{Item, lexeme, ending, bad, line_of}
use Rattle.pd_lex.specs.Lexing.{items}
use Rattle.pd_script.specs.declared.event_reader.NextEvent.{NextEvent}
use Rattle.pd_script.specs.declared.event_reader.NextEvent.TheVariants.{Got, End, Fault}
use Rattle.pd_script.specs.declared.event_reader.NextEventStatus.{NextEventStatus}
use Rattle.pd_script.specs.declared.event_reader.NextEventStatus.TheVariants as places
use Rattle.pd_script.specs.declared.script_events.Event.{Event}
use Rattle.pd_script.specs.Items.{is_end, starts_event, starts_event_or_end, next_is}
use Rattle.pd_script.specs.Grammar.{IsEvent}
use Rattle.pd_script.specs.Reader.{Read}
use Rattle.pd_script.specs.EventReading.{next_line, event_at}
use Rattle.pd_script.specs.Script.{followed}

-- where an item stands: a token at its first octet, the end of a text after its last line
abbrev pub place_of : Item → Place
place_of (lexeme x) = x.from
place_of (ending line) = record { line = line + 1; at = 0 }
place_of (bad line) = record { line = line; at = 0 }

-- where the next item stands; without one the text's first place
abbrev pub place_of_next_token_or_end : List Item → Place
place_of_next_token_or_end [] = first_place
place_of_next_token_or_end (t ∷ ts) = place_of t

-- the line of the token that decides what is before it; none where the text ends there
abbrev pub lookahead_line_of : List Item → Option ℕ
lookahead_line_of ts = if next_is is_end ts then None else Some (next_line ts)

-- an event that was read, and where the item after it stands
abbrev pub got : Read Event → NextEvent
got (Ok x) = Got x.0 (place_of_next_token_or_end x.1) (lookahead_line_of x.1)
got (Err rest) = Fault (next_line rest)

-- the next item, where its event is in a place of its own
abbrev pub with_event : Event → NextEventStatus → NextEvent
with_event event (places.After after lookahead_line) = Got event after lookahead_line
with_event event places.End = End
with_event event (places.Fault line) = Fault line

-- the next event of the items, if an event or the end follows it
unfoldable pub next_in : List Item → NextEvent
next_in ts =
    if next_is starts_event ts then got (followed starts_event_or_end (event_at ts))
    else if next_is is_end ts then End
    else Fault (next_line ts)

-- after an event stands what is left of it, from the place after it on
abbrev pub GoesOn : List (List ℕ) → Place → NextEvent → Type 0
GoesOn lines place (Got event after lookahead_line) = event_at (items lines place) ≡ Ok (event, items lines after)
GoesOn lines place End = Unit {0}
GoesOn lines place (Fault line) = Unit {0}

-- the first item at which no event goes on that another one or the end follows: what is before it begins one, and
-- with it nothing does
pub record IsEventFault (front : List Item) (t : Item) : Type 0 where
  pub more : List Item
  pub event : Event
  pub after : List Item
  pub before : IsEvent event (front ++ more) after
  pub follows : next_is starts_event_or_end after ≡ true
  pub none : (others : List Item) (other : Event) (rest : List Item) → IsEvent other (front ++ t ∷ others) rest → next_is starts_event_or_end rest ≡ false

-- the next event from a place on, by the grammar: it is spelled by the items up to the place after it, there an
-- event or the end stands, and its reach is the line of that; or the end is there; or a fault
abbrev pub IsNextEvent : List (List ℕ) → Place → NextEvent → Type 0
IsNextEvent lines place (Got event after lookahead_line) = IsEvent event (items lines place) (items lines after) × (next_is starts_event_or_end (items lines after) ≡ true) × (lookahead_line ≡ lookahead_line_of (items lines after))
IsNextEvent lines place End = next_is is_end (items lines place) ≡ true
IsNextEvent lines place (Fault line) = (front : List Item) × (t : Item) × (rest : List Item) × (items lines place ≡ front ++ t ∷ rest) × (line ≡ line_of t) × IsEventFault front t × (next_is is_end (items lines place) ≡ false)

-- the rest after an event that was read
abbrev pub LeavesNext : NextEvent → List Item → List Item → Type 0
LeavesNext (Got event after lookahead_line) rest ts = followed starts_event_or_end (event_at ts) ≡ Ok (event, rest)
LeavesNext End rest ts = Unit {0}
LeavesNext (Fault line) rest ts = Unit {0}
