-- The script that a text is read as.
use Rattle.std.specs.Prelude.{ℕ, zero, suc, Bool, List, [], ◌∷◌, ◌++◌, Some, None, Ok, Err, if◌then◌else◌}
use Rattle.pd_lex.specs.Tokens.{Item}
use Rattle.pd_lex.specs.Lexing.{items}
use Rattle.pd_lex.specs.declared.token.Place.{Place}
use Rattle.pd_lex.specs.Places.{first_place}
use Rattle.pd_script.specs.Items.{is_header, is_end, starts_event, starts_event_or_end, next_is}
use Rattle.pd_script.specs.Header.{HeaderView, header_item, place_after_item}
use Rattle.pd_script.specs.Reader.{Read}
use Rattle.pd_script.specs.EventReading.{next_line, event_at}
use Rattle.pd_script.specs.declared.script_header.HeaderItem.{HeaderItem}
use Rattle.pd_script.specs.declared.script_events.Event.{Event}
use Rattle.pd_script.specs.declared.parsed.EventsAndFault.{EventsAndFault}
use Rattle.pd_script.specs.declared.parsed.Parsed.{Parsed}

-- the options and commands that the items begin with
abbrev pub header_of : List Item → List HeaderItem
header_of [] = []
header_of (t ∷ ts) = if is_header t then header_item t ∷ header_of ts else []

-- the items after them
abbrev pub after_header : List Item → List Item
after_header [] = []
after_header (t ∷ ts) = if is_header t then after_header ts else t ∷ ts

-- the place after them, or this place where there are none
abbrev pub header_end : Place → List Item → Place
header_end place [] = place
header_end place (t ∷ ts) = if is_header t then header_end (place_after_item place t) ts else place

-- the header of a text's items
abbrev pub header_in : List Item → HeaderView
header_in ts = record { items = header_of ts; end = header_end first_place ts }

-- the item that may follow an event when there may be so many more
abbrev pub may_follow : ℕ → Item → Bool
may_follow zero = is_end
may_follow (suc n) = starts_event_or_end

-- an event, if what follows it may
abbrev pub followed : {A : Type 0} → (Item → Bool) → Read A → Read A
followed test (Ok x) = if next_is test x.1 then Ok x else Err x.1
followed test (Err rest) = Err rest

-- events in front of those that are found further on
abbrev pub in_front : List Event → EventsAndFault → EventsAndFault
in_front es found = record { events = es ++ found.events; fault = found.fault }

-- an event that was read, in front of those that are found further on; or the line of the fault
abbrev pub with_event : (List Item → EventsAndFault) → Read Event → EventsAndFault
with_event others (Ok x) = in_front (x.0 ∷ []) (others x.1)
with_event others (Err rest) = record { events = []; fault = Some (next_line rest) }

-- no event: a fault where the text doesn't end there
abbrev pub at_end : List Item → EventsAndFault
at_end ts = record { events = []; fault = if next_is is_end ts then None else Some (next_line ts) }

-- the events of the items, at most so many, each kept where what follows it may
unfoldable pub found_in : ℕ → List Item → EventsAndFault
found_in zero ts = at_end ts
found_in (suc n) ts = if next_is starts_event ts then with_event (found_in n) (followed (may_follow n) (event_at ts)) else at_end ts

-- the script that the items of a text are read as: a header, and at most 4,096 events
unfoldable pub script_in : List Item → Parsed
script_in ts =
    let found = found_in 4096 (after_header ts) in
    record { header = header_in ts; events = found.events; fault = found.fault }

-- the script that a text is read as
unfoldable pub script_of : List (List ℕ) → Parsed
script_of lines = script_in (items lines first_place)
