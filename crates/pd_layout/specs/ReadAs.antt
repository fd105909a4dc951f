-- When a text is read as a script.
use Rattle.std.specs.Prelude.{◌≡◌, ℕ, List, map, None}
use Rattle.pd_script.specs.Script.{script_of}
use Rattle.pd_script.specs.declared.parsed.Parsed.{Parsed}
use Rattle.pd_script.specs.declared.script_events.Event.{Event}
use Rattle.pd_script.specs.declared.script_header.HeaderItem.{HeaderItem}
use Rattle.pd_script.specs.declared.script_header.HeaderKind.{HeaderKind}

-- an event, whatever its line
abbrev pub without_line : Event → Event
without_line e = record e { line = 0 }

-- events are the same but for their lines
abbrev pub AreSameEvents : List Event → List Event → Type 0
AreSameEvents xs ys = map without_line xs ≡ map without_line ys

-- the kinds of header items, whatever their lines
abbrev pub kinds_of : List HeaderItem → List HeaderKind
kinds_of = map (λ item. item.kind)

-- the text was read as a script with such a header and such events, but for their lines
pub record IsScript (items : List HeaderItem) (list : List Event) (parsed : Parsed) : Type 0 where
  pub whole : parsed.fault ≡ None
  pub header : kinds_of parsed.header.items ≡ kinds_of items
  pub events : AreSameEvents parsed.events list

-- a text is read as such a script
abbrev pub IsReadAs : List HeaderItem → List Event → List (List ℕ) → Type 0
IsReadAs items list text = IsScript items list (script_of text)
