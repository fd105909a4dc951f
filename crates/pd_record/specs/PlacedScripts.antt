-- Scripts as they were read.
use Rattle.std.specs.Prelude.{◌≡◌, Option, Some, None, IsSome}
use Rattle.std.specs.declared.vec.Vec.{Vec}
use Rattle.std.specs.declared.alloc.Global.{Global}
use Rattle.pd_script.specs.declared.script_events.Event.{Event}
use Rattle.pd_script.specs.declared.parsed.EventsAndFault.{EventsAndFault}
use Rattle.pd_script.specs.declared.parsed.Parsed.{Parsed}
use Rattle.pd_record.specs.declared.placed_script.Script.{Script}

-- events that were read to the end of a text; nothing where no script goes on
abbrev pub IsFound : EventsAndFault → Option (Vec Event Global) → Type 0
IsFound found None = IsSome found.fault
IsFound found (Some events) = found ≡ record { events = events.items; fault = None }

-- the script that a text was read as; nothing where it is none
abbrev pub IsRead : Parsed → Option Script → Type 0
IsRead parsed None = IsSome parsed.fault
IsRead parsed (Some script) = parsed ≡ record { header = script.header; events = script.events.items; fault = None }
