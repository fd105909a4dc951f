-- The events that are left follow those that were read so far.
use Rattle.std.proofs.Common.{◌↔◌, ◌++◌, List, drop}
use Rattle.pd_layout.specs.ReadAs.{AreSameEvents}
use Rattle.pd_script.specs.declared.script_events.Event.{Event}
use Rattle.pd_record.specs.Recording.{events_in}
use Rattle.pd_record.proofs.unchanged.strip_recorded_events_prefix.Given as goal

abbrev pub invariant-loop-recorded : goal.invariant-loop-recorded
invariant-loop-recorded l =
    (rest : List Event) → AreSameEvents l.events (events_in l.list ++ rest) ↔ AreSameEvents l.left (events_in (drop l.recorded-index l.list) ++ rest)
