-- The events that are left follow those that were read so far.
use Rattle.std.proofs.Common.{◌↔◌, ◌++◌, List, drop}
use Rattle.pd_layout.specs.ReadAs.{AreSameEvents}
use Rattle.pd_script.specs.declared.script_events.Event.{Event}
use Rattle.pd_record.specs.Recording.{events_of_all}
use Rattle.pd_record.proofs.unchanged.are_events_as_recorded.Given as goal

abbrev pub invariant-loop-event_recording : goal.invariant-loop-event_recording
invariant-loop-event_recording l =
    (rest : List Event) → AreSameEvents l.events (events_of_all l.recorded_script.per_event ++ rest) ↔ AreSameEvents l.left (events_of_all (drop l.event_recording-index l.recorded_script.per_event) ++ rest)
