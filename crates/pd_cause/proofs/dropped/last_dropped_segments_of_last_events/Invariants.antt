-- Those of the events so far.
use Rattle.std.proofs.Common.{◌≡◌, take}
use Rattle.std.specs.List.{filter_map}
use Rattle.pd_cause.proofs.dropped.last_dropped_segments_of_last_events.Given as goal

abbrev pub invariant-loop-event : goal.invariant-loop-event
invariant-loop-event l = l.dropped.items ≡ filter_map (λ it. it) (take l.event-index l.event-items)
