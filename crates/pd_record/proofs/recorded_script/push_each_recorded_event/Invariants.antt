-- The events added so far and those that are left make all.
use Rattle.std.proofs.Common.{◌≡◌, ◌++◌}
use Rattle.pd_record.specs.Recording.{events_in}
use Rattle.pd_record.proofs.recorded_script.push_each_recorded_event.Given as goal

abbrev pub invariant-loop-recorded : goal.invariant-loop-recorded
invariant-loop-recorded l = l.events.items ++ events_in l.recorded-iterator.rest.items ≡ l.fn.events.items ++ events_in l.fn.list.items
