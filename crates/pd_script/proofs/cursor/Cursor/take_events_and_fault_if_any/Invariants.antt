use Rattle.std.proofs.Common.{◌≡◌, ◌-◌}
use Rattle.pd_script.specs.Script.{found_in, in_front}
use Rattle.pd_script.proofs.cursor.Cursor.take_events_and_fault_if_any.Given as goal

abbrev pub invariant-events : goal.invariant-events
invariant-events l = in_front l.events (found_in (4096 - l.i) l.self) ≡ found_in 4096 l.fn.self
