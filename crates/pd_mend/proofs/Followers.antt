-- The event after one on a line.
use Rattle.std.proofs.Common.{◌≡◌, ℕ, ◌+◌, List, Option, Some, None, IfSome, sym}
use Rattle.pd_script.specs.declared.script_events.Event.{Event}
use Rattle.pd_mend.specs.Mending.{line_after, IsFollowed}

pub followed : (events : List Event) (line passed : ℕ) (next : Option ℕ) → line_after events passed ≡ Some line → next ≡ line_after events (passed + 1) → IfSome next (IsFollowed events line)
followed events line passed None h e = tt
followed events line passed (Some next) h e = record { passed = passed; event = h; follower = sym e }
