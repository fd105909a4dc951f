use Rattle.std.proofs.Common.{◌≡◌, length}
use Rattle.pd_layout.specs.Canonical.{events_canonical}
use Rattle.pd_layout.proofs.canonical.are_events_canonical.Given as goal

abbrev pub invariant-loop-left : goal.invariant-loop-left
invariant-loop-left l = events_canonical l.lines l.left ≡ events_canonical l.lines l.events

abbrev pub decreases-loop-left : goal.decreases-loop-left
decreases-loop-left l = length l.left
