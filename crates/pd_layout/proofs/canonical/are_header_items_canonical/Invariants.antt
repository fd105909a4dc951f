use Rattle.std.proofs.Common.{◌≡◌, length}
use Rattle.pd_layout.specs.Canonical.{items_canonical}
use Rattle.pd_layout.proofs.canonical.are_header_items_canonical.Given as goal

abbrev pub invariant-loop-left : goal.invariant-loop-left
invariant-loop-left l = items_canonical l.lines l.events l.left ≡ items_canonical l.lines l.events l.items

abbrev pub decreases-loop-left : goal.decreases-loop-left
decreases-loop-left l = length l.left
