use Rattle.std.proofs.Common.{◌≡◌, length}
use Rattle.pd_layout.specs.Canonical.{lead}
use Rattle.pd_layout.specs.Internal.{lines_of}
use Rattle.pd_layout.proofs.comments.are_empty_or_closed_comment_lines.Given as goal

abbrev pub invariant-loop-line : goal.invariant-loop-line
invariant-loop-line l = lead l.inside (lines_of l.left) ≡ lead l.fn.inside (lines_of l.lines)

abbrev pub decreases-loop-line : goal.decreases-loop-line
decreases-loop-line l = length (lines_of l.left)
