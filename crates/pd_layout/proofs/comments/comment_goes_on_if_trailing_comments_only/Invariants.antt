use Rattle.std.proofs.Common.{◌≡◌, length, false}
use Rattle.pd_layout.specs.Canonical.{trail}
use Rattle.pd_layout.proofs.comments.comment_goes_on_if_trailing_comments_only.Given as goal

abbrev pub invariant-loop-comment : goal.invariant-loop-comment
invariant-loop-comment l = trail false l.rest ≡ trail false l.line

abbrev pub decreases-loop-comment : goal.decreases-loop-comment
decreases-loop-comment l = length l.rest
