use Rattle.std.proofs.Common.{◌≡◌, ◌≤◌, length}
use Rattle.pd_layout.specs.Canonical.{find_rest_after_comment_end}
use Rattle.pd_layout.proofs.comments.find_rest_after_comment_end.Given as goal

abbrev pub invariant-loop-rest : goal.invariant-loop-rest
invariant-loop-rest l = record {
  same : find_rest_after_comment_end l.rest ≡ find_rest_after_comment_end l.line;
  shorter : length l.rest ≤ length l.line;
}

abbrev pub decreases-loop-rest : goal.decreases-loop-rest
decreases-loop-rest l = length l.rest
