use Rattle.std.proofs.Common.{length, ◌-◌}
use Rattle.pd_layout.proofs.trivia.first_nonblank_from.Given as goal

abbrev pub decreases-loop-at : goal.decreases-loop-at
decreases-loop-at l = length l.line - l.at
