-- The rest of the text has the same end as the whole.
use Rattle.std.proofs.Common.{◌≡◌, length}
use Rattle.pd_lex.specs.Pieces.{find_rest_after_octet_pair}
use Rattle.pd_lex.proofs.closing.find_rest_after_octet_pair.Given as goal

abbrev pub invariant-loop-rest : goal.invariant-loop-rest
invariant-loop-rest l = find_rest_after_octet_pair l.x l.y l.s ≡ find_rest_after_octet_pair l.x l.y l.rest

abbrev pub decreases-loop-rest : goal.decreases-loop-rest
decreases-loop-rest l = length l.rest
