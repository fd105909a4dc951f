-- The rest of the text has the same end as the whole.
use Rattle.std.proofs.Common.{◌≡◌, length}
use Rattle.pd_lex.specs.Pieces.{rest_after_unescaped_quote}
use Rattle.pd_lex.proofs.closing.rest_after_unescaped_quote.Given as goal

abbrev pub invariant-loop-rest : goal.invariant-loop-rest
invariant-loop-rest l = rest_after_unescaped_quote l.s ≡ rest_after_unescaped_quote l.rest

abbrev pub decreases-loop-rest : goal.decreases-loop-rest
decreases-loop-rest l = length l.rest
