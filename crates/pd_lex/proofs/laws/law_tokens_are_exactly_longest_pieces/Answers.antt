-- Both laws are lemmas.
use Rattle.pd_lex.proofs.Cut.{items_cut, one_cut}
use Rattle.pd_lex.proofs.laws.law_tokens_are_exactly_longest_pieces.Goals as goal

pub returns-clause-items : goal.returns-clause-items
returns-clause-items c = items_cut

pub returns-clause-only : goal.returns-clause-only
returns-clause-only c = λ lines others h. one_cut h (items_cut lines)
