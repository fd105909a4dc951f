-- Both laws are lemmas.
use Rattle.pd_lex.proofs.Order.{rise}
use Rattle.pd_lex.proofs.Agreement.{agree}
use Rattle.pd_lex.proofs.laws.law_first_lines_fix_tokens_in_order.Goals as goal

pub returns-clause-order : goal.returns-clause-order
returns-clause-order c = rise

pub returns-clause-same : goal.returns-clause-same
returns-clause-same c = agree
