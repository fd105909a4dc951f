-- The laws are lemmas over those of tokens.
use Rattle.pd_reparse.proofs.First.{first_stay, first_of_scripts_stay}
use Rattle.pd_reparse.proofs.laws.law_equal_first_lines_keep_first_events.Goals as goal

pub returns-clause-readings : goal.returns-clause-readings
returns-clause-readings c = first_stay c.law_first_lines_fix_tokens_in_order.ensures.order c.law_first_lines_fix_tokens_in_order.ensures.same

pub returns-clause-scripts : goal.returns-clause-scripts
returns-clause-scripts c = first_of_scripts_stay c.law_first_lines_fix_tokens_in_order.ensures.order c.law_first_lines_fix_tokens_in_order.ensures.same
