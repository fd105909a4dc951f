-- The law is a lemma.
use Rattle.pd_lex.proofs.After.{go_on}
use Rattle.pd_lex.proofs.laws.law_lexing_resumes_at_token_end.Goals as goal

pub returns : goal.returns
returns c = go_on
