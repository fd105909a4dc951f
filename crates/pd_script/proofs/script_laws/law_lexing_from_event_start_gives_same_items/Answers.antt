-- The law is a lemma over those of tokens.
use Rattle.pd_script.proofs.NextLaws.{item_stands}
use Rattle.pd_script.proofs.script_laws.law_lexing_from_event_start_gives_same_items.Goals as goal

pub returns : goal.returns
returns c = item_stands c.law_lexing_resumes_at_token_end.ensures
