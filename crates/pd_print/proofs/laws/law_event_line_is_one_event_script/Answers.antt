-- The law is a lemma over that of scripts.
use Rattle.pd_print.proofs.LawLemmas.{lines_are_scripts_by}
use Rattle.pd_print.proofs.laws.law_event_line_is_one_event_script.Goals as goal

pub returns : goal.returns
returns c = lines_are_scripts_by c.law_parse_gives_the_only_grammatical_reading.ensures.only
