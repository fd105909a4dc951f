-- The laws are lemmas over those of tokens.
use Rattle.pd_script.proofs.OneScript.{script_is_so, no_other_script, read_one_way}
use Rattle.pd_script.proofs.script_laws.law_parse_gives_the_only_grammatical_reading.Goals as goal

pub returns-clause-given : goal.returns-clause-given
returns-clause-given c = script_is_so c.law_tokens_are_exactly_longest_pieces.ensures.items

pub returns-clause-only : goal.returns-clause-only
returns-clause-only c = no_other_script c.law_tokens_are_exactly_longest_pieces.ensures.only

pub returns-clause-one_way : goal.returns-clause-one_way
returns-clause-one_way c = read_one_way
