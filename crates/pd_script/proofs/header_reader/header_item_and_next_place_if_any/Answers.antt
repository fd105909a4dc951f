-- The token that the lexer answers is the header item, or none is.
use Rattle.std.proofs.Common.{sym, ◌∙◌}
use Rattle.pd_script.proofs.HeaderLaws.{header_item_there, no_header_item}
use Rattle.pd_script.proofs.header_reader.header_item_and_next_place_if_any.Goals as goal

pub returns-in-Some-clause-some : goal.returns-in-Some-clause-some
returns-in-Some-clause-some c = header_item_there c.args.lines.now c.in-Token.token c.in-Token.ensures.text c.law_invariant.ensures c.args.place c.in-Token.ensures.cut c.in-Token.ensures.next c.in-Some.item (sym c.header_item_of_token_if_any.ensures ∙ c.in-Some.is)

pub returns-in-None-clause-none : goal.returns-in-None-clause-none
returns-in-None-clause-none c = no_header_item c.args.lines.now c.in-Token.token c.in-Token.ensures.text c.args.place c.in-Token.ensures.next (sym c.header_item_of_token_if_any.ensures ∙ c.in-None.is)
