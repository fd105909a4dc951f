use Rattle.std.proofs.Common.{◌∙◌}
use Rattle.pd_protocol.proofs.Together.{written}
use Rattle.pd_protocol.proofs.parse_options.is_option_given.Goals as goal

pub returns : goal.returns
returns c = λ words matched. c.is_some.ensures ∙ written c.args.name.now c.args.matches.now words matched c.get_str.result c.get_str.ensures
