-- A name is among those that are lent where it is among their values.
use Rattle.std.proofs.Common.{◌∙◌}
use Rattle.pd_explain.proofs.RuleTraceLemmas.{named_among}
use Rattle.pd_explain.proofs.rule_trace.names.is_named.Goals as goal

pub returns : goal.returns
returns c = c.is_among.ensures ∙ named_among c.args.names.now c.args.name.now
