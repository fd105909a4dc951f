use Rattle.std.proofs.Common.{◌∙◌, sym}
use Rattle.pd_cli.proofs.Reported.{looked_among}
use Rattle.pd_cli.proofs.explanations.is_selected_or_none_selected.Goals as goal

pub returns-else-is_empty : goal.returns-else-is_empty
returns-else-is_empty c = looked_among c.args.only.now c.args.name.now c.is_among.result (sym c.is_empty.ensures ∙ c.if-is_empty.false) c.is_among.ensures
