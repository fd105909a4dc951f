use Rattle.std.proofs.lemmas.Result.{IfOk-weaker}
use Rattle.pd_cli.proofs.JobBlocks.{pass_text}
use Rattle.pd_cli.proofs.explanations.render_leftovers_if_asked.Goals as goal

pub returns-in-Some-clause-reports : goal.returns-in-Some-clause-reports
returns-in-Some-clause-reports c =
    let found = rw (c.lines.ensures, c.text.ensures, c.settings.ensures) at c.in_ok-leftovers.ensures in
    IfOk-weaker c.render_leftovers.result _ _ (λ block text asked. pass_text c.args.explain_options.now.json c.args.done.now c.in_ok-leftovers.field-0 c.in-Some.leftovers block.items c.in-Some.is found (rw c.name.ensures at text)) c.render_leftovers.ensures
