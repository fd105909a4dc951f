use Rattle.std.proofs.lemmas.Result.{IfOk-weaker}
use Rattle.pd_cli.proofs.JobBlocks.{failure_text}
use Rattle.pd_cli.proofs.explanations.render_failure_as_json_or_text.Goals as goal

pub returns-in-Some : goal.returns-in-Some
returns-in-Some c =
    let made = c.in_ok-explanation.ensures in
    IfOk-weaker c.render_explanation_as_json_or_text.result _ _ (λ block text. failure_text c.args.json c.args.done.now c.in_ok-explanation.field-0 c.in-Some.explanation block.items c.in-Some.is made.reported made.at made.cause (rw c.name.ensures at text)) c.render_explanation_as_json_or_text.ensures
