-- The cause of the stop at a row's line is that of the row.
use Rattle.pd_cause.proofs.StopIsThere.{causes_of, at_stop}
use Rattle.pd_cause.proofs.explain_verdict.cause_of_verdict.Goals as goal

pub returns-in_ok-reading-in_default : goal.returns-in_ok-reading-in_default
returns-in_ok-reading-in_default c =
    causes_of c.args.lines.now c.args.settings.now c.args.verdict c.args.line c.cause_in_header_or_run.result
    (at_stop c.args.verdict c.args.line c.in_default.not-Syntax c.requires.line) c.cause_in_header_or_run.ensures
