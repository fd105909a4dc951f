-- The cause of the stop at a job's line is that of its verdict.
use Rattle.std.proofs.Common.{◌≡◌, ◌∙◌, ℕ, List, IfOk, subst}
use Rattle.pd_settings.specs.declared.settings.Settings.{Settings}
use Rattle.pd_script.specs.Script.{script_of}
use Rattle.pd_cause.specs.Explained.{IsCauseIn}
use Rattle.pd_cause.proofs.StopIsThere.{causes_of, at_stop}
use Rattle.pd_cause.proofs.explain_verdict.cause_of_job.Goals as goal

pub returns-in_ok-resumed_early-in_default : goal.returns-in_ok-resumed_early-in_default
returns-in_ok-resumed_early-in_default c =
    let lines : c.lines-lines.result.now ≡ c.args.done.now.text = c.lines-lines.ensures ∙ c.text.ensures in
    let settings : c.settings.result.now ≡ c.args.done.now.settings = c.settings.ensures ∙ c.track-track.ensures.settings in
    let cause : IfOk c.cause_in_header_or_run.result (IsCauseIn c.args.done.now.text c.args.line c.args.done.now.settings (script_of c.args.done.now.text) c.args.verdict) =
    subst (λ (text : List (List ℕ)). IfOk c.cause_in_header_or_run.result (IsCauseIn text c.args.line c.args.done.now.settings (script_of text) c.args.verdict)) lines
    (subst (λ (s : Settings). IfOk c.cause_in_header_or_run.result (IsCauseIn c.lines-lines.result.now c.args.line s (script_of c.lines-lines.result.now) c.args.verdict)) settings
    c.cause_in_header_or_run.ensures) in
    causes_of c.args.done.now.text c.args.done.now.settings c.args.verdict c.args.line c.cause_in_header_or_run.result
    (at_stop c.args.verdict c.args.line c.in_default.not-Syntax c.requires.line) cause
