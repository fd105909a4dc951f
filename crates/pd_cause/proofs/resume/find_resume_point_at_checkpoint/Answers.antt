-- The state that a track kept after so many events takes the run up.
use Rattle.std.proofs.Common.{◌≡◌, ℕ, ◌+◌, ◌-◌, ◌*◌, ◌∙◌, Some, slice_get, option_map, option_copied, ap, sym, subst, arith}
use Rattle.pd_settings.specs.declared.settings.Settings.{Settings}
use Rattle.pd_script.specs.Script.{script_of}
use Rattle.pd_run.specs.Consulted.{run_with_settings}
use Rattle.pd_run.specs.Run.{states_of}
use Rattle.pd_run.specs.Step.{RunStateView}
use Rattle.pd_cause.specs.Inner.{IsResumed}
use Rattle.pd_cause.proofs.ResumedRun.{taken_up}
use Rattle.pd_cause.proofs.resume.find_resume_point_at_checkpoint.Goals as goal

pub returns : goal.returns
returns c =
    let settings : Settings = c.args.track.now.settings in
    let kept : ℕ = c.args.checkpoints in
    let state : RunStateView = c.in-Some.checkpoint.now in
    let found : slice_get (states_of c.args.track.now.text settings) (4 * (kept - 1) + 3) ≡ Some (run_with_settings settings state) =
    sym c.checkpoint.ensures.state ∙ ap (λ o. option_map (run_with_settings settings) (option_copied o)) c.in-Some.is in
    let copied : c.in_ok-run.run' ≡ state = c.in_ok-run.ensures.ok ∙ c.state.ensures in
    let bound : run_with_settings settings state ≡ c.set_settings.new.self =
    ap (run_with_settings settings) (sym copied) ∙ (ap (λ (s : Settings). run_with_settings s c.in_ok-run.run') (sym c.settings.ensures) ∙ sym c.set_settings.ensures) in
    subst (λ (run : RunStateView). IsResumed settings (script_of c.args.track.now.text) (4 * kept) run) bound
    (taken_up c.law_verdicts_have_reasons.ensures.reasons c.law_clock_base_and_queue_bounded_per_event.ensures.start c.law_clock_base_and_queue_bounded_per_event.ensures.step settings
    (script_of c.args.track.now.text) (4 * (kept - 1) + 3) (4 * kept) (run_with_settings settings state) (omega (arith, c.if-checkpoints-eq0.false)) found)
