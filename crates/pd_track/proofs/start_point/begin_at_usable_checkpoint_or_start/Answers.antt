-- The state of the track resumes the run.
use Rattle.std.proofs.Common.{◌*◌, ◌∙◌, ap, sym, subst, arith}
use Rattle.pd_settings.proofs.Agreements.{agrees_is}
use Rattle.pd_text.specs.Text.{AreLines}
use Rattle.pd_run.specs.Consulted.{run_with_settings}
use Rattle.pd_run.specs.Run.{fresh_run}
use Rattle.pd_track.specs.Reuse.{consulted_settings}
use Rattle.pd_track.specs.Resuming.{Resumes}
use Rattle.pd_track.proofs.Resume.{resumes_after}
use Rattle.pd_track.proofs.start_point.begin_at_usable_checkpoint_or_start.Goals as goal

pub returns-in-Ok-clause-resumes : goal.returns-in-Ok-clause-resumes
returns-in-Ok-clause-resumes c =
    let copied = rw c.in-Ok.is at c.copy.ensures.ok in
    subst (λ s. Resumes c.args.text.now c.args.settings.now (4 * c.usable_checkpoint_count-count.result) s c.in_ok-checkpoints.checkpoints) (ap (run_with_settings c.args.settings.now) (sym copied) ∙ sym c.set_settings.ensures)
    (resumes_after c.law_equal_first_lines_keep_first_events.ensures.scripts c.law_clock_base_and_queue_bounded_per_event.ensures.start c.law_clock_base_and_queue_bounded_per_event.ensures.step c.law_runs_use_only_consulted_settings.ensures.notes c.law_runs_use_only_consulted_settings.ensures.runs
    c.args.track.now c.args.text.now c.args.settings.now (fresh_run c.args.header_tolerance c.args.settings.now) c.run_state_at_checkpoint.result.now c.usable_checkpoint_count-count.result c.args.events c.in_ok-checkpoints.checkpoints
    (subst AreLines c.text.ensures c.law_invariant.ensures.1) c.law_invariant-2.ensures.1 (omega arith) c.requires.fresh c.requires.events c.usable_checkpoint_count-count.ensures.kept
    ((agrees_is (consulted_settings c.args.track.now (4 * c.usable_checkpoint_count-count.result)) c.args.track.now.settings c.args.settings.now).0 (c.usable_checkpoint_count-count.ensures.agreeing (omega arith)))
    c.run_state_at_checkpoint.ensures c.in_ok-checkpoints.ensures.states c.in_ok-checkpoints.ensures.held)
