-- The run that went on comes to what the whole run does.
use Rattle.std.proofs.Common.{◌≡◌, ◌+◌, ◌∙◌, ap, refl, drop}
use Rattle.pd_script.specs.declared.parsed.Parsed.{Parsed}
use Rattle.pd_reparse.specs.Reading.{ReadingView, events_of}
use Rattle.pd_reparse.specs.Steps.{events_after}
use Rattle.pd_run.specs.Run.{stepped_from}
use Rattle.pd_track.specs.Resuming.{script_events}
use Rattle.pd_track.proofs.Went.{Whole, whole, drop_map}
use Rattle.pd_track.proofs.job_run.run_remaining_events.Given as given
use Rattle.pd_track.proofs.job_run.run_remaining_events.Goals as goal

came : (g : given.Over) (c : goal.In_ok-finished_run g) → Whole c.args.job.now c.in_ok-finished_run.finished_run.verdict c.args.reading c.in_ok-finished_run.finished_run.checkpoints (stepped_from (events_after c.args.progress.passed c.events.result.now) c.args.progress.state)
came g c =
    let rest : events_after c.args.progress.passed c.events.result.now ≡ drop c.args.progress.passed (script_events c.args.job.now.task.text) =
    drop_map c.args.progress.passed c.events.result.now
    ∙ (ap (λ ds. drop c.args.progress.passed (events_of ds)) (c.events.ensures.value ∙ ap (λ (r : ReadingView). r.events) c.requires.reading)
    ∙ ap (λ (p : Parsed). drop c.args.progress.passed p.events) (c.law_readings_are_scripts.ensures c.args.job.now.task.text)) in
    whole c.law_runs_use_only_consulted_settings.ensures.notes c.args.job.now c.args.reading c.args.progress.passed c.args.progress.state c.args.progress.checkpoints c.in_ok-finished_run.finished_run.checkpoints
    (events_after c.args.progress.passed c.events.result.now) c.in_ok-finished_run.finished_run.verdict (stepped_from (events_after c.args.progress.passed c.events.result.now) c.args.progress.state)
    c.requires.reading rest c.requires.passed c.requires.resumes c.in_ok-finished_run.ensures.verdict c.in_ok-finished_run.ensures.checkpoints refl

pub returns-clause-outcome : goal.returns-clause-outcome
returns-clause-outcome g c = (came g c).outcome

pub returns-clause-steps : goal.returns-clause-steps
returns-clause-steps g c = c.in_ok-finished_run.ensures.steps ∙ ap (λ n. g.S.Stepper.counted c.args.stepper.now + n) (came g c).steps
