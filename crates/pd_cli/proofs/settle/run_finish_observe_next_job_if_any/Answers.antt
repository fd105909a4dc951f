use Rattle.std.proofs.Common.{sym, ap, ℕ, ◌+◌, ◌∙◌}
use Rattle.pd_track.specs.Reuse as reuse
use Rattle.pd_cli.proofs.Settled.{start_full, finish_ok, finish_own, turn_done}
use Rattle.pd_cli.proofs.Observed.{turn_heard}
use Rattle.pd_cli.proofs.settle.run_finish_observe_next_job_if_any.Goals as goal

pub returns-in-Err-HistoryFull-clause-turns : goal.returns-in-Err-HistoryFull-clause-turns
returns-in-Err-HistoryFull-clause-turns g c = start_full c.args.book.now.history c.requires c.law_settling_holds_for_book.ensures.turns (rw c.in-Err-HistoryFull.field-0-is at c.in-Err-HistoryFull.ensures.err)

pub unwrap-ruling-requires : goal.unwrap-ruling-requires
unwrap-ruling-requires g c = finish_ok c.finish.result _ c.finish.ensures.foreign (finish_own c.args.book.now.history c.start.new.self.history c.in-Ok-Some.field-0 c.in-Ok-Some.job c.in-Ok.done c.law_settling_holds_for_book.ensures.starts c.in-Ok-Some.field-0-is c.in-Ok-Some.ensures.job c.in-Ok-Some.ensures.ok c.in-Ok.ensures.done)

pub returns-in_ok-on_job_finished-in-Ok-clause-turns : goal.returns-in_ok-on_job_finished-in-Ok-clause-turns
returns-in_ok-on_job_finished-in-Ok-clause-turns g c =
    let own = finish_own c.args.book.now.history c.start.new.self.history c.in-Ok-Some.field-0 c.in-Ok-Some.job c.in-Ok.done c.law_settling_holds_for_book.ensures.starts c.in-Ok-Some.field-0-is c.in-Ok-Some.ensures.job c.in-Ok-Some.ensures.ok c.in-Ok.ensures.done in
    turn_done c.args.book.now.history c.start.new.self.history c.finish.new.self.history c.in-Ok-Some.field-0 c.in-Ok-Some.job c.in-Ok.done c.finish.result c.requires c.law_settling_holds_for_book.ensures.turns c.in-Ok-Some.field-0-is c.in-Ok-Some.ensures.job c.in-Ok-Some.ensures.ok c.in-Ok-Some.ensures.allowed c.in-Ok.ensures.done
    (finish_ok c.finish.result _ c.finish.ensures.foreign own) c.finish.ensures.ruling c.finish.ensures.ok

pub returns-in-Ok-None-clause-turns : goal.returns-in-Ok-None-clause-turns
returns-in-Ok-None-clause-turns g c = (sym (rw c.in-Ok-None.field-0-is at c.in-Ok-None.ensures.job), rw c.in-Ok-None.field-0-is at c.in-Ok-None.ensures.ok)

pub returns-in-Err-clause-turns : goal.returns-in-Err-clause-turns
returns-in-Err-clause-turns g c = tt

pub returns-in-Err-run_job-clause-turns : goal.returns-in-Err-run_job-clause-turns
returns-in-Err-run_job-clause-turns g c = tt

pub returns-in_ok-on_job_finished-in-Ok-clause-observed : goal.returns-in_ok-on_job_finished-in-Ok-clause-observed
returns-in_ok-on_job_finished-in-Ok-clause-observed g c =
    turn_heard g.L.JobObserver.observes c.args.observer.now c.on_job_finished.new.self c.args.book.now.history c.in-Ok-Some.field-0 c.in-Ok-Some.job c.in-Ok.done c.count.result c.in-Ok-Some.field-0-is c.in-Ok-Some.ensures.job c.in-Ok.ensures.done
    (c.count.ensures ∙ (c.in-Ok.ensures.steps ∙ ap (λ (n : ℕ). n + reuse.steps c.in-Ok-Some.job) c.new-stepper.ensures)) c.in_ok-on_job_finished-in-Ok.ensures.observed
