-- How a job ends: the result that is handed in is that of the job's task.
use Rattle.std.proofs.Common.{◌≡◌, true, OnOk, subst, sym}
use Rattle.pd_track.specs.declared.task.Task.{Task}
use Rattle.pd_seat.specs.Seats.{is_unended}
use Rattle.pd_desk.specs.Internal.{EndsJob}
use Rattle.pd_desk.proofs.desk.Desk.run_and_finish_or_abandon_job.Goals as goal

pub finish_and_fail_if_history_disagrees-requires : goal.finish_and_fail_if_history_disagrees-requires
finish_and_fail_if_history_disagrees-requires g c = record { started = subst (λ (t : Task). is_unended c.args.seat.now.own t.number ≡ true) (sym c.in-Ok.ensures.done) c.requires.started }

pub returns-in-Ok-clause-finished : goal.returns-in-Ok-clause-finished
returns-in-Ok-clause-finished g c = subst (λ (t : Task). OnOk c.finish_and_fail_if_history_disagrees.result (EndsJob t c.args.seat.now c.finish_and_fail_if_history_disagrees.new.seat)) c.in-Ok.ensures.done c.finish_and_fail_if_history_disagrees.ensures.finished
