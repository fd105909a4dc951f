-- The reply's report of the job, by the history that was compared with the seat.
use Rattle.std.proofs.Common.{refl}
use Rattle.pd_desk.proofs.Jobs.{finish_ends, leaves_job}
use Rattle.pd_desk.proofs.desk.Desk.finish_and_fail_if_history_disagrees.Goals as goal

pub returns-then-not-agrees-clause-left : goal.returns-then-not-agrees-clause-left
returns-then-not-agrees-clause-left g c =
    let reply = c.finish_and_whether_ok_or_seat_agrees-agrees.result in
    (refl, leaves_job reply.0 reply.1 _ c.args.seat.now c.finish_and_whether_ok_or_seat_agrees-agrees.new.seat c.finish_and_whether_ok_or_seat_agrees-agrees.ensures.compared c.finish_and_whether_ok_or_seat_agrees-agrees.ensures.refuses c.if-not-agrees.true)

pub returns-clause-finished : goal.returns-clause-finished
returns-clause-finished g c =
    let reply = c.finish_and_whether_ok_or_seat_agrees-agrees.result in
    finish_ends reply.0 reply.1 c.args.done.now c.args.seat.now c.finish_and_whether_ok_or_seat_agrees-agrees.new.seat c.finish_and_whether_ok_or_seat_agrees-agrees.ensures.compared c.finish_and_whether_ok_or_seat_agrees-agrees.ensures.records c.finish_and_whether_ok_or_seat_agrees-agrees.ensures.room c.requires.started c.finish_and_whether_ok_or_seat_agrees-agrees.ensures.refuses c.if-not-agrees.false
