-- The reply's report of the job, by the history that was compared with the seat.
use Rattle.pd_desk.proofs.Jobs.{abandon_ends, leaves_job}
use Rattle.pd_desk.proofs.desk.Desk.abandon_job_and_return_why_worker_leaves.Goals as goal

pub returns-then-not-agrees : goal.returns-then-not-agrees
returns-then-not-agrees g c =
    let reply = c.abandon_and_whether_ok_or_seat_agrees-agrees.result in
    leaves_job reply.0 reply.1 _ c.args.seat.now c.abandon_and_whether_ok_or_seat_agrees-agrees.new.seat c.abandon_and_whether_ok_or_seat_agrees-agrees.ensures.compared c.abandon_and_whether_ok_or_seat_agrees-agrees.ensures.refuses c.if-not-agrees.true

pub returns : goal.returns
returns g c =
    let reply = c.abandon_and_whether_ok_or_seat_agrees-agrees.result in
    abandon_ends reply.0 reply.1 c.args.number c.args.seat.now c.abandon_and_whether_ok_or_seat_agrees-agrees.new.seat c.abandon_and_whether_ok_or_seat_agrees-agrees.ensures.compared c.abandon_and_whether_ok_or_seat_agrees-agrees.ensures.records c.abandon_and_whether_ok_or_seat_agrees-agrees.ensures.room c.requires.started c.abandon_and_whether_ok_or_seat_agrees-agrees.ensures.refuses c.if-not-agrees.false
