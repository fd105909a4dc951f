-- One job more, and how a worker leaves.
use Rattle.std.proofs.Common.{◌≡◌, Err, refl, sym, subst, arith, rules}
use Rattle.pd_book.specs.declared.act.Act.TheVariants.{Start}
use Rattle.pd_book.specs.History.{JobView}
use Rattle.pd_seat.specs.Seats.{with_act}
use Rattle.pd_desk.specs.Work.{Works}
use Rattle.pd_desk.proofs.Jobs.{is_started, worked_none, worked_more, worked_on, works_given_up, works_want, of_given}
use Rattle.pd_desk.proofs.desk.Desk.run_jobs_until_shut.Goals as goal

pub loop-init : goal.loop-init
loop-init g c = record { jobs = worked_none c.args.seat.now c.args.seat.now refl; few = omega arith }

pub returns-in_err-job-clause-works : goal.returns-in_err-job-clause-works
returns-in_err-job-clause-works g c =
    let fault = c.in_err-job.field-0.0 in
    let failed : c.from_residual.result ≡ Err fault = search rules in
    let before = worked_on c.args.seat.now c.loop.seat c.wait_and_start_job_unless_shut.new.seat c.loop.invariant.jobs c.in_err-job.ensures.refuses in
    subst (λ r. Works c.args.seat.now r c.wait_and_start_job_unless_shut.new.seat) (sym failed) (works_want c.args.seat.now c.wait_and_start_job_unless_shut.new.seat fault c.in_err-job.ensures.fault before)

pub returns-in_err-run_and_finish_or_abandon_job-clause-works : goal.returns-in_err-run_and_finish_or_abandon_job-clause-works
returns-in_err-run_and_finish_or_abandon_job-clause-works g c =
    let fault = c.in_err-run_and_finish_or_abandon_job.field-0.0 in
    let failed : c.from_residual-in_err-run_and_finish_or_abandon_job.result ≡ Err fault = search rules in
    let task = c.in-Some.job.task in
    let begun = of_given (λ (job : JobView). c.wait_and_start_job_unless_shut.new.seat ≡ with_act c.loop.seat (Start job.task.number job.task.name)) c.in_ok-job.field-0 c.in-Some.job c.in-Some.is c.in_ok-job.ensures.records in
    let left = works_given_up c.args.seat.now c.loop.seat c.wait_and_start_job_unless_shut.new.seat c.run_and_finish_or_abandon_job.new.seat task.number task.name fault c.loop.invariant.jobs begun c.in_err-run_and_finish_or_abandon_job.ensures.given_up in
    subst (λ r. Works c.args.seat.now r c.run_and_finish_or_abandon_job.new.seat) (sym failed) left

pub run_and_finish_or_abandon_job-requires-clause-started : goal.run_and_finish_or_abandon_job-requires-clause-started
run_and_finish_or_abandon_job-requires-clause-started g c =
    let task = c.in-Some.job.task in
    let begun = of_given (λ (job : JobView). c.wait_and_start_job_unless_shut.new.seat ≡ with_act c.loop.seat (Start job.task.number job.task.name)) c.in_ok-job.field-0 c.in-Some.job c.in-Some.is c.in_ok-job.ensures.records in
    is_started c.loop.seat c.wait_and_start_job_unless_shut.new.seat task.number task.name begun

pub loop-preserved : goal.loop-preserved
loop-preserved g c =
    let task = c.in-Some.job.task in
    let begun = of_given (λ (job : JobView). c.wait_and_start_job_unless_shut.new.seat ≡ with_act c.loop.seat (Start job.task.number job.task.name)) c.in_ok-job.field-0 c.in-Some.job c.in-Some.is c.in_ok-job.ensures.records in
    record {
      jobs = worked_more c.args.seat.now c.loop.seat c.wait_and_start_job_unless_shut.new.seat c.run_and_finish_or_abandon_job.new.seat task c.loop.invariant.jobs begun c.in_ok-run_and_finish_or_abandon_job.ensures.finished;
      few = omega (arith, c.in_ok-run_and_finish_or_abandon_job.ensures.few, c.loop.invariant.few);
    }
