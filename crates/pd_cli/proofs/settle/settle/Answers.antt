use Rattle.pd_cli.proofs.Observed.{heard_first, heard_more, heard_end, heard_stop}
use Rattle.pd_cli.proofs.Settled.{goes_first, goes_on, goes_less, goes_end, goes_out}
use Rattle.pd_cli.proofs.settle.settle.Goals as goal

pub loop-init : goal.loop-init
loop-init g c = record {
  quiet = c.requires;
  goes_on = goes_first c.args.book.now.history;
  observed = heard_first g.L.JobObserver.observes c.args.book.now.history c.args.observer.now;
}

pub returns-in_err-run_finish_observe_next_job_if_any-clause-settles : goal.returns-in_err-run_finish_observe_next_job_if_any-clause-settles
returns-in_err-run_finish_observe_next_job_if_any-clause-settles g c =
    goes_out c.from_residual.result c.args.book.now.history c.loop.book.history c.run_finish_observe_next_job_if_any.new.book.history c.in_err-run_finish_observe_next_job_if_any.field-0.0 c.from_residual.ensures.1 c.loop.invariant.goes_on c.in_err-run_finish_observe_next_job_if_any.ensures.turns

pub returns-in_err-run_finish_observe_next_job_if_any-clause-observed : goal.returns-in_err-run_finish_observe_next_job_if_any-clause-observed
returns-in_err-run_finish_observe_next_job_if_any-clause-observed g c =
    heard_stop g.L.JobObserver.observes c.from_residual.result c.in_err-run_finish_observe_next_job_if_any.field-0.0 c.args.book.now.history c.loop.book.history c.run_finish_observe_next_job_if_any.new.book.history c.args.observer.now c.loop.observer c.run_finish_observe_next_job_if_any.new.observer c.from_residual.ensures.1 c.loop.invariant.observed c.in_err-run_finish_observe_next_job_if_any.ensures.observed

pub loop-smaller : goal.loop-smaller
loop-smaller g c = goes_less c.loop.book.history c.run_finish_observe_next_job_if_any.new.book.history (rw c.if-branch.true at c.in_ok-run_finish_observe_next_job_if_any.ensures.turns)

pub loop-preserved : goal.loop-preserved
loop-preserved g c =
    let turned = rw c.if-branch.true at c.in_ok-run_finish_observe_next_job_if_any.ensures.turns in
    let observed = rw c.if-branch.true at c.in_ok-run_finish_observe_next_job_if_any.ensures.observed in
    record {
      quiet = turned.5;
      goes_on = goes_on c.args.book.now.history c.loop.book.history c.run_finish_observe_next_job_if_any.new.book.history c.loop.invariant.goes_on turned;
      observed = heard_more g.L.JobObserver.observes c.args.book.now.history c.loop.book.history c.run_finish_observe_next_job_if_any.new.book.history c.args.observer.now c.loop.observer c.run_finish_observe_next_job_if_any.new.observer c.loop.invariant.observed turned observed;
    }

pub returns-clause-settles : goal.returns-clause-settles
returns-clause-settles g c = goes_end c.args.book.now.history c.loop.book.history c.run_finish_observe_next_job_if_any.new.book.history c.loop.invariant.goes_on (rw c.if-branch.false at c.in_ok-run_finish_observe_next_job_if_any.ensures.turns)

pub returns-clause-observed : goal.returns-clause-observed
returns-clause-observed g c =
    heard_end g.L.JobObserver.observes c.args.book.now.history c.loop.book.history c.run_finish_observe_next_job_if_any.new.book.history c.args.observer.now c.loop.observer c.run_finish_observe_next_job_if_any.new.observer c.loop.invariant.observed (rw c.if-branch.false at c.in_ok-run_finish_observe_next_job_if_any.ensures.turns) (rw c.if-branch.false at c.in_ok-run_finish_observe_next_job_if_any.ensures.observed)
