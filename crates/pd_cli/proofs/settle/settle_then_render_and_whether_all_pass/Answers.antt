use Rattle.std.proofs.Common.{Ok}
use Rattle.pd_cli.proofs.Observed.{settled_heard, stopped_heard}
use Rattle.pd_cli.proofs.settle.settle_then_render_and_whether_all_pass.Goals as goal

pub returns-in_err-settle-clause-observed : goal.returns-in_err-settle-clause-observed
returns-in_err-settle-clause-observed g c =
    stopped_heard g.L.JobObserver.observes c.from_residual.result c.in_err-settle.field-0.0 c.args.book.now.history c.settle.new.book.history c.args.observer.now c.settle.new.observer c.from_residual.ensures.1 c.in_err-settle.ensures.observed

pub returns-in_err-render_report_and_whether_all_pass-clause-observed : goal.returns-in_err-render_report_and_whether_all_pass-clause-observed
returns-in_err-render_report_and_whether_all_pass-clause-observed g c = settled_heard g.L.JobObserver.observes c.from_residual-in_err-render_report_and_whether_all_pass.result c.args.book.now.history c.settle.new.book.history c.args.observer.now c.settle.new.observer c.in_ok-settle.ensures.observed

pub returns-clause-observed : goal.returns-clause-observed
returns-clause-observed g c = settled_heard {V = Unit {0}} g.L.JobObserver.observes (Ok tt) c.args.book.now.history c.settle.new.book.history c.args.observer.now c.settle.new.observer c.in_ok-settle.ensures.observed
