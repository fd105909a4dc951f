use Rattle.std.proofs.Common.{refl}
use Rattle.pd_protocol.specs.ChosenOptions.{report_options_of}
use Rattle.pd_cli.specs.StepLines.{FinishedJob}
use Rattle.pd_cli.proofs.Reported.{reports_still, reports_now}
use Rattle.pd_cli.proofs.reporter.ReporterJobObserver.on_job_finished.Goals as goal

pub returns-in_ok-lines-clause-observed : goal.returns-in_ok-lines-clause-observed
returns-in_ok-lines-clause-observed g c =
    let written = rw c.as_slice.ensures.value at c.write_all_or_false-self.ensures in
    let job : FinishedJob = record { task = c.args.done.now; steps = c.args.steps } in
    (refl, refl, reports_now (report_options_of c.args.self.now.options.now) c.args.self.now.stderr_ok c.write_all_or_false-self.result (g.E.Write.contents c.args.self.now.err.now) (g.E.Write.contents c.write_all_or_false-self.new.err) job c.in_ok-lines.lines.items c.if-self.true c.in_ok-lines.ensures written)

pub returns-else-self-clause-observed : goal.returns-else-self-clause-observed
returns-else-self-clause-observed g c =
    (refl, refl, reports_still (report_options_of c.args.self.now.options.now) c.args.self.now.stderr_ok (g.E.Write.contents c.args.self.now.err.now) (record { task = c.args.done.now; steps = c.args.steps }) c.if-self.false)
