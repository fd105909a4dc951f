use Rattle.pd_cli.proofs.Beside.{beside_unopened}
use Rattle.pd_cli.proofs.Causes.{memory_caused}
use Rattle.pd_cli.proofs.workers.serve.Goals as goal

pub returns-in_err-desk-clause-serves : goal.returns-in_err-desk-clause-serves
returns-in_err-desk-clause-serves g c = beside_unopened c.args.settings c.from_residual.result (g.R.Read.remaining c.args.reader.now) (g.W.Write.contents c.args.writer.now) c.from_residual.ensures.1

pub returns-in_err-desk-clause-cause : goal.returns-in_err-desk-clause-cause
returns-in_err-desk-clause-cause g c = memory_caused c.from_residual.result (g.R.InputStream.has_failed c.args.reader.now) (g.R.Read.remaining c.args.reader.now) c.from_residual.ensures.1
