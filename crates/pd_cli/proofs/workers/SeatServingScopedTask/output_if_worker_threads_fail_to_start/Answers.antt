use Rattle.std.proofs.Common.{refl}
use Rattle.pd_cli.proofs.Beside.{beside_none}
use Rattle.pd_cli.proofs.workers.SeatServingScopedTask.output_if_worker_threads_fail_to_start.Goals as goal

pub returns : goal.returns
returns g c = (refl, refl, beside_none c.args.self.settings (g.R.Read.remaining c.args.self.reader.now) (g.W.Write.contents c.args.self.writer.now), tt)
