-- A write leaves the rest of the state, beside the setting that was consulted.
use Rattle.std.proofs.Common.{rules}
use Rattle.pd_host.proofs.endpoint.SenderState.answer_on_connection.Goals as goal

pub returns-in-Write-2 : goal.returns-in-Write-2
returns-in-Write-2 c = let told = c.write.ensures (record c.args.self.now { consulted_settings = c.with_sndbuf_setting_of_write-self.result }) in search rules
