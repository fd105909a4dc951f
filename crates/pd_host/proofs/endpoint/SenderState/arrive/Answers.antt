-- Sending, and the answer to a FIN, leave the settings that were consulted.
use Rattle.std.proofs.Common.{rules}
use Rattle.pd_host.proofs.endpoint.SenderState.arrive.Goals as goal

pub returns-in-Some-OldAck : goal.returns-in-Some-OldAck
returns-in-Some-OldAck c = let told = c.take_and_ack_fin_if_present.ensures c.args.self.now in search rules

pub returns-in-Some-FirstAck : goal.returns-in-Some-FirstAck
returns-in-Some-FirstAck c =
    let told = c.take_and_ack_fin_if_present-in-Some-FirstAck.ensures (record c.args.self.now { consulted_settings = c.with_establishment_settings-self.result }) in search rules
