-- One expiry further.
use Rattle.std.proofs.Common.{sym, ◌∙◌}
use Rattle.pd_host.proofs.Sends.{expiry_goes}
use Rattle.pd_host.proofs.endpoint.SenderState.advance.Goals as goal

pub loop-at-preserved : goal.loop-at-preserved
loop-at-preserved c =
    expiry_goes c.args.until c.in-Some-deadline_up_to.at c.args.self.now c.loop-at.connection c.expire.new.connection c.loop-at.outbox c.expire.new.outbox
    (sym c.in-Some-deadline_up_to.ensures.value) c.in_ok-expire.ensures.packet c.in_ok-expire.ensures.state
    ∙ c.loop-at.invariant
