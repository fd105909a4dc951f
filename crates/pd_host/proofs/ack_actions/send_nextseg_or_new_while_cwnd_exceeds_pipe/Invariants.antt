-- Sending from here on is all of it.
use Rattle.std.proofs.Common.{◌≡◌, ◌-◌, length}
use Rattle.pd_host.specs.AckEffects.{filled}
use Rattle.pd_host.specs.OutboxLimit.{most_packets}
use Rattle.pd_host.specs.Steps.{with_connection_and_packets}
use Rattle.pd_host.specs.declared.endpoint.SenderState.{SenderState}
use Rattle.pd_host.proofs.Recovering.{sender_filled}
use Rattle.pd_host.proofs.ack_actions.send_nextseg_or_new_while_cwnd_exceeds_pipe.Given as goal

abbrev pub invariant-loop-sent : goal.invariant-loop-sent
invariant-loop-sent l =
    (s : SenderState) → sender_filled l.now l.filling (with_connection_and_packets l.connection l.outbox s, l.pipe) ≡ filled l.now l.filling (with_connection_and_packets l.fn.connection l.fn.outbox s)

abbrev pub decreases-loop-sent : goal.decreases-loop-sent
decreases-loop-sent l = most_packets - length l.outbox
