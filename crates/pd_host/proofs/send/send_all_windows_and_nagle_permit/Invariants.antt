-- The segments sent from here on are those sent from the start on.
use Rattle.std.proofs.Common.{◌≡◌, ◌-◌, length}
use Rattle.pd_host.specs.OutboxLimit.{most_packets}
use Rattle.pd_host.specs.Sending.{sent_until_done, ordinary}
use Rattle.pd_host.specs.Steps.{with_connection_and_packets}
use Rattle.pd_host.specs.declared.endpoint.SenderState.{SenderState}
use Rattle.pd_host.proofs.send.send_all_windows_and_nagle_permit.Given as goal

abbrev pub invariant-loop-segment : goal.invariant-loop-segment
invariant-loop-segment l =
    (s : SenderState) → sent_until_done l.now (with_connection_and_packets l.connection l.outbox s) ≡ ordinary l.now (with_connection_and_packets l.fn.connection l.fn.outbox s)

abbrev pub decreases-loop-segment : goal.decreases-loop-segment
decreases-loop-segment l = most_packets - length l.outbox
