-- The expiries from here on are those from the start on.
use Rattle.std.proofs.Common.{◌≡◌, ◌-◌, length}
use Rattle.pd_host.specs.Expiries.{advanced}
use Rattle.pd_host.specs.OutboxLimit.{most_packets}
use Rattle.pd_host.specs.Steps.{with_connection_and_packets}
use Rattle.pd_host.proofs.endpoint.SenderState.advance.Given as goal

abbrev pub invariant-loop-at : goal.invariant-loop-at
invariant-loop-at l = advanced l.until (with_connection_and_packets l.connection l.outbox l.fn.self) ≡ advanced l.until l.fn.self

abbrev pub decreases-loop-at : goal.decreases-loop-at
decreases-loop-at l = most_packets - length l.outbox
