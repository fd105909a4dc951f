-- How a sender stands.
use Rattle.std.specs.Prelude.{length}
use Rattle.pd_host.specs.ConnStates.{conn_state}
use Rattle.pd_host.specs.Expiries.{deadline_of}
use Rattle.pd_host.specs.ConnectionSnapshot.{connection_snapshot_in}
use Rattle.pd_host.specs.Host.{HostView}
use Rattle.pd_record.specs.declared.recorded.TraceSnapshot.{TraceSnapshot}

-- how a sender stands
abbrev pub snapshot_of : HostView → TraceSnapshot
snapshot_of h =
    record { state = conn_state h.state; connection_snapshot = connection_snapshot_in h.state; expiry = deadline_of h.state; unmatched = length h.state.endpoint.outbox }
