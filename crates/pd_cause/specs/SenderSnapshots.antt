-- How a sender stands, and why it sent no packet that a script expects.
use Rattle.std.specs.Prelude.{◌==◌, Bool, ◌&&◌, not, false, if◌then◌else◌}
use Rattle.pd_script.specs.declared.script_events.Action.{Action}
use Rattle.pd_script.specs.declared.script_events.Action.TheVariants.{Outbound}
use Rattle.pd_host.specs.ConnStates.{conn_state}
use Rattle.pd_host.specs.Expiries.{deadline_of}
use Rattle.pd_host.specs.ConnectionSnapshot.{connection_snapshot_in}
use Rattle.pd_host.specs.Host.{HostView}
use Rattle.pd_host.specs.declared.connection.introspection.SendBlocker.{SendBlocker}
use Rattle.pd_host.specs.declared.connection.introspection.SendBlocker.TheVariants.{Reset, NotEstablished}
use Rattle.pd_cause.specs.declared.causes.failure.SenderSnapshot.{SenderSnapshot}
use Rattle.pd_cause.specs.declared.causes.not_sent_reason.NotSentReason.{NotSentReason}
use Rattle.pd_cause.specs.declared.causes.not_sent_reason.NotSentReason.TheVariants.{NoOctets, Held}

-- how a sender stands
abbrev pub snapshot_of : HostView → SenderSnapshot
snapshot_of h = record { state = conn_state h.state; connection_snapshot = connection_snapshot_in h.state; expiry = deadline_of h.state }

-- a packet is expected that has no octets: no data, SYN or FIN
abbrev pub expects_no_sequence_space : Action → Bool
expects_no_sequence_space (Outbound p) = (p.length == 0) && (not p.flags.syn && not p.flags.fin)
expects_no_sequence_space _ = false

-- why such a packet wasn't sent, by what holds the sender back
abbrev pub reason_of : Action → SendBlocker → NotSentReason
reason_of expected Reset = Held Reset
reason_of expected NotEstablished = Held NotEstablished
reason_of expected send_blocker = if expects_no_sequence_space expected then NoOctets else Held send_blocker
