-- The state of the sender by its name (RFC 9293, section 3.3.2).
use Rattle.std.specs.Prelude.{◌==◌, Bool, true, false, Option, None, Some, if◌then◌else◌}
use Rattle.pd_host.specs.Connection.{ConnectionView}
use Rattle.pd_host.specs.Handshake.{is_listening}
use Rattle.pd_host.specs.declared.connection.states.ConnState.{ConnState}
use Rattle.pd_host.specs.declared.connection.states.ConnState.TheVariants.{Closed, Listen, SynReceived, Established, FinWait1, FinWait2, CloseWait, Closing, LastAck, TimeWait}
use Rattle.pd_host.specs.declared.established.Established as conn
use Rattle.pd_host.specs.declared.descriptors.ListenState.{ListenState}
use Rattle.pd_host.specs.declared.established.PeerFin.{PeerFin}
use Rattle.pd_host.specs.declared.established.PeerFin.TheVariants.{Awaited, BeforeOurs, AfterOurs}
use Rattle.pd_host.specs.declared.endpoint.SenderState.{SenderState}

-- from the end of the handshake on: by the peer's FIN, by whether ours is queued, and by whether all that is queued is
-- acknowledged, our FIN too
abbrev pub state_from_fins_and_all_acked : PeerFin → Bool → Bool → ConnState
state_from_fins_and_all_acked Awaited false acked = Established
state_from_fins_and_all_acked Awaited true false = FinWait1
state_from_fins_and_all_acked Awaited true true = FinWait2
state_from_fins_and_all_acked _ false acked = CloseWait
state_from_fins_and_all_acked BeforeOurs true false = LastAck
state_from_fins_and_all_acked BeforeOurs true true = Closed
state_from_fins_and_all_acked AfterOurs true false = Closing
state_from_fins_and_all_acked AfterOurs true true = TimeWait

-- by whether the handshake has come to its end
abbrev pub state_after_handshake : ConnectionView → Option conn.Established → ConnState
state_after_handshake c None = SynReceived
state_after_handshake c (Some e) = state_from_fins_and_all_acked e.peer_fin c.fin (c.board.una == c.board.end)

-- the state of a connection that a SYN has begun; after an RST it is CLOSED, in the handshake too (own profile)
abbrev pub state_of : ConnectionView → ConnState
state_of c = if c.is_reset then Closed else state_after_handshake c c.established

-- the state by the listener and the connection
abbrev pub state_on : ListenState → Option ConnectionView → ConnState
state_on listener None = if is_listening listener then Listen else Closed
state_on _ (Some c) = state_of c

-- the state of the sender
abbrev pub conn_state : SenderState → ConnState
conn_state s = state_on s.endpoint.listener s.endpoint.connection

-- nothing is run any more
abbrev pub is_closed : ConnState → Bool
is_closed Closed = true
is_closed _ = false
