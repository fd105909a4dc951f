-- The names of the states of a connection (RFC 9293, section 3.3.2).
use Rattle.std.specs.Prelude.{ℕ, List, codes}
use Rattle.pd_host.specs.declared.connection.states.ConnState.{ConnState}
use Rattle.pd_host.specs.declared.connection.states.ConnState.TheVariants as state

-- the name of a state
abbrev pub state_word : ConnState → List ℕ
state_word state.Closed = codes "CLOSED"
state_word state.Listen = codes "LISTEN"
state_word state.SynReceived = codes "SYN-RECEIVED"
state_word state.Established = codes "ESTABLISHED"
state_word state.FinWait1 = codes "FIN-WAIT-1"
state_word state.FinWait2 = codes "FIN-WAIT-2"
state_word state.CloseWait = codes "CLOSE-WAIT"
state_word state.Closing = codes "CLOSING"
state_word state.LastAck = codes "LAST-ACK"
state_word state.TimeWait = codes "TIME-WAIT"
