-- The phases of the sender, and the checks of its segments, by their names.
use Rattle.std.specs.Prelude.{ℕ, ◌==◌, nat_lt, List, [], ◌∷◌, codes, Option, Some, None, if◌then◌else◌}
use Rattle.pd_host.specs.ConnStates.{conn_state}
use Rattle.pd_host.specs.ConnectionSnapshot.{connection_snapshot_in}
use Rattle.pd_host.specs.declared.connection.segment_check.SegmentCheck.{SegmentCheck}
use Rattle.pd_host.specs.declared.connection.segment_check.SegmentCheck.TheVariants.{NotRun, StrayRst, OutsideWindow, ExactRst, ChallengedRst, WithoutAck, FirstAck, RefusedAck, EarlyAck, OldAck}
use Rattle.pd_host.specs.declared.connection.states.ConnState.{ConnState}
use Rattle.pd_host.specs.declared.connection.states.ConnState.TheVariants.{Closed, Listen, SynReceived, Established, FinWait1, FinWait2, CloseWait, Closing, LastAck, TimeWait}
use Rattle.pd_host.specs.declared.connection_snapshot.ConnectionSnapshot.{ConnectionSnapshot}
use Rattle.pd_host.specs.declared.connection_snapshot.Recovery.{Recovery}
use Rattle.pd_host.specs.declared.connection_snapshot.Recovery.TheVariants.{Idle, WithSack, WithoutSack}
use Rattle.pd_host.specs.declared.connection_snapshot.WindowSnapshot.{WindowSnapshot}
use Rattle.pd_host.specs.declared.endpoint.SenderState.{SenderState}

-- a check that decides on a segment (RFC 9293, section 3.10.7.4; RFC 5961, sections 3.2 and 4.2)
abbrev pub check_name : SegmentCheck → List ℕ
check_name NotRun = codes "own.check.not-run"
check_name StrayRst = codes "rfc9293.check.rst-outside-window"
check_name OutsideWindow = codes "rfc9293.check.outside-window"
check_name ExactRst = codes "rfc9293.check.rst"
check_name ChallengedRst = codes "rfc5961.check.challenged-rst"
check_name WithoutAck = codes "rfc9293.check.without-ack"
check_name FirstAck = codes "rfc9293.check.first-ack"
check_name RefusedAck = codes "rfc9293.check.refused-ack"
check_name EarlyAck = codes "rfc9293.check.early-ack"
check_name OldAck = codes "rfc9293.check.old-ack"

-- a state (RFC 9293, section 3.3.2)
abbrev pub state_rule_name : ConnState → List ℕ
state_rule_name Closed = codes "rfc9293.state.closed"
state_rule_name Listen = codes "rfc9293.state.listen"
state_rule_name SynReceived = codes "rfc9293.state.syn-received"
state_rule_name Established = codes "rfc9293.state.established"
state_rule_name FinWait1 = codes "rfc9293.state.fin-wait-1"
state_rule_name FinWait2 = codes "rfc9293.state.fin-wait-2"
state_rule_name CloseWait = codes "rfc9293.state.close-wait"
state_rule_name Closing = codes "rfc9293.state.closing"
state_rule_name LastAck = codes "rfc9293.state.last-ack"
state_rule_name TimeWait = codes "rfc9293.state.time-wait"

-- the loss recovery that goes on, with SACK (RFC 6675, section 5) or without (RFC 5681, section 3.2)
abbrev pub recovery_name : Recovery → List ℕ
recovery_name Idle = codes "rfc5681.no-recovery"
recovery_name (WithSack on_the_way) = codes "rfc6675.recovery"
recovery_name WithoutSack = codes "rfc5681.recovery"

-- the growth of the congestion window: slow start below ssthresh, else congestion avoidance (RFC 5681, section 3.1)
abbrev pub growth_name : WindowSnapshot → List ℕ
growth_name w = if nat_lt w.cwnd w.ssthresh then codes "rfc5681.slow-start" else codes "rfc5681.congestion-avoidance"

-- whether the peer's window has room for octets (RFC 9293, section 3.8.6)
abbrev pub window_name : WindowSnapshot → List ℕ
window_name w = if w.rwnd == 0 then codes "rfc9293.window.closed" else codes "rfc9293.window.open"

abbrev pub phases_of_windows : Option WindowSnapshot → List (List ℕ)
phases_of_windows None = []
phases_of_windows (Some w) = recovery_name w.recovery ∷ growth_name w ∷ window_name w ∷ []

abbrev pub phases_of_snapshot : Option ConnectionSnapshot → List (List ℕ)
phases_of_snapshot None = []
phases_of_snapshot (Some snapshot) = phases_of_windows snapshot.windows

-- its state, and from the end of the handshake on its loss recovery, the growth of its window, and the peer's window
abbrev pub phases : SenderState → List (List ℕ)
phases s = state_rule_name (conn_state s) ∷ phases_of_snapshot (connection_snapshot_in s)
