-- How the state of the sender moves: along the edges of RFC 9293, figure 5.
use Rattle.std.specs.Prelude.{◌≡◌, ℕ, ◌⊎◌, Bool, true, false, Ok}
use Rattle.pd_script.specs.declared.calls.Call.{Call}
use Rattle.pd_seg.specs.declared.call_results.Answer.{Answer}
use Rattle.pd_seg.specs.declared.segments.Segment.{Segment}
use Rattle.pd_host.specs.Arrivals.{arrived}
use Rattle.pd_host.specs.Calls.{called}
use Rattle.pd_host.specs.ConnStates.{conn_state}
use Rattle.pd_host.specs.Expiries.{advanced}
use Rattle.pd_host.specs.Invariants.{IsLawful}
use Rattle.pd_host.specs.declared.connection.states.ConnState.{ConnState}
use Rattle.pd_host.specs.declared.connection.states.ConnState.TheVariants.{Closed, Listen, SynReceived, Established, FinWait1, FinWait2, CloseWait, Closing, LastAck, TimeWait}
use Rattle.pd_host.specs.declared.endpoint.SenderState.{SenderState}

-- the edges that calls take: a passive OPEN, and CLOSE
abbrev pub is_call_edge : ConnState → ConnState → Bool
is_call_edge Closed Listen = true
is_call_edge Listen Closed = true
is_call_edge Established FinWait1 = true
is_call_edge CloseWait LastAck = true
is_call_edge _ _ = false

-- the edges that segments take: the SYN, the ACK of our SYN, the peer's FIN, the ACK of our FIN
abbrev pub is_segment_edge : ConnState → ConnState → Bool
is_segment_edge Listen SynReceived = true
is_segment_edge SynReceived Established = true
is_segment_edge Established CloseWait = true
is_segment_edge FinWait1 Closing = true
is_segment_edge FinWait2 TimeWait = true
is_segment_edge FinWait1 FinWait2 = true
is_segment_edge Closing TimeWait = true
is_segment_edge LastAck Closed = true
is_segment_edge _ _ = false

-- two of them at once: the segment acknowledges our SYN or our FIN and has the peer's FIN
abbrev pub is_double_edge : ConnState → ConnState → Bool
is_double_edge SynReceived CloseWait = true
is_double_edge FinWait1 TimeWait = true
is_double_edge _ _ = false

-- a call leaves the state, or moves it along one edge
abbrev pub MovesByCall : ConnState → ConnState → Type 0
MovesByCall from to = (to ≡ from) ⊎ (is_call_edge from to ≡ true)

-- a segment leaves the state, or moves it along one edge, or with a FIN along two; an RST leads to CLOSED from anywhere,
-- where the figure has one from SYN-RECEIVED back to LISTEN alone (own)
abbrev pub MovesBySegment : Segment → ConnState → ConnState → Type 0
MovesBySegment segment from to =
    (to ≡ from)
    ⊎ (is_segment_edge from to ≡ true)
    ⊎ ((segment.flags.fin ≡ true) × (is_double_edge from to ≡ true))
    ⊎ ((segment.flags.rst ≡ true) × (to ≡ Closed))

-- so it is, whatever comes in; no expiry moves the state, as TIME-WAIT lasts to the end of the run (own profile)
pub record FollowsStateDiagram : Type 0 where
  pub calls :
      (call : Call) (now : ℕ) (s t : SenderState) (answer : Answer) → IsLawful now s → called call now s ≡ Ok (t, answer)
      → MovesByCall (conn_state s) (conn_state t)
  pub arrivals :
      (segment : Segment) (now : ℕ) (s t : SenderState) → IsLawful now s → arrived segment now s ≡ Ok t
      → MovesBySegment segment (conn_state s) (conn_state t)
  pub expiries : (until : ℕ) (s t : SenderState) → advanced until s ≡ Ok t → conn_state t ≡ conn_state s
