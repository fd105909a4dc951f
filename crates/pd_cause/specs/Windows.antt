-- Where the reason that no packet was sent names a window: which octets lie beyond it, and which within.
use Rattle.std.specs.Prelude.{◌≡◌, ℕ, ◌+◌, ◌<◌, ◌≤◌, min, Some}
use Rattle.pd_script.specs.declared.script_events.Action.{Action}
use Rattle.pd_host.specs.Connection.{ConnectionView}
use Rattle.pd_host.specs.SendBlockers.{last_octet_needed_in_windows, blocker_in}
use Rattle.pd_host.specs.Sending.{usable_window, unsent_octets, with_next_past_sacked}
use Rattle.pd_host.specs.declared.established.Established.{Established}
use Rattle.pd_host.specs.declared.connection.introspection.SendBlocker.TheVariants.{PeerWindow, CongestionWindow, PartOfSegment}
use Rattle.pd_host.specs.declared.endpoint.SenderState.{SenderState}
use Rattle.pd_cause.specs.SenderSnapshots.{reason_of}
use Rattle.pd_cause.specs.declared.causes.not_sent_reason.NotSentReason.TheVariants.{Held}

-- an octet lies within a window of so many octets from SND.UNA on
abbrev pub IsWithin : ConnectionView → ℕ → ℕ → Type 0
IsWithin c window octet = octet < c.board.una + window

-- it lies beyond the window
abbrev pub IsBeyond : ConnectionView → ℕ → ℕ → Type 0
IsBeyond c window octet = c.board.una + window ≤ octet

-- the octet that has to leave lies beyond the peer's window (RFC 9293, section 3.8.6)
abbrev pub HoldsByPeer : ConnectionView → Established → Type 0
HoldsByPeer c e = IsBeyond c e.rwnd (last_octet_needed_in_windows c)

-- it lies within the peer's window, and beyond the congestion window (RFC 5681, section 3.1)
abbrev pub HoldsByCongestion : ConnectionView → Established → Type 0
HoldsByCongestion c e = IsWithin c e.rwnd (last_octet_needed_in_windows c) × IsBeyond c e.congestion.cwnd (last_octet_needed_in_windows c)

-- the next octet lies within both windows, and fewer octets than a segment do: U < min(D, SMSS) (RFC 9293, section 3.8.6.2.1)
abbrev pub LeavesPart : ConnectionView → Established → Type 0
LeavesPart c e =
    IsWithin c e.rwnd c.board.next × IsWithin c e.congestion.cwnd c.board.next × (usable_window c e < min (unsent_octets c) c.board.smss)

-- so it is on the sender's connection, whose sending place has moved past SACKed octets (RFC 2018, section 5)
abbrev pub IsSoOn : SenderState → (ConnectionView → Established → Type 0) → Type 0
IsSoOn s P =
    (c : ConnectionView) × (e : Established) × (s.endpoint.connection ≡ Some c) × (c.established ≡ Some e) × P (with_next_past_sacked c) e

-- a law: where the reason names a window, the octets that it is about lie beyond that window, and within those that the
-- reasons before it name
pub record NamedWindowsHold : Type 0 where
  pub peer : (expected : Action) (s : SenderState) → reason_of expected (blocker_in s) ≡ Held PeerWindow → IsSoOn s HoldsByPeer
  pub congestion :
      (expected : Action) (s : SenderState) → reason_of expected (blocker_in s) ≡ Held CongestionWindow → IsSoOn s HoldsByCongestion
  pub part : (expected : Action) (s : SenderState) → reason_of expected (blocker_in s) ≡ Held PartOfSegment → IsSoOn s LeavesPart
