-- A connection's transmission control block.
use Rattle.std.specs.Prelude.{ℕ, ◌-◌, Bool, Option, None, Some, if◌then◌else◌}
use Rattle.pd_board.specs.Board.{BoardView}
use Rattle.pd_timer.specs.Rto.{RtoView}
use Rattle.pd_host.specs.declared.established.Established.{Established}
use Rattle.pd_host.specs.declared.established.PeerFin.{PeerFin}
use Rattle.pd_host.specs.declared.established.PeerFin.TheVariants.{Awaited}
use Rattle.pd_host.specs.declared.connection.Scaling.{Scaling}
use Rattle.pd_host.specs.declared.connection.rtt_segment.RttSegment.{RttSegment}

-- a connection's transmission control block (RFC 9293, section 3.3.1); numbers are relative, both initial ones at 0
pub record ConnectionView : Type 0 where
  -- the MSS that the SYN/ACK announces, in octets (RFC 9293, section 3.7.1)
  pub own_mss : ℕ
  -- whether SACK was agreed (RFC 2018, section 2)
  pub sack : Bool
  -- by how much windows are shifted, if that was agreed (RFC 7323, section 2)
  pub scaling : Option Scaling
  -- RCV.WND: how many octets the peer may send
  pub rcv_wnd : ℕ
  -- SMSS, the numbers that are sent by, and the SACKed octets (RFC 9293, section 3.3.1; RFC 6675, section 3)
  pub board : BoardView
  -- whether the last octet queued is our FIN
  pub fin : Bool
  -- the retransmission timer (RFC 6298)
  pub timer : RtoView
  -- the segment whose round trip is measured, if one is (RFC 6298, section 3)
  pub rtt_segment : Option RttSegment
  -- when octets were last sent, our SYN and FIN too (RFC 5681, section 4.1)
  pub last_sent : ℕ
  -- the largest of the peer's windows seen so far, in octets, the SYN's too (RFC 9293, section 3.8.6.2.1: Max(SND.WND))
  pub max_window : ℕ
  -- whether the SYN/ACK was sent again (RFC 5681, section 3.1; RFC 6298, section 5.7)
  pub syn_ack_resent : Bool
  -- its parts that begin at the end of its handshake
  pub established : Option Established
  -- whether an RST has ended it
  pub is_reset : Bool

-- the peer's FIN, which can't have come before the end of the handshake
abbrev pub peer_fin_in : Option Established → PeerFin
peer_fin_in None = Awaited
peer_fin_in (Some e) = e.peer_fin

-- the number of the next octet that the peer sends: its FIN is octet 1, since no data of it is run (own profile), and
-- nothing comes after it
abbrev pub next_from : PeerFin → ℕ
next_from Awaited = 1
next_from _ = 2

-- RCV.NXT (RFC 9293, section 3.3.1)
abbrev pub rcv_nxt : ConnectionView → ℕ
rcv_nxt c = next_from (peer_fin_in c.established)

-- the number after the last octet of data that is queued; the FIN is the octet after it
abbrev pub data_end : ConnectionView → ℕ
data_end c = if c.fin then c.board.end - 1 else c.board.end
