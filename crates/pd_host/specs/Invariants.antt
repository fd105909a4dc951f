-- The invariant of every connection that the rules reach.
use Rattle.std.specs.Prelude.{◌≡◌, ℕ, ◌+◌, ◌^◌, ◌<◌, ◌≤◌, nat_lt, Bool, true, false, ◌&&◌, not, Option, Some, None, is_some, Ok, Err, IfSome}
use Rattle.pd_settings.specs.declared.settings.Settings.{Settings}
use Rattle.pd_script.specs.declared.calls.Call.{Call}
use Rattle.pd_seg.specs.declared.call_results.Answer.{Answer}
use Rattle.pd_seg.specs.declared.segments.Segment.{Segment}
use Rattle.pd_board.specs.Octets.{contains, octets_where}
use Rattle.pd_board.specs.Board.{BoardView, IsBoardView}
use Rattle.pd_recover.specs.Laws.{IsWithin}
use Rattle.pd_host.specs.Arrivals.{arrived}
use Rattle.pd_host.specs.Calls.{called, stream_in}
use Rattle.pd_host.specs.Connection.{ConnectionView, peer_fin_in}
use Rattle.pd_host.specs.Expiries.{advanced}
use Rattle.pd_host.specs.Growth.{asked_by, HasRoomFor}
use Rattle.pd_host.specs.Laws.{IsUpTo}
use Rattle.pd_host.specs.Syscalls.{syscall_of}
use Rattle.pd_host.specs.Host.{HostView, fresh_host, without_oldest, queued_to}
use Rattle.pd_host.specs.declared.established.Established.{Established}
use Rattle.pd_host.specs.declared.halts.Halt.TheVariants.{Unsupported}
use Rattle.pd_host.specs.declared.established.PeerFin.TheVariants.{AfterOurs}
use Rattle.pd_host.specs.declared.endpoint.SenderState.{SenderState}
use Rattle.pd_host.specs.declared.descriptors.StreamState.TheVariants as stream_state
use Rattle.pd_host.specs.declared.connection.rtt_segment.RttSegment.{RttSegment}

-- the agreement of the SYN and the settings stays (RFC 9293, section 3.7.1)
pub record IsAgreed (b : Settings) (own_mss smss rcv_wnd : ℕ) : Type 0 where
  pub mss : own_mss ≡ b.mss
  pub no_longer : smss ≤ b.mss
  pub window : rcv_wnd ≡ b.rcv_wnd

-- where our FIN is queued descriptor 4 is closed, so that nothing is queued after it (RFC 9293, section 3.10.4); where a
-- FIN of the peer is noted as after ours, ours is queued
abbrev pub IsEnding : Bool → Option Established → Type 0
IsEnding fin o = (fin ≡ true → stream_in o ≡ stream_state.Closed) × (peer_fin_in o ≡ AfterOurs → fin ≡ true)

-- the numbers that are sent by are in order, and what is SACKed was sent and isn't acknowledged (RFC 9293, section 3.3.1;
-- RFC 2018, section 3)
pub record IsOrdered (s : BoardView) : Type 0 where
  pub smss_low : 64 ≤ s.smss
  pub smss_high : s.smss ≤ 65495
  pub una_next : s.una ≤ s.next
  pub next_top : s.next ≤ s.top
  pub top_end : s.top ≤ s.end
  pub sacked_ascending : s.sacked ≡ octets_where (contains s.sacked) s.una s.top
  pub sacked_sent : (x : ℕ) → contains s.sacked x ≡ true → (s.una ≤ x) × (x < s.top)

-- our FIN is one octet
abbrev pub fin_octets : Bool → ℕ
fin_octets true = 1
fin_octets false = 0

-- in the handshake our SYN alone is sent; from its end on it is acknowledged (RFC 9293, section 3.10.7.4, fifth check)
abbrev pub IsOfPhase : Option Established → ℕ → ℕ → ℕ → Type 0
IsOfPhase None una top end = (una ≡ 0) × (top ≡ 1) × (end ≡ 1)
IsOfPhase (Some e) una top end = 1 ≤ una

-- the windows and the threshold stay in their bounds (RFC 5681, section 3.1), the peer's window is none that is larger than
-- the largest seen, and loss recovery names nothing that wasn't sent (RFC 6675, section 2)
pub record IsInBounds (b : Settings) (smss top largest : ℕ) (e : Established) : Type 0 where
  pub windows : IsWithin smss b.initial_ssthresh e.congestion
  pub max_window : e.rwnd ≤ largest
  pub recovery_point : e.congestion.recovery_point ≤ top
  pub high_rxt : e.congestion.high_rxt ≤ top
  pub rescue_rxt : e.congestion.rescue_rxt ≤ top

-- the segment that is timed has octets that were sent and aren't all acknowledged (RFC 6298, section 3)
pub record IsTimed (now una top : ℕ) (t : RttSegment) : Type 0 where
  pub some : t.segment.start < t.segment.end
  pub waited : una < t.segment.end
  pub sent : t.segment.end ≤ top
  pub past : t.sent_at ≤ now

-- a connection that the rules reach at a moment
pub record IsReached (b : Settings) (now : ℕ) (c : ConnectionView) : Type 0 where
  pub agreed : IsAgreed b c.own_mss c.board.smss c.rcv_wnd
  pub board : IsOrdered c.board
  -- no more is queued than the setting `sndbuf` and our FIN
  pub room : c.board.end ≤ c.board.una + b.sndbuf + fin_octets c.fin
  pub phase : IsOfPhase c.established c.board.una c.board.top c.board.end
  pub fin : IsEnding c.fin c.established
  pub bounds : IfSome c.established (IsInBounds b c.board.smss c.board.top c.max_window)
  -- the timer runs while octets are outstanding, our SYN too, and not else (RFC 6298, sections 5.1 and 5.2), and not after
  -- an RST (RFC 9293, section 3.10.7.4)
  pub runs : is_some c.timer.deadline ≡ (nat_lt c.board.una c.board.top && not c.is_reset)
  pub rtt_segment : IfSome c.rtt_segment (IsTimed now c.board.una c.board.top)

-- with SACK loss recovery goes on only while una is below RecoveryPoint (RFC 6675, section 5)

-- while loss recovery goes on, una lies below RecoveryPoint
abbrev pub RecoversBelow : ℕ → Option Established → Type 0
RecoversBelow una o = IfSome o (λ e. e.congestion.recovering ≡ true → una < e.congestion.recovery_point)

-- so it is on a connection where SACK was agreed
abbrev pub IsBelowPoint : ConnectionView → Type 0
IsBelowPoint c = c.sack ≡ true → RecoversBelow c.board.una c.established

-- a state that the rules reach at a moment
pub record IsLawful (now : ℕ) (s : SenderState) : Type 0 where
  pub moments : IsUpTo s.settings now s
  pub connection : IfSome s.endpoint.connection (IsReached s.settings now)
  pub recovery : IfSome s.endpoint.connection IsBelowPoint

-- so is the first,
abbrev pub StartsLawful : Type 0
StartsLawful = (settings : Settings) → IsLawful 0 (fresh_host settings).state

-- and each that comes of the expiries up to a later moment,
abbrev pub AdvancesStayLawful : Type 0
AdvancesStayLawful =
    (now until : ℕ) (s t : SenderState) → now ≤ until → IsLawful now s → advanced until s ≡ Ok t → IsLawful until t

-- of an arrival at that moment,
abbrev pub ArrivalsStayLawful : Type 0
ArrivalsStayLawful = (segment : Segment) (now : ℕ) (s t : SenderState) → IsLawful now s → arrived segment now s ≡ Ok t → IsLawful now t

-- of a call at that moment,
abbrev pub CallsStayLawful : Type 0
CallsStayLawful =
    (call : Call) (now : ℕ) (s t : SenderState) (answer : Answer) → IsLawful now s → called call now s ≡ Ok (t, answer) → IsLawful now t

-- and of taking the oldest packet
abbrev pub TakingStaysLawful : Type 0
TakingStaysLawful = (now : ℕ) (sender : HostView) → IsLawful now sender.state → IsLawful now (without_oldest sender).state

-- while its numbers are below 2^31 a connection's board is one of those that the scoreboard's laws speak of
abbrev pub BoardsAreLawful : Type 0
BoardsAreLawful =
    (now : ℕ) (s : SenderState) (c : ConnectionView) → IsLawful now s → s.endpoint.connection ≡ Some c → c.board.end < 2 ^ 31
    → IsBoardView c.board

-- and where there is room for what a call asks for, they are so after it
abbrev pub CallsStayInRange : Type 0
CallsStayInRange =
    (call : Call) (now : ℕ) (s t : SenderState) (answer : Answer) → HasRoomFor (asked_by s.settings.sndbuf (syscall_of call)) s
    → called call now s ≡ Ok (t, answer) → queued_to t.endpoint.connection < 2 ^ 31

-- an RST ends a connection for good: no segment is run any more, nothing expires, and no call puts a packet out (RFC 9293,
-- section 3.10.7.4, second check)
pub record EndsForGood : Type 0 where
  pub arrivals :
      (segment : Segment) (now : ℕ) (s : SenderState) (c : ConnectionView) → s.endpoint.connection ≡ Some c
      → c.is_reset ≡ true → arrived segment now s ≡ Err Unsupported
  pub expiries :
      (now until : ℕ) (s : SenderState) (c : ConnectionView) → IsLawful now s
      → s.endpoint.connection ≡ Some c → c.is_reset ≡ true → advanced until s ≡ Ok s
  pub calls :
      (call : Call) (now : ℕ) (s t : SenderState) (answer : Answer) (c d : ConnectionView) → s.endpoint.connection ≡ Some c
      → t.endpoint.connection ≡ Some d → c.is_reset ≡ true → called call now s ≡ Ok (t, answer)
      → (d.is_reset ≡ true) × (t.endpoint.outbox ≡ s.endpoint.outbox)
