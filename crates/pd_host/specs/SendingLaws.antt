-- The laws of all that is sent.
use Rattle.std.specs.Prelude.{◌≡◌, ◌↔◌, ℕ, ◌+◌, ◌-◌, ◌<◌, ◌≤◌, ◌⊎◌, ◌&&◌, nat_lt, min, max, Bool, true, false, List, [], ◌∷◌, ◌++◌, Option, Some, None, Ok, if◌then◌else◌, unwrap_or, option_map, option_and_then}
use Rattle.std.specs.List.{AllByRecursion}
use Rattle.pd_board.specs.Retransmit.{run_at}
use Rattle.pd_board.specs.Board.{BoardView, IsBoardView}
use Rattle.pd_board.specs.Loss.{pipe}
use Rattle.pd_recover.specs.Acks.{acked}
use Rattle.pd_recover.specs.NextSeg.{segment_of}
use Rattle.pd_settings.specs.declared.initial_window.InitialWindow.{InitialWindow}
use Rattle.pd_recover.specs.Cong.{CongView, initial_window_by_rule, is_prr_recovering, sndcnt}
use Rattle.pd_recover.specs.Prr.{proportional_ssthresh}
use Rattle.pd_recover.specs.Laws.{IsSpared, forces}
use Rattle.pd_recover.specs.declared.ack.Ack.{Ack}
use Rattle.pd_recover.specs.declared.ack_action.AckAction.TheVariants.{StepC, Entry, NewSegment}
use Rattle.pd_recover.specs.declared.next_segment.NextSegment.{NextSegment}
use Rattle.pd_script.specs.declared.calls.Call.{Call}
use Rattle.pd_seg.specs.declared.call_results.Answer.{Answer}
use Rattle.pd_seg.specs.declared.sack_spans.Span.{Span}
use Rattle.pd_seg.specs.declared.segments.Segment.{Segment}
use Rattle.pd_seg.specs.declared.segments.Sent.{Sent}
use Rattle.pd_host.specs.AckEffects.{OnTheWay, newly_acked, octets_of, next_by, next_fill, one_filled, pipe_of, filled_from, filled, taking, ack_taken}
use Rattle.pd_host.specs.Arrivals.{arrived}
use Rattle.pd_host.specs.Calls.{called, stream_of}
use Rattle.pd_host.specs.Connection.{ConnectionView, data_end}
use Rattle.pd_host.specs.Expiries.{deadline_of, due_by, connection_expired, expired_by, expired, advanced}
use Rattle.pd_host.specs.Packets.{data_of}
use Rattle.pd_host.specs.Syscalls.{syscall_of}
use Rattle.pd_host.specs.Sending.{value_in, with_begun_connection, una_plus_smaller_window, ordinary_segment, found, sent_ordinarily, is_all_acked_and_idle_over_rto, ordinary, is_recovering}
use Rattle.pd_host.specs.RttSegment.{overlaps, timing_started}
use Rattle.pd_host.specs.declared.established.Established.{Established}
use Rattle.pd_host.specs.declared.connection.ack_effects.WindowFill.{WindowFill}
use Rattle.pd_host.specs.declared.syscall.SocketOperation.TheVariants.{Close}
use Rattle.pd_host.specs.declared.syscall.Syscall.TheVariants.{On}
use Rattle.pd_host.specs.declared.endpoint.SenderState.{SenderState}
use Rattle.pd_host.specs.declared.descriptors.StreamState.TheVariants as stream_state
use Rattle.pd_host.specs.declared.connection.rtt_segment.RttSegment.{RttSegment}

-- Flow control (RFC 9293, section 3.8.6)

-- a segment with octets that weren't sent before has no others, and ends where the peer's window does at most
abbrev pub IsInPeersWindow : BoardView → ℕ → Span → Type 0
IsInPeersWindow s rwnd segment = s.top < segment.end → (segment.start ≡ s.top) × (segment.end ≤ s.una + rwnd)

-- so is each segment that is chosen; what is sent again has no such octets
pub record ControlsFlow : Type 0 where
  pub ordinary :
      (c : ConnectionView) (e : Established) (segment : Span) → c.board.next ≤ c.board.top
      → ordinary_segment c e ≡ Some segment → IsInPeersWindow c.board e.rwnd segment
  pub filling :
      (filling : WindowFill) (on_the_way : ℕ) (c : ConnectionView) (e : Established) (sent : NextSegment)
      → next_by filling on_the_way c e ≡ Some sent → IsInPeersWindow c.board e.rwnd (segment_of sent)
  pub duplicate :
      (ack : Ack) (w : CongView) (segment : Span)
      → (acked ack w).1 ≡ NewSegment segment → (segment.start ≡ ack.top) × (segment.end ≤ ack.una + ack.rwnd)
  pub again : (s : BoardView) (start : ℕ) → (run_at start s).end ≤ s.top

-- the number after the highest octet that was sent
abbrev pub top_in : Option ConnectionView → ℕ
top_in connection = unwrap_or (option_map (λ c. c.board.top) connection) 0

-- the number after the last octet that the peer's window takes, 0 where there is none yet
abbrev pub peer_window_edge : Option ConnectionView → ℕ
peer_window_edge connection = value_in 0 (λ c e. c.board.una + e.rwnd) connection

-- the segment that is timed, if one is
abbrev pub rtt_segment_in : Option ConnectionView → Option RttSegment
rtt_segment_in connection = option_and_then (λ c. c.rtt_segment) connection

-- the number after the last octet of a segment, a FIN counted (RFC 9293, section 3.4)
abbrev pub end_with_fin : Segment → ℕ
end_with_fin segment = if segment.flags.fin then segment.end + 1 else segment.end

-- the octets of a packet lie below a number, if it has any
abbrev pub LiesBelow : ℕ → Sent → Type 0
LiesBelow edge p = p.segment.start < end_with_fin p.segment → end_with_fin p.segment ≤ edge

-- each octet that was put out was sent before, or lies in the peer's window as it is then
abbrev pub PutsOutInWindow : SenderState → SenderState → Type 0
PutsOutInWindow s t =
    (packets : List Sent)
    × AllByRecursion (LiesBelow (max (top_in s.endpoint.connection) (peer_window_edge t.endpoint.connection))) packets
    × (t.endpoint.outbox ≡ s.endpoint.outbox ++ packets)

-- so it is, whatever comes in
pub record StaysInWindow : Type 0 where
  pub arrivals : (segment : Segment) (now : ℕ) (s t : SenderState) → arrived segment now s ≡ Ok t → PutsOutInWindow s t
  pub calls : (call : Call) (now : ℕ) (s t : SenderState) (answer : Answer) → called call now s ≡ Ok (t, answer) → PutsOutInWindow s t
  pub expiries : (until : ℕ) (s t : SenderState) → advanced until s ≡ Ok t → PutsOutInWindow s t

-- Congestion control (RFC 5681, section 3.1; RFC 6675, section 5)

-- below this number both windows let octets leave, 0 where there are none yet
abbrev pub edge_of : Option ConnectionView → ℕ
edge_of connection = value_in 0 una_plus_smaller_window connection

-- ordinary sending chooses nothing that ends beyond the congestion window, and so puts nothing out that does; after an idle
-- time none that ends beyond the restart window, where the setting was on (RFC 5681, section 4.1); step C and limited
-- transmit choose where the window has room for a full segment beside what is on the way
pub record ControlsCongestion : Type 0 where
  pub chosen :
      (c : ConnectionView) (e : Established) (segment : Span)
      → ordinary_segment c e ≡ Some segment → segment.end ≤ c.board.una + e.congestion.cwnd
  pub restart :
      (now : ℕ) (s t : SenderState) (c : ConnectionView) (e : Established) (rule : InitialWindow) → s.endpoint.connection ≡ Some c
      → c.established ≡ Some e → e.congestion.idle_restart_rule ≡ Some rule → is_all_acked_and_idle_over_rto now c ≡ true → ordinary now s ≡ Ok t
      → (packets : List Sent)
      × AllByRecursion (λ p. end_with_fin p.segment ≤ c.board.una + min (initial_window_by_rule rule c.board.smss) e.congestion.cwnd) packets
      × (t.endpoint.outbox ≡ s.endpoint.outbox ++ packets)
  pub ordinary :
      (now : ℕ) (s t : SenderState) → ordinary now s ≡ Ok t
      → (packets : List Sent)
      × AllByRecursion (λ p. end_with_fin p.segment ≤ edge_of s.endpoint.connection) packets
      × (t.endpoint.outbox ≡ s.endpoint.outbox ++ packets)
  pub filling :
      (filling : WindowFill) (on_the_way : ℕ) (c : ConnectionView) (e : Established) (sent : NextSegment)
      → next_by filling on_the_way c e ≡ Some sent → c.board.smss ≤ e.congestion.cwnd - on_the_way

-- how many octets packets have
abbrev pub octets_in : List Sent → ℕ
octets_in [] = 0
octets_in (p ∷ packets) = (end_with_fin p.segment - p.segment.start) + octets_in packets

-- cwnd, 0 where there is none yet
abbrev pub cwnd_in : Option ConnectionView → ℕ
cwnd_in connection = value_in 0 (λ c e. e.congestion.cwnd) connection

-- the packets that were put out have no more octets than the congestion window has room for beside those on the way
abbrev pub FillsWindow : SenderState → SenderState → Type 0
FillsWindow s t =
    (packets : List Sent)
    × (octets_in packets ≤ cwnd_in s.endpoint.connection - pipe_of s.endpoint.connection)
    × (t.endpoint.outbox ≡ s.endpoint.outbox ++ packets)

-- so it is after step C and after limited transmit (RFC 6675, section 5)
abbrev pub KeepsToWindow : Type 0
KeepsToWindow = (now : ℕ) (filling : WindowFill) (s t : SenderState) → filled now filling s ≡ Ok t → FillsWindow s t

-- Proportional Rate Reduction (RFC 9937, section 6)

-- whether recovery goes on by it
abbrev pub reducing_in : Option ConnectionView → Bool
reducing_in connection = value_in false (λ c e. is_prr_recovering e.congestion.recovering e.congestion.recovery_algorithm) connection

-- prr_out, and at the pipe sndcnt and whether a segment is forced; 0 and false where there are none yet
abbrev pub out_in : Option ConnectionView → ℕ
out_in connection = value_in 0 (λ c e. e.congestion.prr.prr_out) connection

abbrev pub sndcnt_in : Option ConnectionView → ℕ
sndcnt_in connection = value_in 0 (λ c e. sndcnt c.board.smss (pipe e.congestion.high_rxt c.board) e.congestion) connection

abbrev pub forces_in : Option ConnectionView → Bool
forces_in connection = value_in false (λ c e. forces c.board.smss (pipe e.congestion.high_rxt c.board) e.congestion) connection

-- the packets that were put out have so many octets at most, and prr_out has grown by no more
abbrev pub LetsOut : ℕ → SenderState → SenderState → Type 0
LetsOut most s t =
    (packets : List Sent)
    × (octets_in packets ≤ most)
    × (out_in t.endpoint.connection ≤ out_in s.endpoint.connection + most)
    × (t.endpoint.outbox ≡ s.endpoint.outbox ++ packets)

-- all that an ACK in recovery by PRR puts out has sndcnt octets at most, as they are before anything of it is sent; at an entry
-- the segment at una leaves whatever sndcnt is. Where no segment is forced and no more than sndcnt octets leave: with the pipe
-- above ssthresh, prr_out is then at most what it was, or the part of ssthresh that was delivered; else the pipe, with what was
-- put out, stays at or below ssthresh, and where SafeACK fails prr_out is at most the greater of prr_delivered and what it was
-- with DeliveredData
pub record RecoversInProportion : Type 0 where
  pub acks :
      (now : ℕ) (segment : Segment) (c : ConnectionView) (s t : SenderState) (o : Option Established)
      → (taking now segment c o).1 ≡ StepC → reducing_in (Some (taking now segment c o).0) ≡ true
      → ack_taken now segment c s o ≡ Ok t
      → LetsOut (sndcnt_in (Some (taking now segment c o).0)) (with_begun_connection (taking now segment c o).0 s) t
  pub entries :
      (now : ℕ) (segment : Segment) (c : ConnectionView) (s t : SenderState) (o : Option Established)
      → let d : ConnectionView = (taking now segment c o).0 in
      (taking now segment c o).1 ≡ Entry → reducing_in (Some d) ≡ true
      → ack_taken now segment c s o ≡ Ok t
      → LetsOut (max (sndcnt_in (Some d)) (octets_of (run_at d.board.una d.board))) (with_begun_connection d s) t
  pub proportional :
      (most : ℕ) (s t : SenderState) (c : ConnectionView) (e : Established) → s.endpoint.connection ≡ Some c → c.established ≡ Some e
      → LetsOut most s t → most ≤ sndcnt_in s.endpoint.connection → forces_in s.endpoint.connection ≡ false
      → e.congestion.ssthresh < pipe e.congestion.high_rxt c.board
      → out_in t.endpoint.connection
      ≤ max e.congestion.prr.prr_out (proportional_ssthresh e.congestion.ssthresh e.congestion.prr)
  pub target :
      (most : ℕ) (s t : SenderState) (c : ConnectionView) (e : Established) → s.endpoint.connection ≡ Some c → c.established ≡ Some e
      → (out : LetsOut most s t) → most ≤ sndcnt_in s.endpoint.connection → forces_in s.endpoint.connection ≡ false
      → pipe e.congestion.high_rxt c.board ≤ e.congestion.ssthresh
      → pipe e.congestion.high_rxt c.board + octets_in out.0 ≤ e.congestion.ssthresh
  pub conservative :
      (most : ℕ) (s t : SenderState) (c : ConnectionView) (e : Established) → s.endpoint.connection ≡ Some c → c.established ≡ Some e
      → LetsOut most s t → most ≤ sndcnt_in s.endpoint.connection → forces_in s.endpoint.connection ≡ false
      → pipe e.congestion.high_rxt c.board ≤ e.congestion.ssthresh → e.congestion.prr.safe_ack ≡ false
      → out_in t.endpoint.connection
      ≤ max e.congestion.prr.prr_delivered (e.congestion.prr.prr_out + e.congestion.prr.delivered_data)

-- All that may leave does

-- one packet more follows those that nobody has taken
abbrev pub PutsOutOne : SenderState → SenderState → Type 0
PutsOutOne s t = (packet : Sent) × (t.endpoint.outbox ≡ s.endpoint.outbox ++ packet ∷ [])

-- each segment that is found, and each expiry that is due, puts out exactly one packet: where the outbox has n places left,
-- sending and expiries go on at most n times
pub record SendsOneByOne : Type 0 where
  pub ordinary :
      (now : ℕ) (segment : Span) (s : SenderState) → found s.endpoint.connection ≡ Some segment
      → PutsOutOne s (sent_ordinarily now segment s.endpoint.connection s)
  pub filling :
      (now : ℕ) (filling : WindowFill) (sent : NextSegment) (t : OnTheWay)
      → next_fill filling t.1 t.0.endpoint.connection ≡ Some sent
      → PutsOutOne t.0 (one_filled now filling sent t.0.endpoint.connection t).0
  pub expiries :
      (until at : ℕ) (s : SenderState) → due_by until (deadline_of s) ≡ Some at
      → PutsOutOne s (expired at s.endpoint.connection s)

-- where sending comes to its end, nothing more is found; no expiry is due up to the moment up to which all were performed
pub record SendsAllThatMay : Type 0 where
  pub ordinary : (now : ℕ) (s t : SenderState) → ordinary now s ≡ Ok t → found t.endpoint.connection ≡ None
  pub filling :
      (now : ℕ) (filling : WindowFill) (s t : SenderState) → filled now filling s ≡ Ok t
      → (on_the_way : ℕ)
      × (filled_from now filling (s, pipe_of s.endpoint.connection) ≡ Ok (t, on_the_way))
      × (next_fill filling on_the_way t.endpoint.connection ≡ None)
  pub expiries : (until : ℕ) (s t : SenderState) → advanced until s ≡ Ok t → due_by until (deadline_of t) ≡ None

-- Karn's algorithm (RFC 6298, section 3)

-- a segment that overlaps the timed one gives its timing up, and no other does; only octets that weren't sent before are
-- timed, from the moment that they are sent at; after an expiry nothing is timed
pub record TimesOnce : Type 0 where
  pub given_up :
      (now : ℕ) (segment : Span) (c : ConnectionView) (t : RttSegment)
      → c.rtt_segment ≡ Some t → overlaps t.segment segment ≡ true → (timing_started now segment c).rtt_segment ≡ None
  pub kept :
      (now : ℕ) (segment : Span) (c : ConnectionView) (t : RttSegment)
      → c.rtt_segment ≡ Some t → overlaps t.segment segment ≡ false → (timing_started now segment c).rtt_segment ≡ Some t
  pub begun :
      (now : ℕ) (segment : Span) (c : ConnectionView) (t : RttSegment) → c.rtt_segment ≡ None
      → (timing_started now segment c).rtt_segment ≡ Some t
      → (t.segment ≡ segment) × (t.sent_at ≡ now) × (c.board.top ≤ segment.start)
  pub expiry : (at : ℕ) (c : ConnectionView) → (connection_expired at c c.established).rtt_segment ≡ None

-- the number after the last octet of a segment, a SYN and a FIN counted (RFC 9293, section 3.4)
abbrev pub end_with_flags : Segment → ℕ
end_with_flags segment = if segment.flags.syn then end_with_fin segment + 1 else end_with_fin segment

-- a packet has an octet of the timed segment
abbrev pub touches : RttSegment → Sent → Bool
touches x p =
    let octets : Span = record { start = p.segment.start; end = end_with_flags p.segment } in
    nat_lt octets.start octets.end && overlaps x.segment octets

-- no packet has
abbrev pub AreApart : RttSegment → List Sent → Type 0
AreApart x packets = AllByRecursion (λ p. touches x p ≡ false) packets

-- the timed segment lies at or above a number and is one of the packets, with all its octets, put out at the moment from
-- which it is timed; no other packet has an octet of it
pub record IsSentOnce (top : ℕ) (x : RttSegment) (packets : List Sent) : Type 0 where
  pub above : top ≤ x.segment.start
  pub before : List Sent
  pub packet : Sent
  pub after : List Sent
  pub order : packets ≡ before ++ packet ∷ after
  pub start : packet.segment.start ≡ x.segment.start
  pub end : x.segment.start < x.segment.end → end_with_flags packet.segment ≡ x.segment.end
  pub moment : packet.at ≡ x.sent_at
  pub apart_before : AreApart x before
  pub apart_after : AreApart x after

-- a segment that is timed after an input was timed before it, and no packet that was put out has an octet of it; or it was put
-- out then, once, and never before
abbrev pub TimesNew : SenderState → SenderState → Type 0
TimesNew s t =
    (packets : List Sent)
    × (t.endpoint.outbox ≡ s.endpoint.outbox ++ packets)
    × ((x : RttSegment)
    → rtt_segment_in t.endpoint.connection ≡ Some x
    → ((rtt_segment_in s.endpoint.connection ≡ Some x) × AreApart x packets) ⊎ IsSentOnce (top_in s.endpoint.connection) x packets)

-- so it is, whatever comes in: a round trip is measured only of octets that were sent once
pub record MeasuresWhatIsSentOnce : Type 0 where
  pub arrivals : (segment : Segment) (now : ℕ) (s t : SenderState) → arrived segment now s ≡ Ok t → TimesNew s t
  pub calls : (call : Call) (now : ℕ) (s t : SenderState) (answer : Answer) → called call now s ≡ Ok (t, answer) → TimesNew s t
  pub expiries : (until : ℕ) (s t : SenderState) → advanced until s ≡ Ok t → TimesNew s t

-- The FIN (RFC 9293, section 3.10.4)

-- it is on a segment that covers the last octet queued, and no octet of data follows it; only `close` queues it, and
-- nothing is queued then any more, neither by a call nor by an arrival or an expiry
pub record EndsWithFin : Type 0 where
  pub covered :
      (c : ConnectionView) (segment : Span) → (data_of c segment).flags.fin ≡ true
      → (c.fin ≡ true) × (segment.start < c.board.end) × (c.board.end ≤ segment.end)
  pub before : (c : ConnectionView) (segment : Span) → (data_of c segment).end ≤ data_end c
  pub closed :
      (call : Call) (now : ℕ) (s t : SenderState) (answer : Answer) (c d : ConnectionView) → s.endpoint.connection ≡ Some c
      → t.endpoint.connection ≡ Some d → c.fin ≡ false → d.fin ≡ true → called call now s ≡ Ok (t, answer)
      → syscall_of call ≡ Some (On 4 Close)
  pub last :
      (call : Call) (now : ℕ) (s t : SenderState) (answer : Answer) (c : ConnectionView) → s.endpoint.connection ≡ Some c
      → stream_of c ≡ stream_state.Closed → called call now s ≡ Ok (t, answer) → t.endpoint.connection ≡ Some c
  pub arrivals :
      (segment : Segment) (now : ℕ) (s t : SenderState) (c d : ConnectionView) → s.endpoint.connection ≡ Some c
      → t.endpoint.connection ≡ Some d → arrived segment now s ≡ Ok t
      → (d.fin ≡ c.fin) × (d.board.end ≡ c.board.end)
  pub expiries :
      (until : ℕ) (s t : SenderState) (c d : ConnectionView) → s.endpoint.connection ≡ Some c
      → t.endpoint.connection ≡ Some d → advanced until s ≡ Ok t
      → (d.fin ≡ c.fin) × (d.board.end ≡ c.board.end)

-- Octets that the peer has (RFC 2018, section 5; RFC 6675, section 4)

-- no octet of a segment that is chosen is SACKed
pub record SparesWhatArrived : Type 0 where
  pub ordinary :
      (c : ConnectionView) (e : Established) (segment : Span) → IsBoardView c.board
      → ordinary_segment c e ≡ Some segment → IsSpared c.board segment
  pub filling :
      (filling : WindowFill) (on_the_way : ℕ) (c : ConnectionView) (e : Established) (sent : NextSegment) → IsBoardView c.board
      → next_by filling on_the_way c e ≡ Some sent → IsSpared c.board (segment_of sent)
  pub entry : (c : ConnectionView) → IsSpared c.board (run_at c.board.una c.board)

-- The end of loss recovery (RFC 6675, section 5; RFC 5681, section 3.2)

-- whether it goes on
abbrev pub recovers : Option ConnectionView → Bool
recovers None = false
recovers (Some c) = is_recovering c.established

-- with SACK an ACK ends it exactly where it reaches RecoveryPoint, without SACK exactly where it acknowledges new octets;
-- an expiry always does
pub record EndsRecovery : Type 0 where
  pub with_sack :
      (now : ℕ) (segment : Segment) (c : ConnectionView) (s t : SenderState) (e : Established) → c.established ≡ Some e
      → c.sack ≡ true → e.congestion.recovering ≡ true → ack_taken now segment c s c.established ≡ Ok t
      → (recovers t.endpoint.connection ≡ false) ↔ (e.congestion.recovery_point ≤ segment.ack)
  pub without_sack :
      (now : ℕ) (segment : Segment) (c : ConnectionView) (s t : SenderState) (e : Established) → c.established ≡ Some e
      → c.sack ≡ false → e.congestion.recovering ≡ true → ack_taken now segment c s c.established ≡ Ok t
      → (recovers t.endpoint.connection ≡ false) ↔ (0 < newly_acked c segment)
  pub expiry : (at : ℕ) (e : Established) (c : ConnectionView) → is_recovering (expired_by at e c).established ≡ false
