-- The effects of an acceptable ACK: on the numbers, the SACKed octets, the timer and the window, and the sending after it.
use Rattle.std.specs.Prelude.{ℕ, ◌+◌, ◌-◌, ◌==◌, ◌&&◌, ◌||◌, nat_lt, nat_le, Bool, false, max, List, [], ◌∷◌, ◌++◌, Option, Some, None, option_map, Result, Ok, Err, if◌then◌else◌}
use Rattle.pd_seg.specs.declared.option_list.SegOption.{SegOption}
use Rattle.pd_seg.specs.declared.option_list.SegOption.TheVariants.{Sack}
use Rattle.pd_seg.specs.declared.sack_spans.Span.{Span}
use Rattle.pd_seg.specs.declared.segments.Segment.{Segment}
use Rattle.pd_seg.specs.declared.send_rule.SendRule.{SendRule}
use Rattle.pd_seg.specs.declared.send_rule.SendRule.TheVariants.{NextSegLost, NextSegNew, NextSegHole, NextSegRescue, LimitedTransmit as LimitedBy3042, SackLimitedTransmit, FastRetransmit as FastBy5681, SackFastRetransmit}
use Rattle.pd_board.specs.Retransmit.{run_at}
use Rattle.pd_board.specs.Loss.{is_lost, pipe, sacked_octets, undelivered_octets, lost_edge}
use Rattle.pd_board.specs.Board.{BoardView, acknowledged, with_sacked_block, has_new}
use Rattle.pd_recover.specs.Acks.{acked}
use Rattle.pd_recover.specs.NextSeg.{segment_of, step_c_segment, limited_transmit_segment, with_sent_noted}
use Rattle.pd_recover.specs.Cong.{CongView, entered_to, with_limited, with_prr_cwnd}
use Rattle.pd_recover.specs.declared.ack.Ack.{Ack}
use Rattle.pd_recover.specs.declared.ack.Delivery.{Delivery}
use Rattle.pd_recover.specs.declared.ack.SackNews.{SackNews}
use Rattle.pd_recover.specs.declared.ack_action.AckAction.{AckAction}
use Rattle.pd_recover.specs.declared.ack_action.AckAction.TheVariants.{Ordinary, StepC, Entry, LimitedTransmit, NewSegment, FastRetransmit, Nothing}
use Rattle.pd_recover.specs.declared.next_segment.NextSegment.{NextSegment}
use Rattle.pd_recover.specs.declared.next_segment.NextSegment.TheVariants.{Lost, New, Hole, Rescue}
use Rattle.pd_host.specs.Connection.{ConnectionView}
use Rattle.pd_host.specs.Handshake.{before_eol, scaled_window_in, with_window}
use Rattle.pd_host.specs.OutboxLimit.{has_place}
use Rattle.pd_host.specs.Host.{then_on}
use Rattle.pd_host.specs.Sending.{value_in, repeated, places_left, with_begun_connection, with_segment, sent_on, ordinary}
use Rattle.pd_host.specs.RttSegment.{timing_started, with_sample, with_timer_updated}
use Rattle.pd_host.specs.declared.established.Established.{Established}
use Rattle.pd_host.specs.declared.connection.ack_effects.WindowFill.{WindowFill}
use Rattle.pd_host.specs.declared.connection.ack_effects.WindowFill.TheVariants.{NextSeg, NewData}
use Rattle.pd_host.specs.declared.halts.Halt.{Halt}
use Rattle.pd_host.specs.declared.halts.Halt.TheVariants.{Limit}
use Rattle.pd_host.specs.declared.endpoint.SenderState.{SenderState}

-- The ack number and the SACK blocks

-- N: how many octets the segment acknowledges that weren't acknowledged
abbrev pub newly_acked : ConnectionView → Segment → ℕ
newly_acked c segment = segment.ack - c.board.una

-- SND.UNA becomes SEG.ACK (RFC 9293, section 3.10.7.4, fifth check): all below it is acknowledged, and is sent no more
abbrev pub with_number : Segment → ConnectionView → ConnectionView
with_number segment c = record c { board = acknowledged segment.ack c.board }

-- the blocks of a SACK option (RFC 2018, section 3); another option has none
abbrev pub blocks_in : SegOption → List Span
blocks_in (Sack blocks) = blocks
blocks_in _ = []

-- the SACK blocks of options, in their order (RFC 2018, section 3)
abbrev pub blocks_of : List SegOption → List Span
blocks_of [] = []
blocks_of (option ∷ options) = blocks_in option ++ blocks_of options

-- a block has octets, and ends at or below the number after all that was sent
abbrev pub is_block_sent : BoardView → Span → Bool
is_block_sent s block = nat_lt block.start block.end && nat_le block.end s.top

-- the scoreboard with one block more, and whether a block has reported a new octet; one beyond the octets sent is left out
abbrev pub with_block_marked : Span → BoardView × Bool → BoardView × Bool
with_block_marked block so_far =
    if is_block_sent so_far.0 block then (with_sacked_block block so_far.0, so_far.1 || has_new block so_far.0) else so_far

-- the same with several blocks, one after the other
abbrev pub with_blocks_marked : List Span → BoardView × Bool → BoardView × Bool
with_blocks_marked [] so_far = so_far
with_blocks_marked (block ∷ blocks) so_far = with_blocks_marked blocks (with_block_marked block so_far)

-- the scoreboard after the blocks of a segment, up to the end of its options, and whether they reported a new octet; without
-- SACK they report nothing
abbrev pub blocks_marked : Segment → ConnectionView → BoardView × Bool
blocks_marked segment c =
    if c.sack then with_blocks_marked (blocks_of (before_eol segment.options)) (c.board, false) else (c.board, false)

-- the timer: only an ACK of new octets samples the round trip and moves the timer (RFC 6298, sections 5.2 and 5.3)
abbrev pub with_timing : ℕ → ℕ → ℕ → ConnectionView → ConnectionView
with_timing now granularity n c =
    if nat_lt 0 n then with_timer_updated now (with_sample now granularity c.board.una c) else c

-- The peer's window (SND.WND)

-- the segment is no older than the one that the window was taken from: SND.WL1 < SEG.SEQ, or SND.WL1 = SEG.SEQ and
-- SND.WL2 <= SEG.ACK (RFC 9293, section 3.10.7.4, fifth check)
abbrev pub can_update_window : Established → Segment → Bool
can_update_window e segment = nat_lt e.wl1 segment.start || (e.wl1 == segment.start && nat_le e.wl2 segment.ack)

-- the window is taken unless the segment is old (RFC 9293, section 3.10.7.4: SND.WL1 and SND.WL2)
abbrev pub with_new_window : Segment → Established → ConnectionView → ConnectionView × Established
with_new_window segment e c =
    if can_update_window e segment
    then (record c { max_window = max c.max_window (scaled_window_in c segment) }, with_window (scaled_window_in c segment) segment e)
    else (c, e)

-- The effect of the ACK on congestion control

-- the report of the blocks, where SACK was agreed; fresh says whether they reported a new octet
abbrev pub sack_news_of : Bool → ConnectionView → Option SackNews
sack_news_of fresh c = if c.sack then Some (record { fresh = fresh; lost = fresh && is_lost c.board.una c.board }) else None

-- the octets that an ACK of n new ones delivered, by the boards before and after it (RFC 9937, section 6). DeliveredData: the
-- advance of SND.UNA and the change of SACKed octets. RecoverFS: what wasn't delivered before the ACK, which is what is
-- outstanding after it, less the octets SACKed before it that still are, and those that it acknowledges (none counts twice).
-- SafeACK: SND.UNA has advanced, and no octet is lost that wasn't before (own; it lies no higher than the last that was, since
-- all below a lost one are lost)
abbrev pub delivery : ℕ → BoardView → BoardView → Delivery
delivery n before after = record {
  delivered_data = n + sacked_octets after - sacked_octets before;
  recover_fs = undelivered_octets before;
  safe_ack = nat_lt 0 n && nat_le (lost_edge after) (lost_edge before);
}

-- the ACK as congestion control reads it: where the connection is after it, and the peer's window before it
abbrev pub ack_of_segment : Segment → ℕ → Delivery → Bool → ℕ → Established → ConnectionView → Ack
ack_of_segment segment n delivery fresh rwnd e c = record {
  smss = c.board.smss;
  una = c.board.una;
  top = c.board.top;
  end = c.board.end;
  rwnd = e.rwnd;
  acked = n;
  delivery = delivery;
  same_window = scaled_window_in c segment == rwnd;
  fin = segment.flags.fin;
  sack = sack_news_of fresh c;
}

-- congestion control on a connection at its pipe, by which PRR sets the window (RFC 9937, section 6)
abbrev pub with_prr_cwnd_on : ConnectionView → CongView → CongView
with_prr_cwnd_on c w = with_prr_cwnd c.board.smss (pipe w.high_rxt c.board) w

-- so it does at each ACK in recovery, from the one that enters on, before anything of it is sent; other ACKs leave the window
abbrev pub cwnd_after : AckAction → ConnectionView → CongView → ℕ
cwnd_after StepC c w = (with_prr_cwnd_on c w).cwnd
cwnd_after Entry c w = (with_prr_cwnd_on c w).cwnd
cwnd_after _ c w = w.cwnd

-- congestion control takes the ACK: the connection afterwards, and what follows
abbrev pub congestion_updated : ConnectionView → Established → Ack → ConnectionView × AckAction
congestion_updated c e ack =
    let response = acked ack e.congestion in
    let after = record response.0 { cwnd = cwnd_after response.1 c response.0 } in
    (record c { established = Some (record e { congestion = after }) }, response.1)

-- A segment that passed all checks, on a connection

-- the octets of its blocks are SACKed (RFC 2018, section 5)
abbrev pub with_blocks : Segment → ConnectionView → ConnectionView
with_blocks segment c = record c { board = (blocks_marked segment c).0 }

-- the connection after the ack number, the SACK blocks, the timer and the window, with what it has since its establishment,
-- and whether the blocks reported a new octet
abbrev pub with_ack : ℕ → Segment → Established → ConnectionView → (ConnectionView × Established) × Bool
with_ack now segment e c =
    let numbered = with_number segment c in
    let rtt_segment = with_timing now e.granularity_us (newly_acked c segment) (with_blocks segment numbered) in
    (with_new_window segment e rtt_segment, (blocks_marked segment numbered).1)

-- a segment that passed all checks is taken: the connection afterwards, and what follows
abbrev pub taking : ℕ → Segment → ConnectionView → Option Established → ConnectionView × AckAction
taking now segment c None = (c, Nothing)
taking now segment c (Some e) =
    let after = with_ack now segment e c in
    let n = newly_acked c segment in
    congestion_updated after.0.0 after.0.1
    (ack_of_segment segment n (delivery n c.board after.0.0.board) after.1 e.rwnd after.0.1 after.0.0)

-- The sending after it

-- the sender, and Pipe: how many octets count as on the way (RFC 6675, section 4, SetPipe)
abbrev pub OnTheWay : Type 0
OnTheWay = SenderState × ℕ

-- The segment that fills the room of the congestion window: in loss recovery by NextSeg (RFC 6675, section 5, step C), by
-- limited transmit new octets alone (RFC 6675, section 5, step 3; RFC 3042)

-- the segment that is sent next on a connection at this pipe: within the peer's window, while cwnd - pipe is at least SMSS
abbrev pub next_by : WindowFill → ℕ → ConnectionView → Established → Option NextSegment
next_by NextSeg on_the_way c e = step_c_segment e.rwnd on_the_way c.board e.congestion
next_by NewData on_the_way c e = option_map (λ segment. New segment) (limited_transmit_segment e.rwnd on_the_way c.board e.congestion)

-- the same; none before the end of the handshake
abbrev pub next_fill : WindowFill → ℕ → Option ConnectionView → Option NextSegment
next_fill filling on_the_way connection = value_in None (next_by filling on_the_way) connection

-- such a segment was sent at a moment: new octets move the sending place (SND.NXT), octets sent again leave it
abbrev pub sent_as : ℕ → NextSegment → ConnectionView → ConnectionView
sent_as now (New segment) c = sent_on now segment c
sent_as now sent c = timing_started now (segment_of sent) c

-- how many octets a segment has
abbrev pub octets_of : Span → ℕ
octets_of segment = segment.end - segment.start

-- the notes of congestion control: where octets were sent again, HighRxt or RescueRxt moves (RFC 6675, section 4, NextSeg,
-- rule 4, and section 5, step C.2); those of limited transmit are counted: ssthresh is set without them (RFC 5681, section
-- 3.2, step 2)
abbrev pub fill_noted_by : WindowFill → NextSegment → CongView → CongView
fill_noted_by NextSeg sent w = with_sent_noted sent w
fill_noted_by NewData sent w = with_limited (octets_of (segment_of sent)) w

-- the same on a connection
abbrev pub fill_noted_on : WindowFill → NextSegment → ConnectionView → Option Established → ConnectionView
fill_noted_on filling sent c None = c
fill_noted_on filling sent c (Some e) = record c { established = Some (record e { congestion = fill_noted_by filling sent e.congestion }) }

-- the rule of NextSeg that gave a segment (RFC 6675, section 4)
abbrev pub next_seg_rule : NextSegment → SendRule
next_seg_rule (Lost segment) = NextSegLost
next_seg_rule (New segment) = NextSegNew
next_seg_rule (Hole segment) = NextSegHole
next_seg_rule (Rescue segment) = NextSegRescue

-- the rule by which such a segment leaves
abbrev pub fill_rule : WindowFill → NextSegment → SendRule
fill_rule NextSeg sent = next_seg_rule sent
fill_rule NewData sent = SackLimitedTransmit

-- one such segment is put out at a moment, and its octets count as on the way (RFC 6675, section 5, steps 3 and C.4)
abbrev pub one_filled : ℕ → WindowFill → NextSegment → Option ConnectionView → OnTheWay → OnTheWay
one_filled now filling sent None t = t
one_filled now filling sent (Some c) t = (
  with_segment now (fill_rule filling sent) (segment_of sent) c (fill_noted_on filling sent (sent_as now sent c) c.established) t.0,
  t.1 + octets_of (segment_of sent),
)

-- the sender alone, without its pipe, or the halt
abbrev pub sender_of : Result OnTheWay Halt → Result SenderState Halt
sender_of (Ok t) = Ok t.0
sender_of (Err halt) = Err halt

-- Pipe of a connection, by its HighRxt (RFC 6675, section 4, SetPipe); 0 where it has none
abbrev pub pipe_of : Option ConnectionView → ℕ
pipe_of connection = value_in 0 (λ c e. pipe e.congestion.high_rxt c.board) connection

-- segments are sent at a moment from such a state on, until none is found (RFC 6675, section 5, step C.5)
abbrev pub filled_from : ℕ → WindowFill → OnTheWay → Result OnTheWay Halt
filled_from now filling t =
    repeated (λ u. next_fill filling u.1 u.0.endpoint.connection) (λ sent u. one_filled now filling sent u.0.endpoint.connection u)
    (places_left t.0) t

-- the same; the pipe is computed once, and grows by what is sent
abbrev pub filled : ℕ → WindowFill → SenderState → Result SenderState Halt
filled now filling s = sender_of (filled_from now filling (s, pipe_of s.endpoint.connection))

-- one segment is put out at a moment, by a rule, where the outbox has a place for it
abbrev pub push_data_segment_to_outbox : ℕ → SendRule → Span → ConnectionView → ConnectionView → SenderState → Result SenderState Halt
push_data_segment_to_outbox now rule segment before after s =
    if has_place s.endpoint.outbox then Ok (with_segment now rule segment before after s) else Err Limit

-- an entry into loss recovery has sent this segment again: HighRxt and RescueRxt are its end (RFC 6675, section 5, step 4.3),
-- and by PRR its octets count as sent
abbrev pub entered_on : Span → ConnectionView → Option Established → ConnectionView
entered_on segment c None = c
entered_on segment c (Some e) = record c { established = Some (record e { congestion = entered_to segment e.congestion }) }

-- recovery begins: the segment at SND.UNA is sent again, unless its first octet is SACKed (RFC 6675, section 5, step 4.3); by
-- PRR it is the segment that is forced (RFC 9937, section 6), and leaves whatever sndcnt is (own)
abbrev pub entry : ℕ → ConnectionView → SenderState → Result SenderState Halt
entry now c s =
    let segment = run_at c.board.una c.board in
    if nat_lt segment.start segment.end
    then push_data_segment_to_outbox now SackFastRetransmit segment c (entered_on segment (timing_started now segment c) c.established) s
    else Ok (with_begun_connection (entered_on segment c c.established) s)

-- the sending that an ACK leads to, on the connection that it left: an entry is followed by step C (RFC 6675, section 5, step
-- 4.5), a fast retransmit (RFC 5681, section 3.2, step 3) by ordinary sending
abbrev pub after_ack_action : ℕ → ConnectionView → SenderState → AckAction → Result SenderState Halt
after_ack_action now c s Ordinary = ordinary now s
after_ack_action now c s StepC = filled now NextSeg s
after_ack_action now c s Entry = then_on (filled now NextSeg) (entry now c s)
after_ack_action now c s LimitedTransmit = filled now NewData s
after_ack_action now c s (NewSegment segment) = push_data_segment_to_outbox now LimitedBy3042 segment c (sent_on now segment c) s
after_ack_action now c s (FastRetransmit segment) = then_on (ordinary now) (push_data_segment_to_outbox now FastBy5681 segment c (timing_started now segment c) s)
after_ack_action now c s Nothing = Ok s

-- a segment that passed all checks is taken, and what follows is sent; its FIN comes after that
abbrev pub ack_taken : ℕ → Segment → ConnectionView → SenderState → Option Established → Result SenderState Halt
ack_taken now segment c s e =
    let t = taking now segment c e in
    after_ack_action now t.0 (with_begun_connection t.0 s) t.1
