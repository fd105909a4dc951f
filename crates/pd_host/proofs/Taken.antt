-- The connection that an ACK leaves once it is taken.
use Rattle.std.proofs.Common.{◌≡◌, ℕ, ◌-◌, ◌||◌, Bool, true, false, nat_lt, max, List, [], ◌∷◌, Option, None, Some, if◌then◌else◌, refl, ap, ◌∙◌}
use Rattle.pd_board.specs.Board.{BoardView, with_sacked_block, has_new}
use Rattle.pd_recover.specs.declared.ack_action.AckAction.{AckAction}
use Rattle.pd_seg.specs.declared.sack_spans.Span.{Span}
use Rattle.pd_seg.specs.declared.segments.Segment.{Segment}
use Rattle.pd_timer.specs.Rto.{initial, sampled}
use Rattle.pd_host.specs.AckEffects.{newly_acked, with_number, blocks_of, is_block_sent, with_block_marked, with_blocks_marked, blocks_marked, with_timing, can_update_window, with_new_window, with_blocks, with_ack, taking, ack_taken}
use Rattle.pd_host.specs.Connection.{ConnectionView}
use Rattle.pd_host.specs.Handshake.{before_eol, scaled_window_in, with_window}
use Rattle.pd_host.specs.Sending.{with_begun_connection}
use Rattle.pd_host.specs.RttSegment.{is_measured, measured, with_sample, with_timer_updated}
use Rattle.pd_host.specs.declared.established.Established.{Established}
use Rattle.pd_host.specs.declared.endpoint.SenderState.{SenderState}
use Rattle.pd_host.specs.declared.connection.rtt_segment.RttSegment.{RttSegment}
use Rattle.pd_host.proofs.Outcomes.{Leaves}
use Rattle.pd_host.proofs.SentOn.{IsSentOn, led_to_sends}

pub same_either : {A B : Type 0} (f : A → B) (b : Bool) (x y : A) (z : B) → f x ≡ z → f y ≡ z → f (if b then x else y) ≡ z
same_either f true x y z first second = first
same_either f false x y z first second = second

-- blocks move only what is SACKed

abbrev unsacked : BoardView → BoardView
unsacked s = record s { sacked = [] }

block_keeps : (block : Span) (so_far : BoardView × Bool) → unsacked (with_block_marked block so_far).0 ≡ unsacked so_far.0
block_keeps block so_far =
    same_either (λ (x : BoardView × Bool). unsacked x.0) (is_block_sent so_far.0 block) (with_sacked_block block so_far.0, so_far.1 || has_new block so_far.0) so_far
    (unsacked so_far.0) refl refl

blocks_keep : (blocks : List Span) (so_far : BoardView × Bool) → unsacked (with_blocks_marked blocks so_far).0 ≡ unsacked so_far.0
blocks_keep [] so_far = refl
blocks_keep (block ∷ blocks) so_far = blocks_keep blocks (with_block_marked block so_far) ∙ block_keeps block so_far

scored_keeps : (segment : Segment) (c : ConnectionView) → unsacked (blocks_marked segment c).0 ≡ unsacked c.board
scored_keeps segment c =
    same_either (λ (x : BoardView × Bool). unsacked x.0) c.sack (with_blocks_marked (blocks_of (before_eol segment.options)) (c.board, false)) (c.board, false)
    (unsacked c.board) (blocks_keep (blocks_of (before_eol segment.options)) (c.board, false)) refl

-- the timer moves alone

abbrev pub timeless : ConnectionView → ConnectionView
timeless c = record c { timer = initial 0 0; rtt_segment = None }

pub measured_keeps : (now granularity ack : ℕ) (c : ConnectionView) (o : Option RttSegment) → timeless (measured now granularity ack c o) ≡ timeless c
measured_keeps now granularity ack c None = refl
measured_keeps now granularity ack c (Some t) =
    same_either timeless (is_measured ack t) (record c { timer = sampled (now - t.sent_at) granularity c.timer; rtt_segment = None }) c (timeless c) refl refl

pub timing_keeps : (now granularity n : ℕ) (c : ConnectionView) → timeless (with_timing now granularity n c) ≡ timeless c
timing_keeps now granularity n c =
    same_either timeless (nat_lt 0 n) (with_timer_updated now (with_sample now granularity c.board.una c)) c (timeless c)
    (measured_keeps now granularity c.board.una c c.rtt_segment) refl

-- All of it

-- a connection without what an ACK moves, but its numbers
abbrev pub basic : ConnectionView → ConnectionView
basic c = record c { board = unsacked c.board; timer = initial 0 0; rtt_segment = None; max_window = 0; established = None }

window_keeps : (segment : Segment) (e : Established) (c : ConnectionView) → basic (with_new_window segment e c).0 ≡ basic c
window_keeps segment e c =
    same_either (λ (x : ConnectionView × Established). basic x.0) (can_update_window e segment)
    (record c { max_window = max c.max_window (scaled_window_in c segment) }, with_window (scaled_window_in c segment) segment e) (c, e) (basic c) refl refl

-- the connection after the number, with the report of its blocks
abbrev told_to : Segment → ConnectionView → ConnectionView
told_to segment c = with_blocks segment (with_number segment c)

told_keeps : (segment : Segment) (c : ConnectionView) → basic (told_to segment c) ≡ basic (with_number segment c)
told_keeps segment c =
    ap (λ (b : BoardView). record (basic (with_number segment c)) { board = b }) (scored_keeps segment (with_number segment c))

abbrev timed_to : ℕ → Segment → Established → ConnectionView → ConnectionView
timed_to now segment e c = with_timing now e.granularity_us (newly_acked c segment) (told_to segment c)

-- an ACK moves the number, and what isn't basic
pub ack_keeps : (now : ℕ) (segment : Segment) (e : Established) (c : ConnectionView) → basic (with_ack now segment e c).0.0 ≡ basic (with_number segment c)
ack_keeps now segment e c =
    window_keeps segment e (timed_to now segment e c)
    ∙ ap basic (timing_keeps now e.granularity_us (newly_acked c segment) (told_to segment c))
    ∙ told_keeps segment c

-- congestion control's state is the one before it

pub ack_leaves_congestion : (now : ℕ) (segment : Segment) (e : Established) (c : ConnectionView)
    → (with_ack now segment e c).0.1.congestion ≡ e.congestion
ack_leaves_congestion now segment e c =
    let d : ConnectionView = timed_to now segment e c in
    same_either (λ (x : ConnectionView × Established). x.1.congestion) (can_update_window e segment)
    (record d { max_window = max d.max_window (scaled_window_in d segment) }, with_window (scaled_window_in d segment) segment e) (d, e) e.congestion refl refl

-- taking a segment on an established connection moves the number, and what isn't basic
pub taking_keeps : (now : ℕ) (segment : Segment) (c : ConnectionView) (e : Established)
    → basic (taking now segment c (Some e)).0 ≡ basic (with_number segment c)
taking_keeps now segment c e = ack_keeps now segment e c

-- what is sent after a segment was taken follows the connection that it left
pub taken_sends : (now : ℕ) (segment : Segment) (c : ConnectionView) (s : SenderState) (o : Option Established)
    → Leaves (IsSentOn now (with_begun_connection (taking now segment c o).0 s)) (ack_taken now segment c s o)
taken_sends now segment c s o =
    let t : ConnectionView × AckAction = taking now segment c o in
    led_to_sends now t.0 (with_begun_connection t.0 s) t.1 refl
