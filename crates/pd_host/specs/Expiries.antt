-- Expiries of the retransmission timer (RFC 6298, section 5), and all of them up to a moment.
use Rattle.std.specs.Prelude.{ℕ, nat_le, true, Option, Some, None, Result, if◌then◌else◌, option_and_then}
use Rattle.pd_seg.specs.declared.sack_spans.Span.{Span}
use Rattle.pd_seg.specs.declared.segments.Segment.{Segment}
use Rattle.pd_seg.specs.declared.send_rule.SendRule.{SendRule}
use Rattle.pd_seg.specs.declared.send_rule.SendRule.TheVariants.{SynAckAgain, Expiry}
use Rattle.pd_board.specs.Retransmit.{run_at}
use Rattle.pd_board.specs.Board.{sent_to, with_none_sacked}
use Rattle.pd_recover.specs.Cong.{timed_out}
use Rattle.pd_timer.specs.Rto.{expired_rto}
use Rattle.pd_host.specs.Connection.{ConnectionView}
use Rattle.pd_host.specs.Packets.{data_of, syn_ack_of}
use Rattle.pd_host.specs.Sending.{repeated, places_left, with_packet_sent, with_begun_connection}
use Rattle.pd_host.specs.declared.established.Established.{Established}
use Rattle.pd_host.specs.declared.halts.Halt.{Halt}
use Rattle.pd_host.specs.declared.endpoint.SenderState.{SenderState}

-- the moment of the next expiry, where the timer of a connection runs
abbrev pub deadline_of : SenderState → Option ℕ
deadline_of s = option_and_then (λ c. c.timer.deadline) s.endpoint.connection

-- a moment that lies at or before another one
abbrev pub due_by : ℕ → Option ℕ → Option ℕ
due_by until None = None
due_by until (Some at) = if nat_le at until then Some at else None

-- RTO is doubled, the timer starts anew, and what is sent again, which is noted, isn't timed (RFC 6298, sections 3, 5.5 and
-- 5.6; RFC 5681, section 4.1)
abbrev pub with_backoff : ℕ → ConnectionView → ConnectionView
with_backoff at c = record c { timer = expired_rto at c.timer; rtt_segment = None; last_sent = at }

-- in the handshake the SYN/ACK is sent again, which is noted (RFC 5681, section 3.1; RFC 6298, section 5.7)
abbrev pub resent_by : ℕ → ConnectionView → ConnectionView
resent_by at c = record (with_backoff at c) { syn_ack_resent = true }

-- later the window shrinks to one segment, and no octet counts as SACKed (RFC 5681, section 3.1; RFC 2018, section 5;
-- RFC 6675, section 5.1)
abbrev pub collapsed : Established → ConnectionView → ConnectionView
collapsed e c = record c {
  board = with_none_sacked c.board;
  established = Some (record e { congestion = timed_out c.board.smss c.board.una c.board.top e.congestion });
}

-- the segment that is sent again: the one at SND.UNA, of which no octet counts as SACKed (RFC 6298, section 5.4)
abbrev pub first_again : ConnectionView → Span
first_again c = run_at c.board.una (with_none_sacked c.board)

-- the connection after an expiry after the handshake: the window collapses, and sending goes on after the segment that is
-- sent again (RFC 6298, section 5.4)
abbrev pub expired_by : ℕ → Established → ConnectionView → ConnectionView
expired_by at e c =
    let d = collapsed e (with_backoff at c) in
    record d { board = sent_to (first_again c).end d.board }

-- which segment an expiry sends again
abbrev pub segment_again : ConnectionView → Option Established → Segment
segment_again c None = syn_ack_of c
segment_again c (Some e) = data_of c (first_again c)

-- the rule by which it sends that
abbrev pub expiry_rule : Option Established → SendRule
expiry_rule None = SynAckAgain
expiry_rule (Some e) = Expiry

-- the connection after an expiry at a moment
abbrev pub connection_expired : ℕ → ConnectionView → Option Established → ConnectionView
connection_expired at c None = resent_by at c
connection_expired at c (Some e) = expired_by at e c

-- an expiry on a connection
abbrev pub expired_on : ℕ → ConnectionView → Option Established → SenderState → SenderState
expired_on at c e s = with_packet_sent at (expiry_rule e) (segment_again c e) (with_begun_connection (connection_expired at c e) s)

-- an expiry at a moment
abbrev pub expired : ℕ → Option ConnectionView → SenderState → SenderState
expired at None s = s
expired at (Some c) s = expired_on at c c.established s

-- all expiries up to a moment, in order, each at its own
abbrev pub advanced : ℕ → SenderState → Result SenderState Halt
advanced until s =
    repeated (λ t. due_by until (deadline_of t)) (λ at t. expired at t.endpoint.connection t) (places_left s) s
