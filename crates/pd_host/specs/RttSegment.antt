-- Which segment's round trip is measured, and how segments that are sent and ACKs move the timer (RFC 6298).
use Rattle.std.specs.Prelude.{ℕ, ◌-◌, ◌==◌, nat_lt, nat_le, Bool, ◌&&◌, Option, Some, None, if◌then◌else◌}
use Rattle.pd_seg.specs.declared.sack_spans.Span.{Span}
use Rattle.pd_timer.specs.Rto.{sampled, started, restarted, stopped, reinitialized}
use Rattle.pd_host.specs.Connection.{ConnectionView}
use Rattle.pd_host.specs.declared.connection.rtt_segment.RttSegment.{RttSegment}

-- two runs of octets have one in common
abbrev pub overlaps : Span → Span → Bool
overlaps a b = nat_lt a.start b.end && nat_lt b.start a.end

-- the segment that is timed after another one was sent at a moment, top being where it was before: a segment of new octets
-- is timed while none is, and one that overlaps the timed segment gives the timing up (RFC 6298, section 3: Karn's
-- algorithm)
abbrev pub rtt_segment_by_karn_after_sending : ℕ → Span → ℕ → Option RttSegment → Option RttSegment
rtt_segment_by_karn_after_sending now segment top None = if nat_le top segment.start then Some (record { segment = segment; sent_at = now }) else None
rtt_segment_by_karn_after_sending now segment top (Some t) = if overlaps t.segment segment then None else Some t

-- a segment was sent at a moment, which is noted (RFC 5681, section 4.1): the timer runs from now on, if it didn't (RFC 6298,
-- section 5.1)
abbrev pub timing_started : ℕ → Span → ConnectionView → ConnectionView
timing_started now segment c = record c {
  timer = started now c.timer;
  rtt_segment = rtt_segment_by_karn_after_sending now segment c.board.top c.rtt_segment;
  last_sent = now;
}

-- the timed segment is acknowledged, where all octets below this number are
abbrev pub is_measured : ℕ → RttSegment → Bool
is_measured ack t = nat_le t.segment.end ack

-- its round trip is measured, where it is acknowledged at a moment (RFC 6298, section 2)
abbrev pub measured : ℕ → ℕ → ℕ → ConnectionView → Option RttSegment → ConnectionView
measured now granularity ack c None = c
measured now granularity ack c (Some t) =
    if is_measured ack t
    then record c { timer = sampled (now - t.sent_at) granularity c.timer; rtt_segment = None }
    else c

-- an ACK of new octets gives a sample, if the timed segment is acknowledged (RFC 6298, section 3)
abbrev pub with_sample : ℕ → ℕ → ℕ → ConnectionView → ConnectionView
with_sample now granularity ack c = measured now granularity ack c c.rtt_segment

-- and it starts the timer anew, or stops it where all that was sent is acknowledged (RFC 6298, sections 5.2 and 5.3)
abbrev pub with_timer_updated : ℕ → ConnectionView → ConnectionView
with_timer_updated now c =
    record c { timer = if c.board.una == c.board.top then stopped c.timer else restarted now c.timer }

-- the timer at the end of the handshake: it stops, and after an expiry RTO is 3 seconds (RFC 6298, sections 5.2 and 5.7)
abbrev pub with_handshake_timer_ended : ConnectionView → ConnectionView
with_handshake_timer_ended c = record c { timer = stopped (if c.syn_ack_resent then reinitialized c.timer else c.timer) }
