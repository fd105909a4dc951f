-- The segment that loss recovery sends next (RFC 6675, section 4, NextSeg), and when (section 5, step C).
use Rattle.std.specs.Prelude.{ℕ, ◌+◌, ◌-◌, ◌<◌, ◌≤◌, nat_le, nat_lt, Bool, Option, None, option_map, if◌then◌else◌}
use Rattle.std.specs.Option.{option_or}
use Rattle.pd_seg.specs.declared.sack_spans.Span.{Span}
use Rattle.pd_board.specs.Retransmit.{run_at, next_lost, find_unsacked_octet_by_nextseg_rule_3, rescue}
use Rattle.pd_board.specs.Board.{BoardView}
use Rattle.pd_recover.specs.declared.next_segment.NextSegment.{NextSegment}
use Rattle.pd_recover.specs.declared.next_segment.NextSegment.TheVariants.{Lost, New, Hole, Rescue}
use Rattle.pd_recover.specs.Acks.{new_segment_at_top_if_whole_in_rwnd}
use Rattle.pd_recover.specs.Cong.{CongView, with_prr_out}

-- the octets of a segment
abbrev pub segment_of : NextSegment → Span
segment_of (Lost segment) = segment
segment_of (New segment) = segment
segment_of (Hole segment) = segment
segment_of (Rescue segment) = segment

-- a segment that can be sent: some octets that aren't acknowledged and are queued, SMSS at most
pub record IsSendable (s : BoardView) (segment : Span) : Type 0 where
  pub from : s.una ≤ segment.start
  pub some : segment.start < segment.end
  pub short : segment.end ≤ segment.start + s.smss
  pub queued : segment.end ≤ s.end

-- rule 1: from the first lost octet that wasn't sent again
abbrev pub lost_run : BoardView → CongView → Option NextSegment
lost_run s w = option_map (λ x. Lost (run_at x s)) (next_lost w.high_rxt s)

-- rule 2: up to SMSS octets of new data, where the peer's window takes them
abbrev pub board_new_segment_at_top_if_whole_in_rwnd : ℕ → BoardView → Option Span
board_new_segment_at_top_if_whole_in_rwnd rwnd s = new_segment_at_top_if_whole_in_rwnd s.smss s.una s.top s.end rwnd

-- rule 3: from the first octet that wasn't sent again and lies below a SACKed one
abbrev pub hole_run : BoardView → CongView → Option NextSegment
hole_run s w = option_map (λ x. Hole (run_at x s)) (find_unsacked_octet_by_nextseg_rule_3 w.high_rxt s)

-- rule 4: the last octets that aren't SACKed, where HighACK is above RescueRxt
abbrev pub rescue_run : BoardView → CongView → Option NextSegment
rescue_run s w = if nat_lt w.rescue_rxt s.una then option_map (λ segment. Rescue segment) (rescue s) else None

-- the first rule that gives a segment, by what the second one gives
abbrev pub first_by_next_seg_rules : Option Span → BoardView → CongView → Option NextSegment
first_by_next_seg_rules unsent s w =
    option_or (lost_run s w)
    (option_or (option_map (λ segment. New segment) unsent)
    (option_or (hole_run s w)
    (rescue_run s w)))

-- NextSeg: the first rule that gives a segment; by rule 5 there is none
abbrev pub next_send : ℕ → BoardView → CongView → Option NextSegment
next_send rwnd s w = first_by_next_seg_rules (board_new_segment_at_top_if_whole_in_rwnd rwnd s) s w

-- cwnd - pipe is at least SMSS: a full segment has room between what is on the way and the window
abbrev pub has_room_for_segment : ℕ → BoardView → CongView → Bool
has_room_for_segment pipe s w = nat_le s.smss (w.cwnd - pipe)

-- step C: the next segment while there is room
abbrev pub step_c_segment : ℕ → ℕ → BoardView → CongView → Option NextSegment
step_c_segment rwnd pipe s w = if has_room_for_segment pipe s w then next_send rwnd s w else None

-- limited transmit: new data while there is room (section 5, step 3)
abbrev pub limited_transmit_segment : ℕ → ℕ → BoardView → CongView → Option Span
limited_transmit_segment rwnd pipe s w = if has_room_for_segment pipe s w then board_new_segment_at_top_if_whole_in_rwnd rwnd s else None

-- the number that a segment sent by these rules moves: rules 1 and 3 HighRxt, rule 4 RescueRxt
abbrev pub moved : NextSegment → CongView → CongView
moved (Lost segment) w = record w { high_rxt = segment.end }
moved (New segment) w = w
moved (Hole segment) w = record w { high_rxt = segment.end }
moved (Rescue segment) w = record w { rescue_rxt = w.recovery_point }

-- the same, and its octets count as sent in recovery (RFC 9937, section 6)
abbrev pub with_sent_noted : NextSegment → CongView → CongView
with_sent_noted sent w = with_prr_out ((segment_of sent).end - (segment_of sent).start) (moved sent w)
