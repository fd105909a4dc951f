-- Which octets to send again (RFC 6675, section 4, NextSeg).
use Rattle.std.specs.Prelude.{ℕ, ◌+◌, ◌-◌, min, max, Bool, ◌&&◌, nat_lt, nat_le, Option, unwrap_or}
use Rattle.std.specs.Option.{option_map}
use Rattle.pd_seg.specs.declared.sack_spans.Span.{Span}
use Rattle.pd_board.specs.Octets.{contains, least_where, greatest_where, after}
use Rattle.pd_board.specs.Loss.{sacked_above, is_lost, is_unsacked}
use Rattle.pd_board.specs.Board.{BoardView}

-- the most that a segment from x reaches to: SMSS octets, and up to top
abbrev pub most_from : ℕ → BoardView → ℕ
most_from x s = min (x + s.smss) s.top

-- the segment that is sent again from x: up to the next SACKed octet, or to the most
abbrev pub run_at : ℕ → BoardView → Span
run_at x s = record { start = x; end = unwrap_or (least_where (contains s.sacked) x (most_from x s)) (most_from x s) }

-- x isn't SACKed, lies at or above HighRxt, and below a SACKed octet
abbrev pub is_hole : ℕ → ℕ → BoardView → Bool
is_hole high_rxt x s = is_unsacked x s && (nat_le high_rxt x && nat_lt 0 (sacked_above x s))

-- rule 1: the least such octet that is lost
abbrev pub next_lost : ℕ → BoardView → Option ℕ
next_lost high_rxt s = least_where (λ x. is_hole high_rxt x s && is_lost x s) s.una s.top

-- rule 3: the least such octet
abbrev pub find_unsacked_octet_by_nextseg_rule_3 : ℕ → BoardView → Option ℕ
find_unsacked_octet_by_nextseg_rule_3 high_rxt s = least_where (λ x. is_hole high_rxt x s) s.una s.top

-- the segment that ends with e: from una on, SMSS octets at most, and after the SACKed octets below e
abbrev pub segment_to : BoardView → ℕ → Span
segment_to s e = record {
  start = max (max s.una (e + 1 - s.smss)) (after (greatest_where (contains s.sacked) s.una e));
  end = e + 1;
}

-- rule 4: the segment that ends with the greatest octet that isn't SACKed
abbrev pub rescue : BoardView → Option Span
rescue s = option_map (segment_to s) (greatest_where (λ x. is_unsacked x s) s.una s.top)
