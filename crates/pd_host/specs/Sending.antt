-- Ordinary sending: what the windows and Nagle's algorithm let leave.
use Rattle.std.specs.Prelude.{ℕ, ◌+◌, ◌-◌, ◌*◌, ◌==◌, nat_lt, nat_le, min, zero, suc, not, Bool, false, ◌&&◌, ◌||◌, [], ◌∷◌, ◌++◌, length, Option, Some, None, is_some, Result, Ok, Err, if◌then◌else◌}
use Rattle.pd_seg.specs.declared.sack_spans.Span.{Span}
use Rattle.pd_seg.specs.declared.segments.Segment.{Segment}
use Rattle.pd_seg.specs.declared.send_rule.SendRule.{SendRule}
use Rattle.pd_seg.specs.declared.send_rule.SendRule.TheVariants.{NewData, AfterExpiry}
use Rattle.pd_board.specs.Retransmit.{run_at}
use Rattle.pd_board.specs.Board.{sent_to, past_sacked_octets}
use Rattle.pd_recover.specs.Cong.{restarted}
use Rattle.pd_host.specs.Connection.{ConnectionView}
use Rattle.pd_host.specs.Packets.{data_of, covers_fin}
use Rattle.pd_host.specs.OutboxLimit.{most_packets}
use Rattle.pd_host.specs.RttSegment.{timing_started}
use Rattle.pd_host.specs.declared.established.Established.{Established}
use Rattle.pd_host.specs.declared.halts.Halt.{Halt}
use Rattle.pd_host.specs.declared.halts.Halt.TheVariants.{Limit}
use Rattle.pd_host.specs.declared.endpoint.SenderState.{SenderState}

-- Before the end of the handshake

-- a value of a connection, another one before the end of the handshake
abbrev pub value_on : {A : Type 0} → A → (ConnectionView → Established → A) → ConnectionView → Option Established → A
value_on before value c None = before
value_on before value c (Some e) = value c e

-- the same, that other one also where no connection was begun
abbrev pub value_in : {A : Type 0} → A → (ConnectionView → Established → A) → Option ConnectionView → A
value_in before value None = before
value_in before value (Some c) = value_on before value c c.established

-- How packets are put out one after the other

-- how many packets the outbox still takes
abbrev pub places_left : SenderState → ℕ
places_left s = most_packets - length s.endpoint.outbox

-- a segment is put out at a moment, by a rule, where the outbox has a place
abbrev pub with_packet_sent : ℕ → SendRule → Segment → SenderState → SenderState
with_packet_sent now rule segment s = record s {
  endpoint = record s.endpoint { outbox = s.endpoint.outbox ++ record { segment = segment; at = now; rule = rule } ∷ [] };
}

-- the state with this connection
abbrev pub with_begun_connection : ConnectionView → SenderState → SenderState
with_begun_connection c s = record s { endpoint = record s.endpoint { connection = Some c } }

-- an item that was found is acted on, and the rest follows; where none is found, all is done
abbrev pub on_found : {S X : Type 0} → (S → Result S Halt) → (X → S → S) → S → Option X → Result S Halt
on_found rest act s None = Ok s
on_found rest act s (Some x) = rest (act x s)

-- items that are found are acted on until none is found, at most n times; one time more is too many
abbrev pub repeated : {S X : Type 0} → (S → Option X) → (X → S → S) → ℕ → S → Result S Halt
repeated find act zero s = if is_some (find s) then Err Limit else Ok s
repeated find act (suc n) s = on_found (repeated find act n) act s (find s)

-- Which segment is next

-- below this number the congestion window and the peer's window let octets leave (RFC 5681, section 3.1)
abbrev pub una_plus_smaller_window : ConnectionView → Established → ℕ
una_plus_smaller_window c e = c.board.una + min e.congestion.cwnd e.rwnd

-- U: how many octets from the sending place on they let leave (RFC 9293, section 3.8.6.2.1)
abbrev pub usable_window : ConnectionView → Established → ℕ
usable_window c e = una_plus_smaller_window c e - c.board.next

-- D: how many octets are queued from there on (RFC 9293, section 3.8.6.2.1)
abbrev pub unsent_octets : ConnectionView → ℕ
unsent_octets c = c.board.end - c.board.next

-- how many octets can leave: min(D, U) (RFC 9293, section 3.8.6.2.1)
abbrev pub unsent_octets_in_usable_window : ConnectionView → Established → ℕ
unsent_octets_in_usable_window c e = min (unsent_octets c) (usable_window c e)

-- the segment of new octets that could leave, SMSS octets at most
abbrev pub unsent_segment : ConnectionView → Established → Span
unsent_segment c e = record { start = c.board.next; end = c.board.next + min (unsent_octets_in_usable_window c e) c.board.smss }

-- a full segment can leave (RFC 9293, section 3.8.6.2.1, rule 1)
abbrev pub can_send_full_segment : ConnectionView → Established → Bool
can_send_full_segment c e = nat_le c.board.smss (unsent_octets_in_usable_window c e)

-- all that is queued can leave (RFC 9293, section 3.8.6.2.1, rule 2: D <= U; each write counts as pushed)
abbrev pub is_unsent_within_usable_window : ConnectionView → Established → Bool
is_unsent_within_usable_window c e = nat_le (unsent_octets c) (usable_window c e)

-- at least half of the largest window seen can leave (RFC 9293, section 3.8.6.2.1, rule 3)
abbrev pub can_send_half_max_window : ConnectionView → Established → Bool
can_send_half_max_window c e = nat_le c.max_window (2 * unsent_octets_in_usable_window c e)

-- Nagle's algorithm holds a segment that isn't full while octets are outstanding (RFC 9293, section 3.7.4), but not our FIN
-- (own profile)
abbrev pub is_partial_held_by_nagle_unless_fin : ConnectionView → Established → Bool
is_partial_held_by_nagle_unless_fin c e = e.nagle && (nat_lt c.board.una c.board.top && not (covers_fin c (unsent_segment c e)))

-- a segment of new octets leaves
abbrev pub may_leave_by_sws_and_nagle : ConnectionView → Established → Bool
may_leave_by_sws_and_nagle c e = can_send_full_segment c e || ((is_unsent_within_usable_window c e || can_send_half_max_window c e) && not (is_partial_held_by_nagle_unless_fin c e))

-- new octets: the next segment, where one leaves
abbrev pub next_new_segment : ConnectionView → Established → Option Span
next_new_segment c e = if nat_lt 0 (unsent_octets_in_usable_window c e) && may_leave_by_sws_and_nagle c e then Some (unsent_segment c e) else None

-- octets that were sent before: the next segment, where the windows let all of it leave
abbrev pub retransmit_segment_at_next_if_in_windows : ConnectionView → Established → Option Span
retransmit_segment_at_next_if_in_windows c e =
    let segment = run_at c.board.next c.board in
    if nat_le segment.end (una_plus_smaller_window c e) then Some segment else None

-- the segment that ordinary sending sends next, on a board whose sending place isn't SACKed
abbrev pub ordinary_segment : ConnectionView → Established → Option Span
ordinary_segment c e = if nat_lt c.board.next c.board.top then retransmit_segment_at_next_if_in_windows c e else next_new_segment c e

-- How a segment is sent

-- the sending place moves past SACKed octets (RFC 2018, section 5)
abbrev pub with_next_past_sacked : ConnectionView → ConnectionView
with_next_past_sacked c = record c { board = past_sacked_octets c.board }

-- a segment was sent at a moment from the sending place, which moves after it
abbrev pub sent_on : ℕ → Span → ConnectionView → ConnectionView
sent_on now segment c = record (timing_started now segment c) { board = sent_to segment.end c.board }

-- a segment is put out at a moment, by a rule, and leaves this connection
abbrev pub with_segment : ℕ → SendRule → Span → ConnectionView → ConnectionView → SenderState → SenderState
with_segment now rule segment before after s = with_packet_sent now rule (data_of before segment) (with_begun_connection after s)

-- the segment that ordinary sending sends next; none before the end of the handshake
abbrev pub found : Option ConnectionView → Option Span
found connection = value_in None ordinary_segment connection

-- octets that were sent before leave again after an expiry, others leave as new ones
abbrev pub ordinary_rule : ConnectionView → SendRule
ordinary_rule c = if nat_lt c.board.next c.board.top then AfterExpiry else NewData

-- that segment is put out at a moment, and the sending place moves after it and past SACKed octets
abbrev pub sent_ordinarily : ℕ → Span → Option ConnectionView → SenderState → SenderState
sent_ordinarily now segment None s = s
sent_ordinarily now segment (Some c) s = with_segment now (ordinary_rule c) segment c (with_next_past_sacked (sent_on now segment c)) s

-- no octets were sent for longer than RTO (RFC 5681, section 4.1), and none are outstanding (own)
abbrev pub is_all_acked_and_idle_over_rto : ℕ → ConnectionView → Bool
is_all_acked_and_idle_over_rto now c = c.board.una == c.board.top && nat_lt c.timer.rto (now - c.last_sent)

-- congestion control where sending begins, after an idle time or without one
abbrev pub restarted_in : ℕ → Bool → Option Established → Option Established
restarted_in smss idle None = None
restarted_in smss idle (Some e) = Some (record e { congestion = restarted smss idle e.congestion })

-- sending begins at a moment: after an idle time the window restarts, where the setting was on (RFC 5681, section 4.1)
abbrev pub restarted_if_idle : ℕ → ConnectionView → ConnectionView
restarted_if_idle now c = record c { established = restarted_in c.board.smss (is_all_acked_and_idle_over_rto now c) c.established }

-- before anything is sent at a moment, the sending place moves past SACKed octets too (RFC 2018, section 5)
abbrev pub ready : ℕ → Option ConnectionView → SenderState → SenderState
ready now None s = s
ready now (Some c) s = with_begun_connection (with_next_past_sacked (restarted_if_idle now c)) s

-- ordinary sending at a moment, until nothing more leaves
abbrev pub sent_until_done : ℕ → SenderState → Result SenderState Halt
sent_until_done now s =
    repeated (λ t. found t.endpoint.connection) (λ segment t. sent_ordinarily now segment t.endpoint.connection t) (places_left s) s

-- ordinary sending at a moment: the window may restart, the sending place moves past SACKed octets, and then segments leave
-- until none may
abbrev pub ordinary : ℕ → SenderState → Result SenderState Halt
ordinary now s = sent_until_done now (ready now s.endpoint.connection s)

-- whether loss recovery goes on
abbrev pub is_recovering : Option Established → Bool
is_recovering None = false
is_recovering (Some e) = e.congestion.recovering

-- ordinary sending after a call: not in recovery (own; RFC 6675, section 5, goes on after an ACK)
abbrev pub ordinary_outside_recovery : ℕ → ConnectionView → SenderState → Result SenderState Halt
ordinary_outside_recovery now c s = if is_recovering c.established then Ok s else ordinary now s
