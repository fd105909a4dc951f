-- A segment that arrives: its checks in their order, and what each ruling does.
use Rattle.std.specs.Prelude.{ℕ, ◌+◌, ◌==◌, nat_lt, nat_le, not, Bool, true, false, ◌&&◌, ◌||◌, List, [], ◌∷◌, Option, Some, None, is_some, option_map, Result, Ok, Err, if◌then◌else◌}
use Rattle.pd_seg.specs.declared.segments.Segment.{Segment}
use Rattle.pd_seg.specs.declared.send_rule.SendRule.TheVariants.{Ack, Rst}
use Rattle.pd_host.specs.declared.halts.Halt.{Halt}
use Rattle.pd_host.specs.declared.halts.Halt.TheVariants.{Unsupported}
use Rattle.pd_host.specs.declared.connection.segment_check.SegmentCheck.{SegmentCheck}
use Rattle.pd_host.specs.declared.connection.segment_check.SegmentCheck.TheVariants.{NotRun, StrayRst, OutsideWindow, ExactRst, ChallengedRst, WithoutAck, FirstAck, RefusedAck, EarlyAck, OldAck}
use Rattle.pd_timer.specs.Rto.{stopped}
use Rattle.pd_host.specs.AckEffects.{ack_taken}
use Rattle.pd_host.specs.Handshake.{length_of, opened_by, established_by, establishment_settings}
use Rattle.pd_host.specs.Packets.{ack_of, refusal_of}
use Rattle.pd_host.specs.ConnStates.{state_of, is_closed}
use Rattle.pd_host.specs.Connection.{ConnectionView, peer_fin_in, rcv_nxt}
use Rattle.pd_host.specs.declared.endpoint.Endpoint.{Endpoint}
use Rattle.pd_host.specs.declared.established.Established.{Established}
use Rattle.pd_host.specs.declared.established.PeerFin.{PeerFin}
use Rattle.pd_host.specs.declared.established.PeerFin.TheVariants.{Awaited, BeforeOurs, AfterOurs}
use Rattle.pd_host.specs.declared.endpoint.SenderState.{SenderState}
use Rattle.pd_host.specs.Host.{beside, put_out, then_on}

-- the sequence number lies in the receive window
abbrev pub is_in_window : ConnectionView → Segment → Bool
is_in_window c segment = nat_le (rcv_nxt c) segment.start && nat_lt segment.start (rcv_nxt c + c.rcv_wnd)

-- no FIN of the peer was taken
abbrev pub is_awaited : PeerFin → Bool
is_awaited Awaited = true
is_awaited _ = false

-- the peer's FIN is the next octet: it is the first, and nothing is missing before it
abbrev pub is_first_fin_at_rcv_nxt : ConnectionView → Segment → Bool
is_first_fin_at_rcv_nxt c segment = is_awaited (peer_fin_in c.established) && segment.start == rcv_nxt c

-- another FIN in the receive window
abbrev pub has_in_window_fin_out_of_order : ConnectionView → Segment → Bool
has_in_window_fin_out_of_order c segment = segment.flags.fin && (is_in_window c segment && not (is_first_fin_at_rcv_nxt c segment))

-- the contents: data, a SYN, a FIN in the receive window that isn't the next octet, and whatever comes to a closed
-- connection isn't run (own profile)
abbrev pub not_run_if_data_syn_misplaced_fin_or_closed : ConnectionView → Segment → Option SegmentCheck
not_run_if_data_syn_misplaced_fin_or_closed c segment =
    if nat_lt 0 (length_of segment) || (segment.flags.syn || (has_in_window_fin_out_of_order c segment || is_closed (state_of c)))
    then Some NotRun
    else None

-- the sequence number: outside the receive window an RST is dropped; any other segment is answered by an ACK and dropped
-- (RFC 9293, section 3.10.7.4, first check)
abbrev pub failed_check_if_outside_receive_window : ConnectionView → Segment → Option SegmentCheck
failed_check_if_outside_receive_window c segment =
    if is_in_window c segment then None else Some (if segment.flags.rst then StrayRst else OutsideWindow)

-- the RST flag: an RST at RCV.NXT resets the connection; elsewhere in the window it is answered by an ACK and dropped
-- (RFC 9293, section 3.10.7.4, second check; RFC 5961, section 3.2)
abbrev pub exact_or_challenged_check_if_rst : ConnectionView → Segment → Option SegmentCheck
exact_or_challenged_check_if_rst c segment =
    if segment.flags.rst then Some (if segment.start == rcv_nxt c then ExactRst else ChallengedRst) else None

-- the ACK flag: a segment without it is dropped (RFC 9293, section 3.10.7.4, fifth check)
abbrev pub failed_check_if_ack_flag_missing : Segment → Option SegmentCheck
failed_check_if_ack_flag_missing segment = if segment.flags.ack then None else Some WithoutAck

-- the handshake: an ACK of our SYN, above SND.UNA and not of more than was sent, establishes the connection, and its FIN is
-- looked at; any other is refused by an RST (RFC 9293, section 3.10.7.4, fifth check, SYN-RECEIVED)
abbrev pub first_or_refused_ack_check_in_handshake : ConnectionView → Segment → Option SegmentCheck
first_or_refused_ack_check_in_handshake c segment =
    if is_some c.established then None
    else Some (if nat_lt c.board.una segment.ack && nat_le segment.ack c.board.top then FirstAck else RefusedAck)

-- the ack number: an ACK of what wasn't sent is answered by an ACK and dropped; of one below SND.UNA the FIN alone is looked
-- at (RFC 9293, section 3.10.7.4, fifth check, ESTABLISHED)
abbrev pub failed_check_if_ack_above_top_or_below_una : ConnectionView → Segment → Option SegmentCheck
failed_check_if_ack_above_top_or_below_una c segment =
    if nat_lt c.board.top segment.ack then Some EarlyAck
    else if nat_lt segment.ack c.board.una then Some OldAck
    else None

-- the ruling of the first check that rules
abbrev pub first_failed_check : List (Option SegmentCheck) → Option SegmentCheck
first_failed_check [] = None
first_failed_check (Some failed_check ∷ checks) = Some failed_check
first_failed_check (None ∷ checks) = first_failed_check checks

-- the ruling on a later segment; one that passes all checks has none
abbrev pub failed_check_of : ConnectionView → Segment → Option SegmentCheck
failed_check_of c segment = first_failed_check (
    not_run_if_data_syn_misplaced_fin_or_closed c segment ∷ failed_check_if_outside_receive_window c segment ∷ exact_or_challenged_check_if_rst c segment
    ∷ failed_check_if_ack_flag_missing segment ∷ first_or_refused_ack_check_in_handshake c segment ∷ failed_check_if_ack_above_top_or_below_una c segment ∷ [])

-- the same on the connection of a sender, if one was begun
abbrev pub failed_check_on : Segment → Option ConnectionView → Option SegmentCheck
failed_check_on segment None = None
failed_check_on segment (Some c) = failed_check_of c segment

abbrev pub failed_check_in : Segment → SenderState → Option SegmentCheck
failed_check_in segment s = failed_check_on segment s.endpoint.connection

-- an RST ends the connection for good (RFC 9293, section 3.10.7.4, second check; in the handshake too: own profile): its
-- timer stops, and nothing is sent any more
abbrev pub reset_of : ConnectionView → ConnectionView
reset_of c = record c { is_reset = true; timer = stopped c.timer; rtt_segment = None }

-- the endpoint with this connection
abbrev pub with_connection : ConnectionView → Endpoint → Endpoint
with_connection c e = record e { connection = Some c }

-- the result of a segment that a check rules out, on the connection c of the state; one that passed them all is taken
abbrev pub check_outcome : ℕ → Segment → ConnectionView → SenderState → Option SegmentCheck → Result SenderState Halt
check_outcome now segment c s (Some NotRun) = Err Unsupported
check_outcome now segment c s (Some StrayRst) = Ok s
check_outcome now segment c s (Some OutsideWindow) = beside s (put_out now Ack (ack_of c) s.endpoint)
check_outcome now segment c s (Some ExactRst) = beside s (Ok (with_connection (reset_of c) s.endpoint))
check_outcome now segment c s (Some ChallengedRst) = beside s (put_out now Ack (ack_of c) s.endpoint)
check_outcome now segment c s (Some WithoutAck) = Ok s
check_outcome now segment c s (Some FirstAck) = Ok (record s {
  consulted_settings = establishment_settings s.consulted_settings;
  endpoint = with_connection (established_by now s.settings segment c) s.endpoint;
})
check_outcome now segment c s (Some RefusedAck) = beside s (put_out now Rst (refusal_of segment.ack) s.endpoint)
check_outcome now segment c s (Some EarlyAck) = beside s (put_out now Ack (ack_of c) s.endpoint)
check_outcome now segment c s (Some OldAck) = Ok s
check_outcome now segment c s None = ack_taken now segment c s c.established

-- The FIN (RFC 9293, section 3.10.7.4, eighth check)

-- a segment's FIN is looked at where it establishes the connection, where its ACK is old, and where it passed all checks; a
-- segment that is dropped has none
abbrev pub goes_on : Option SegmentCheck → Bool
goes_on (Some FirstAck) = true
goes_on (Some OldAck) = true
goes_on None = true
goes_on _ = false

-- the peer's FIN is taken: RCV.NXT lies after it, and it came before ours or after it (RFC 9293, section 3.10.7.4, eighth
-- check)
abbrev pub with_peer_fin : ConnectionView → ConnectionView
with_peer_fin c = record c {
  established = option_map {T = Established} (λ e. record e { peer_fin = if c.fin then AfterOurs else BeforeOurs }) c.established;
}

-- it is taken and answered by an ACK at a moment
abbrev pub finished_on : ℕ → SenderState → Option ConnectionView → Result SenderState Halt
finished_on now s None = Ok s
finished_on now s (Some c) = beside s (put_out now Ack (ack_of (with_peer_fin c)) (with_connection (with_peer_fin c) s.endpoint))

-- so it is where the segment has one and goes on to it, after what its ACK led to was sent
abbrev pub finished_by : ℕ → Segment → Option SegmentCheck → SenderState → Result SenderState Halt
finished_by now segment r s = if goes_on r && segment.flags.fin then finished_on now s s.endpoint.connection else Ok s

-- a later segment: the ruling, and then the FIN
abbrev pub passed_on : ℕ → Segment → ConnectionView → SenderState → Option SegmentCheck → Result SenderState Halt
passed_on now segment c s r = then_on (finished_by now segment r) (check_outcome now segment c s r)

-- an arrival, by whether a connection was begun
abbrev pub arrived_on : ℕ → Segment → SenderState → Option ConnectionView → Result SenderState Halt
arrived_on now segment s None = opened_by now segment s
arrived_on now segment s (Some c) = passed_on now segment c s (failed_check_of c segment)

-- a segment arrives at a moment: the first one, or one on the connection that was begun
abbrev pub arrived : Segment → ℕ → SenderState → Result SenderState Halt
arrived segment now s = arrived_on now segment s s.endpoint.connection
