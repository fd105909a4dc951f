-- Why a sender sends nothing by itself: the first reason that holds.
use Rattle.std.specs.Prelude.{◌≡◌, ℕ, ◌+◌, ◌-◌, ◌≤◌, ◌==◌, nat_lt, nat_le, not, Bool, true, false, ◌&&◌, ◌||◌, Option, None, Some, is_some, if◌then◌else◌}
use Rattle.pd_board.specs.Retransmit.{run_at}
use Rattle.pd_board.specs.Loss.{pipe}
use Rattle.pd_recover.specs.NextSeg as recovery
use Rattle.pd_host.specs.Connection.{ConnectionView}
use Rattle.pd_host.specs.Sending.{can_send_full_segment, is_unsent_within_usable_window, can_send_half_max_window, may_leave_by_sws_and_nagle, ordinary_segment, with_next_past_sacked}
use Rattle.pd_host.specs.declared.established.Established.{Established}
use Rattle.pd_host.specs.declared.connection.introspection.SendBlocker.{SendBlocker}
use Rattle.pd_host.specs.declared.connection.introspection.SendBlocker.TheVariants.{Reset, NotEstablished, Acknowledged, PipeFull, NothingNext, Recovering, AllSent, PeerWindow, CongestionWindow, PartOfSegment, Nagle, Open}
use Rattle.pd_host.specs.declared.endpoint.SenderState.{SenderState}

-- the octet that has to lie within the windows for the next segment to leave: of octets that were sent before the last one
-- of the segment, since all of it leaves or nothing; else the octet at the sending place
abbrev pub last_octet_needed_in_windows : ConnectionView → ℕ
last_octet_needed_in_windows c = if nat_lt c.board.next c.board.top then (run_at c.board.next c.board).end - 1 else c.board.next

-- a segment that could leave is worth sending, Nagle's algorithm apart (RFC 9293, section 3.8.6.2.1)
abbrev pub may_leave_by_sws_ignoring_nagle : ConnectionView → Established → Bool
may_leave_by_sws_ignoring_nagle c e = can_send_full_segment c e || (is_unsent_within_usable_window c e || can_send_half_max_window c e)

-- new octets that lie within both windows
abbrev pub new_segment_send_blocker : ConnectionView → Established → SendBlocker
new_segment_send_blocker c e =
    if not (may_leave_by_sws_ignoring_nagle c e) then PartOfSegment
    else (if may_leave_by_sws_and_nagle c e then Open else Nagle)

-- outside recovery, and in recovery without SACK
abbrev pub ordinary_send_blocker : ConnectionView → Established → SendBlocker
ordinary_send_blocker c e =
    if nat_le c.board.end c.board.next then AllSent
    else (if nat_le (c.board.una + e.rwnd) (last_octet_needed_in_windows c) then PeerWindow
    else (if nat_le (c.board.una + e.congestion.cwnd) (last_octet_needed_in_windows c) then CongestionWindow
    else (if nat_lt c.board.next c.board.top then Open
    else new_segment_send_blocker c e)))

-- in recovery with SACK (RFC 6675, section 5, step C)
abbrev pub blocker_in_recovery : ConnectionView → Established → SendBlocker
blocker_in_recovery c e =
    if not (recovery.has_room_for_segment (pipe e.congestion.high_rxt c.board) c.board e.congestion) then PipeFull
    else (if is_some (recovery.next_send e.rwnd c.board e.congestion) then Recovering else NothingNext)

-- from the end of the handshake on
abbrev pub established_send_blocker : ConnectionView → Established → SendBlocker
established_send_blocker c e =
    if c.board.una == c.board.end then Acknowledged
    else (if c.sack && e.congestion.recovering then blocker_in_recovery c e else ordinary_send_blocker c e)

-- the same by whether the handshake has come to its end
abbrev pub blocker_by : ConnectionView → Option Established → SendBlocker
blocker_by c None = NotEstablished
blocker_by c (Some e) = established_send_blocker c e

-- why a connection sends nothing by itself from its sending place on
abbrev pub blocker_of : ConnectionView → SendBlocker
blocker_of c = if c.is_reset then Reset else blocker_by c c.established

-- the same by whether a SYN has begun a connection; the sending place has moved past SACKed octets (RFC 2018, section 5)
abbrev pub blocker_on : Option ConnectionView → SendBlocker
blocker_on None = NotEstablished
blocker_on (Some c) = blocker_of (with_next_past_sacked c)

-- why the sender sends nothing by itself
abbrev pub blocker_in : SenderState → SendBlocker
blocker_in s = blocker_on s.endpoint.connection

-- a segment could leave
abbrev pub is_open : SendBlocker → Bool
is_open Open = true
is_open _ = false

-- a law: outside recovery with SACK, and once our SYN was sent, ordinary sending finds a segment exactly where no reason holds
-- it back
abbrev pub SendsWhereNothingBlocks : Type 0
SendsWhereNothingBlocks =
    (c : ConnectionView) (e : Established) → 1 ≤ c.board.next → c.board.next ≤ c.board.top → c.board.top ≤ c.board.end
    → is_open (ordinary_send_blocker c e) ≡ is_some (ordinary_segment c e)
