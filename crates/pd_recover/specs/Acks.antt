-- The effect of an ACK on the congestion window and on loss recovery, and the sending that it leads to.
use Rattle.std.specs.Prelude.{⊤, ◌≡◌, ℕ, ◌+◌, ◌-◌, ◌*◌, ◌^◌, ◌<◌, ◌≤◌, ◌==◌, nat_lt, nat_le, not, min, Bool, true, false, ◌&&◌, ◌||◌, Option, Some, None, if◌then◌else◌}
use Rattle.pd_board.specs.Loss.{dup_thresh}
use Rattle.pd_seg.specs.declared.sack_spans.Span.{Span}
use Rattle.pd_recover.specs.declared.ack.Ack.{Ack}
use Rattle.pd_recover.specs.declared.ack.SackNews.{SackNews}
use Rattle.pd_recover.specs.declared.ack_action.AckAction.{AckAction}
use Rattle.pd_recover.specs.declared.ack_action.AckAction.TheVariants.{Ordinary, StepC, Entry, LimitedTransmit, NewSegment, FastRetransmit, Nothing}
use Rattle.pd_recover.specs.Cong.{CongView, widened, grown, halved, with_limited}
use Rattle.pd_recover.specs.Prr.{uses_prr, no_prr, begun_with, delivery_counted}
use Rattle.pd_recover.specs.declared.prr.PrrState.{PrrState}

-- an ACK's numbers are in order and in their ranges
pub record IsAck (ack : Ack) : Type 0 where
  pub smss_from : 64 ≤ ack.smss
  pub smss_to : ack.smss ≤ 65495
  pub sent : ack.una ≤ ack.top
  pub queued : ack.top ≤ ack.end
  pub small : ack.end < 2 ^ 31

-- an ACK of new octets begins the counts anew, and no expiry is noted any more
abbrev pub renewed : Ack → CongView → CongView
renewed ack w =
    if nat_lt 0 ack.acked
    then record w { dup_acks = 0; limited_octets = 0; expired = false }
    else w

-- outside recovery an ACK of new octets widens the window
abbrev pub grown_by : Ack → CongView → CongView
grown_by ack w = if nat_lt 0 ack.acked then grown ack.smss ack.acked w else w

-- one more duplicate
abbrev pub dup_ack_counted : CongView → CongView
dup_ack_counted w = record w { dup_acks = min (w.dup_acks + 1) (dup_thresh + 1) }

-- half of what is outstanding at an ACK
abbrev pub half_of : Ack → CongView → ℕ
half_of ack w = halved ack.smss ack.una ack.top w

-- the new segment at top, where data is queued and the peer's window takes it (RFC 6675, section 4, NextSeg, rule 2)
abbrev pub new_segment_at_top_if_whole_in_rwnd : ℕ → ℕ → ℕ → ℕ → ℕ → Option Span
new_segment_at_top_if_whole_in_rwnd smss una top end rwnd =
    let to = top + min smss (end - top) in
    if nat_lt top to && nat_le to (una + rwnd) then Some (record { start = top; end = to }) else None

-- With SACK (RFC 6675, section 5)

-- una has reached RecoveryPoint: recovery ends, by PRR with ssthresh as the window (RFC 9937, section 6)
abbrev pub recovery_ended : CongView → CongView
recovery_ended w = record w {
  cwnd = if uses_prr w.recovery_algorithm then w.ssthresh else w.cwnd;
  dup_acks = 0;
  limited_octets = 0;
  recovering = false;
  prr = no_prr;
}

-- the state of PRR where recovery begins, whose ACK is the first that is counted, and after each ACK in it
abbrev pub prr_begun : Ack → CongView → PrrState
prr_begun ack w =
    if uses_prr w.recovery_algorithm then delivery_counted ack.delivery (begun_with ack.delivery.recover_fs) else w.prr

abbrev pub with_delivered : Ack → CongView → CongView
with_delivered ack w = record w { prr = if uses_prr w.recovery_algorithm then delivery_counted ack.delivery w.prr else w.prr }

-- an ACK in recovery leads to step C; by PRR one whose DeliveredData is 0 changes nothing and leads to nothing (own)
abbrev pub recovery_continued : Ack → CongView → CongView × AckAction
recovery_continued ack w =
    if uses_prr w.recovery_algorithm && ack.delivery.delivered_data == 0 then (w, Nothing) else (with_delivered ack w, StepC)

-- recovery begins: RecoveryPoint is what was sent, the window is halved (steps 4.1 and 4.2), and nothing was sent again
abbrev pub entered : Ack → CongView → CongView
entered ack w = record w {
  cwnd = half_of ack w;
  ssthresh = half_of ack w;
  recovering = true;
  recovery_point = ack.top;
  high_rxt = ack.una;
  prr = prr_begun ack w;
}

-- a duplicate that reported a new octet: below RecoveryPoint it begins nothing; DupThresh of them, or one that shows una to be
-- lost, begin recovery; another puts HighRxt at HighACK and leads to limited transmit, where that is on (steps 1 to 3)
abbrev pub selective_duplicate : Ack → Bool → CongView → CongView × AckAction
selective_duplicate ack lost w =
    if nat_lt ack.una w.recovery_point then (w, Ordinary)
    else if nat_le dup_thresh w.dup_acks || lost then (entered ack w, Entry)
    else if w.limited_transmit then (record w { high_rxt = ack.una }, LimitedTransmit)
    else (w, Ordinary)

-- an ACK where SACK was agreed
abbrev pub acked_with_sack : Ack → SackNews → CongView → CongView × AckAction
acked_with_sack ack sack_news w =
    if w.recovering && nat_le w.recovery_point ack.una then (recovery_ended w, Ordinary)
    else if w.recovering then recovery_continued ack w
    else if sack_news.fresh then selective_duplicate ack sack_news.lost (dup_ack_counted (grown_by ack w))
    else (grown_by ack w, Ordinary)

-- Without SACK (RFC 5681, section 3.2)

-- a duplicate acknowledges nothing new while octets are outstanding, its window is the one before, and no FIN comes with it
-- (section 2)
abbrev pub is_rfc5681_duplicate : Ack → Bool
is_rfc5681_duplicate ack = ack.acked == 0 && (nat_lt ack.una ack.top && (ack.same_window && not ack.fin))

-- the window is deflated, and recovery ends (step 6)
abbrev pub deflated : CongView → CongView
deflated w = record w { cwnd = w.ssthresh; recovering = false }

-- an ACK of new octets ends recovery, and outside it widens the window
abbrev pub new_octets_acked : Ack → CongView → CongView
new_octets_acked ack w = if w.recovering then deflated w else grown_by ack w

-- the segment is sent, where what is outstanding with it is at most 2 segments beyond the window (RFC 3042)
abbrev pub sent_limited : Ack → Option Span → CongView → CongView × AckAction
sent_limited ack None w = (w, Nothing)
sent_limited ack (Some segment) w =
    if nat_le (segment.end - ack.una) (w.cwnd + 2 * ack.smss)
    then (with_limited (segment.end - segment.start) w, NewSegment segment)
    else (w, Nothing)

-- each duplicate before that sends one new segment, where limited transmit is on (step 1; RFC 3042)
abbrev pub limited_transmit : Ack → CongView → CongView × AckAction
limited_transmit ack w =
    if w.limited_transmit then sent_limited ack (new_segment_at_top_if_whole_in_rwnd ack.smss ack.una ack.top ack.end ack.rwnd) w else (w, Nothing)

-- the segment at una, SMSS octets at most
abbrev pub first_outstanding_segment : Ack → Span
first_outstanding_segment ack = record { start = ack.una; end = min (ack.una + ack.smss) ack.top }

-- DupThresh duplicates begin recovery: the window is as if each were a segment that has left the network (steps 2 and 3)
abbrev pub retransmitted : Ack → CongView → CongView
retransmitted ack w = record w {
  cwnd = half_of ack w + dup_thresh * ack.smss;
  ssthresh = half_of ack w;
  recovering = true;
}

-- a duplicate by its number; each further one widens the window by a segment (steps 1 to 4)
abbrev pub plain_duplicate : Ack → CongView → CongView × AckAction
plain_duplicate ack w =
    if nat_lt w.dup_acks dup_thresh then limited_transmit ack w
    else if w.dup_acks == dup_thresh then (retransmitted ack w, FastRetransmit (first_outstanding_segment ack))
    else (widened ack.smss w, Ordinary)

-- an ACK where SACK wasn't agreed; a duplicate below RecoveryPoint isn't counted
abbrev pub acked_without_sack : Ack → CongView → CongView × AckAction
acked_without_sack ack w =
    if nat_lt 0 ack.acked then (new_octets_acked ack w, Ordinary)
    else if is_rfc5681_duplicate ack && nat_le w.recovery_point ack.una then plain_duplicate ack (dup_ack_counted w)
    else (w, Ordinary)

-- an ACK by the octets that it reports
abbrev pub acked_by : Ack → Option SackNews → CongView → CongView × AckAction
acked_by ack (Some sack_news) w = acked_with_sack ack sack_news w
acked_by ack None w = acked_without_sack ack w

-- the state after an ACK, and what the ACK leads to
abbrev pub acked : Ack → CongView → CongView × AckAction
acked ack w = acked_by ack ack.sack (renewed ack w)

-- a segment that an ACK names has octets: new ones at top, or outstanding ones at una
abbrev pub IsNamed : Ack → AckAction → Type 0
IsNamed ack (NewSegment segment) = (segment.start ≡ ack.top) × (segment.start < segment.end) × (segment.end ≤ ack.end)
IsNamed ack (FastRetransmit segment) = (segment.start ≡ ack.una) × (segment.start < segment.end) × (segment.end ≤ ack.top)
IsNamed ack _ = ⊤
