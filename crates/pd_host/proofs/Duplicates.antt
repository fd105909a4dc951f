-- Which segments duplicates name.
use Rattle.std.proofs.Common.{◌≡◌, ℕ, ◌+◌, ◌≤◌, min, Bool, Option, Some, None, subst, arith}
use Rattle.pd_recover.proofs.Cases.{selective_cases, plain_cases, sack_cases, number_cases}
use Rattle.pd_recover.specs.Acks.{acked, renewed, acked_by, acked_with_sack, acked_without_sack, selective_duplicate, plain_duplicate, dup_ack_counted, grown_by}
use Rattle.pd_recover.specs.Cong.{CongView}
use Rattle.pd_recover.specs.declared.ack.Ack.{Ack}
use Rattle.pd_recover.specs.declared.ack.SackNews.{SackNews}
use Rattle.pd_recover.specs.declared.ack_action.AckAction.{AckAction}
use Rattle.pd_recover.specs.declared.ack_action.AckAction.TheVariants.{NewSegment, FastRetransmit}
use Rattle.pd_seg.specs.declared.sack_spans.Span.{Span}
use Rattle.pd_host.proofs.Chosen.{new_octets_flow}

lesser : (a b : ℕ) → min a b ≤ b
lesser a b = omega arith

-- a new segment begins at top, ends in the peer's window and is queued; what is sent again was sent
abbrev pub IsAllowed : Ack → AckAction → Type 0
IsAllowed ack (NewSegment segment) = (segment.start ≡ ack.top) × (segment.end ≤ ack.una + ack.rwnd) × (segment.end ≤ ack.end)
IsAllowed ack (FastRetransmit segment) = segment.end ≤ ack.top
IsAllowed ack _ = Unit {0}

abbrev Limits : Ack → CongView × AckAction → Type 0
Limits ack step = IsAllowed ack step.1

plain_limits : (ack : Ack) (w : CongView) → Limits ack (plain_duplicate ack w)
plain_limits ack w =
    plain_cases (Limits ack) ack w tt (new_octets_flow ack.smss ack.una ack.top ack.end ack.rwnd) (lesser (ack.una + ack.smss) ack.top) tt

number_limits : (ack : Ack) (w : CongView) → Limits ack (acked_without_sack ack w)
number_limits ack w =
    number_cases (Limits ack) ack w tt (plain_limits ack (dup_ack_counted w)) tt

selective_limits : (ack : Ack) (lost : Bool) (w : CongView) → Limits ack (selective_duplicate ack lost w)
selective_limits ack lost w = selective_cases (Limits ack) ack lost w tt tt tt

sack_limits : (ack : Ack) (sack_news : SackNews) (w : CongView) → Limits ack (acked_with_sack ack sack_news w)
sack_limits ack sack_news w =
    sack_cases (Limits ack) ack sack_news w tt tt tt (selective_limits ack sack_news.lost (dup_ack_counted (grown_by ack w))) tt

told_limits : (ack : Ack) (o : Option SackNews) (w : CongView) → Limits ack (acked_by ack o w)
told_limits ack None w = number_limits ack w
told_limits ack (Some sack_news) w = sack_limits ack sack_news w

pub what_follows : (ack : Ack) (w : CongView) → IsAllowed ack (acked ack w).1
what_follows ack w = told_limits ack ack.sack (renewed ack w)

pub duplicate_flow : (ack : Ack) (w : CongView) (segment : Span) → (acked ack w).1 ≡ NewSegment segment
    → (segment.start ≡ ack.top) × (segment.end ≤ ack.una + ack.rwnd)
duplicate_flow ack w segment h =
    let allowed : IsAllowed ack (NewSegment segment) = subst (IsAllowed ack) h (what_follows ack w) in
    (allowed.0, allowed.1)
