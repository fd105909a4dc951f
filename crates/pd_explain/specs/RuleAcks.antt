-- The rules that a segment comes to which the sender takes, by its numbers before the segment and after it.
use Rattle.std.specs.Prelude.{ℕ, ◌+◌, ◌-◌, ◌*◌, ◌==◌, nat_lt, Bool, true, false, ◌&&◌, List, [], ◌∷◌, codes, Option, Some, None, if◌then◌else◌}
use Rattle.pd_host.specs.declared.connection.loss_evidence.DupAckEffect.{DupAckEffect}
use Rattle.pd_host.specs.declared.connection.loss_evidence.DupAckEffect.TheVariants.{Below, Counted}
use Rattle.pd_host.specs.declared.connection.loss_evidence.SackEvidence.{SackEvidence}
use Rattle.pd_host.specs.declared.connection_snapshot.ConnectionSnapshot.{ConnectionSnapshot}
use Rattle.pd_host.specs.declared.connection_snapshot.Recovery.{Recovery}
use Rattle.pd_host.specs.declared.connection_snapshot.Recovery.TheVariants.{Idle, WithSack, WithoutSack}
use Rattle.pd_host.specs.declared.connection_snapshot.WindowSnapshot.{WindowSnapshot}
use Rattle.pd_recover.specs.declared.prr.PrrState.{PrrState}
use Rattle.pd_explain.specs.RuleNames.{present}

-- Acknowledged octets

-- SND.UNA moves up to all that was sent, to a part of it, or not at all (RFC 9293, section 3.10.7.4, fifth check)
abbrev pub ack_name : ConnectionSnapshot → ConnectionSnapshot → List ℕ
ack_name b a =
    if b.una == a.una then (if b.una == b.top then codes "rfc9293.ack.nothing-outstanding" else codes "rfc9293.ack.nothing-new")
    else (if a.una == b.top then codes "rfc9293.ack.all" else codes "rfc9293.ack.part")

-- SND.NXT moves up to SEG.ACK (RFC 9293, section 3.10.7.4, fifth check)
abbrev pub next_name : ConnectionSnapshot → ConnectionSnapshot → Option (List ℕ)
next_name b a = if nat_lt b.next a.una then Some (codes "rfc9293.ack.next-moves-up") else None

-- the right edge of the peer's window (RFC 9293, section 3.8.6)
abbrev pub right_edge : ConnectionSnapshot → WindowSnapshot → ℕ
right_edge c w = c.una + w.rwnd

-- it moves up, stays, or moves back (RFC 9293, section 3.8.6)
abbrev pub right_edge_name : ℕ → ℕ → List ℕ
right_edge_name b a =
    if nat_lt b a then codes "rfc9293.window.edge-up" else (if a == b then codes "rfc9293.window.edge-stays" else codes "rfc9293.window.edge-back")

-- The congestion window outside recovery

abbrev pub is_idle : Recovery → Bool
is_idle Idle = true
is_idle _ = false

-- by a growth of the window: in slow start by the octets acknowledged or by its limit, in congestion avoidance by an octet at
-- least, where the window is ssthresh too (RFC 5681, section 3.1; RFC 3465, section 2.2)
abbrev pub growth_kind_name : ℕ → ℕ → ℕ → WindowSnapshot → List ℕ
growth_kind_name most acked growth v =
    if nat_lt v.cwnd v.ssthresh then (if nat_lt growth acked && growth == most then codes "rfc3465.growth.limited" else codes "rfc5681.growth.slow-start")
    else (if growth == 1 then codes "rfc5681.growth.one-octet"
    else (if v.cwnd == v.ssthresh then codes "rfc5681.growth.at-ssthresh" else codes "rfc5681.growth.congestion-avoidance"))

-- the most that an ACK widens the window by in slow start: L segments, one in the slow start after an expiry (RFC 3465,
-- sections 2.2 and 2.3)
abbrev pub most_growth : ℕ → ℕ → ℕ → ℕ
most_growth limit smss growth = if growth == smss then smss else limit * smss

-- the window grows
abbrev pub growth_name : ℕ → ConnectionSnapshot → ConnectionSnapshot → WindowSnapshot → WindowSnapshot → Option (List ℕ)
growth_name limit b a v w =
    if is_idle v.recovery && (is_idle w.recovery && nat_lt v.cwnd w.cwnd)
    then Some (growth_kind_name (most_growth limit b.smss (w.cwnd - v.cwnd)) (a.una - b.una) (w.cwnd - v.cwnd) v) else None

-- it becomes the restart window (RFC 5681, section 4.1): smaller, while ssthresh stays, and not the segment that an expiry leaves
abbrev pub restart_name : ConnectionSnapshot → WindowSnapshot → WindowSnapshot → Option (List ℕ)
restart_name a v w =
    if is_idle v.recovery && (is_idle w.recovery && (nat_lt w.cwnd v.cwnd && (nat_lt a.smss w.cwnd && v.ssthresh == w.ssthresh))) then Some (codes "rfc5681.cwnd.restart-window") else None

-- ssthresh becomes half of FlightSize, at least two segments (RFC 5681, section 3.1, equation 4)
abbrev pub ssthresh_name : ConnectionSnapshot → WindowSnapshot → WindowSnapshot → Option (List ℕ)
ssthresh_name a v w =
    if v.ssthresh == w.ssthresh then None
    else (if w.ssthresh == 2 * a.smss then Some (codes "rfc5681.ssthresh.two-segments") else Some (codes "rfc5681.ssthresh.half-flight"))

-- Duplicates, where octets are outstanding and no recovery goes on

-- SACK is known to be agreed, by the recovery that goes on or by what a duplicate does
abbrev pub has_sack_evidence : Option DupAckEffect → Bool
has_sack_evidence (Some (Counted evidence)) = by evidence.sacked
  where
    by : Option SackEvidence → Bool
    by None = false
    by (Some above) = true
has_sack_evidence _ = false

abbrev pub is_with_sack : Recovery → Bool
is_with_sack (WithSack pipe) = true
is_with_sack _ = false

-- a duplicate by its count, with SACK (RFC 6675, section 5) or without (RFC 5681, section 3.2)
abbrev pub count_name : Bool → ℕ → List ℕ
count_name true count =
    if count == 1 then codes "rfc6675.duplicate.first" else (if count == 2 then codes "rfc6675.duplicate.second" else codes "rfc6675.duplicate.third")
count_name false count =
    if count == 1 then codes "rfc5681.duplicate.first" else (if count == 2 then codes "rfc5681.duplicate.second" else codes "rfc5681.duplicate.third")

-- an ACK that counts for none
abbrev pub no_duplicate_name : Bool → List ℕ
no_duplicate_name true = codes "rfc6675.duplicate.none"
no_duplicate_name false = codes "rfc5681.duplicate.none"

-- the count by an ACK: it begins anew where octets are acknowledged, also with a duplicate
abbrev pub counted_name : Bool → ConnectionSnapshot → ConnectionSnapshot → WindowSnapshot → WindowSnapshot → Option (List ℕ)
counted_name sack b a v w =
    if b.una == a.una then Some (if nat_lt v.dup_acks w.dup_acks then count_name sack w.dup_acks else no_duplicate_name sack)
    else (if nat_lt 0 w.dup_acks then Some (codes "rfc6675.duplicate.of-new-octets")
    else (if nat_lt 0 v.dup_acks then Some (codes "rfc5681.duplicate.count-anew") else None))

-- what the sender makes of it; below the RecoveryPoint of an expiry nothing (RFC 6675, section 5.1)
abbrev pub duplicate_name : Option DupAckEffect → ConnectionSnapshot → ConnectionSnapshot → WindowSnapshot → WindowSnapshot → Option (List ℕ)
duplicate_name None b a v w = None
duplicate_name (Some (Below point)) b a v w = if b.una == a.una then Some (codes "rfc6675.duplicate.below-recovery-point") else None
duplicate_name (Some (Counted evidence)) b a v w = counted_name (has_sack_evidence (Some (Counted evidence))) b a v w

-- Recovery

-- recovery begins with a third duplicate, or where SND.UNA is lost (RFC 6675, section 5, step 4)
abbrev pub entry_name : WindowSnapshot → List ℕ
entry_name w = if nat_lt w.dup_acks 3 then codes "rfc6675.entry.by-loss" else codes "rfc6675.entry.by-duplicates"

-- it goes on (RFC 6675, section 5, steps B and C)
abbrev pub further_name : ConnectionSnapshot → ConnectionSnapshot → List ℕ
further_name b a = if b.una == a.una then codes "rfc6675.recovery.nothing-new" else codes "rfc6675.recovery.partial-ack"

-- it goes on without SACK: a further duplicate widens the window (RFC 5681, section 3.2, step 4)
abbrev pub widened_name : WindowSnapshot → WindowSnapshot → List ℕ
widened_name v w = if nat_lt v.cwnd w.cwnd then codes "rfc5681.recovery.widens" else codes "rfc5681.recovery.no-duplicate"

-- the recovery before an ACK and after it
abbrev pub recovery_step_name : Recovery → Recovery → ConnectionSnapshot → ConnectionSnapshot → WindowSnapshot → WindowSnapshot → Option (List ℕ)
recovery_step_name Idle (WithSack pipe) b a v w = Some (entry_name w)
recovery_step_name Idle WithoutSack b a v w = Some (codes "rfc5681.entry")
recovery_step_name (WithSack before) (WithSack after) b a v w = Some (further_name b a)
recovery_step_name (WithSack before) Idle b a v w = Some (codes "rfc6675.recovery.ends")
recovery_step_name WithoutSack WithoutSack b a v w = Some (widened_name v w)
recovery_step_name WithoutSack Idle b a v w = Some (codes "rfc5681.recovery.ends")
recovery_step_name _ _ b a v w = None

-- PRR (RFC 9937, section 6)

-- an ACK in recovery: where it delivers nothing all stays; else cwnd above ssthresh follows the part that was delivered, or it
-- grows up to ssthresh, with a segment more at a SafeACK
abbrev pub reduction_name : Bool → Bool → WindowSnapshot → List ℕ
reduction_name delivers safe_ack w =
    if delivers then (if nat_lt w.ssthresh w.cwnd then codes "rfc9937.proportional"
    else (if w.cwnd == w.ssthresh then codes "rfc9937.up-to-ssthresh"
    else (if safe_ack then codes "rfc9937.safe-ack" else codes "rfc9937.conservative")))
    else codes "rfc9937.nothing-delivered"

-- the ACK enters recovery, or adds to what is delivered
abbrev pub is_delivering : Recovery → PrrState → PrrState → Bool
is_delivering before prr after = if is_with_sack before then nat_lt prr.prr_delivered after.prr_delivered else true

abbrev pub prr_name : Option PrrState → Option PrrState → WindowSnapshot → WindowSnapshot → Option (List ℕ)
prr_name (Some prr) (Some after) v w =
    if is_with_sack w.recovery then Some (reduction_name (is_delivering v.recovery prr after) after.safe_ack w)
    else (if is_with_sack v.recovery then Some (codes "rfc9937.ends") else None)
prr_name _ _ v w = None

-- All of them, with L and what the sender makes of a duplicate
abbrev pub ack_names : ℕ → Option DupAckEffect → ConnectionSnapshot → ConnectionSnapshot → WindowSnapshot → WindowSnapshot → List (List ℕ)
ack_names limit effect b a v w =
    present (Some (ack_name b a) ∷ next_name b a ∷ Some (right_edge_name (right_edge b v) (right_edge a w)) ∷ growth_name limit b a v w
    ∷ restart_name a v w ∷ ssthresh_name a v w ∷ duplicate_name effect b a v w ∷ recovery_step_name v.recovery w.recovery b a v w ∷ prr_name v.prr w.prr v w ∷ [])
