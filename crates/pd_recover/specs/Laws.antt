-- The laws of every state that the rules reach.
use Rattle.std.specs.Prelude.{◌≡◌, ◌≢◌, ◌↔◌, Some, ℕ, ◌+◌, ◌-◌, ◌*◌, ◌^◌, ◌<◌, ◌≤◌, min, max, Bool, true, false, Option, None, IsSome}
use Rattle.pd_seg.specs.declared.sack_spans.Span.{Span}
use Rattle.pd_settings.specs.declared.settings.Settings.{Settings}
use Rattle.pd_settings.specs.declared.initial_window.InitialWindow.{InitialWindow}
use Rattle.pd_settings.specs.declared.recovery_algorithm.RecoveryAlgorithm.TheVariants.{Rfc6675}
use Rattle.pd_settings.specs.declared.setting_set.SettingSet.{SettingSet}
use Rattle.pd_settings.specs.SettingSets.{Agree}
use Rattle.pd_board.specs.Retransmit.{run_at}
use Rattle.pd_board.specs.Octets.{contains}
use Rattle.pd_board.specs.Board.{BoardView, IsBoardView}
use Rattle.pd_recover.specs.declared.next_segment.NextSegment.{NextSegment}
use Rattle.pd_recover.specs.declared.next_segment.NextSegment.TheVariants.{Rescue}
use Rattle.pd_recover.specs.declared.ack.Ack.{Ack}
use Rattle.pd_recover.specs.declared.ack.Delivery.{Delivery}
use Rattle.pd_recover.specs.declared.ack_action.AckAction.TheVariants.{StepC, Entry, Nothing}
use Rattle.pd_recover.specs.Prr.{uses_prr, no_prr, begun_with, delivery_counted, with_sent, proportional_ssthresh, is_forced}
use Rattle.pd_recover.specs.Acks.{renewed, acked}
use Rattle.pd_recover.specs.NextSeg.{IsSendable, segment_of, board_new_segment_at_top_if_whole_in_rwnd, next_send, step_c_segment, with_sent_noted}
use Rattle.pd_recover.specs.Cong.{CongView, IsCongView, initial_window_by_rule, begun, begun_settings, is_prr_recovering, limit_of, cwnd_growth, timed_out, restarted, with_prr_out, sndcnt, with_prr_cwnd}

-- the window lies between one segment, in recovery by PRR 0, and 2^30, the threshold between 2 segments, or its initial value where that is lower,
-- and 2^30; in recovery it is at least 2 segments
pub record IsWithin (smss initial_ssthresh : ℕ) (w : CongView) : Type 0 where
  pub cwnd_from : is_prr_recovering w.recovering w.recovery_algorithm ≡ false → smss ≤ w.cwnd
  pub cwnd_to : w.cwnd ≤ 2 ^ 30
  pub ssthresh_from : min (2 * smss) initial_ssthresh ≤ w.ssthresh
  pub ssthresh_to : w.ssthresh ≤ 2 ^ 30
  pub recovering : w.recovering ≡ true → 2 * smss ≤ w.ssthresh

-- the window and the threshold stay there where at most 2^20 octets are queued, beside the FIN (RFC 5681, section 3.1)
pub record StaysWithin : Type 0 where
  pub first :
      (settings : Settings) (smss : ℕ) (syn_ack_resent : Bool)
      → smss ≤ 65495
      → IsWithin smss settings.initial_ssthresh (begun settings smss syn_ack_resent)
  pub ack :
      (initial_ssthresh : ℕ) (ack : Ack) (w : CongView)
      → ack.smss ≤ 65495 → ack.top - ack.una ≤ 2 ^ 20 + 1
      → IsWithin ack.smss initial_ssthresh w
      → IsWithin ack.smss initial_ssthresh (acked ack w).0
  pub expiry :
      (initial_ssthresh smss una top : ℕ) (w : CongView)
      → smss ≤ 65495 → top - una ≤ 2 ^ 20 + 1
      → IsWithin smss initial_ssthresh w
      → IsWithin smss initial_ssthresh (timed_out smss una top w)
  pub restart :
      (initial_ssthresh smss : ℕ) (idle : Bool) (w : CongView)
      → smss ≤ 65495
      → IsWithin smss initial_ssthresh w
      → IsWithin smss initial_ssthresh (restarted smss idle w)
  pub set_prr_cwnd :
      (initial_ssthresh smss pipe : ℕ) (w : CongView)
      → IsWithin smss initial_ssthresh w
      → IsWithin smss initial_ssthresh (with_prr_cwnd smss pipe w)

-- a connection begins alike by settings that agree on those that are consulted
abbrev pub BeginsByUses : Type 0
BeginsByUses =
    (consulted_settings : SettingSet) (a b : Settings) (smss : ℕ) (syn_ack_resent : Bool) → Agree (begun_settings consulted_settings) a b
    → begun b smss syn_ack_resent ≡ begun a smss syn_ack_resent

-- in slow start an ACK widens the window by no more octets than it acknowledges, nor than L segments have: by one segment
-- at most in the slow start after an expiry (RFC 3465, sections 2.2 and 2.3)
pub record CountsOctets : Type 0 where
  pub acknowledged : (smss n : ℕ) (w : CongView) → w.cwnd < w.ssthresh → cwnd_growth smss n w ≤ n
  pub limited : (smss n : ℕ) (w : CongView) → w.cwnd < w.ssthresh → cwnd_growth smss n w ≤ limit_of w * smss
  pub all : (smss n : ℕ) (w : CongView) → w.cwnd < w.ssthresh → n ≤ limit_of w * smss → cwnd_growth smss n w ≡ n
  pub after_expiry : (smss una top : ℕ) (w : CongView) → limit_of (timed_out smss una top w) ≡ 1

-- the setting of slow start, and whether it began at an expiry last
abbrev pub slow_start_of : CongView → ℕ × (Option InitialWindow × Bool)
slow_start_of w = (w.abc_limit, (w.idle_restart_rule, w.follows_expiry))

-- ACKs leave it, so that the slow start after an expiry counts as such until a restart (RFC 3465, section 2.3)
abbrev pub KeepsSlowStart : Type 0
KeepsSlowStart = (ack : Ack) (w : CongView) → slow_start_of (acked ack w).0 ≡ slow_start_of w

-- where the setting is on, the window is min(IW, cwnd) after an idle time (RFC 5681, section 4.1); else, and where sending
-- goes on without one, all stays as it is
pub record RestartsWhenIdle : Type 0 where
  pub idle :
      (smss : ℕ) (rule : InitialWindow) (w : CongView) → w.idle_restart_rule ≡ Some rule
      → (restarted smss true w).cwnd ≡ min (initial_window_by_rule rule smss) w.cwnd
  pub no_wider : (smss : ℕ) (idle : Bool) (w : CongView) → (restarted smss idle w).cwnd ≤ w.cwnd
  pub busy : (smss : ℕ) (w : CongView) → restarted smss false w ≡ w
  pub off : (smss : ℕ) (idle : Bool) (w : CongView) → w.idle_restart_rule ≡ None → restarted smss idle w ≡ w

-- where the settings are 1 and false, slow start widens by min(N, SMSS) (RFC 5681, section 3.1, equation 2), and no idle
-- time changes the window
pub record DefaultsAreRfc5681 : Type 0 where
  pub counting :
      (smss n : ℕ) (w : CongView) → w.abc_limit ≡ 1 → w.cwnd < w.ssthresh
      → cwnd_growth smss n w ≡ min n smss
  pub limit :
      (settings : Settings) (smss : ℕ) (syn_ack_resent : Bool) → settings.abc_limit ≡ 1
      → (begun settings smss syn_ack_resent).abc_limit ≡ 1
  pub restart :
      (settings : Settings) (smss : ℕ) (syn_ack_resent : Bool) → settings.slow_start_after_idle ≡ false
      → (begun settings smss syn_ack_resent).idle_restart_rule ≡ None

-- Proportional Rate Reduction (RFC 9937, section 6)

-- whether a segment is forced at a pipe
abbrev pub forces : ℕ → ℕ → CongView → Bool
forces smss pipe w = is_forced smss pipe w.ssthresh w.prr

-- in recovery by PRR an ACK lets sndcnt octets out at most. Where no segment is forced: with the pipe above ssthresh they keep
-- prr_out at or below the part of ssthresh that was delivered; else they leave the pipe at or below ssthresh, and where
-- SafeACK fails prr_out is at most the greater of prr_delivered and what it was with DeliveredData. A forced segment is the
-- first of a recovery
pub record SendsInProportion : Type 0 where
  pub window :
      (smss pipe : ℕ) (w : CongView) → is_prr_recovering w.recovering w.recovery_algorithm ≡ true
      → (with_prr_cwnd smss pipe w).cwnd - pipe ≤ sndcnt smss pipe w
  pub proportional :
      (smss pipe : ℕ) (w : CongView) → forces smss pipe w ≡ false → w.ssthresh < pipe
      → w.prr.prr_out + sndcnt smss pipe w ≤ max w.prr.prr_out (proportional_ssthresh w.ssthresh w.prr)
  pub target :
      (smss pipe : ℕ) (w : CongView) → forces smss pipe w ≡ false → pipe ≤ w.ssthresh
      → pipe + sndcnt smss pipe w ≤ w.ssthresh
  pub conservative :
      (smss pipe : ℕ) (w : CongView) → forces smss pipe w ≡ false → pipe ≤ w.ssthresh → w.prr.safe_ack ≡ false
      → w.prr.prr_out + sndcnt smss pipe w ≤ max w.prr.prr_delivered (w.prr.prr_out + w.prr.delivered_data)
  pub forced :
      (smss pipe : ℕ) (w : CongView) → forces smss pipe w ≡ true
      → (w.prr.prr_out ≡ 0) × (sndcnt smss pipe w ≡ smss)

-- recovery by PRR counts from its entry on: the octets that the ACK that enters reports, and none that was sent before, or again;
-- an ACK that delivers nothing changes nothing (own). At its end ssthresh is the window, and there and at an expiry nothing of it is left
-- (own)
pub record CountsRecovery : Type 0 where
  pub entry :
      (ack : Ack) (w : CongView) → (acked ack w).1 ≡ Entry → uses_prr w.recovery_algorithm ≡ true
      → (acked ack w).0.prr ≡ delivery_counted ack.delivery (begun_with ack.delivery.recover_fs)
  pub again : (ack : Ack) (w : CongView) → (acked ack w).1 ≡ Entry → (acked ack w).0.high_rxt ≡ ack.una
  pub each :
      (ack : Ack) (w : CongView) → (acked ack w).1 ≡ StepC → uses_prr w.recovery_algorithm ≡ true
      → (acked ack w).0.prr ≡ delivery_counted ack.delivery w.prr
  pub nothing :
      (ack : Ack) (w : CongView) → IsSome ack.sack → is_prr_recovering w.recovering w.recovery_algorithm ≡ true → ack.una < w.recovery_point
      → ack.delivery.delivered_data ≡ 0 → acked ack w ≡ (renewed ack w, Nothing)
  pub sent :
      (octets : ℕ) (w : CongView) → uses_prr w.recovery_algorithm ≡ true
      → (with_prr_out octets w).prr ≡ with_sent octets w.prr
  pub ended :
      (ack : Ack) (w : CongView) → IsSome ack.sack → is_prr_recovering w.recovering w.recovery_algorithm ≡ true → w.recovery_point ≤ ack.una
      → ((acked ack w).0.cwnd ≡ w.ssthresh) × ((acked ack w).0.prr ≡ no_prr)
  pub expired : (smss una top : ℕ) (w : CongView) → (timed_out smss una top w).prr ≡ no_prr

-- where the setting is `rfc6675`, nothing is paced or counted, and no ACK does other than by what it acknowledges and SACKs
pub record Rfc6675IgnoresPrr : Type 0 where
  pub begun : (settings : Settings) (smss : ℕ) (syn_ack_resent : Bool) → (begun settings smss syn_ack_resent).recovery_algorithm ≡ settings.recovery_algorithm
  pub kept : (ack : Ack) (w : CongView) → (acked ack w).0.recovery_algorithm ≡ w.recovery_algorithm
  pub with_prr_cwnd : (smss pipe : ℕ) (w : CongView) → w.recovery_algorithm ≡ Rfc6675 → with_prr_cwnd smss pipe w ≡ w
  pub sent : (octets : ℕ) (w : CongView) → w.recovery_algorithm ≡ Rfc6675 → with_prr_out octets w ≡ w
  pub acked_by :
      (ack : Ack) (delivery : Delivery) (w : CongView) → w.recovery_algorithm ≡ Rfc6675
      → acked (record ack { delivery = delivery }) w ≡ acked ack w

-- an ACK ends recovery exactly where una reaches RecoveryPoint, if SACK was agreed, and else exactly where it
-- acknowledges new octets; an expiry always ends it (RFC 6675, section 5; RFC 5681, section 3.2)
pub record EndsInTime : Type 0 where
  pub with_sack :
      (ack : Ack) (w : CongView) → IsSome ack.sack → w.recovering ≡ true
      → ((acked ack w).0.recovering ≡ false) ↔ (w.recovery_point ≤ ack.una)
  pub without_sack :
      (ack : Ack) (w : CongView) → ack.sack ≡ None → w.recovering ≡ true
      → ((acked ack w).0.recovering ≡ false) ↔ (0 < ack.acked)
  pub expiry : (smss una top : ℕ) (w : CongView) → (timed_out smss una top w).recovering ≡ false

-- cwnd, ssthresh, RecoveryPoint, HighRxt and RescueRxt stay as they are (RFC 6675, section 5)
pub record IsUnmoved (v w : CongView) : Type 0 where
  pub cwnd : w.cwnd ≡ v.cwnd
  pub ssthresh : w.ssthresh ≡ v.ssthresh
  pub recovery_point : w.recovery_point ≡ v.recovery_point
  pub high_rxt : w.high_rxt ≡ v.high_rxt
  pub rescue_rxt : w.rescue_rxt ≡ v.rescue_rxt

-- an ACK with SACK that doesn't end recovery leaves them so
abbrev pub AcksKeepRecovery : Type 0
AcksKeepRecovery =
    (ack : Ack) (w : CongView) → IsSome ack.sack → w.recovering ≡ true
    → (acked ack w).0.recovering ≡ true
    → IsUnmoved w (acked ack w).0

-- one rescue a recovery: it moves RescueRxt to RecoveryPoint, what is sent then leaves both there (as ACKs do, above),
-- and while una is at or below RecoveryPoint no other is given (RFC 6675, section 4, NextSeg, rule 4)
pub record RescuesOnce : Type 0 where
  pub moved : (segment : Span) (w : CongView) → (with_sent_noted (Rescue segment) w).rescue_rxt ≡ w.recovery_point
  pub kept :
      (sent : NextSegment) (w : CongView) → w.rescue_rxt ≡ w.recovery_point
      → (with_sent_noted sent w).rescue_rxt ≡ (with_sent_noted sent w).recovery_point
  pub last :
      (rwnd : ℕ) (s : BoardView) (w : CongView) (segment : Span)
      → w.rescue_rxt ≡ w.recovery_point → s.una ≤ w.recovery_point
      → next_send rwnd s w ≢ Some (Rescue segment)

-- step C sends where a full segment has room between what is on the way and the window (RFC 6675, section 5, step C)
abbrev pub KeepsWindow : Type 0
KeepsWindow =
    (rwnd pipe : ℕ) (s : BoardView) (w : CongView) (sent : NextSegment)
    → step_c_segment rwnd pipe s w ≡ Some sent
    → s.smss ≤ w.cwnd - pipe

-- no octet of a segment is SACKed
abbrev pub IsSpared : BoardView → Span → Type 0
IsSpared s segment = (x : ℕ) → segment.start ≤ x → x < segment.end → contains s.sacked x ≡ false

-- SACKed octets aren't sent again, neither by an entry nor by NextSeg (RFC 2018, section 5; RFC 6675, section 4)
pub record SparesSacked : Type 0 where
  pub again : (s : BoardView) (start : ℕ) → IsSpared s (run_at start s)
  pub chosen :
      (rwnd : ℕ) (s : BoardView) (w : CongView) → IsBoardView s
      → (sent : NextSegment) → next_send rwnd s w ≡ Some sent → IsSpared s (segment_of sent)

-- the segments that NextSeg and limited transmit choose can be sent
pub record ChoosesSendable : Type 0 where
  pub chosen :
      (rwnd : ℕ) (s : BoardView) (w : CongView) → IsBoardView s
      → (sent : NextSegment) → next_send rwnd s w ≡ Some sent → IsSendable s (segment_of sent)
  pub limited :
      (rwnd : ℕ) (s : BoardView) → IsBoardView s
      → (segment : Span) → board_new_segment_at_top_if_whole_in_rwnd rwnd s ≡ Some segment → IsSendable s segment
