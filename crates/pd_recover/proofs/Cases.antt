-- The effect of an ACK on congestion control, case by case: a property of each case holds of the rule.
use Rattle.std.proofs.Common.{◌≡◌, ◌-◌, ◌==◌, ◌&&◌, Bool, true, false, if◌then◌else◌, Option, Some, None, refl}
use Rattle.pd_seg.specs.declared.sack_spans.Span.{Span}
use Rattle.pd_recover.specs.declared.ack.Ack.{Ack}
use Rattle.pd_recover.specs.declared.ack.SackNews.{SackNews}
use Rattle.pd_recover.specs.declared.ack_action.AckAction.{AckAction}
use Rattle.pd_recover.specs.declared.ack_action.AckAction.TheVariants.{Ordinary, StepC, Entry, LimitedTransmit, NewSegment, FastRetransmit, Nothing}
use Rattle.pd_recover.specs.Acks.{acked_with_sack, acked_without_sack, new_octets_acked, dup_ack_counted, grown_by, recovery_ended, with_delivered, recovery_continued, selective_duplicate, plain_duplicate, sent_limited, entered, retransmitted, new_segment_at_top_if_whole_in_rwnd, first_outstanding_segment}
use Rattle.pd_recover.specs.Cong.{CongView, widened, with_limited}
use Rattle.pd_recover.specs.Prr.{uses_prr}

pub either : {A : Type 0} (P : A → Type 0) (b : Bool) (x y : A) → P x → P y → P (if b then x else y)
either P true x y first second = first
either P false x y first second = second

module _ (P : CongView × AckAction → Type 0) (ack : Ack) where
  -- with SACK: nothing begins, recovery begins, or limited transmit
  pub selective_cases : (lost : Bool) (w : CongView)
      → P (w, Ordinary) → P (entered ack w, Entry) → P (record w { high_rxt = ack.una }, LimitedTransmit)
      → P (selective_duplicate ack lost w)
  selective_cases lost w nothing entry limited = either P _ _ _ nothing (either P _ _ _ entry (either P _ _ _ limited nothing))

  sent_cases : (o : Option Span) (w : CongView)
      → P (w, Nothing)
      → ((segment : Span) → o ≡ Some segment → P (with_limited (segment.end - segment.start) w, NewSegment segment))
      → P (sent_limited ack o w)
  sent_cases None w nothing sent = nothing
  sent_cases (Some segment) w nothing sent = either P _ _ _ (sent segment refl) nothing

  -- without SACK: a new segment or nothing, the segment at una again, or a wider window
  pub plain_cases : (w : CongView)
      → P (w, Nothing)
      → ((segment : Span) → new_segment_at_top_if_whole_in_rwnd ack.smss ack.una ack.top ack.end ack.rwnd ≡ Some segment
      → P (with_limited (segment.end - segment.start) w, NewSegment segment))
      → P (retransmitted ack w, FastRetransmit (first_outstanding_segment ack)) → P (widened ack.smss w, Ordinary)
      → P (plain_duplicate ack w)
  plain_cases w nothing sent again wider =
      either P _ _ _
      (either P _ _ _ (sent_cases (new_segment_at_top_if_whole_in_rwnd ack.smss ack.una ack.top ack.end ack.rwnd) w nothing sent) nothing)
      (either P _ _ _ again wider)

  -- recovery with SACK goes on, with nothing or something delivered
  pub gone_cases : (w : CongView) → P (w, Nothing) → P (with_delivered ack w, StepC) → P (recovery_continued ack w)
  gone_cases w idle rests =
      either P (uses_prr w.recovery_algorithm && ack.delivery.delivered_data == 0) (w, Nothing) (with_delivered ack w, StepC) idle rests

  -- an ACK with SACK: recovery ends, or goes on, a duplicate, or any other
  pub sack_cases : (sack_news : SackNews) (w : CongView)
      → P (recovery_ended w, Ordinary) → P (w, Nothing) → P (with_delivered ack w, StepC) → P (selective_duplicate ack sack_news.lost (dup_ack_counted (grown_by ack w)))
      → P (grown_by ack w, Ordinary)
      → P (acked_with_sack ack sack_news w)
  sack_cases sack_news w ended idle rests duplicate other =
      either P _ _ _ ended (either P w.recovering (recovery_continued ack w) _ (gone_cases w idle rests) (either P _ _ _ duplicate other))

  -- an ACK without SACK: new octets, a duplicate, or any other
  pub number_cases : (w : CongView)
      → P (new_octets_acked ack w, Ordinary) → P (plain_duplicate ack (dup_ack_counted w)) → P (w, Ordinary)
      → P (acked_without_sack ack w)
  number_cases w new duplicate other = either P _ _ _ new (either P _ _ _ duplicate other)
