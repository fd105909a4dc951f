-- An ACK with SACK that doesn't end recovery leaves the window, the threshold and what recovery goes by.
use Rattle.std.proofs.Common.{◌≡◌, ◌&&◌, nat_lt, nat_le, Bool, true, false, if◌then◌else◌, Option, Some, None, refl, sym, ◌∙◌}
use Rattle.std.specs.Prelude.{IsSome}
use Rattle.pd_recover.specs.declared.ack.Ack.{Ack}
use Rattle.pd_recover.specs.declared.ack.SackNews.{SackNews}
use Rattle.pd_recover.specs.declared.ack_action.AckAction.{AckAction}
use Rattle.pd_recover.specs.Acks.{renewed, acked_by, acked_with_sack, recovery_continued}
use Rattle.pd_recover.specs.Cong.{CongView}
use Rattle.pd_recover.specs.Laws.{IsUnmoved, AcksKeepRecovery}
use Rattle.pd_recover.proofs.Cases.{either, gone_cases}

-- what holds of both branches holds of the choice
chosen : {A : Type 0} (P : A → Type 0) (b : Bool) (x y : A) → (b ≡ true → P x) → (b ≡ false → P y) → P (if b then x else y)
chosen P true x y then_holds else_holds = then_holds refl
chosen P false x y then_holds else_holds = else_holds refl

unlike : (b : Bool) → b ≡ true → b ≡ false → ⊥
unlike true e f = cc
unlike false e f = cc

-- the same, and recovery goes on
record Stays (w v : CongView) : Type 0 where
  pub unmoved : IsUnmoved w v
  pub recovering : v.recovering ≡ w.recovering

renewed_stays : (ack : Ack) (w : CongView) → Stays w (renewed ack w)
renewed_stays ack w =
    either (Stays w) (nat_lt 0 ack.acked) _ w
    (record { unmoved = record { cwnd = refl; ssthresh = refl; recovery_point = refl; high_rxt = refl; rescue_rxt = refl }; recovering = refl })
    (record { unmoved = record { cwnd = refl; ssthresh = refl; recovery_point = refl; high_rxt = refl; rescue_rxt = refl }; recovering = refl })

module _ (ack : Ack) (w : CongView) (goes : w.recovering ≡ true) where
  abbrev Rests : CongView × AckAction → Type 0
  Rests step = step.0.recovering ≡ true → IsUnmoved w step.0

  gone_rests : (v : CongView) → Stays w v → Rests (recovery_continued ack v)
  gone_rests v h =
      gone_cases Rests ack v (λ r. h.unmoved)
      (λ r. record {
        cwnd = h.unmoved.cwnd;
        ssthresh = h.unmoved.ssthresh;
        recovery_point = h.unmoved.recovery_point;
        high_rxt = h.unmoved.high_rxt;
        rescue_rxt = h.unmoved.rescue_rxt;
      })

  sack_rests : (sack_news : SackNews) (v : CongView) → Stays w v → Rests (acked_with_sack ack sack_news v)
  sack_rests sack_news v h =
      chosen Rests (v.recovering && nat_le v.recovery_point ack.una) _ _ (λ _ r. absurd cc)
      (λ _. chosen Rests v.recovering (recovery_continued ack v) _ (λ _. gone_rests v h) (λ off r. absurd (unlike v.recovering (h.recovering ∙ goes) off)))

  told_rests : (o : Option SackNews) (v : CongView) → IsSome o → Stays w v → Rests (acked_by ack o v)
  told_rests (Some sack_news) v some h = sack_rests sack_news v h
  told_rests None v some h = absurd cc

pub rests_in_recovery : AcksKeepRecovery
rests_in_recovery ack w sack goes still = told_rests ack w goes ack.sack (renewed ack w) sack (renewed_stays ack w) still
