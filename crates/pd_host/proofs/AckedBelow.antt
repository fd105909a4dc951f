-- The numbers of loss recovery after an ACK, and the octets that it names.
use Rattle.std.proofs.Common.{◌≡◌, ℕ, ◌+◌, ◌-◌, ◌<◌, ◌≤◌, ◌==◌, ◌&&◌, min, nat_lt, nat_le, Bool, true, false, Option, Some, None, refl, arith}
use Rattle.std.proofs.lemmas.Bool.Decides.{nat_tests}
use Rattle.pd_recover.specs.declared.ack.Ack.{Ack}
use Rattle.pd_recover.specs.declared.ack.SackNews.{SackNews}
use Rattle.pd_recover.specs.declared.ack_action.AckAction.{AckAction}
use Rattle.pd_recover.specs.declared.ack_action.AckAction.TheVariants.{StepC, NewSegment, Nothing}
use Rattle.pd_recover.specs.Acks.{IsNamed, acked, renewed, acked_by, acked_with_sack, acked_without_sack, with_delivered, selective_duplicate, plain_duplicate, dup_ack_counted, grown_by, new_octets_acked, new_segment_at_top_if_whole_in_rwnd, is_rfc5681_duplicate}
use Rattle.pd_recover.specs.Cong.{CongView}
use Rattle.pd_recover.specs.Prr.{uses_prr}
use Rattle.pd_recover.proofs.Cases.{selective_cases, plain_cases}
use Rattle.pd_recover.proofs.Chosen.{AllOf, one_of, allowed_of}
use Rattle.pd_host.proofs.Kept.{by_test}

-- loss recovery names nothing that wasn't sent
pub record IsBelow (top : ℕ) (w : CongView) : Type 0 where
  pub recovery_point : w.recovery_point ≤ top
  pub high_rxt : w.high_rxt ≤ top
  pub rescue_rxt : w.rescue_rxt ≤ top

-- the same after an ACK, and the segment that it names can be sent
pub record Leads (ack : Ack) (step : CongView × AckAction) : Type 0 where
  pub below : IsBelow ack.top step.0
  pub named : IsNamed ack step.1

kept : (top : ℕ) (v w : CongView) → v.recovery_point ≡ w.recovery_point → v.high_rxt ≡ w.high_rxt → v.rescue_rxt ≡ w.rescue_rxt
    → IsBelow top v → IsBelow top w
kept top v w p h r b = record {
  recovery_point = omega (arith, p, b.recovery_point);
  high_rxt = omega (arith, h, b.high_rxt);
  rescue_rxt = omega (arith, r, b.rescue_rxt);
}

pub first_of_two : (a b : Bool) → (a && b) ≡ true → a ≡ true
first_of_two true b h = refl
first_of_two false b h = h

pub second_of_two : (a b : Bool) → (a && b) ≡ true → b ≡ true
second_of_two true b h = h
second_of_two false b h = absurd cc

pub lt : (a b : ℕ) → nat_lt a b ≡ true → a < b
lt a b e = grind (arith, nat_tests)

pub ge : (a b : ℕ) → nat_lt a b ≡ false → b ≤ a
ge a b e = grind (arith, nat_tests)

pub le : (a b : ℕ) → nat_le a b ≡ true → a ≤ b
le a b e = grind (arith, nat_tests)

-- a new segment lies at top, among what is queued
pub new_named : (ack : Ack) (smss una top end rwnd : ℕ) → top ≡ ack.top → end ≡ ack.end
    → AllOf (λ segment. IsNamed ack (NewSegment segment)) (new_segment_at_top_if_whole_in_rwnd smss una top end rwnd)
new_named ack smss una top end rwnd t e =
    allowed_of (λ segment. IsNamed ack (NewSegment segment)) _ _ (λ passed.
    let some : top < top + min smss (end - top) = lt _ _ (first_of_two _ _ passed) in
    one_of (λ segment. IsNamed ack (NewSegment segment)) _ (t, some, omega (arith, some, e)))

module _ (ack : Ack) (smss : 0 < ack.smss) (sent : ack.una ≤ ack.top) where
  abbrev Below : CongView → Type 0
  Below w = IsBelow ack.top w

  abbrev Then_leads : CongView × AckAction → Type 0
  Then_leads step = Leads ack step

  renewed_below : (w : CongView) → Below w → Below (renewed ack w)
  renewed_below w h = by_test Below (nat_lt 0 ack.acked) _ w (λ _. kept ack.top w _ refl refl refl h) (λ _. h)

  grown_below : (w : CongView) → Below w → Below (grown_by ack w)
  grown_below w h = by_test Below (nat_lt 0 ack.acked) _ w (λ _. kept ack.top w _ refl refl refl h) (λ _. h)

  duplicate_leads : (lost : Bool) (w : CongView) → Below w → Then_leads (selective_duplicate ack lost w)
  duplicate_leads lost w h =
      selective_cases Then_leads ack lost w (record { below = h; named = tt })
      (record { below = record { recovery_point = omega arith; high_rxt = sent; rescue_rxt = h.rescue_rxt }; named = tt })
      (record { below = record { recovery_point = h.recovery_point; high_rxt = sent; rescue_rxt = h.rescue_rxt }; named = tt })

  sack_leads : (sack_news : SackNews) (w : CongView) → Below w → Then_leads (acked_with_sack ack sack_news w)
  sack_leads sack_news w h =
      by_test Then_leads (w.recovering && nat_le w.recovery_point ack.una) _ _
      (λ _. record { below = kept ack.top w _ refl refl refl h; named = tt })
      (λ _. by_test Then_leads w.recovering _ _
      (λ _. by_test Then_leads (uses_prr w.recovery_algorithm && ack.delivery.delivered_data == 0) (w, Nothing) (with_delivered ack w, StepC)
      (λ _. record { below = h; named = tt }) (λ _. record { below = kept ack.top w _ refl refl refl h; named = tt }))
      (λ _. by_test Then_leads sack_news.fresh _ _
      (λ _. duplicate_leads sack_news.lost (dup_ack_counted (grown_by ack w)) (kept ack.top (grown_by ack w) _ refl refl refl (grown_below w h)))
      (λ _. record { below = grown_below w h; named = tt })))

  advanced_below : (w : CongView) → Below w → Below (new_octets_acked ack w)
  advanced_below w h = by_test Below w.recovering _ _ (λ _. kept ack.top w _ refl refl refl h) (λ _. grown_below w h)

  plain_leads : (w : CongView) → Below w → ack.una < ack.top → Then_leads (plain_duplicate ack w)
  plain_leads w h outstanding =
      plain_cases Then_leads ack w (record { below = h; named = tt })
      (λ segment is. record {
        below = kept ack.top w _ refl refl refl h;
        named = new_named ack ack.smss ack.una ack.top ack.end ack.rwnd refl refl segment is;
      })
      (record { below = kept ack.top w _ refl refl refl h; named = (refl, omega (arith, smss, outstanding), omega arith) })
      (record { below = kept ack.top w _ refl refl refl h; named = tt })

  number_leads : (w : CongView) → Below w → Then_leads (acked_without_sack ack w)
  number_leads w h =
      by_test Then_leads (nat_lt 0 ack.acked) _ _ (λ _. record { below = advanced_below w h; named = tt })
      (λ _. by_test Then_leads (is_rfc5681_duplicate ack && nat_le w.recovery_point ack.una) _ _
      (λ e. plain_leads (dup_ack_counted w) (kept ack.top w _ refl refl refl h)
      (lt _ _ (first_of_two _ _ (second_of_two _ _ (first_of_two _ _ e)))))
      (λ _. record { below = h; named = tt }))

  told_leads : (o : Option SackNews) (w : CongView) → Below w → Then_leads (acked_by ack o w)
  told_leads None w h = number_leads w h
  told_leads (Some sack_news) w h = sack_leads sack_news w h

  pub acked_leads : (w : CongView) → IsBelow ack.top w → Leads ack (acked ack w)
  acked_leads w h = told_leads ack.sack (renewed ack w) (renewed_below w h)
