-- Proportional Rate Reduction lets out what its laws say, counts each recovery from its entry on, and does nothing by the pipe.
use Rattle.std.proofs.Common.{◌≡◌, ℕ, ◌+◌, ◌-◌, ◌^◌, ◌<◌, ◌≤◌, ◌==◌, ◌&&◌, ◌||◌, min, max, nat_lt, nat_le, Bool, true, false, if◌then◌else◌, Option, Some, None, refl, sym, subst, ap, ◌∙◌, arith}
use Rattle.std.specs.Prelude.{IsSome, is_some}
use Rattle.std.proofs.lemmas.Bool.Decides.{nat_tests}
use Rattle.pd_settings.specs.declared.recovery_algorithm.RecoveryAlgorithm.{RecoveryAlgorithm}
use Rattle.pd_settings.specs.declared.recovery_algorithm.RecoveryAlgorithm.TheVariants.{Rfc6675}
use Rattle.pd_board.specs.Loss.{dup_thresh}
use Rattle.pd_recover.specs.declared.ack.Ack.{Ack}
use Rattle.pd_recover.specs.declared.ack.Delivery.{Delivery}
use Rattle.pd_recover.specs.declared.ack.SackNews.{SackNews}
use Rattle.pd_recover.specs.declared.prr.PrrState.{PrrState}
use Rattle.pd_recover.specs.declared.ack_action.AckAction.{AckAction}
use Rattle.pd_recover.specs.declared.ack_action.AckAction.TheVariants.{Ordinary, StepC, Entry, LimitedTransmit, Nothing}
use Rattle.pd_recover.specs.Acks.{acked, acked_by, acked_with_sack, renewed, grown_by, dup_ack_counted, new_octets_acked, entered, recovery_ended, selective_duplicate, with_delivered, recovery_continued, prr_begun}
use Rattle.pd_recover.specs.Cong.{CongView, is_prr_recovering, with_prr_cwnd, sndcnt, with_prr_out}
use Rattle.pd_recover.specs.Laws.{forces, SendsInProportion, CountsRecovery, Rfc6675IgnoresPrr}
use Rattle.pd_recover.specs.Prr.{uses_prr, no_prr, begun_with, delivery_counted, with_sent, proportional_ssthresh, sndcnt_limit_plus_smss_if_safe_ack, unforced_sndcnt}
use Rattle.pd_recover.proofs.Cases.{either, selective_cases, plain_cases, sack_cases, number_cases}

-- The octets that are let out

below : (a b : ℕ) → a < b → nat_lt a b ≡ true
below a b h = grind (arith, nat_tests)

not_below : (a b : ℕ) → b ≤ a → nat_lt a b ≡ false
not_below a b h = grind (arith, nat_tests)

left_of : (pipe n : ℕ) → min (pipe + n) (2 ^ 30) - pipe ≤ n
left_of pipe n = omega arith

up_to : (out share : ℕ) → out + (share - out) ≤ max out share
up_to out share = omega arith

up_to_target : (pipe target bound : ℕ) → pipe ≤ target → pipe + min (target - pipe) bound ≤ target
up_to_target pipe target bound h = omega (arith, h)

up_to_delivered : (out delivered last left : ℕ) → out + min left (max (delivered - out) last + 0) ≤ max delivered (out + last)
up_to_delivered out delivered last left = omega arith

first_is_none : (a b : ℕ) → (a == 0 && b == 0) ≡ true → a ≡ 0
first_is_none a b h = grind (arith, nat_tests)

module _ (smss pipe : ℕ) (w : CongView) where
  abbrev kept : ℕ
  kept = unforced_sndcnt smss pipe w.ssthresh w.prr

  free : forces smss pipe w ≡ false → sndcnt smss pipe w ≡ kept
  free none = ap (λ (b : Bool). if b then smss else kept) none

  in_part : w.ssthresh < pipe → kept ≡ proportional_ssthresh w.ssthresh w.prr - w.prr.prr_out
  in_part above =
      ap (λ (b : Bool). if b then proportional_ssthresh w.ssthresh w.prr - w.prr.prr_out else min (w.ssthresh - pipe) (sndcnt_limit_plus_smss_if_safe_ack smss w.prr))
      (below w.ssthresh pipe above)

  in_limit : pipe ≤ w.ssthresh → kept ≡ min (w.ssthresh - pipe) (sndcnt_limit_plus_smss_if_safe_ack smss w.prr)
  in_limit low =
      ap (λ (b : Bool). if b then proportional_ssthresh w.ssthresh w.prr - w.prr.prr_out else min (w.ssthresh - pipe) (sndcnt_limit_plus_smss_if_safe_ack smss w.prr))
      (not_below w.ssthresh pipe low)

  unsafe : w.prr.safe_ack ≡ false → sndcnt_limit_plus_smss_if_safe_ack smss w.prr ≡ max (w.prr.prr_delivered - w.prr.prr_out) w.prr.delivered_data + 0
  unsafe e = ap (λ (b : Bool). max (w.prr.prr_delivered - w.prr.prr_out) w.prr.delivered_data + (if b then smss else 0)) e

pub lets_out_in_proportion : SendsInProportion
lets_out_in_proportion = record {
  window = λ smss pipe w prr_recovering.
      subst (λ (b : Bool). (if b then min (pipe + sndcnt smss pipe w) (2 ^ 30) else w.cwnd) - pipe ≤ sndcnt smss pipe w) (sym prr_recovering)
      (left_of pipe (sndcnt smss pipe w));
  proportional = λ smss pipe w none above.
      let r = w.prr in
      subst (λ (n : ℕ). r.prr_out + n ≤ max r.prr_out (proportional_ssthresh w.ssthresh r)) (sym (free smss pipe w none ∙ in_part smss pipe w above))
      (up_to r.prr_out (proportional_ssthresh w.ssthresh r));
  target = λ smss pipe w none low.
      subst (λ (n : ℕ). pipe + n ≤ w.ssthresh) (sym (free smss pipe w none ∙ in_limit smss pipe w low))
      (up_to_target pipe w.ssthresh (sndcnt_limit_plus_smss_if_safe_ack smss w.prr) low);
  conservative = λ smss pipe w none low failed.
      let r = w.prr in
      subst (λ (n : ℕ). r.prr_out + n ≤ max r.prr_delivered (r.prr_out + r.delivered_data))
      (sym (free smss pipe w none ∙ in_limit smss pipe w low ∙ ap (λ (n : ℕ). min (w.ssthresh - pipe) n) (unsafe smss pipe w failed)))
      (up_to_delivered r.prr_out r.prr_delivered r.delivered_data (w.ssthresh - pipe));
  forced = λ smss pipe w yes. (
    first_is_none w.prr.prr_out (kept smss pipe w) yes,
    ap (λ (b : Bool). if b then smss else kept smss pipe w) yes,
  );
}

-- The octets that are counted

-- the rate and what PRR keeps stay
abbrev Same : CongView → CongView → Type 0
Same w v = (v.recovery_algorithm ≡ w.recovery_algorithm) × (v.prr ≡ w.prr)

renewed_same : (ack : Ack) (w : CongView) → Same w (renewed ack w)
renewed_same ack w = either (Same w) (nat_lt 0 ack.acked) _ w (refl, refl) (refl, refl)

grown_same : (ack : Ack) (w v : CongView) → Same w v → Same w (grown_by ack v)
grown_same ack w v h = either (Same w) (nat_lt 0 ack.acked) _ v h h

on : (r q : RecoveryAlgorithm) (x y : PrrState) → q ≡ r → uses_prr r ≡ true → (if uses_prr q then x else y) ≡ x
on r q x y e h = ap (λ (b : Bool). if b then x else y) (ap uses_prr e ∙ h)

off : (q : RecoveryAlgorithm) (x y : PrrState) → q ≡ Rfc6675 → (if uses_prr q then x else y) ≡ y
off q x y e = ap (λ (r : RecoveryAlgorithm). if uses_prr r then x else y) e

module _ (ack : Ack) (w : CongView) (by_prr : uses_prr w.recovery_algorithm ≡ true) where
  abbrev Enters : CongView × AckAction → Type 0
  Enters step = step.1 ≡ Entry → step.0.prr ≡ delivery_counted ack.delivery (begun_with ack.delivery.recover_fs)

  told_enters : (o : Option SackNews) (v : CongView) → Same w v → Enters (acked_by ack o v)
  told_enters (Some sack_news) v h =
      let u : CongView = dup_ack_counted (grown_by ack v) in
      sack_cases Enters ack sack_news v (λ e. absurd cc) (λ e. absurd cc) (λ e. absurd cc)
      (selective_cases Enters ack sack_news.lost u (λ e. absurd cc)
      (λ e. on w.recovery_algorithm u.recovery_algorithm (delivery_counted ack.delivery (begun_with ack.delivery.recover_fs)) u.prr (grown_same ack w v h).0 by_prr)
      (λ e. absurd cc))
      (λ e. absurd cc)
  told_enters None v h =
      number_cases Enters ack v (λ e. absurd cc) (plain_cases Enters ack (dup_ack_counted v) (λ e. absurd cc) (λ _ _ e. absurd cc) (λ e. absurd cc) (λ e. absurd cc))
      (λ e. absurd cc)

  abbrev Goes : CongView × AckAction → Type 0
  Goes step = step.1 ≡ StepC → step.0.prr ≡ delivery_counted ack.delivery w.prr

  told_goes : (o : Option SackNews) (v : CongView) → Same w v → Goes (acked_by ack o v)
  told_goes (Some sack_news) v h =
      sack_cases Goes ack sack_news v (λ e. absurd cc) (λ e. absurd cc)
      (λ e. on w.recovery_algorithm v.recovery_algorithm (delivery_counted ack.delivery v.prr) v.prr h.0 by_prr ∙ ap (delivery_counted ack.delivery) h.1)
      (selective_cases Goes ack sack_news.lost (dup_ack_counted (grown_by ack v)) (λ e. absurd cc) (λ e. absurd cc) (λ e. absurd cc))
      (λ e. absurd cc)
  told_goes None v h =
      number_cases Goes ack v (λ e. absurd cc) (plain_cases Goes ack (dup_ack_counted v) (λ e. absurd cc) (λ _ _ e. absurd cc) (λ e. absurd cc) (λ e. absurd cc))
      (λ e. absurd cc)

-- where recovery begins nothing was sent again
module _ (ack : Ack) where
  abbrev Begins : CongView × AckAction → Type 0
  Begins step = step.1 ≡ Entry → step.0.high_rxt ≡ ack.una

  told_begins : (o : Option SackNews) (v : CongView) → Begins (acked_by ack o v)
  told_begins (Some sack_news) v =
      sack_cases Begins ack sack_news v (λ e. absurd cc) (λ e. absurd cc) (λ e. absurd cc)
      (selective_cases Begins ack sack_news.lost (dup_ack_counted (grown_by ack v)) (λ e. absurd cc) (λ e. refl) (λ e. absurd cc))
      (λ e. absurd cc)
  told_begins None v =
      number_cases Begins ack v (λ e. absurd cc) (plain_cases Begins ack (dup_ack_counted v) (λ e. absurd cc) (λ _ _ e. absurd cc) (λ e. absurd cc) (λ e. absurd cc))
      (λ e. absurd cc)

-- The end

first_of_two : (a b : Bool) → (a && b) ≡ true → a ≡ true
first_of_two true b h = refl
first_of_two false b h = h

second_of_two : (a b : Bool) → (a && b) ≡ true → b ≡ true
second_of_two true b h = h
second_of_two false b h = absurd cc

where_so : {A : Type 0} (P : A → Type 0) (b : Bool) (x y : A) → b ≡ true → P x → P (if b then x else y)
where_so P true x y e h = h
where_so P false x y e h = absurd cc

reached : (a b : ℕ) → a ≤ b → nat_le a b ≡ true
reached a b h = grind (arith, nat_tests)

-- what an ACK leaves of what its end needs
record IsEnding (w v : CongView) : Type 0 where
  pub recovering : v.recovering ≡ w.recovering
  pub point : v.recovery_point ≡ w.recovery_point
  pub recovery_algorithm : v.recovery_algorithm ≡ w.recovery_algorithm
  pub ssthresh : v.ssthresh ≡ w.ssthresh

module _ (ack : Ack) (w : CongView) where
  abbrev Ended : CongView × AckAction → Type 0
  Ended step = (step.0.cwnd ≡ w.ssthresh) × (step.0.prr ≡ no_prr)

  at_end : (sack_news : SackNews) (v : CongView) → IsEnding w v → w.recovering ≡ true → uses_prr w.recovery_algorithm ≡ true → w.recovery_point ≤ ack.una
      → Ended (acked_with_sack ack sack_news v)
  at_end sack_news v h recovering by_prr at =
      let both : (v.recovering && nat_le v.recovery_point ack.una) ≡ true =
      (λ i. h.recovering i && nat_le (h.point i) ack.una) ∙ (λ i. recovering i && reached w.recovery_point ack.una at i) in
      where_so Ended (v.recovering && nat_le v.recovery_point ack.una) (recovery_ended v, Ordinary) _ both
      (ap (λ (b : Bool). if b then v.ssthresh else v.cwnd) (ap uses_prr h.recovery_algorithm ∙ by_prr) ∙ h.ssthresh, refl)

  ends : (o : Option SackNews) (v : CongView) → IsSome o → IsEnding w v → w.recovering ≡ true → uses_prr w.recovery_algorithm ≡ true
      → w.recovery_point ≤ ack.una → Ended (acked_by ack o v)
  ends (Some sack_news) v some h recovering by_prr at = at_end sack_news v h recovering by_prr at
  ends None v some h recovering by_prr at = absurd cc

-- an ACK in recovery that delivers nothing
module _ (ack : Ack) (w : CongView) where
  at_rest_in : (sack_news : SackNews) (v : CongView) → IsEnding w v → w.recovering ≡ true → uses_prr w.recovery_algorithm ≡ true → ack.una < w.recovery_point
      → ack.delivery.delivered_data ≡ 0 → acked_with_sack ack sack_news v ≡ (v, Nothing)
  at_rest_in sack_news v h recovering by_prr inside none =
      let goes : v.recovering ≡ true = h.recovering ∙ recovering in
      let more : (v.recovering && nat_le v.recovery_point ack.una) ≡ false =
      (λ i. goes i && nat_le (h.point i) ack.una) ∙ not_reached w.recovery_point ack.una inside in
      let empty : (uses_prr v.recovery_algorithm && ack.delivery.delivered_data == 0) ≡ true =
      (λ i. uses_prr (h.recovery_algorithm i) && none i == 0) ∙ ap (λ (b : Bool). b && true) by_prr in
      let other : CongView × AckAction =
      if sack_news.fresh then selective_duplicate ack sack_news.lost (dup_ack_counted (grown_by ack v)) else (grown_by ack v, Ordinary) in
      ap (λ (b : Bool). if b then (recovery_ended v, Ordinary) else if v.recovering then recovery_continued ack v else other) more
      ∙ ap (λ (b : Bool). if b then recovery_continued ack v else other) goes
      ∙ ap (λ (b : Bool). if b then (v, Nothing) else (with_delivered ack v, StepC)) empty
    where
      not_reached : (a b : ℕ) → b < a → nat_le a b ≡ false
      not_reached a b l = grind (arith, nat_tests)

  rests : (o : Option SackNews) (v : CongView) → IsSome o → IsEnding w v → w.recovering ≡ true → uses_prr w.recovery_algorithm ≡ true
      → ack.una < w.recovery_point → ack.delivery.delivered_data ≡ 0 → acked_by ack o v ≡ (v, Nothing)
  rests (Some sack_news) v some h recovering by_prr inside none = at_rest_in sack_news v h recovering by_prr inside none
  rests None v some h recovering by_prr inside none = absurd cc

renewed_ending : (ack : Ack) (w : CongView) → IsEnding w (renewed ack w)
renewed_ending ack w =
    either (IsEnding w) (nat_lt 0 ack.acked) _ w
    (record { recovering = refl; point = refl; recovery_algorithm = refl; ssthresh = refl })
    (record { recovering = refl; point = refl; recovery_algorithm = refl; ssthresh = refl })

pub counts_recovery : CountsRecovery
counts_recovery = record {
  entry = λ ack w e by_prr. told_enters ack w by_prr ack.sack (renewed ack w) (renewed_same ack w) e;
  again = λ ack w e. told_begins ack ack.sack (renewed ack w) e;
  each = λ ack w e by_prr. told_goes ack w by_prr ack.sack (renewed ack w) (renewed_same ack w) e;
  nothing = λ ack w sack prr_recovering inside none.
      rests ack w ack.sack (renewed ack w) sack (renewed_ending ack w) (first_of_two _ _ prr_recovering) (second_of_two _ _ prr_recovering) inside none;
  sent = λ octets w by_prr. on w.recovery_algorithm w.recovery_algorithm (with_sent octets w.prr) w.prr refl by_prr;
  ended = λ ack w sack prr_recovering at.
      ends ack w ack.sack (renewed ack w) sack (renewed_ending ack w) (first_of_two _ _ prr_recovering) (second_of_two _ _ prr_recovering) at;
  expired = λ smss una top w. refl;
}

-- By the pipe

module _ (w : CongView) (ack : Ack) where
  abbrev Rate : CongView → Type 0
  Rate v = v.recovery_algorithm ≡ w.recovery_algorithm

  abbrev LeadsRate : CongView × AckAction → Type 0
  LeadsRate step = Rate step.0

  grown_rate : (v : CongView) → Rate v → Rate (grown_by ack v)
  grown_rate v h = either Rate (nat_lt 0 ack.acked) _ v h h

  told_rate : (o : Option SackNews) (v : CongView) → Rate v → LeadsRate (acked_by ack o v)
  told_rate (Some sack_news) v h =
      sack_cases LeadsRate ack sack_news v h h h
      (selective_cases LeadsRate ack sack_news.lost (dup_ack_counted (grown_by ack v)) (grown_rate v h) (grown_rate v h) (grown_rate v h))
      (grown_rate v h)
  told_rate None v h =
      number_cases LeadsRate ack v (either Rate v.recovering _ _ h (grown_rate v h)) (plain_cases LeadsRate ack (dup_ack_counted v) h (λ _ _. h) h h) h

module _ (ack : Ack) (delivery : Delivery) where
  abbrev other : Ack
  other = record ack { delivery = delivery }

  entered_alike : (v : CongView) → v.recovery_algorithm ≡ Rfc6675 → entered other v ≡ entered ack v
  entered_alike v e =
      λ i. record (entered ack v) {
        prr = (off v.recovery_algorithm (delivery_counted delivery (begun_with delivery.recover_fs)) v.prr e
            ∙ sym (off v.recovery_algorithm (delivery_counted ack.delivery (begun_with ack.delivery.recover_fs)) v.prr e)) i;
      }

  delivered_alike : (v : CongView) → v.recovery_algorithm ≡ Rfc6675 → with_delivered other v ≡ with_delivered ack v
  delivered_alike v e =
      λ i. record v { prr = (off v.recovery_algorithm (delivery_counted delivery v.prr) v.prr e ∙ sym (off v.recovery_algorithm (delivery_counted ack.delivery v.prr) v.prr e)) i }

  -- by the pipe each ACK in recovery leads to step C
  by_pipe : (q : RecoveryAlgorithm) (octets : ℕ) (x y : CongView × AckAction) → q ≡ Rfc6675 → (if uses_prr q && octets == 0 then x else y) ≡ y
  by_pipe q octets x y e = ap (λ (r : RecoveryAlgorithm). if uses_prr r && octets == 0 then x else y) e

  gone_alike : (v : CongView) → v.recovery_algorithm ≡ Rfc6675 → recovery_continued other v ≡ recovery_continued ack v
  gone_alike v e =
      by_pipe v.recovery_algorithm delivery.delivered_data (v, Nothing) (with_delivered other v, StepC) e
      ∙ (λ i. (delivered_alike v e i, StepC))
      ∙ sym (by_pipe v.recovery_algorithm ack.delivery.delivered_data (v, Nothing) (with_delivered ack v, StepC) e)

  duplicate_alike : (lost : Bool) (v : CongView) → v.recovery_algorithm ≡ Rfc6675 → selective_duplicate other lost v ≡ selective_duplicate ack lost v
  duplicate_alike lost v e =
      λ i. if nat_lt ack.una v.recovery_point then (v, Ordinary)
      else if nat_le dup_thresh v.dup_acks || lost then (entered_alike v e i, Entry)
      else if v.limited_transmit then (record v { high_rxt = ack.una }, LimitedTransmit)
      else (v, Ordinary)

  told_alike : (o : Option SackNews) (v : CongView) → v.recovery_algorithm ≡ Rfc6675 → acked_by other o v ≡ acked_by ack o v
  told_alike None v e = refl
  told_alike (Some sack_news) v e =
      λ i. if v.recovering && nat_le v.recovery_point ack.una then (recovery_ended v, Ordinary)
      else if v.recovering then gone_alike v e i
      else if sack_news.fresh then duplicate_alike sack_news.lost (dup_ack_counted (grown_by ack v)) (either (λ (u : CongView). u.recovery_algorithm ≡ Rfc6675) (nat_lt 0 ack.acked) _ v e e) i
      else (grown_by ack v, Ordinary)

pub is_by_pipe : Rfc6675IgnoresPrr
is_by_pipe = record {
  begun = λ settings smss syn_ack_resent. refl;
  kept = λ ack w. told_rate w ack ack.sack (renewed ack w) (renewed_same ack w).0;
  with_prr_cwnd = λ smss pipe w e.
      λ i. record w { cwnd = at_rest w.recovering w.recovery_algorithm (min (pipe + sndcnt smss pipe w) (2 ^ 30)) w.cwnd e i };
  sent = λ octets w e. λ i. record w { prr = off w.recovery_algorithm (with_sent octets w.prr) w.prr e i };
  acked_by = λ ack delivery w e. told_alike ack delivery ack.sack (renewed ack w) ((renewed_same ack w).0 ∙ e);
}
  where
    at_rest : (recovering : Bool) (recovery_algorithm : RecoveryAlgorithm) (x y : ℕ) → recovery_algorithm ≡ Rfc6675 → (if is_prr_recovering recovering recovery_algorithm then x else y) ≡ y
    at_rest true recovery_algorithm x y e = ap (λ (r : RecoveryAlgorithm). if uses_prr r then x else y) e
    at_rest false recovery_algorithm x y e = refl
