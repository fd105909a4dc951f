-- The window and the threshold stay within their bounds.
use Rattle.std.proofs.Common.{◌≡◌, sym, ℕ, ◌+◌, ◌-◌, ◌*◌, ◌/◌, ◌^◌, ◌≤◌, ◌==◌, ◌&&◌, min, max, nat_lt, nat_le, Bool, true, false, if◌then◌else◌, Option, Some, None, refl, subst, ◌∙◌, arith}
use Rattle.pd_recover.specs.declared.ack.Ack.{Ack}
use Rattle.pd_recover.specs.declared.ack.SackNews.{SackNews}
use Rattle.pd_recover.specs.declared.ack_action.AckAction.{AckAction}
use Rattle.pd_settings.specs.declared.initial_window.InitialWindow.{InitialWindow}
use Rattle.pd_settings.specs.declared.initial_window.InitialWindow.TheVariants.{Rfc5681, Rfc6928}
use Rattle.pd_recover.specs.Acks.{acked, renewed, acked_by, acked_with_sack, acked_without_sack, selective_duplicate, plain_duplicate, dup_ack_counted, grown_by, new_octets_acked, entered, recovery_ended, with_delivered, retransmitted, is_rfc5681_duplicate}
use Rattle.pd_recover.specs.Cong.{CongView, is_prr_recovering, initial_window_by_rule, initial_cwnd_smss_if_syn_ack_resent, widened, cwnd_growth, restart_window, restarted, sndcnt, with_prr_cwnd}
use Rattle.pd_recover.specs.Prr.{uses_prr}
use Rattle.pd_recover.specs.Laws.{IsWithin, StaysWithin}
use Rattle.pd_recover.proofs.Cases.{selective_cases, plain_cases}

-- what holds of both branches holds of the choice
chosen : {A : Type 0} (P : A → Type 0) (b : Bool) (x y : A) → (b ≡ true → P x) → (b ≡ false → P y) → P (if b then x else y)
chosen P true x y then_holds else_holds = then_holds refl
chosen P false x y then_holds else_holds = else_holds refl

first_of_two : (a b : Bool) → (a && b) ≡ true → a ≡ true
first_of_two true b h = refl
first_of_two false b h = h

-- whether recovery goes on by PRR, by both
abbrev is_reducing_by : Bool → Bool → Bool
is_reducing_by recovering proportional = recovering && proportional

-- 2 segments at least, and half of what is outstanding otherwise
abbrev half : ℕ → ℕ → ℕ
half flight smss = max (flight / 2) (2 * smss)

half_from : (flight smss : ℕ) → 2 * smss ≤ half flight smss
half_from flight smss = omega arith

half_to : (flight smss : ℕ) → smss ≤ 65495 → flight ≤ 2 ^ 20 + 1 → half flight smss ≤ 2 ^ 29
half_to flight smss small few = omega arith

half_initial : (initial flight smss : ℕ) → min (2 * smss) initial ≤ half flight smss
half_initial initial flight smss = omega arith

-- a window lies between one segment and 2^30
abbrev IsInRange : ℕ → ℕ → Type 0
IsInRange smss window = (smss ≤ window) × (window ≤ 2 ^ 30)

pub in_range : (rule : InitialWindow) (smss : ℕ) → smss ≤ 65495 → IsInRange smss (initial_window_by_rule rule smss)
in_range Rfc6928 smss small = (omega arith, omega (arith, small))
in_range Rfc5681 smss small = first (nat_lt 2190 smss) (nat_lt 1095 smss)
  where
    first : (a b : Bool) → (smss ≤ (if a then 2 else if b then 3 else 4) * smss) × ((if a then 2 else if b then 3 else 4) * smss ≤ 2 ^ 30)
    first true b = (omega arith, omega arith)
    first false true = (omega arith, omega arith)
    first false false = (omega arith, omega arith)

first_in_range : (rule : InitialWindow) (smss : ℕ) (syn_ack_resent : Bool) → smss ≤ 65495 → IsInRange smss (initial_cwnd_smss_if_syn_ack_resent rule smss syn_ack_resent)
first_in_range rule smss true small = (omega arith, omega (arith, small))
first_in_range rule smss false small = in_range rule smss small

module _ (initial smss : ℕ) (small : smss ≤ 65495) where
  widened-within : (octets : ℕ) (w : CongView) → IsWithin smss initial w → IsWithin smss initial (widened octets w)
  widened-within octets w h = record {
    cwnd_from = λ calm. omega (arith, small, h.cwnd_from calm);
    cwnd_to = omega arith;
    ssthresh_from = h.ssthresh_from;
    ssthresh_to = h.ssthresh_to;
    recovering = h.recovering;
  }

module _ (initial : ℕ) (ack : Ack) (small : ack.smss ≤ 65495) (few : ack.top - ack.una ≤ 2 ^ 20 + 1) where
  abbrev Within : CongView → Type 0
  Within w = IsWithin ack.smss initial w

  abbrev LeadsWithin : CongView × AckAction → Type 0
  LeadsWithin step = IsWithin ack.smss initial step.0

  fewer : (limited_octets : ℕ) → ack.top - ack.una - limited_octets ≤ 2 ^ 20 + 1
  fewer limited_octets = omega (arith, few)

  same : (v w : CongView) → v.cwnd ≡ w.cwnd → v.ssthresh ≡ w.ssthresh → v.recovering ≡ w.recovering → v.recovery_algorithm ≡ w.recovery_algorithm → Within v → Within w
  same v w c s r q h = record {
    cwnd_from = λ calm. subst (λ n. ack.smss ≤ n) c (h.cwnd_from ((λ i. is_prr_recovering (r i) (q i)) ∙ calm));
    cwnd_to = subst (λ n. n ≤ 2 ^ 30) c h.cwnd_to;
    ssthresh_from = subst (λ n. min (2 * ack.smss) initial ≤ n) s h.ssthresh_from;
    ssthresh_to = subst (λ n. n ≤ 2 ^ 30) s h.ssthresh_to;
    recovering = λ e. subst (λ n. 2 * ack.smss ≤ n) s (h.recovering (r ∙ e));
  }

  renewed-within : (w : CongView) → Within w → Within (renewed ack w)
  renewed-within w h =
      chosen Within (nat_lt 0 ack.acked) _ w (λ _. same w _ refl refl refl refl h) (λ _. h)

  grown_by-within : (w : CongView) → Within w → Within (grown_by ack w)
  grown_by-within w h =
      chosen Within (nat_lt 0 ack.acked) _ w (λ _. widened-within initial ack.smss small (cwnd_growth ack.smss ack.acked w) w h) (λ _. h)

  recovery_ended-within : (w : CongView) → w.recovering ≡ true → Within w → Within (recovery_ended w)
  recovery_ended-within w r h = record {
    cwnd_from = λ _. chosen (λ n. ack.smss ≤ n) (uses_prr w.recovery_algorithm) w.ssthresh w.cwnd (λ _. omega (arith, h.recovering r))
        (λ pipe. h.cwnd_from (λ i. is_reducing_by (r i) (pipe i)));
    cwnd_to = chosen (λ n. n ≤ 2 ^ 30) (uses_prr w.recovery_algorithm) w.ssthresh w.cwnd (λ _. h.ssthresh_to) (λ _. h.cwnd_to);
    ssthresh_from = h.ssthresh_from;
    ssthresh_to = h.ssthresh_to;
    recovering = λ e. cc;
  }

  entered-within : (w : CongView) → Within (entered ack w)
  entered-within w =
      let flight = ack.top - ack.una - w.limited_octets in
      let to = half_to flight ack.smss small (fewer w.limited_octets) in
      let from = half_from flight ack.smss in
      record {
        cwnd_from = λ _. omega (arith, from);
        cwnd_to = omega (arith, to);
        ssthresh_from = half_initial initial flight ack.smss;
        ssthresh_to = omega (arith, to);
        recovering = λ _. from;
      }

  retransmitted-within : (w : CongView) → Within (retransmitted ack w)
  retransmitted-within w =
      let flight = ack.top - ack.una - w.limited_octets in
      let to = half_to flight ack.smss small (fewer w.limited_octets) in
      let from = half_from flight ack.smss in
      record {
        cwnd_from = λ _. omega (arith, from);
        cwnd_to = omega (arith, to, small);
        ssthresh_from = half_initial initial flight ack.smss;
        ssthresh_to = omega (arith, to);
        recovering = λ _. from;
      }

  selective_duplicate-within : (lost : Bool) (w : CongView) → Within w → LeadsWithin (selective_duplicate ack lost w)
  selective_duplicate-within lost w h =
      selective_cases LeadsWithin ack lost w h (entered-within w) (same w _ refl refl refl refl h)

  acked_with_sack-within : (sack_news : SackNews) (w : CongView) → Within w → LeadsWithin (acked_with_sack ack sack_news w)
  acked_with_sack-within sack_news w h =
      chosen LeadsWithin (w.recovering && nat_le w.recovery_point ack.una) _ _ (λ both. recovery_ended-within w (first_of_two w.recovering _ both) h)
      (λ _. chosen LeadsWithin w.recovering _ _
      (λ _. chosen LeadsWithin (uses_prr w.recovery_algorithm && ack.delivery.delivered_data == 0) _ _ (λ _. h) (λ _. same w (with_delivered ack w) refl refl refl refl h))
      (λ _. chosen LeadsWithin sack_news.fresh _ _
      (λ _. selective_duplicate-within sack_news.lost _ (same (grown_by ack w) _ refl refl refl refl (grown_by-within w h)))
      (λ _. grown_by-within w h)))

  new_octets_acked-within : (w : CongView) → Within w → Within (new_octets_acked ack w)
  new_octets_acked-within w h =
      chosen Within w.recovering _ _
      (λ recovering. record {
        cwnd_from = λ _. omega (arith, h.recovering recovering);
        cwnd_to = h.ssthresh_to;
        ssthresh_from = h.ssthresh_from;
        ssthresh_to = h.ssthresh_to;
        recovering = λ e. h.recovering recovering;
      })
      (λ _. grown_by-within w h)

  plain_duplicate-within : (w : CongView) → Within w → LeadsWithin (plain_duplicate ack w)
  plain_duplicate-within w h =
      plain_cases LeadsWithin ack w h (λ _ _. same w _ refl refl refl refl h) (retransmitted-within w) (widened-within initial ack.smss small ack.smss w h)

  acked_without_sack-within : (w : CongView) → Within w → LeadsWithin (acked_without_sack ack w)
  acked_without_sack-within w h =
      chosen LeadsWithin (nat_lt 0 ack.acked) _ _ (λ _. new_octets_acked-within w h)
      (λ _. chosen LeadsWithin (is_rfc5681_duplicate ack && nat_le w.recovery_point ack.una) _ _
      (λ _. plain_duplicate-within (dup_ack_counted w) (same w _ refl refl refl refl h))
      (λ _. h))

  acked_by-within : (sack : Option SackNews) (w : CongView) → Within w → LeadsWithin (acked_by ack sack w)
  acked_by-within None w h = acked_without_sack-within w h
  acked_by-within (Some sack_news) w h = acked_with_sack-within sack_news w h

  acked-within : (w : CongView) → Within w → LeadsWithin (acked ack w)
  acked-within w h = acked_by-within ack.sack (renewed ack w) (renewed-within w h)

lesser : (smss a b : ℕ) → smss ≤ a → smss ≤ b → b ≤ 2 ^ 30 → IsInRange smss (min a b)
lesser smss a b h k l = (omega (arith, h, k), omega (arith, l))

-- no wider than it was
no_wider : (o : Option InitialWindow) (smss cwnd : ℕ) → cwnd ≤ 2 ^ 30 → restart_window o smss cwnd ≤ 2 ^ 30
no_wider None smss cwnd h = h
no_wider (Some rule) smss cwnd h = lowered (initial_window_by_rule rule smss) cwnd h
  where
    lowered : (a b : ℕ) → b ≤ 2 ^ 30 → min a b ≤ 2 ^ 30
    lowered a b l = omega (arith, l)

-- the window after an idle time
after_idle : (o : Option InitialWindow) (smss cwnd : ℕ) → smss ≤ 65495 → IsInRange smss cwnd → IsInRange smss (restart_window o smss cwnd)
after_idle None smss cwnd small h = h
after_idle (Some rule) smss cwnd small h = lesser smss (initial_window_by_rule rule smss) cwnd (in_range rule smss small).0 h.0 h.1

pub restarted-within : (initial smss : ℕ) (idle : Bool) (w : CongView) → smss ≤ 65495 → IsWithin smss initial w
    → IsWithin smss initial (restarted smss idle w)
restarted-within initial smss idle w small h = record {
  cwnd_from = λ calm. chosen (λ n. smss ≤ n) idle _ _ (λ _. (after_idle w.idle_restart_rule smss w.cwnd small (h.cwnd_from calm, h.cwnd_to)).0) (λ _. h.cwnd_from calm);
  cwnd_to = chosen (λ n. n ≤ 2 ^ 30) idle _ _ (λ _. no_wider w.idle_restart_rule smss w.cwnd h.cwnd_to) (λ _. h.cwnd_to);
  ssthresh_from = h.ssthresh_from;
  ssthresh_to = h.ssthresh_to;
  recovering = h.recovering;
}

-- the window of an ACK in recovery by PRR
pub with_prr_cwnd-within : (initial smss pipe : ℕ) (w : CongView) → IsWithin smss initial w → IsWithin smss initial (with_prr_cwnd smss pipe w)
with_prr_cwnd-within initial smss pipe w h = record {
  cwnd_from = λ calm. subst (λ (b : Bool). smss ≤ (if b then min (pipe + sndcnt smss pipe w) (2 ^ 30) else w.cwnd)) (sym calm) (h.cwnd_from calm);
  cwnd_to = chosen (λ n. n ≤ 2 ^ 30) (is_prr_recovering w.recovering w.recovery_algorithm) _ _ (λ _. omega arith) (λ _. h.cwnd_to);
  ssthresh_from = h.ssthresh_from;
  ssthresh_to = h.ssthresh_to;
  recovering = h.recovering;
}

-- the threshold after an expiry
after_expiry : (initial smss flight : ℕ) (w : CongView) (expired : Bool) → smss ≤ 65495 → flight ≤ 2 ^ 20 + 1 → IsWithin smss initial w
    → (min (2 * smss) initial ≤ (if expired then w.ssthresh else half flight smss)) × ((if expired then w.ssthresh else half flight smss) ≤ 2 ^ 30)
after_expiry initial smss flight w true small few h = (h.ssthresh_from, h.ssthresh_to)
after_expiry initial smss flight w false small few h =
    (half_initial initial flight smss, let to = half_to flight smss small few in omega (arith, to))

pub stays_within : StaysWithin
stays_within = record {
  first = λ settings smss syn_ack_resent small. record {
    cwnd_from = λ _. (first_in_range settings.initial_window smss syn_ack_resent small).0;
    cwnd_to = (first_in_range settings.initial_window smss syn_ack_resent small).1;
    ssthresh_from = omega arith;
    ssthresh_to = settings.initial_ssthresh_in_range.1;
    recovering = λ e. cc;
  };
  ack = λ initial ack w small few h. acked-within initial ack small few w h;
  expiry = λ initial smss una top w small few h. record {
    cwnd_from = λ _. omega arith;
    cwnd_to = omega (arith, small);
    ssthresh_from = (after_expiry initial smss (top - una) w w.expired small few h).0;
    ssthresh_to = (after_expiry initial smss (top - una) w w.expired small few h).1;
    recovering = λ e. cc;
  };
  restart = λ initial smss idle w small h. restarted-within initial smss idle w small h;
  set_prr_cwnd = λ initial smss pipe w h. with_prr_cwnd-within initial smss pipe w h;
}
