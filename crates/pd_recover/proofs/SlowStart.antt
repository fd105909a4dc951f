-- Slow start counts octets up to L, ACKs leave what it goes by, and an idle time restarts it where the setting is on.
use Rattle.std.proofs.Common.{◌≡◌, ℕ, ◌*◌, ◌/◌, ◌<◌, ◌≤◌, ◌&&◌, min, max, nat_lt, Bool, true, false, if◌then◌else◌, Option, Some, None, refl, sym, subst, ap, ◌∙◌, arith}
use Rattle.std.specs.Prelude.{is_some}
use Rattle.std.proofs.lemmas.Bool.Decides.{nat_tests}
use Rattle.pd_settings.specs.declared.initial_window.InitialWindow.{InitialWindow}
use Rattle.pd_recover.specs.declared.ack.Ack.{Ack}
use Rattle.pd_recover.specs.declared.ack.SackNews.{SackNews}
use Rattle.pd_recover.specs.declared.ack_action.AckAction.{AckAction}
use Rattle.pd_recover.specs.Acks.{acked_by, renewed, grown_by, dup_ack_counted, new_octets_acked}
use Rattle.pd_recover.specs.Cong.{CongView, initial_window_by_rule, limit_of, cwnd_growth, idle_restart_rule, restart_window}
use Rattle.pd_recover.specs.Laws.{CountsOctets, slow_start_of, KeepsSlowStart, RestartsWhenIdle, DefaultsAreRfc5681}
use Rattle.pd_recover.proofs.Cases.{either, selective_cases, plain_cases, sack_cases, number_cases}

-- Counting

below : (a b : ℕ) → a < b → nat_lt a b ≡ true
below a b h = grind (arith, nat_tests)

-- in slow start
in_slow_start : (smss n : ℕ) (w : CongView) → w.cwnd < w.ssthresh → cwnd_growth smss n w ≡ min n (limit_of w * smss)
in_slow_start smss n w h = ap (λ (b : Bool). if b then min n (limit_of w * smss) else max (smss * smss / w.cwnd) 1) (below w.cwnd w.ssthresh h)

first_least : (n m : ℕ) → min n m ≤ n
first_least n m = omega arith

second_least : (n m : ℕ) → min n m ≤ m
second_least n m = omega arith

whole : (n m : ℕ) → n ≤ m → min n m ≡ n
whole n m few = omega (arith, few)

pub counts_octets : CountsOctets
counts_octets = record {
  acknowledged = λ smss n w h. subst (λ (x : ℕ). x ≤ n) (sym (in_slow_start smss n w h)) (first_least n (limit_of w * smss));
  limited = λ smss n w h. subst (λ (x : ℕ). x ≤ limit_of w * smss) (sym (in_slow_start smss n w h)) (second_least n (limit_of w * smss));
  all = λ smss n w h few. in_slow_start smss n w h ∙ whole n (limit_of w * smss) few;
  after_expiry = λ smss una top w. refl;
}

-- The state that ACKs leave

module _ (v : CongView) (ack : Ack) where
  abbrev Kept : CongView → Type 0
  Kept w = slow_start_of w ≡ slow_start_of v

  abbrev LeadsKept : CongView × AckAction → Type 0
  LeadsKept step = Kept step.0

  renewed_kept : (w : CongView) → Kept w → Kept (renewed ack w)
  renewed_kept w h = either Kept (nat_lt 0 ack.acked) _ w h h

  grown_kept : (w : CongView) → Kept w → Kept (grown_by ack w)
  grown_kept w h = either Kept (nat_lt 0 ack.acked) _ w h h

  advanced_kept : (w : CongView) → Kept w → Kept (new_octets_acked ack w)
  advanced_kept w h = either Kept w.recovering _ _ h (grown_kept w h)

  told_kept : (sack : Option SackNews) (w : CongView) → Kept w → LeadsKept (acked_by ack sack w)
  told_kept (Some sack_news) w h =
      sack_cases LeadsKept ack sack_news w h h h
      (selective_cases LeadsKept ack sack_news.lost (dup_ack_counted (grown_by ack w)) (grown_kept w h) (grown_kept w h) (grown_kept w h))
      (grown_kept w h)
  told_kept None w h =
      number_cases LeadsKept ack w (advanced_kept w h) (plain_cases LeadsKept ack (dup_ack_counted w) h (λ _ _. h) h h) h

pub keeps_slow_start : KeepsSlowStart
keeps_slow_start ack w = told_kept w ack ack.sack (renewed ack w) (renewed_kept w ack w refl)

-- The restart

no_wider : (o : Option InitialWindow) (smss cwnd : ℕ) → restart_window o smss cwnd ≤ cwnd
no_wider None smss cwnd = omega arith
no_wider (Some rule) smss cwnd = second_least (initial_window_by_rule rule smss) cwnd

itself : (n : ℕ) → n ≤ n
itself n = omega arith

-- without a rule nothing changes
same_window : (idle : Bool) (smss cwnd : ℕ) → (if idle then restart_window None smss cwnd else cwnd) ≡ cwnd
same_window true smss cwnd = refl
same_window false smss cwnd = refl

same_start : (idle follows : Bool) → (if idle && false then false else follows) ≡ follows
same_start true follows = refl
same_start false follows = refl

with_start : (w : CongView) (cwnd : ℕ) (follows : Bool) → cwnd ≡ w.cwnd → follows ≡ w.follows_expiry
    → (record w { cwnd = cwnd; follows_expiry = follows }) ≡ w
with_start w cwnd follows e f = λ i. record w { cwnd = e i; follows_expiry = f i }

pub restarts_when_idle : RestartsWhenIdle
restarts_when_idle = record {
  idle = λ smss rule w by. ap (λ (o : Option InitialWindow). restart_window o smss w.cwnd) by;
  no_wider = λ smss idle w.
      either (λ (n : ℕ). n ≤ w.cwnd) idle (restart_window w.idle_restart_rule smss w.cwnd) w.cwnd (no_wider w.idle_restart_rule smss w.cwnd) (itself w.cwnd);
  busy = λ smss w. refl;
  off = λ smss idle w none.
      with_start w _ _
      (ap (λ (o : Option InitialWindow). if idle then restart_window o smss w.cwnd else w.cwnd) none ∙ same_window idle smss w.cwnd)
      (ap (λ (o : Option InitialWindow). if idle && is_some o then false else w.follows_expiry) none ∙ same_start idle w.follows_expiry);
}

-- The defaults

one_segment : (w : CongView) → w.abc_limit ≡ 1 → limit_of w ≡ 1
one_segment w e = either (λ (n : ℕ). n ≡ 1) w.follows_expiry 1 w.abc_limit refl e

pub is_as_before : DefaultsAreRfc5681
is_as_before = record {
  counting = λ smss n w one slow.
      in_slow_start smss n w slow ∙ ap (λ (l : ℕ). min n (l * smss)) (one_segment w one) ∙ omega arith;
  limit = λ settings smss syn_ack_resent one. one;
  restart = λ settings smss syn_ack_resent off. ap (λ (on : Bool). idle_restart_rule on settings.initial_window) off;
}
