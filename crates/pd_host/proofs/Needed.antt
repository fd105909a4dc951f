-- Loss recovery begins where the shown evidence is complete, and nowhere else.
use Rattle.std.proofs.Common.{◌≡◌, ℕ, ◌+◌, ◌<◌, ◌≤◌, nat_lt, nat_le, min, not, Bool, true, false, ◌&&◌, ◌||◌, if◌then◌else◌, Option, Some, None, refl, sym, ap, ◌∙◌, arith}
use Rattle.std.specs.Prelude.{nat_eq}
use Rattle.std.proofs.lemmas.Bool.Decides.{nat_tests}
use Rattle.pd_board.specs.Loss.{dup_thresh}
use Rattle.pd_recover.proofs.Cases.{either}
use Rattle.pd_recover.specs.Acks.{acked, renewed, acked_by, acked_with_sack, acked_without_sack, selective_duplicate, plain_duplicate, limited_transmit, sent_limited, new_segment_at_top_if_whole_in_rwnd, dup_ack_counted, grown_by, entered, is_rfc5681_duplicate}
use Rattle.pd_recover.specs.Cong.{CongView, grown}
use Rattle.pd_recover.specs.declared.ack.Ack.{Ack}
use Rattle.pd_recover.specs.declared.ack.SackNews.{SackNews}
use Rattle.pd_recover.specs.declared.ack_action.AckAction.{AckAction}
use Rattle.pd_recover.specs.declared.ack_action.AckAction.TheVariants.{Ordinary, Entry, LimitedTransmit, Nothing}
use Rattle.pd_seg.specs.declared.sack_spans.Span.{Span}
use Rattle.pd_host.specs.LossEvidence.{Repeats, LossEvidenceIsNeeded}

-- recovery goes on after an ACK
abbrev goes_on : CongView × AckAction → Bool
goes_on step = step.0.recovering

first_of : {A : Type 0} (b : Bool) (x y : A) → b ≡ true → (if b then x else y) ≡ x
first_of true x y h = refl
first_of false x y h = absurd cc

idle_so : {A : Type 0} (r at : Bool) (x y z : A) → r ≡ false → (if r && at then x else (if r then y else z)) ≡ z
idle_so false at x y z h = refl
idle_so true at x y z h = absurd cc

duplicate_so : {A : Type 0} (new dup at : Bool) (x y z : A) → new ≡ false → dup ≡ true → at ≡ true → (if new then x else (if dup && at then y else z)) ≡ y
duplicate_so false true true x y z h k l = refl
duplicate_so true dup at x y z h k l = absurd cc
duplicate_so false false at x y z h k l = absurd cc
duplicate_so false true false x y z h k l = absurd cc

other_so : {A : Type 0} (new dup at : Bool) (x y z : A) → new ≡ false → at ≡ false → (if new then x else (if dup && at then y else z)) ≡ z
other_so true dup at x y z h k = absurd cc
other_so false true true x y z h k = absurd cc
other_so false true false x y z h k = refl
other_so false false at x y z h k = refl

not_below : (a b : ℕ) → b ≤ a → nat_lt a b ≡ false
not_below a b l = grind (arith, nat_tests)

is_below : (a b : ℕ) → a < b → nat_lt a b ≡ true
is_below a b l = grind (arith, nat_tests)

at_least : (a b : ℕ) → b ≤ a → nat_le b a ≡ true
at_least a b l = grind (arith, nat_tests)

not_at_least : (a b : ℕ) → a < b → nat_le b a ≡ false
not_at_least a b l = grind (arith, nat_tests)

with_it : (d t : ℕ) → nat_le t (min (d + 1) (t + 1)) ≡ nat_le t (d + 1)
with_it d t = grind (arith, nat_tests)

not_few : (d t : ℕ) → d < t → not (nat_lt (min (d + 1) (t + 1)) t) ≡ nat_le t (d + 1)
not_few d t l = grind (arith, nat_tests)

exact : (d t : ℕ) → d < t → nat_lt (min (d + 1) (t + 1)) t ≡ false → nat_eq (min (d + 1) (t + 1)) t ≡ true
exact d t l h = grind (arith, nat_tests)

module _ (ack : Ack) (w : CongView) where
  selective_by : (below begins early : Bool) (v : CongView) → below ≡ false → v.recovering ≡ false
      → goes_on (if below then (v, Ordinary) else (if begins then (entered ack v, Entry) else (if early then (record v { high_rxt = ack.una }, LimitedTransmit) else (v, Ordinary)))) ≡ begins
  selective_by true begins early v h idle = absurd cc
  selective_by false true early v h idle = refl
  selective_by false false true v h idle = idle
  selective_by false false false v h idle = idle

  selective_begins : (lost : Bool) (v : CongView) → v.recovering ≡ false → v.recovery_point ≤ ack.una
      → goes_on (selective_duplicate ack lost v) ≡ (nat_le dup_thresh v.dup_acks || lost)
  selective_begins lost v idle past =
      selective_by (nat_lt ack.una v.recovery_point) (nat_le dup_thresh v.dup_acks || lost) v.limited_transmit v (not_below ack.una v.recovery_point past) idle

  limited_by : (early : Bool) (o : Option Span) (v : CongView) → goes_on (if early then sent_limited ack o v else (v, Nothing)) ≡ v.recovering
  limited_by false o v = refl
  limited_by true None v = refl
  limited_by true (Some segment) v = either (λ (step : CongView × AckAction). goes_on step ≡ v.recovering) _ _ _ refl refl

  limited_keeps : (v : CongView) → goes_on (limited_transmit ack v) ≡ v.recovering
  limited_keeps v = limited_by v.limited_transmit (new_segment_at_top_if_whole_in_rwnd ack.smss ack.una ack.top ack.end ack.rwnd) v

  plain_by : (few same : Bool) (x y z : CongView × AckAction) → goes_on x ≡ false → goes_on y ≡ true → (few ≡ false → same ≡ true)
      → goes_on (if few then x else (if same then y else z)) ≡ not few
  plain_by true same x y z first second h = first
  plain_by false true x y z first second h = second
  plain_by false false x y z first second h = let k = h refl in absurd cc

  module _ (repeats : Repeats ack w) where
    none_new : nat_lt 0 ack.acked ≡ false
    none_new = ap (nat_lt 0) repeats.nothing

    grown_so : grown_by ack w ≡ w
    grown_so = ap (λ n. if nat_lt 0 n then grown ack.smss n w else w) repeats.nothing

    renewed_so : renewed ack w ≡ w
    renewed_so = ap (λ n. if nat_lt 0 n then record w { dup_acks = 0; limited_octets = 0; expired = false } else w) repeats.nothing

    told_so : (o : Option SackNews) → ack.sack ≡ o → acked ack w ≡ acked_by ack o w
    told_so o so = λ i. acked_by ack (so i) (renewed_so i)

    selective_so : (sack_news : SackNews) → acked_with_sack ack sack_news w ≡ (if sack_news.fresh then selective_duplicate ack sack_news.lost (dup_ack_counted w) else (w, Ordinary))
    selective_so sack_news =
        idle_so w.recovering (nat_le w.recovery_point ack.una) _ _ _ repeats.idle
        ∙ ap (λ v. if sack_news.fresh then selective_duplicate ack sack_news.lost (dup_ack_counted v) else (v, Ordinary)) grown_so

    pub sack_begins : (sack_news : SackNews) → w.recovery_point ≤ ack.una → ack.sack ≡ Some sack_news → sack_news.fresh ≡ true
        → goes_on (acked ack w) ≡ (nat_le dup_thresh (w.dup_acks + 1) || sack_news.lost)
    sack_begins sack_news past so fresh =
        ap goes_on (told_so (Some sack_news) so ∙ selective_so sack_news ∙ first_of sack_news.fresh _ _ fresh)
        ∙ selective_begins sack_news.lost (dup_ack_counted w) repeats.idle past
        ∙ ap (λ b. b || sack_news.lost) (with_it w.dup_acks dup_thresh)

    plain_begins : w.dup_acks < dup_thresh → goes_on (plain_duplicate ack (dup_ack_counted w)) ≡ nat_le dup_thresh (w.dup_acks + 1)
    plain_begins few =
        plain_by (nat_lt (dup_ack_counted w).dup_acks dup_thresh) (nat_eq (dup_ack_counted w).dup_acks dup_thresh) _ _ _
        (limited_keeps (dup_ack_counted w) ∙ repeats.idle) refl (exact w.dup_acks dup_thresh few)
        ∙ not_few w.dup_acks dup_thresh few

    pub number_begins : w.recovery_point ≤ ack.una → ack.sack ≡ None → is_rfc5681_duplicate ack ≡ true → w.dup_acks < dup_thresh
        → goes_on (acked ack w) ≡ nat_le dup_thresh (w.dup_acks + 1)
    number_begins past so duplicate few =
        ap goes_on
        (told_so None so
        ∙ duplicate_so (nat_lt 0 ack.acked) (is_rfc5681_duplicate ack) (nat_le w.recovery_point ack.una) _ _ _ none_new duplicate (at_least ack.una w.recovery_point past))
        ∙ plain_begins few

    below_by : (fresh lost : Bool) → ack.una < w.recovery_point
        → goes_on (if fresh then selective_duplicate ack lost (dup_ack_counted w) else (w, Ordinary)) ≡ false
    below_by true lost l = ap goes_on (first_of (nat_lt ack.una w.recovery_point) _ _ (is_below ack.una w.recovery_point l)) ∙ repeats.idle
    below_by false lost l = repeats.idle

    below_told : (o : Option SackNews) → ack.una < w.recovery_point → goes_on (acked_by ack o w) ≡ false
    below_told None l =
        ap goes_on (other_so (nat_lt 0 ack.acked) (is_rfc5681_duplicate ack) (nat_le w.recovery_point ack.una) _ _ _ none_new (not_at_least ack.una w.recovery_point l))
        ∙ repeats.idle
    below_told (Some sack_news) l = ap goes_on (selective_so sack_news) ∙ below_by sack_news.fresh sack_news.lost l

    pub below_rests : ack.una < w.recovery_point → goes_on (acked ack w) ≡ false
    below_rests l = ap goes_on (told_so ack.sack refl) ∙ below_told ack.sack l

pub needed_is_needed : LossEvidenceIsNeeded
needed_is_needed = record {
  with_sack = λ c w ack sack_news repeats past so fresh. sack_begins ack w repeats sack_news past so fresh;
  without_sack = λ c w ack repeats past so duplicate few. number_begins ack w repeats past so duplicate few;
  sacked = λ s. refl;
  below = λ w ack repeats l. below_rests ack w repeats l;
}
