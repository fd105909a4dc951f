-- The origins that are reported let packets go, and nothing else did.
use Rattle.std.proofs.Common.{◌≡◌, inl, inr, ◌⊎◌, ℕ, zero, suc, ◌+◌, ◌-◌, ◌<◌, ◌≤◌, List, [], ◌∷◌, length, take, slice_get, Some, Result, Ok, Err, refl, sym, ap, ap₂, subst, ◌∙◌, arith}
use Rattle.pd_settings.specs.declared.settings.Settings.{Settings}
use Rattle.pd_script.specs.declared.parsed.Parsed.{Parsed}
use Rattle.pd_script.specs.declared.script_events.Event.{Event}
use Rattle.pd_seg.specs.declared.segments.Sent.{Sent}
use Rattle.pd_run.specs.Laws.{unmatched}
use Rattle.pd_run.specs.Run.{start_of, states_from}
use Rattle.pd_run.specs.Step.{RunStateView, on_step, step}
use Rattle.pd_run.specs.declared.verdict.Verdict.{Verdict}
use Rattle.pd_lex.specs.declared.token.Place.{Place}
use Rattle.pd_run.specs.declared.stop_point.StopPoint.{StopPoint}
use Rattle.pd_cause.specs.Causes.{IsCauseOf, HasHistoryOf}
use Rattle.pd_cause.specs.Dropped.{last_dropped_segments_if_packet_stop}
use Rattle.pd_cause.specs.Explained.{HasHistory}
use Rattle.pd_cause.specs.Failures.{Tells}
use Rattle.pd_cause.specs.declared.causes.Cause.{Cause}
use Rattle.pd_cause.specs.declared.causes.Cause.TheVariants as cause
use Rattle.pd_cause.specs.Inner.{PacketsAppend, AreTriggers, AreOriginsOf, unmatched_at}
use Rattle.pd_cause.specs.Origins.{stages, count_packets_matched_by, taken_by, after_input, IsLetGo, IsSentBy, IsOriginOf, AreOrigins, OriginsAreUnique}
use Rattle.pd_cause.specs.declared.origins.Origin.{Origin}
use Rattle.pd_cause.specs.declared.dropped.DroppedSegment.{DroppedSegment}
use Rattle.pd_cause.specs.declared.origins.Trigger.{Trigger}
use Rattle.pd_cause.specs.declared.origins.Trigger.TheVariants.{Line, Timer}
use Rattle.pd_cause.proofs.TriggerLemmas.{passes, timer_grows, input_grows}

-- The origins that are reported of packets

pub are_origins : (settings : Settings) (parsed : Parsed) (first passed : ℕ) (packets : List Sent) (triggers : List Trigger) (origins : List Origin)
    → AreTriggers settings parsed first passed (length packets) triggers → length packets ≤ length triggers → AreOriginsOf packets triggers origins
    → AreOrigins settings parsed passed packets origins
are_origins settings parsed first passed packets triggers origins known enough reported =
    record { all = reported.all; each = each }
  where
    each : (place : ℕ) (sent : Sent) (origin : Origin) → slice_get packets place ≡ Some sent → slice_get origins place ≡ Some origin
        → IsOriginOf settings parsed (taken_by (take passed parsed.events) + place) sent origin
    each place sent origin there is =
        let by = reported.each place sent origin there is in
        let number : first + (length triggers - length packets + place) ≡ taken_by (take passed parsed.events) + place =
        omega (arith, known.counted, enough) in
        subst (λ (o : Origin). IsOriginOf settings parsed (taken_by (take passed parsed.events) + place) sent o) (sym by.2)
        (subst (λ (m : ℕ). IsSentBy settings parsed m by.0) number (known.each (length triggers - length packets + place) by.0 by.1), refl, refl)

-- the same cause with these origins and dropped segments
pub reported_with : (lines : List (List ℕ)) (place : Place) (e : Event) (stop : StopPoint) (settings : Settings) (parsed : Parsed) (before reported : Cause) (origins : List Origin)
    (dropped : List DroppedSegment)
    → HasHistoryOf before origins dropped reported → IsCauseOf lines place e stop before → AreOrigins settings parsed stop.passed (unmatched_at stop) origins
    → dropped ≡ last_dropped_segments_if_packet_stop settings parsed stop → IsCauseOf lines place e stop reported × HasHistory settings parsed stop reported
reported_with lines place e stop settings parsed (cause.Failed f) reported origins dropped h is known till =
    subst (λ (t : Cause). IsCauseOf lines place e stop t × HasHistory settings parsed stop t) (sym h.1) (
      (is.0, (subst (Tells is.0 e stop.before stop.stop_reason) (sym h.4) is.1.0, h.5 ∙ is.1.1)),
      (subst (AreOrigins settings parsed stop.passed (unmatched_at stop)) (sym h.2) known, h.3 ∙ till),
    )
reported_with lines place e stop settings parsed (cause.Rule violation) reported origins dropped h is known till =
    subst (λ (t : Cause). IsCauseOf lines place e stop t × HasHistory settings parsed stop t) (sym h) (is, tt)
reported_with lines place e stop settings parsed (cause.Syntax refusal) reported origins dropped h is known till = absurd is

-- One packet, one origin

-- a run further on has put out no fewer packets
further : PacketsAppend → (es : List Event) (r s : RunStateView) (m : ℕ) → slice_get (r ∷ states_from es r) m ≡ Some s
    → length (unmatched r) ≤ taken_by (take m es) + length (unmatched s)
further laws es r s zero h = let same : r ≡ s = cc in subst (λ (q : RunStateView). length (unmatched r) ≤ 0 + length (unmatched q)) same (omega arith)
further laws [] r s (suc m) h = absurd cc
further laws (e ∷ es) r s (suc m) h = go (λ t there. further laws es t s m there) (step r e) refl h
  where
    go : ((t : RunStateView) → slice_get (t ∷ states_from es t) m ≡ Some s → length (unmatched t) ≤ taken_by (take m es) + length (unmatched s))
        → (came : Result RunStateView Verdict) → step r e ≡ came → slice_get (on_step (λ t. t ∷ states_from es t) (λ v. []) came) m ≡ Some s
        → length (unmatched r) ≤ taken_by (take (suc m) (e ∷ es)) + length (unmatched s)
    go ih (Ok t) is there =
        let later = ih t there in
        let first : taken_by (take (suc m) (e ∷ es)) ≡ count_packets_matched_by e + taken_by (take m es) = refl in
        omega (arith, later, first, passes laws.taken r t e is, timer_grows laws r e e.action, input_grows laws r e e.action)
    go ih (Err v) is there = absurd cc

some_is : {A : Type 0} {a b : A} → Some a ≡ Some b → a ≡ b
some_is e = cc

at_first : PacketsAppend → (d : Event) (es : List Event) (q r s : RunStateView) (e : Event) (m : ℕ) → d ≡ e → q ≡ r
    → slice_get (on_step (λ t. t ∷ states_from es t) (λ v. []) (step q d)) m ≡ Some s
    → 0 + length (after_input r e) ≤ taken_by (take (suc m) (d ∷ es)) + length (unmatched s)
at_first laws d es q r s e m event state there = go (step q d) refl there
  where
    same : length (after_input q d) ≡ length (after_input r e)
    same = ap₂ (λ (x : RunStateView) (y : Event). length (after_input x y)) state event

    go : (came : Result RunStateView Verdict) → step q d ≡ came → slice_get (on_step (λ t. t ∷ states_from es t) (λ v. []) came) m ≡ Some s
        → 0 + length (after_input r e) ≤ taken_by (take (suc m) (d ∷ es)) + length (unmatched s)
    go (Ok t) is later =
        let first : taken_by (take (suc m) (d ∷ es)) ≡ count_packets_matched_by d + taken_by (take m es) = refl in
        omega (arith, further laws es t s m later, first, passes laws.taken q t d is, same)
    go (Err v) is later = absurd cc

-- nor than those that an event before has put out
beyond : PacketsAppend → (es : List Event) (q r s : RunStateView) (e : Event) (n m : ℕ) → n < m
    → slice_get es n ≡ Some e → slice_get (q ∷ states_from es q) n ≡ Some r → slice_get (q ∷ states_from es q) m ≡ Some s
    → taken_by (take n es) + length (after_input r e) ≤ taken_by (take m es) + length (unmatched s)
beyond laws [] q r s e n m less found here there = absurd cc
beyond laws (d ∷ es) q r s e zero zero less found here there = absurd (omega (arith, less))
beyond laws (d ∷ es) q r s e (suc n) zero less found here there = absurd (omega (arith, less))
beyond laws (d ∷ es) q r s e zero (suc m) less found here there = at_first laws d es q r s e m (some_is found) (some_is here) there
beyond laws (d ∷ es) q r s e (suc n) (suc m) less found here there =
    go (λ t left right. beyond laws es t r s e n m (omega (arith, less)) found left right) (step q d) here there
  where
    go : ((t : RunStateView) → slice_get (t ∷ states_from es t) n ≡ Some r → slice_get (t ∷ states_from es t) m ≡ Some s
        → taken_by (take n es) + length (after_input r e) ≤ taken_by (take m es) + length (unmatched s))
        → (came : Result RunStateView Verdict) → slice_get (on_step (λ t. t ∷ states_from es t) (λ v. []) came) n ≡ Some r
        → slice_get (on_step (λ t. t ∷ states_from es t) (λ v. []) came) m ≡ Some s
        → taken_by (take (suc n) (d ∷ es)) + length (after_input r e) ≤ taken_by (take (suc m) (d ∷ es)) + length (unmatched s)
    go ih (Ok t) left right =
        let later = ih t left right in
        let first : taken_by (take (suc n) (d ∷ es)) ≡ count_packets_matched_by d + taken_by (take n es) = refl in
        let second : taken_by (take (suc m) (d ∷ es)) ≡ count_packets_matched_by d + taken_by (take m es) = refl in
        omega (arith, later, first, second)
    go ih (Err v) left right = absurd cc

-- of a number that is reached in an event
reached_in : PacketsAppend → (taken : ℕ) (r : RunStateView) (e : Event) (number : ℕ) (o : Trigger) → IsLetGo taken r e number o
    → (taken + length (unmatched r) ≤ number) × (number < taken + length (after_input r e))
reached_in laws taken r e number Timer h = (h.0, omega (arith, h.1, input_grows laws r e e.action))
reached_in laws taken r e number (Line line) h = (omega (arith, h.0.0, timer_grows laws r e e.action), h.0.1)

same_event : (taken : ℕ) (r : RunStateView) (e : Event) (number : ℕ) (a b : Trigger) → IsLetGo taken r e number a → IsLetGo taken r e number b → a ≡ b
same_event taken r e number Timer Timer x y = refl
same_event taken r e number Timer (Line k) x y = absurd (omega (arith, x.1, y.0.0))
same_event taken r e number (Line m) Timer x y = absurd (omega (arith, x.0.0, y.1))
same_event taken r e number (Line m) (Line k) x y = ap Line (x.1 ∙ sym y.1)

compare_places : (n m : ℕ) → (n < m) ⊎ ((m < n) ⊎ (n ≡ m))
compare_places zero zero = inr (inr refl)
compare_places zero (suc m) = inl (omega arith)
compare_places (suc n) zero = inr (inl (omega arith))
compare_places (suc n) (suc m) = next (compare_places n m)
  where
    next : (n < m) ⊎ ((m < n) ⊎ (n ≡ m)) → (suc n < suc m) ⊎ ((suc m < suc n) ⊎ (suc n ≡ suc m))
    next (inl less) = inl (omega (arith, less))
    next (inr (inl more)) = inr (inl (omega (arith, more)))
    next (inr (inr same)) = inr (inr (ap (λ (k : ℕ). suc k) same))

not_before : PacketsAppend → (settings : Settings) (parsed : Parsed) (number : ℕ) (a b : Trigger) (x : IsSentBy settings parsed number a)
    → (y : IsSentBy settings parsed number b) → x.passed < y.passed → ⊥
not_before laws settings parsed number a b x y less = go (start_of parsed.header.items settings) x.stage y.stage
  where
    go : (came : Result RunStateView Verdict)
        → slice_get (on_step (λ r. r ∷ states_from parsed.events r) (λ v. []) came) x.passed ≡ Some x.run
        → slice_get (on_step (λ r. r ∷ states_from parsed.events r) (λ v. []) came) y.passed ≡ Some y.run → ⊥
    go (Ok q) here there =
        let far = beyond laws parsed.events q x.run y.run x.event x.passed y.passed less x.found here there in
        let left = reached_in laws (taken_by (take x.passed parsed.events)) x.run x.event number a x.let_go in
        let right = reached_in laws (taken_by (take y.passed parsed.events)) y.run y.event number b y.let_go in
        omega (arith, far, left.1, right.0)
    go (Err v) here there = absurd cc

pub unique : PacketsAppend → OriginsAreUnique
unique laws settings parsed number a b x y = by (compare_places x.passed y.passed)
  where
    by : (x.passed < y.passed) ⊎ ((y.passed < x.passed) ⊎ (x.passed ≡ y.passed)) → a ≡ b
    by (inl less) = absurd (not_before laws settings parsed number a b x y less)
    by (inr (inl more)) = absurd (not_before laws settings parsed number b a y x more)
    by (inr (inr same)) =
        let run : x.run ≡ y.run = some_is (sym x.stage ∙ (ap (λ (n : ℕ). slice_get (stages settings parsed) n) same ∙ y.stage)) in
        let event : x.event ≡ y.event = some_is (sym x.found ∙ (ap (λ (n : ℕ). slice_get parsed.events n) same ∙ y.found)) in
        let moved : IsLetGo (taken_by (take y.passed parsed.events)) y.run y.event number a =
        subst (λ (n : ℕ). IsLetGo (taken_by (take n parsed.events)) y.run y.event number a) same
        (subst (λ (q : RunStateView). IsLetGo (taken_by (take x.passed parsed.events)) q y.event number a) run
        (subst (λ (d : Event). IsLetGo (taken_by (take x.passed parsed.events)) x.run d number a) event x.let_go)) in
        same_event (taken_by (take y.passed parsed.events)) y.run y.event number a b moved y.let_go
