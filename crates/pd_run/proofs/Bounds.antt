-- How far a step moves the clock and the base, and that the sender stays up to date.
use Rattle.std.proofs.Common.{◌≡◌, ℕ, ◌+◌, ◌<◌, ◌≤◌, ◌==◌, max, Bool, true, false, ◌||◌, if◌then◌else◌, Option, Some, None, List, [], ◌∷◌, length, slice_get, Result, Ok, Err, refl, sym, ap, subst, arith}
use Rattle.std.proofs.lemmas.Bool.Decides.{nat_tests}
use Rattle.std.specs.List.{list_any}
use Rattle.pd_script.specs.declared.calls.Call.{Call}
use Rattle.pd_script.specs.declared.packets.Packet.{Packet}
use Rattle.pd_script.specs.declared.script_events.Action.{Action}
use Rattle.pd_script.specs.declared.script_events.Action.TheVariants.{Inbound, Outbound, Call as Calls, Command, Code}
use Rattle.pd_script.specs.declared.script_events.Event.{Event}
use Rattle.pd_script.specs.declared.timing.Time.{Time}
use Rattle.pd_script.specs.declared.timing.Time.TheVariants.{Any, Absolute, Relative, AbsoluteRange, RelativeRange}
use Rattle.pd_seg.specs.declared.call_results.Answer.{Answer}
use Rattle.pd_seg.specs.declared.segments.Segment.{Segment}
use Rattle.pd_seg.specs.declared.segments.Sent.{Sent}
use Rattle.pd_host.specs.Arrivals.{arrived}
use Rattle.pd_host.specs.Calls.{called}
use Rattle.pd_host.specs.Laws.{AreInOrder}
use Rattle.pd_host.specs.InputResults.{Goes, GoesFrom, Answers, AnswersFrom}
use Rattle.pd_host.specs.Expiries.{advanced, deadline_of}
use Rattle.pd_host.specs.Host.{HostView, then_on, without_oldest}
use Rattle.pd_host.specs.declared.halts.Halt.{Halt}
use Rattle.pd_host.specs.declared.endpoint.SenderState.{SenderState}
use Rattle.pd_match.specs.Calls.{result_mismatch}
use Rattle.pd_match.specs.Packets.{mismatch}
use Rattle.pd_match.specs.declared.kinds.Kind.{Kind}
use Rattle.pd_run.specs.Prechecks.{failed_precheck}
use Rattle.pd_run.specs.InboundSegment.{segment_in}
use Rattle.pd_run.specs.Limits.{is_long, written_times, written_blocking_end, is_action_number_over_limit, is_any_event_number_over_limit}
use Rattle.pd_run.specs.Step.{RunStateView, tolerance_of, comparison_noted, on_step, judged, with_state, action_time_not_before_clock, acted, arrives, on_arrival, answers, on_answer, on_expiry, expires, awaited, packet_taken, performed, unless_failed_precheck, precheck_then_perform_event_and_find_stop, at_line, step}
use Rattle.pd_run.specs.Times.{is_single_moment, single_moment_or_base, time_range_of, is_not_too_late_within_tolerance, base_from_moment_or_later_of_base_and_sent}
use Rattle.pd_run.specs.declared.prechecks.Precheck.{Precheck}
use Rattle.pd_run.specs.declared.prechecks.Precheck.TheVariants.{OverLimit}
use Rattle.pd_run.specs.declared.stop_reason.StopReason.{StopReason}
use Rattle.pd_run.specs.declared.stop_reason.StopReason.TheVariants.{Missing}

-- what is known of the sender's state at the clock is kept by all that a step does: the packets are in order by it, and the
-- next expiry lies at most an hour ahead
pub record IsKept (K : ℕ → SenderState → Type 0) : Type 0 where
  pub advances : (now until : ℕ) (s t : SenderState) → now ≤ until → K now s → advanced until s ≡ Ok t → K until t
  pub arrivals : (segment : Segment) (now : ℕ) (s t : SenderState) → K now s → arrived segment now s ≡ Ok t → K now t
  pub calls : (call : Call) (now : ℕ) (s t : SenderState) (answer : Answer) → K now s → called call now s ≡ Ok (t, answer) → K now t
  pub taking : (now : ℕ) (sender : HostView) → K now sender.state → K now (without_oldest sender).state
  pub ordered : (now : ℕ) (s : SenderState) → K now s → AreInOrder now s.endpoint.outbox
  pub soon : (now at : ℕ) (s : SenderState) → K now s → deadline_of s ≡ Some at → (now < at) × (at ≤ now + 3600000000)

-- the clock and the base of a run that goes on lie at or before a moment, and that is known of its sender
pub record IsWithin (K : ℕ → SenderState → Type 0) (n : ℕ) (r : RunStateView) : Type 0 where
  pub live : r.host.end_reason ≡ None
  pub clock : r.clock ≤ n
  pub base : r.base ≤ n
  pub up_to : K r.clock r.host.state

or_false : (a b : Bool) → (a || b) ≡ false → a ≡ false
or_false true b h = absurd cc
or_false false b h = refl

or_false_last : (a b : Bool) → (a || b) ≡ false → b ≡ false
or_false_last true b h = absurd cc
or_false_last false b h = h

-- where no number of an event is over its limit, none of its action is
pub action_within : (e : Event) → is_any_event_number_over_limit e ≡ false → is_action_number_over_limit e.action ≡ false
action_within e h = or_false_last (list_any is_long (written_times e.time) || list_any is_long (written_blocking_end e.blocking_end)) (is_action_number_over_limit e.action) h

-- a time within its limit lies at most 3,600 seconds after the base, or after the start
moment_within : (base : ℕ) (time : Time) → list_any is_long (written_times time) ≡ false → single_moment_or_base base time ≤ base + 3600000000
moment_within base Any h = omega arith
moment_within base (Absolute t) h = grind (arith, nat_tests)
moment_within base (Relative t) h = grind (arith, nat_tests)
moment_within base (AbsoluteRange first last) h = omega arith
moment_within base (RelativeRange first last) h = omega arith

base_within : (single : Bool) (moment base at n : ℕ) → moment ≤ n → base ≤ n → at ≤ n → (if single then moment else max base at) ≤ n
base_within true moment base at n m b a = m
base_within false moment base at n m b a = omega arith

-- the state that came
abbrev pub ok : {S : Type 0} → RunStateView → Result RunStateView S
ok r = Ok r

pub given : {S : Type 0} (r s : RunStateView) → ok {S = S} r ≡ ok s → r ≡ s
given r s h = cc

pub agreed : (r s : RunStateView) (reason : Kind → StopReason) (kind : Option Kind) → judged r reason kind ≡ Ok s → r ≡ s
agreed r s reason None h = given r s h
agreed r s reason (Some kind) h = absurd cc

-- an `Ok` of two rules is one of each
pub both : {A B : Type 0} (next : A → Result B Halt) (came : Result A Halt) (t : B) → then_on next came ≡ Ok t → (s : A) × (came ≡ Ok s) × (next s ≡ Ok t)
both next (Ok s) t h = (s, refl, h)
both next (Err halt) t h = absurd cc

-- an input to a host that hasn't ended shows this
goes_on : (old new : HostView) (rule : SenderState → Result SenderState Halt) (u : Unit {0}) → old.end_reason ≡ None → Goes old rule (Ok u) new → rule old.state ≡ Ok new.state
goes_on old new rule u live h = let told : GoesFrom None old rule (Ok u) new = subst (λ o. GoesFrom o old rule (Ok u) new) live h in told.0

answers_on : (old new : HostView) (rule : SenderState → Result (SenderState × Answer) Halt) (a : Answer) → old.end_reason ≡ None → Answers old rule (Ok a) new → rule old.state ≡ Ok (new.state, a)
answers_on old new rule a live h = let told : AnswersFrom None old rule (Ok a) new = subst (λ o. AnswersFrom o old rule (Ok a) new) live h in told.0

-- an event acts at the clock or later
pub acts_later : (r : RunStateView) (e : Event) (clock moment : ℕ) → clock ≡ r.clock → moment ≡ action_time_not_before_clock r e → clock ≤ moment
acts_later r e clock moment same is = omega (arith, same, is)

oldest : (n : ℕ) (packets : List Sent) (p : Sent) → AreInOrder n packets → slice_get packets 0 ≡ Some p → p.at ≤ n
oldest n [] p h is = absurd cc
oldest n (q ∷ packets) p h is = let same : q ≡ p = cc in subst (λ (x : Sent). x.at ≤ n) same h.0

pub in_reach : (b : Bool) (x : Result RunStateView StopReason) (s : RunStateView) → (if b then x else Err Missing) ≡ Ok s → x ≡ Ok s
in_reach true x s h = h
in_reach false x s h = absurd cc

-- an event that goes on came to this
pub goes : (line : ℕ) (came : Result RunStateView StopReason) (s : RunStateView) → at_line line came ≡ Ok s → came ≡ Ok s
goes line (Ok r) s h = ap (λ (q : RunStateView). ok {S = StopReason} q) (given r s h)
goes line (Err reason) s h = absurd cc

-- no check barred it, and its action was performed
pub unbarred : (came : Result RunStateView StopReason) (bar : Option Precheck) (s : RunStateView) → unless_failed_precheck came bar ≡ Ok s → (bar ≡ None) × (came ≡ Ok s)
unbarred came None s h = (refl, h)
unbarred came (Some bar) s h = absurd cc

pub step_performs : (r s : RunStateView) (e : Event) → step r e ≡ Ok s → performed r e e.action ≡ Ok s
step_performs r s e h = (unbarred (performed r e e.action) (failed_precheck r.base e) s (goes e.line (precheck_then_perform_event_and_find_stop r e) s h)).1

-- its numbers are within their limits
pub within_limits : (base : ℕ) (e : Event) → failed_precheck base e ≡ None → is_any_event_number_over_limit e ≡ false
within_limits base e h = go (is_any_event_number_over_limit e) _ h
  where
    go : (b : Bool) (rest : Option Precheck) → (if b then Some OverLimit else rest) ≡ None → b ≡ false
    go true rest h = absurd cc
    go false rest h = refl

pub step_unlimited : (r s : RunStateView) (e : Event) → step r e ≡ Ok s → is_any_event_number_over_limit e ≡ false
step_unlimited r s e h =
    within_limits r.base e (unbarred (performed r e e.action) (failed_precheck r.base e) s (goes e.line (precheck_then_perform_event_and_find_stop r e) s h)).0

step_short : (r s : RunStateView) (e : Event) → step r e ≡ Ok s → list_any is_long (written_times e.time) ≡ false
step_short r s e h = or_false _ _ (or_false _ _ (step_unlimited r s e h))

module _ (K : ℕ → SenderState → Type 0) (laws : IsKept K) where
  -- of a sender that hasn't ended it is known at a moment
  abbrev Knows : HostView → ℕ → Type 0
  Knows host clock = host.end_reason ≡ None → K clock host.state

  -- a packet that arrives, and a call, after all expiries up to a later moment
  pub arrival_keeps_up : (segment : Segment) (clock moment : ℕ) (s t : SenderState) → clock ≤ moment → K clock s
      → then_on (arrived segment moment) (advanced moment s) ≡ Ok t → K moment t
  arrival_keeps_up segment clock moment s t le up h =
      let came = both (arrived segment moment) (advanced moment s) t h in
      laws.arrivals segment moment came.0 t (laws.advances clock moment s came.0 le up came.1) came.2

  pub call_keeps_up : (call : Call) (clock moment : ℕ) (s t : SenderState) (answer : Answer) → clock ≤ moment → K clock s
      → then_on (called call moment) (advanced moment s) ≡ Ok (t, answer) → K moment t
  call_keeps_up call clock moment s t answer le up h =
      let came = both (called call moment) (advanced moment s) (t, answer) h in
      laws.calls call moment came.0 t answer (laws.advances clock moment s came.0 le up came.1) came.2

  -- so the sender is up to date at the moment of the packet, and of the call
  pub host_after_arrival : (old new : HostView) (segment : Segment) (clock moment : ℕ) (u : Unit {0})
      → Knows old clock → old.end_reason ≡ None → clock ≤ moment
      → Goes old (λ s. then_on (arrived segment moment) (advanced moment s)) (Ok u) new
      → Knows new moment
  host_after_arrival old new segment clock moment u up live le h =
      λ _. arrival_keeps_up segment clock moment old.state new.state le (up live) (goes_on old new (λ s. then_on (arrived segment moment) (advanced moment s)) u live h)

  pub host_after_call : (old new : HostView) (call : Call) (clock moment : ℕ) (answer : Answer)
      → Knows old clock → old.end_reason ≡ None → clock ≤ moment
      → Answers old (λ s. then_on (called call moment) (advanced moment s)) (Ok answer) new
      → Knows new moment
  host_after_call old new call clock moment answer up live le h =
      λ _. call_keeps_up call clock moment old.state new.state answer le (up live) (answers_on old new (λ s. then_on (called call moment) (advanced moment s)) answer live h)

  -- and the sender is up to date there
  pub host_after_expiry : (old new : HostView) (clock at : ℕ) (u : Unit {0})
      → Knows old clock → old.end_reason ≡ None → deadline_of old.state ≡ Some at
      → Goes old (advanced at) (Ok u) new
      → Knows new at
  host_after_expiry old new clock at u up live is h =
      let reach : (clock < at) × (at ≤ clock + 3600000000) = laws.soon clock at old.state (up live) is in
      λ _. laws.advances clock at old.state new.state (omega (arith, reach.0)) (up live) (goes_on old new (advanced at) u live h)

  -- after an event that acted
  acted_within : (n : ℕ) (r : RunStateView) (e : Event) (t : SenderState)
      → IsWithin K n r → single_moment_or_base r.base e.time ≤ n + 3600000000 → K (action_time_not_before_clock r e) t
      → IsWithin K (n + 3600000000) (acted r e t)
  acted_within n r e t within moment up =
      let clock : r.clock ≤ n = within.clock in
      record { live = within.live; clock = omega arith; base = moment; up_to = up }

  arrival_within : (n : ℕ) (r s : RunStateView) (e : Event) (p : Packet) (came : Result SenderState Halt) → arrives r e p ≡ came
      → IsWithin K n r → single_moment_or_base r.base e.time ≤ n + 3600000000
      → on_arrival r e came ≡ Ok s → IsWithin K (n + 3600000000) s
  arrival_within n r s e p (Ok t) is within moment h =
      subst (IsWithin K (n + 3600000000)) (given (acted r e t) s h)
      (acted_within n r e t within moment (arrival_keeps_up (segment_in p) r.clock (action_time_not_before_clock r e) r.host.state t (omega arith) within.up_to is))
  arrival_within n r s e p (Err halt) is within moment h = absurd cc

  answer_within : (n : ℕ) (r s : RunStateView) (e : Event) (call : Call) (came : Result (SenderState × Answer) Halt) → answers r e call ≡ came
      → IsWithin K n r → single_moment_or_base r.base e.time ≤ n + 3600000000
      → on_answer r e call came ≡ Ok s → IsWithin K (n + 3600000000) s
  answer_within n r s e call (Ok (t, a)) is within moment h =
      subst (IsWithin K (n + 3600000000)) (agreed (acted r e t) s _ (result_mismatch call.result a) h)
      (acted_within n r e t within moment (call_keeps_up call r.clock (action_time_not_before_clock r e) r.host.state t a (omega arith) within.up_to is))
  answer_within n r s e call (Err halt) is within moment h = absurd cc

  -- after a packet that was taken
  taken_within : (n : ℕ) (r s : RunStateView) (e : Event) (p : Packet) (first : Option Sent) → slice_get r.host.state.endpoint.outbox 0 ≡ first
      → IsWithin K n r → single_moment_or_base r.base e.time ≤ n
      → packet_taken e p r first ≡ Ok s → IsWithin K n s
  taken_within n r s e p None is within moment h = absurd cc
  taken_within n r s e p (Some sent) is within moment h =
      let next : RunStateView = record r { host = without_oldest r.host; base = base_from_moment_or_later_of_base_and_sent r.base e.time sent.at } in
      let same : next ≡ s = agreed next s _ (mismatch p (time_range_of r.base e.time) sent (tolerance_of r)) h in
      let clock : r.clock ≤ n = within.clock in
      let left : sent.at ≤ r.clock = oldest r.clock r.host.state.endpoint.outbox sent (laws.ordered r.clock r.host.state within.up_to) is in
      subst (IsWithin K n) same (record {
        live = within.live;
        clock = within.clock;
        base = base_within (is_single_moment e.time) (single_moment_or_base r.base e.time) r.base sent.at n moment within.base (omega arith);
        up_to = laws.taking r.clock r.host within.up_to;
      })

  -- after an expiry that was awaited: the base stays
  abbrev Waited : ℕ → RunStateView → RunStateView → Type 0
  Waited n r s = IsWithin K (n + 3600000000) s × (s.base ≡ r.base)

  expired : (n at : ℕ) (r s : RunStateView) (came : Result SenderState Halt) → advanced at r.host.state ≡ came
      → deadline_of r.host.state ≡ Some at → IsWithin K n r → on_expiry r at came ≡ Ok s → Waited n r s
  expired n at r s (Ok t) is is_due within h =
      let clock : r.clock ≤ n = within.clock in
      let base : r.base ≤ n = within.base in
      let reach : (r.clock < at) × (at ≤ r.clock + 3600000000) = laws.soon r.clock at r.host.state within.up_to is_due in
      subst (Waited n r) (given (record (with_state r t) { clock = at }) s h) (
        record {
          live = within.live;
          clock = omega (arith, clock, reach.1);
          base = omega (arith, base);
          up_to = laws.advances r.clock at r.host.state t (omega (arith, reach.0)) within.up_to is;
        },
        refl,
      )
  expired n at r s (Err halt) is is_due within h = absurd cc

  expires_within : (n : ℕ) (r s : RunStateView) (e : Event) (o : Option ℕ) → deadline_of r.host.state ≡ o
      → IsWithin K n r → expires r e o ≡ Ok s → Waited n r s
  expires_within n r s e None is_due within h = absurd cc
  expires_within n r s e (Some at) is_due within h =
      expired n at r s (advanced at r.host.state) refl is_due within
      (in_reach (is_not_too_late_within_tolerance (time_range_of r.base e.time) (tolerance_of r) at) (on_expiry r at (advanced at r.host.state)) s h)

  later : (n : ℕ) (r : RunStateView) → IsWithin K n r → IsWithin K (n + 3600000000) r
  later n r within =
      let clock : r.clock ≤ n = within.clock in
      let base : r.base ≤ n = within.base in
      record { live = within.live; clock = omega arith; base = omega arith; up_to = within.up_to }

  awaited_within : (n : ℕ) (r s : RunStateView) (e : Event) (empty : Bool) → IsWithin K n r
      → (if empty then expires r e (deadline_of r.host.state) else Ok r) ≡ Ok s → Waited n r s
  awaited_within n r s e true within h = expires_within n r s e (deadline_of r.host.state) refl within h
  awaited_within n r s e false within h = subst (Waited n r) (given r s h) (later n r within, refl)

  leaves_within : (n : ℕ) (r s : RunStateView) (e : Event) (p : Packet) (came : Result RunStateView StopReason) → awaited r e ≡ came
      → IsWithin K n r → single_moment_or_base r.base e.time ≤ n + 3600000000
      → on_step (λ q. packet_taken e p q (slice_get q.host.state.endpoint.outbox 0)) (λ reason. Err reason) came ≡ Ok s
      → IsWithin K (n + 3600000000) s
  leaves_within n r s e p (Ok t) is within moment h =
      let waited : Waited n r t = awaited_within n r t e (length r.host.state.endpoint.outbox == 0) within is in
      taken_within (n + 3600000000) t s e p (slice_get t.host.state.endpoint.outbox 0) refl waited.0
      (subst (λ (b : ℕ). single_moment_or_base b e.time ≤ n + 3600000000) (sym waited.1) moment) h
  leaves_within n r s e p (Err v) is within moment h = absurd cc

  performed_within : (n : ℕ) (r s : RunStateView) (e : Event) (action : Action)
      → IsWithin K n r → single_moment_or_base r.base e.time ≤ n + 3600000000 → performed r e action ≡ Ok s → IsWithin K (n + 3600000000) s
  performed_within n r s e (Inbound p) within moment h = arrival_within n r s e p (arrives r e p) refl within moment h
  performed_within n r s e (Outbound p) within moment h =
      leaves_within n (comparison_noted r) s e p (awaited (comparison_noted r) e) refl
      (record { live = within.live; clock = within.clock; base = within.base; up_to = within.up_to }) moment h
  performed_within n r s e (Calls call) within moment h = answer_within n r s e call (answers r e call) refl within moment h
  performed_within n r s e Command within moment h = absurd cc
  performed_within n r s e Code within moment h = absurd cc

  pub step_within : (n : ℕ) (r s : RunStateView) (e : Event) → IsWithin K n r → step r e ≡ Ok s → IsWithin K (n + 3600000000) s
  step_within n r s e within h =
      let base : r.base ≤ n = within.base in
      let moment : single_moment_or_base r.base e.time ≤ r.base + 3600000000 = moment_within r.base e.time (step_short r s e h) in
      performed_within n r s e e.action within (omega arith) (step_performs r s e h)
