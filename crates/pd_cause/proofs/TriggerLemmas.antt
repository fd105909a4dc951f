-- Triggers of packets: one event more of a run.
use Rattle.std.proofs.Common.{◌≡◌, inl, inr, ◌⊎◌, ℕ, zero, suc, ◌+◌, ◌-◌, ◌<◌, ◌≤◌, ◌==◌, Bool, true, false, if◌then◌else◌, List, [], ◌∷◌, ◌++◌, length, take, replicate, slice_get, is_some, Option, Some, None, Result, Ok, Err, refl, sym, ap, ap₂, subst, ◌∙◌, arith}
use Rattle.std.proofs.lemmas.Bool.Decides.{nat_tests}
use Rattle.std.proofs.lemmas.List.{length-append, length-replicate, get_or-replicate}
use Rattle.std.proofs.lemmas.Option.{slice_get_within, get_or_from_slice_get}
use Rattle.pd_settings.specs.declared.settings.Settings.{Settings}
use Rattle.pd_script.specs.declared.calls.Call.{Call}
use Rattle.pd_script.specs.declared.packets.Packet.{Packet}
use Rattle.pd_script.specs.declared.parsed.Parsed.{Parsed}
use Rattle.pd_script.specs.declared.script_events.Action.{Action}
use Rattle.pd_script.specs.declared.script_events.Action.TheVariants.{Inbound, Outbound, Call as Calls, Command, Code}
use Rattle.pd_script.specs.declared.script_events.Event.{Event}
use Rattle.pd_seg.specs.declared.call_results.Answer.{Answer}
use Rattle.pd_seg.specs.declared.segments.Sent.{Sent}
use Rattle.pd_host.specs.Arrivals.{arrived}
use Rattle.pd_host.specs.Calls.{called}
use Rattle.pd_host.specs.Expiries.{advanced, deadline_of, due_by, expired}
use Rattle.pd_host.specs.Host.{HostView, then_on}
use Rattle.pd_host.specs.InputLaws.{PutsOutAfter, CallsPutOutAfter, AdvancesPutOutAfter}
use Rattle.pd_host.specs.InputResults.{Gives, Goes, GoesFrom}
use Rattle.pd_host.specs.Sending.{repeated, places_left}
use Rattle.pd_host.specs.declared.endpoint.SenderState.{SenderState}
use Rattle.pd_host.specs.declared.halts.HostEnd.{HostEnd}
use Rattle.pd_host.specs.declared.halts.Halt.{Halt}
use Rattle.pd_match.specs.Calls.{result_mismatch}
use Rattle.pd_run.specs.Prechecks.{failed_precheck}
use Rattle.pd_run.specs.InboundSegment.{segment_in}
use Rattle.pd_run.specs.Laws.{unmatched, PassedPacketsAreTaken}
use Rattle.pd_run.specs.Run.{start_of, states_from}
use Rattle.pd_run.specs.Step.{RunStateView, on_step, comparison_noted, action_time_not_before_clock, acted, arrives, on_arrival, answers, on_answer, expires, performed, precheck_then_perform_event_and_find_stop, step}
use Rattle.pd_run.specs.declared.verdict.Verdict.{Verdict}
use Rattle.pd_run.specs.declared.stop_reason.StopReason.{StopReason}
use Rattle.pd_run.specs.declared.stop_reason.StopReason.TheVariants.{Answered}
use Rattle.pd_run.proofs.Bounds.{given, agreed, unbarred, goes, step_performs}
use Rattle.pd_cause.specs.Inner.{PacketsAppend, triggers_of, triggers_at, AreTriggers}
use Rattle.pd_cause.specs.Origins.{stages, awaits_packet, count_packets_matched_by, taken_by, packets_in, packets_after, put_out_by_timer, put_out_by_input, after_timer, after_input, IsReached, IsSentBy}
use Rattle.pd_cause.specs.declared.origins.Trigger.{Trigger}
use Rattle.pd_cause.specs.declared.origins.Trigger.TheVariants.{Timer, Line}

-- The number of packets never falls in an event, before one is taken

longer : (xs ys zs : List Sent) → ys ≡ xs ++ zs → length xs ≤ length ys
longer xs ys zs e = omega (arith, ap length e, length-append xs zs)

of_advance : AdvancesPutOutAfter → (until : ℕ) (s : SenderState) (came : Result SenderState Halt) → advanced until s ≡ came
    → length s.endpoint.outbox ≤ length (packets_in s.endpoint.outbox came)
of_advance law until s (Ok t) is = let more = law until s t is in longer s.endpoint.outbox t.endpoint.outbox more.0 more.2
of_advance law until s (Err halt) is = omega arith

none_there : (n : ℕ) → (n == 0) ≡ true → n ≡ 0
none_there n e = grind (arith, nat_tests)

of_wait : (r : RunStateView) (x : Result RunStateView StopReason) (empty : Bool) → (length (unmatched r) == 0) ≡ empty
    → length (unmatched r) ≤ length (on_step unmatched (λ w. unmatched r) (if empty then x else Ok (comparison_noted r)))
of_wait r x true is = let none = none_there (length (unmatched r)) is in omega (arith, none)
of_wait r x false is = omega arith

pub timer_grows : PacketsAppend → (r : RunStateView) (e : Event) (a : Action) → length (unmatched r) ≤ length (put_out_by_timer r e a)
timer_grows laws r e (Inbound p) = of_advance laws.advances (action_time_not_before_clock r e) r.host.state (advanced (action_time_not_before_clock r e) r.host.state) refl
timer_grows laws r e (Outbound p) = of_wait r (expires (comparison_noted r) e (deadline_of r.host.state)) (length (unmatched r) == 0) refl
timer_grows laws r e (Calls call) = of_advance laws.advances (action_time_not_before_clock r e) r.host.state (advanced (action_time_not_before_clock r e) r.host.state) refl
timer_grows laws r e Command = of_advance laws.advances (action_time_not_before_clock r e) r.host.state (advanced (action_time_not_before_clock r e) r.host.state) refl
timer_grows laws r e Code = of_advance laws.advances (action_time_not_before_clock r e) r.host.state (advanced (action_time_not_before_clock r e) r.host.state) refl

of_arrival : PutsOutAfter → (before : List Sent) (p : Packet) (at : ℕ) (s : SenderState) (came : Result SenderState Halt) → arrived (segment_in p) at s ≡ came
    → length s.endpoint.outbox ≤ length (packets_in s.endpoint.outbox came)
of_arrival law before p at s (Ok t) is = let more = law (segment_in p) at s t is in longer s.endpoint.outbox t.endpoint.outbox more.0 more.2
of_arrival law before p at s (Err halt) is = omega arith

arrival_grows : PutsOutAfter → (before : List Sent) (p : Packet) (at : ℕ) (came : Result SenderState Halt)
    → length (packets_in before came) ≤ length (packets_in (packets_in before came) (then_on (arrived (segment_in p) at) came))
arrival_grows law before p at (Ok s) = of_arrival law before p at s (arrived (segment_in p) at s) refl
arrival_grows law before p at (Err halt) = omega arith

of_call : CallsPutOutAfter → (call : Call) (at : ℕ) (s : SenderState) (came : Result (SenderState × Answer) Halt) → called call at s ≡ came
    → length s.endpoint.outbox ≤ length (packets_after s.endpoint.outbox came)
of_call law call at s (Ok (t, answer)) is = let more = law call at s t answer is in longer s.endpoint.outbox t.endpoint.outbox more.0 more.2
of_call law call at s (Err halt) is = omega arith

call_grows : CallsPutOutAfter → (before : List Sent) (call : Call) (at : ℕ) (came : Result SenderState Halt)
    → length (packets_in before came) ≤ length (packets_after (packets_in before came) (then_on (called call at) came))
call_grows law before call at (Ok s) = of_call law call at s (called call at s) refl
call_grows law before call at (Err halt) = omega arith

pub input_grows : PacketsAppend → (r : RunStateView) (e : Event) (a : Action) → length (put_out_by_timer r e a) ≤ length (put_out_by_input r e a)
input_grows laws r e (Inbound p) = arrival_grows laws.arrivals (unmatched r) p (action_time_not_before_clock r e) (advanced (action_time_not_before_clock r e) r.host.state)
input_grows laws r e (Outbound p) = omega arith
input_grows laws r e (Calls call) = call_grows laws.calls (unmatched r) call (action_time_not_before_clock r e) (advanced (action_time_not_before_clock r e) r.host.state)
input_grows laws r e Command = omega arith
input_grows laws r e Code = omega arith

-- An event that passes takes what it awaits, and leaves the others

by_arrival : (r s : RunStateView) (e : Event) (before : List Sent) (came : Result SenderState Halt) → on_arrival r e came ≡ Ok s
    → unmatched s ≡ packets_in before came
by_arrival r s e before (Ok t) h = ap unmatched (sym (given (acted r e t) s h))
by_arrival r s e before (Err halt) h = absurd cc

by_answer : (r s : RunStateView) (e : Event) (call : Call) (before : List Sent) (came : Result (SenderState × Answer) Halt) → on_answer r e call came ≡ Ok s
    → unmatched s ≡ packets_after before came
by_answer r s e call before (Ok (t, answer)) h =
    ap unmatched (sym (agreed (acted r e t) s (λ kind. Answered answer (acted r e t)) (result_mismatch call.result answer) h))
by_answer r s e call before (Err halt) h = absurd cc

by_action : PassedPacketsAreTaken → (r s : RunStateView) (e : Event) (a : Action) → e.action ≡ a → step r e ≡ Ok s → performed r e a ≡ Ok s
    → length (unmatched s) + count_packets_matched_by e ≡ length (put_out_by_input r e a)
by_action law r s e (Inbound p) is h went =
    let none : count_packets_matched_by e ≡ 0 = rw is refl in
    let left = by_arrival r s e (put_out_by_timer r e (Inbound p)) (arrives r e p) went in
    omega (arith, none, ap length left)
by_action law r s e (Outbound p) is h went =
    let one : count_packets_matched_by e ≡ 1 = rw is refl in
    let took = law r s e p is h in
    let stood : put_out_by_input r e (Outbound p) ≡ unmatched took.0 = ap (on_step unmatched (λ w. unmatched r)) took.2 in
    omega (arith, one, ap length stood, ap length took.4)
by_action law r s e (Calls call) is h went =
    let none : count_packets_matched_by e ≡ 0 = rw is refl in
    let left = by_answer r s e call (put_out_by_timer r e (Calls call)) (answers r e call) went in
    omega (arith, none, ap length left)
by_action law r s e Command is h went = absurd cc
by_action law r s e Code is h went = absurd cc

pub passes : PassedPacketsAreTaken → (r s : RunStateView) (e : Event) → step r e ≡ Ok s
    → length (unmatched s) + count_packets_matched_by e ≡ length (after_input r e)
passes law r s e h = by_action law r s e e.action refl h (step_performs r s e h)

pub step_unbarred : (r s : RunStateView) (e : Event) → step r e ≡ Ok s → failed_precheck r.base e ≡ None
step_unbarred r s e h = (unbarred (performed r e e.action) (failed_precheck r.base e) s (goes e.line (precheck_then_perform_event_and_find_stop r e) s h)).0

-- Lists

pub slice_append : {A : Type 0} → (xs ys : List A) (i : ℕ) (x : A) → slice_get (xs ++ ys) i ≡ Some x
    → (slice_get xs i ≡ Some x) ⊎ ((length xs ≤ i) × (slice_get ys (i - length xs) ≡ Some x))
slice_append [] ys i x h =
    let none : i - 0 ≡ i = omega arith in
    inr (omega arith, subst (λ (k : ℕ). slice_get ys k ≡ Some x) (sym none) h)
slice_append (a ∷ xs) ys zero x h = inl h
slice_append (a ∷ xs) ys (suc i) x h = next (slice_append xs ys i x h)
  where
    next : (slice_get xs i ≡ Some x) ⊎ ((length xs ≤ i) × (slice_get ys (i - length xs) ≡ Some x))
        → (slice_get xs i ≡ Some x) ⊎ ((length (a ∷ xs) ≤ suc i) × (slice_get ys (suc i - length (a ∷ xs)) ≡ Some x))
    next (inl there) = inl there
    next (inr later) =
        let same : suc i - length (a ∷ xs) ≡ i - length xs = omega arith in
        inr (omega (arith, later.0), subst (λ (k : ℕ). slice_get ys k ≡ Some x) (sym same) later.1)

pub slice_replicate : {A : Type 0} → (n i : ℕ) (a x : A) → slice_get (replicate n a) i ≡ Some x → (i < n) × (x ≡ a)
slice_replicate n i a x h =
    let within : i < length (replicate n a) = slice_get_within (replicate n a) i x h in
    let below : i < n = omega (arith, within, length-replicate n a) in
    (below, sym (get_or_from_slice_get (replicate n a) i x a h) ∙ get_or-replicate n i a a below)

pub taken_more : (es : List Event) (n : ℕ) (e : Event) → slice_get es n ≡ Some e → taken_by (take (n + 1) es) ≡ taken_by (take n es) + count_packets_matched_by e
taken_more [] n e h = absurd cc
taken_more (d ∷ es) zero e h = let same : d ≡ e = cc in rw same (omega arith)
taken_more (d ∷ es) (suc n) e h =
    let later : suc n + 1 ≡ suc (n + 1) = omega arith in
    let first : taken_by (take (suc n + 1) (d ∷ es)) ≡ count_packets_matched_by d + taken_by (take (n + 1) es) = ap (λ (k : ℕ). taken_by (take k (d ∷ es))) later in
    let second : taken_by (take (suc n) (d ∷ es)) ≡ count_packets_matched_by d + taken_by (take n es) = refl in
    omega (arith, first, second, taken_more es n e h)

pub stage_next : (es : List Event) (q r s : RunStateView) (n : ℕ) (e : Event) → slice_get (q ∷ states_from es q) n ≡ Some r → slice_get es n ≡ Some e
    → step r e ≡ Ok s → slice_get (q ∷ states_from es q) (n + 1) ≡ Some s
stage_next [] q r s n e stage found h = absurd cc
stage_next (d ∷ es) q r s zero e stage found h =
    let state : q ≡ r = cc in
    let event : d ≡ e = cc in
    rw (state, event, h) refl
stage_next (d ∷ es) q r s (suc n) e stage found h =
    let later : suc (n + 1) ≡ suc n + 1 = omega arith in
    subst (λ (k : ℕ). slice_get (q ∷ states_from (d ∷ es) q) k ≡ Some s) later
    (go (λ t there. stage_next es t r s n e there found h) (step q d) stage)
  where
    go : ((t : RunStateView) → slice_get (t ∷ states_from es t) n ≡ Some r → slice_get (t ∷ states_from es t) (n + 1) ≡ Some s)
        → (came : Result RunStateView Verdict) → slice_get (on_step (λ t. t ∷ states_from es t) (λ v. []) came) n ≡ Some r
        → slice_get (on_step (λ t. t ∷ states_from es t) (λ v. []) came) (n + 1) ≡ Some s
    go ih (Ok t) there = ih t there
    go ih (Err v) there = absurd cc

pub staged : (settings : Settings) (parsed : Parsed) (n : ℕ) (r s : RunStateView) (e : Event) → slice_get (stages settings parsed) n ≡ Some r
    → slice_get parsed.events n ≡ Some e → step r e ≡ Ok s → slice_get (stages settings parsed) (n + 1) ≡ Some s
staged settings parsed n r s e stage found h = go (start_of parsed.header.items settings) stage
  where
    go : (came : Result RunStateView Verdict) → slice_get (on_step (λ q. q ∷ states_from parsed.events q) (λ v. []) came) n ≡ Some r
        → slice_get (on_step (λ q. q ∷ states_from parsed.events q) (λ v. []) came) (n + 1) ≡ Some s
    go (Ok q) there = stage_next parsed.events q r s n e there found h
    go (Err v) there = absurd cc

-- One event more

module _ (settings : Settings) (parsed : Parsed) (n : ℕ) (r : RunStateView) (e : Event) where
  timer_sent : (first place : ℕ) → slice_get (stages settings parsed) n ≡ Some r → slice_get parsed.events n ≡ Some e → failed_precheck r.base e ≡ None
      → IsReached (taken_by (take n parsed.events)) (unmatched r) (after_timer r e) (first + place) → IsSentBy settings parsed (first + place) Timer
  timer_sent first place stage found unbarred reached =
      record { passed = n; run = r; event = e; stage = stage; found = found; unbarred = unbarred; let_go = reached }

  input_sent : (first place : ℕ) → slice_get (stages settings parsed) n ≡ Some r → slice_get parsed.events n ≡ Some e → failed_precheck r.base e ≡ None
      → IsReached (taken_by (take n parsed.events)) (after_timer r e) (after_input r e) (first + place) → IsSentBy settings parsed (first + place) (Line e.line)
  input_sent first place stage found unbarred reached =
      record { passed = n; run = r; event = e; stage = stage; found = found; unbarred = unbarred; let_go = (reached, refl) }

  more_sent : PacketsAppend → slice_get (stages settings parsed) n ≡ Some r → slice_get parsed.events n ≡ Some e → failed_precheck r.base e ≡ None
      → (first place : ℕ) (triggers : List Trigger) (trigger : Trigger)
      → first + length triggers ≡ taken_by (take n parsed.events) + length (unmatched r)
      → length triggers ≤ place → slice_get (triggers_at r e) (place - length triggers) ≡ Some trigger
      → IsSentBy settings parsed (first + place) trigger
  more_sent laws stage found unbarred first place triggers trigger counted beyond h =
      by (slice_append (replicate by_timer Timer) (replicate by_input (Line e.line)) (place - length triggers) trigger h)
    where
      by_timer : ℕ
      by_timer = length (after_timer r e) - length (unmatched r)

      by_input : ℕ
      by_input = length (after_input r e) - length (after_timer r e)

      by : (slice_get (replicate by_timer Timer) (place - length triggers) ≡ Some trigger)
          ⊎ ((length (replicate by_timer Timer) ≤ place - length triggers)
          × (slice_get (replicate by_input (Line e.line)) (place - length triggers - length (replicate by_timer Timer)) ≡ Some trigger))
          → IsSentBy settings parsed (first + place) trigger
      by (inl there) =
          let is = slice_replicate by_timer (place - length triggers) Timer trigger there in
          let low : taken_by (take n parsed.events) + length (unmatched r) ≤ first + place = omega (arith, counted, beyond) in
          let high : first + place < taken_by (take n parsed.events) + length (after_timer r e) = omega (arith, counted, beyond, is.0) in
          subst (λ (who : Trigger). IsSentBy settings parsed (first + place) who) (sym is.1)
          (timer_sent first place stage found unbarred (low, high))
      by (inr later) =
          let is = slice_replicate by_input (place - length triggers - length (replicate by_timer Timer)) (Line e.line) trigger later.1 in
          let many : length (replicate by_timer Timer) ≡ by_timer = length-replicate by_timer Timer in
          let grows = timer_grows laws r e e.action in
          let more = input_grows laws r e e.action in
          let low : taken_by (take n parsed.events) + length (after_timer r e) ≤ first + place = omega (arith, counted, beyond, later.0, many, grows) in
          let high : first + place < taken_by (take n parsed.events) + length (after_input r e) = omega (arith, counted, beyond, is.0, many, grows, more, later.0) in
          subst (λ (who : Trigger). IsSentBy settings parsed (first + place) who) (sym is.1)
          (input_sent first place stage found unbarred (low, high))

  pub noted_more : PacketsAppend → slice_get (stages settings parsed) n ≡ Some r → slice_get parsed.events n ≡ Some e → failed_precheck r.base e ≡ None
      → (first : ℕ) (triggers : List Trigger) → AreTriggers settings parsed first n (length (unmatched r)) triggers
      → AreTriggers settings parsed first n (length (after_input r e)) (triggers ++ triggers_at r e)
  noted_more laws stage found unbarred first triggers before =
      let timer : ℕ = length (after_timer r e) - length (unmatched r) in
      let input : ℕ = length (after_input r e) - length (after_timer r e) in
      let grows = timer_grows laws r e e.action in
      let more = input_grows laws r e e.action in
      let added : length (triggers_at r e) ≡ timer + input =
      length-append (replicate timer Timer) (replicate input (Line e.line))
      ∙ ap₂ (λ (a b : ℕ). a + b) (length-replicate timer Timer) (length-replicate input (Line e.line)) in
      record {
        counted = omega (arith, before.counted, length-append triggers (triggers_at r e), added, grows, more);
        each = λ place trigger h. by place trigger (slice_append triggers (triggers_at r e) place trigger h);
      }
    where
      by : (place : ℕ) (trigger : Trigger)
          → (slice_get triggers place ≡ Some trigger) ⊎ ((length triggers ≤ place) × (slice_get (triggers_at r e) (place - length triggers) ≡ Some trigger))
          → IsSentBy settings parsed (first + place) trigger
      by place trigger (inl there) = before.each place trigger there
      by place trigger (inr later) = more_sent laws stage found unbarred first place triggers trigger before.counted later.0 later.1

  -- after an event that passes
  pub noted_step : PacketsAppend → (s : RunStateView) → slice_get (stages settings parsed) n ≡ Some r
      → slice_get parsed.events n ≡ Some e → step r e ≡ Ok s → (first : ℕ) (triggers : List Trigger) → AreTriggers settings parsed first n (length (unmatched r)) triggers
      → AreTriggers settings parsed first (n + 1) (length (unmatched s)) (triggers ++ triggers_at r e)
  noted_step laws s stage found went first triggers before =
      let now = noted_more laws stage found (step_unbarred r s e went) first triggers before in
      record {
        counted = omega (arith, now.counted, passes laws.taken r s e went, taken_more parsed.events n e found);
        each = now.each;
      }

-- Counts

awaited_alone : (r : RunStateView) (e : Event) (a : Action) → awaits_packet a ≡ true → put_out_by_input r e a ≡ put_out_by_timer r e a
awaited_alone r e (Inbound p) h = absurd cc
awaited_alone r e (Outbound p) h = refl
awaited_alone r e (Calls call) h = absurd cc
awaited_alone r e Command h = refl
awaited_alone r e Code h = refl

pub timer_of : (r : RunStateView) (e : Event) (a : Action) → awaits_packet a ≡ false
    → put_out_by_timer r e a ≡ packets_in (unmatched r) (advanced (action_time_not_before_clock r e) r.host.state)
timer_of r e (Inbound p) h = refl
timer_of r e (Outbound p) h = absurd cc
timer_of r e (Calls call) h = refl
timer_of r e Command h = refl
timer_of r e Code h = refl

-- the counts of an event
pub counts : (r : RunStateView) (e : Event) (before after expired : ℕ) → failed_precheck r.base e ≡ None
    → before ≡ length (unmatched r) → after ≡ length (after_input r e)
    → (failed_precheck r.base e ≡ None → awaits_packet e.action ≡ false → expired ≡ length (after_timer r e))
    → triggers_of ((if awaits_packet e.action then after else expired) - before) (after - (if awaits_packet e.action then after else expired)) e.line
    ≡ triggers_at r e
counts r e before after expired bar is_before all is_expired =
    ap₂ (λ (m n : ℕ). triggers_of (m - before) (n - m) e.line) timer all
    ∙ ap (λ (m : ℕ). triggers_of (length (after_timer r e) - m) (length (after_input r e) - length (after_timer r e)) e.line) is_before
  where
    by : (b : Bool) → awaits_packet e.action ≡ b → (if b then after else expired) ≡ length (after_timer r e)
    by true is = all ∙ ap (λ (l : List Sent). length l) (awaited_alone r e e.action is)
    by false is = is_expired bar is

    timer : (if awaits_packet e.action then after else expired) ≡ length (after_timer r e)
    timer = by (awaits_packet e.action) refl

-- no expiry lies at or before a moment
undue_in : (until n : ℕ) (s : SenderState) → due_by until (deadline_of s) ≡ None
    → repeated (λ t. due_by until (deadline_of t)) (λ at t. expired at t.endpoint.connection t) n s ≡ Ok s
undue_in until zero s h = rw h refl
undue_in until (suc n) s h = rw h refl

pub undue : (until : ℕ) (s : SenderState) → due_by until (deadline_of s) ≡ None → advanced until s ≡ Ok s
undue until s h = undue_in until (places_left s) s h

of_due : (until : ℕ) (due : Option ℕ) → is_some due ≡ false → due ≡ None
of_due until None h = refl
of_due until (Some at) h = absurd cc

pub none_due : (at moment : ℕ) (s : SenderState) → moment ≡ at → is_some (due_by moment (deadline_of s)) ≡ false → advanced at s ≡ Ok s
none_due at moment s is none =
    undue at s (of_due moment (due_by at (deadline_of s)) (subst (λ (m : ℕ). is_some (due_by m (deadline_of s)) ≡ false) is none))

pub not_due : (r : RunStateView) (e : Event) (moment : ℕ) → awaits_packet e.action ≡ false → moment ≡ action_time_not_before_clock r e
    → is_some (due_by moment (deadline_of r.host.state)) ≡ false → length (unmatched r) ≡ length (after_timer r e)
not_due r e moment not is none =
    let came : advanced (action_time_not_before_clock r e) r.host.state ≡ Ok r.host.state =
    undue (action_time_not_before_clock r e) r.host.state (of_due moment (due_by (action_time_not_before_clock r e) (deadline_of r.host.state))
    (subst (λ (m : ℕ). is_some (due_by m (deadline_of r.host.state)) ≡ false) is none)) in
    sym (ap (λ (l : List Sent). length l) (timer_of r e e.action not ∙ ap (packets_in (unmatched r)) came))

pub has_expiry_by : (r : RunStateView) (e : Event) (moment : ℕ) → awaits_packet e.action ≡ false → moment ≡ action_time_not_before_clock r e
    → length (packets_in (unmatched r) (advanced moment r.host.state)) ≡ length (after_timer r e)
has_expiry_by r e moment not is =
    ap (λ (m : ℕ). length (packets_in (unmatched r) (advanced m r.host.state))) is
    ∙ sym (ap (λ (l : List Sent). length l) (timer_of r e e.action not))

pub goes_by : (old new : HostView) (rule : SenderState → Result SenderState Halt) (result : Result (Unit {0}) HostEnd) → old.end_reason ≡ None → Goes old rule result new
    → Gives (rule old.state) result new.state
goes_by old new rule result live h = let reported : GoesFrom None old rule result new = subst (λ o. GoesFrom o old rule result new) live h in reported.0
