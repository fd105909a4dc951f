-- Where a text passes, its recording follows its run.
use Rattle.std.proofs.Common.{◌≡◌, ℕ, suc, ◌+◌, ◌<◌, ◌≤◌, max, nat_le, Bool, true, false, if◌then◌else◌, Option, Some, None, List, [], ◌∷◌, ◌++◌, length, map, slice_get, Result, Ok, Err, refl, sym, ap, subst, ◌∙◌, inl, inr, append_assoc, append-nil, arith}
use Rattle.std.specs.Prelude.{IfSome, option_map, unwrap_or}
use Rattle.std.proofs.lemmas.Bool.{leb-true}
use Rattle.std.proofs.lemmas.List.{map-append}
use Rattle.pd_settings.specs.declared.settings.Settings.{Settings}
use Rattle.pd_script.specs.Script.{script_of}
use Rattle.pd_script.specs.declared.calls.Call.{Call}
use Rattle.pd_script.specs.declared.packets.Packet.{Packet}
use Rattle.pd_script.specs.declared.parsed.Parsed.{Parsed}
use Rattle.pd_script.specs.declared.script_events.Action.{Action}
use Rattle.pd_script.specs.declared.script_events.Action.TheVariants.{Inbound, Outbound, Call as Calls, Command, Code}
use Rattle.pd_script.specs.declared.script_events.Event.{Event}
use Rattle.pd_script.specs.declared.script_header.HeaderItem.{HeaderItem}
use Rattle.pd_seg.specs.declared.call_results.Answer.{Answer}
use Rattle.pd_seg.specs.declared.segments.Sent.{Sent}
use Rattle.pd_host.specs.Arrivals.{arrived}
use Rattle.pd_host.specs.Calls.{called}
use Rattle.pd_host.specs.Expiries.{advanced, deadline_of, due_by}
use Rattle.pd_host.specs.Host.{then_on}
use Rattle.pd_host.specs.declared.halts.Halt.{Halt}
use Rattle.pd_host.specs.declared.halts.Halt.TheVariants as halt
use Rattle.pd_host.specs.declared.endpoint.SenderState.{SenderState}
use Rattle.pd_match.specs.Calls.{result_mismatch}
use Rattle.pd_print.specs.Sent.{packet_of}
use Rattle.pd_run.specs.InboundSegment.{segment_in}
use Rattle.pd_run.specs.Run.{start_of, on_script, verdict_from}
use Rattle.pd_run.specs.Step as run
use Rattle.pd_run.specs.Step.{RunStateView, tolerance_of, comparison_noted, on_step, acted, on_arrival, on_answer, answers, step}
use Rattle.pd_run.specs.Times.{single_moment_or_base, time_range_of, is_not_too_late_within_tolerance, base_from_moment_or_later_of_base_and_sent}
use Rattle.pd_run.specs.StopReason.{verdict_at, verdict_by_step, stop_reason}
use Rattle.pd_run.specs.declared.verdict.Verdict.{Verdict}
use Rattle.pd_run.specs.declared.verdict.Verdict.TheVariants.{Pass, Syntax}
use Rattle.pd_run.specs.declared.stop_reason.StopReason.{StopReason}
use Rattle.pd_run.specs.declared.prechecks.Precheck.TheVariants.{OverLimit, NotRun, Backwards}
use Rattle.pd_run.specs.declared.stop_reason.StopReason.TheVariants.{FailedPrecheck, Halted, Missing, Differs, Answered}
use Rattle.pd_record.specs.FollowsRun.{Input, input_at, inputs_from, inputs_of, matched_at, matched_from, matched_of_run, own_event_in, all_own_events, inputs_in, departure_at, departures_in, departed, FollowsRun, RecordingsFollowRuns}
use Rattle.pd_record.specs.Recording.{RecordedScriptView, records, closed, recorded_script_of, recording_in, events_in, event_in, events_of_all}
use Rattle.pd_record.specs.Recorder.{RecorderView, EventRecordingView, Answers, then_do, blank_from, recorded_as, event_at, happened, leaves_next, departs, left_by, with_base, action_time_not_before_clock, inputs, arrives, answer_at, with_answer, calls, based_after, meets, meets_oldest, precheck_at, performed, recorded}
use Rattle.pd_record.specs.declared.record_error.RecordError.TheVariants.{Stopped}
use Rattle.pd_record.specs.declared.recorded.OwnEvent.{OwnEvent}
use Rattle.pd_record.specs.declared.recorded.RecordedEvent.{RecordedEvent}
use Rattle.pd_run.specs.Laws.{IsUnderway}
use Rattle.pd_run.proofs.Bounds.{agreed, step_performs}
use Rattle.pd_record.proofs.Again.{Bases, IsReady, gone, has_happened, packet_went, event_went, events_went}
use Rattle.pd_record.proofs.Freed.{came_by, in_front, both_in_front, find_due, advanced_freed, none_due}
use Rattle.pd_record.proofs.FreedArrivals.{arrived_freed}
use Rattle.pd_record.proofs.FreedCalls.{beside_answer, called_freed}
use Rattle.pd_record.proofs.Leaves.{no_items, stands_next, expires_next}
use Rattle.pd_record.proofs.Lines.{verdict_begun}
use Rattle.pd_record.proofs.Meeting.{Met, Waits, met, same_before, without_first, moment, LeftOver, all_left}
use Rattle.pd_record.proofs.Passing.{ok, given, both, no_refusal, own_of, answer_own, took, tracked, blank}

-- ---- lists of what was recorded

inputs_append : (xs ys : List RecordedEvent) → inputs_in (xs ++ ys) ≡ inputs_in xs ++ inputs_in ys
inputs_append [] ys = refl
inputs_append (x ∷ xs) ys =
    ap (λ (l : List (ℕ × Input)). input_at x.at x.event.action ++ l) (inputs_append xs ys) ∙ sym (append_assoc (input_at x.at x.event.action) (inputs_in xs) (inputs_in ys))

departures_append : (xs ys : List RecordedEvent) → departures_in (xs ++ ys) ≡ departures_in xs ++ departures_in ys
departures_append [] ys = refl
departures_append (x ∷ xs) ys =
    ap (λ (l : List (ℕ × Packet)). departure_at x.at x.event.action ++ l) (departures_append xs ys)
    ∙ sym (append_assoc (departure_at x.at x.event.action) (departures_in xs) (departures_in ys))

-- the recording of one event of the script
abbrev of_took : EventRecordingView → List RecordedEvent
of_took x = x.before ++ own_event_in x.own

-- ---- a run and the recording of its text

-- a run, and a tape on which the packets that it hasn't taken are recorded in part
record Follows (r : RunStateView) (t : RecorderView) (w : List Sent) : Type 0 where
  base : t.base ≡ r.base
  clock : t.run.clock ≡ r.clock
  unmet : t.unmet ≡ map moment w
  state : r.host.state ≡ in_front w t.run.host.state
  header_tolerance : t.run.header_tolerance ≡ r.header_tolerance
  ready : IsReady t.count t.run

-- one event more of both
record Goes (r s : RunStateView) (w : List Sent) (e : Event) (a : Action) (y : RecorderView × EventRecordingView) : Type 0 where
  later : List Sent
  follows : Follows s y.0 later
  inputs : inputs_in (of_took y.1) ≡ input_at (run.action_time_not_before_clock r e) a
  packets : map departed w ++ departures_in (of_took y.1) ≡ map departed (matched_at r e a) ++ map departed later

-- ---- expected packets

-- the oldest of those that were recorded is met
oldest_met : (r s : RunStateView) (t : RecorderView) (x : Sent) (ws : List Sent) (e : Event) (p : Packet) (y : RecorderView × EventRecordingView) → Follows r t (x ∷ ws)
    → run.performed r e (Outbound p) ≡ Ok s → meets_oldest t e t.unmet ≡ Ok y → Goes r s (x ∷ ws) e (Outbound p) y
oldest_met r s t x ws e p y f h k = go m.1.waits
  where
    m : (sent : Sent) × Met r s e sent
    m = met r s e p h

    tape : RecorderView
    tape = based_after e.time (Some x.at) (record t { unmet = map moment ws })

    its : (tape, took [] None) ≡ y
    its = given (tape, took [] None) y (ap (meets_oldest t e) (sym f.unmet) ∙ k)

    go : Waits r s e m.1.before → Goes r s (x ∷ ws) e (Outbound p) y
    go (inl a) =
        let first : Some m.0 ≡ Some x = sym m.1.first ∙ ap (λ (z : SenderState). slice_get z.endpoint.outbox 0) (a.0 ∙ f.state) in
        let same : m.0 ≡ x = cc in
        subst (Goes r s (x ∷ ws) e (Outbound p)) its (record {
          later = ws;
          follows = record {
            base = ap (λ (b : ℕ). base_from_moment_or_later_of_base_and_sent b e.time x.at) f.base ∙ (ap (λ (z : Sent). base_from_moment_or_later_of_base_and_sent r.base e.time z.at) (sym same) ∙ sym m.1.base);
            clock = f.clock ∙ sym a.1;
            unmet = refl;
            state = m.1.state ∙ ap without_first (a.0 ∙ f.state);
            header_tolerance = f.header_tolerance ∙ sym m.1.header_tolerance;
            ready = f.ready;
          };
          inputs = refl;
          packets = append-nil (map departed (x ∷ ws)) ∙ (ap (λ (z : Sent). departed z ∷ map departed ws) (sym same) ∙ ap (λ (l : List Sent). map departed l ++ map departed ws) (sym m.1.happened));
        })
    go (inr b) =
        let full : suc (length (ws ++ t.run.host.state.endpoint.outbox)) ≡ 0 = ap (λ (z : SenderState). length z.endpoint.outbox) (sym f.state) ∙ b.0 in
        absurd (omega (arith, full))

-- the packet that a run takes leaves next on a tape that waits for none
leaves_so : (r s : RunStateView) (t : RecorderView) (e : Event) (sent : Sent) → Follows r t [] → Met r s e sent
    → leaves_next (is_not_too_late_within_tolerance (time_range_of t.base e.time) (tolerance_of t.run)) t.run ≡ Some sent
leaves_so r s t e sent f m = go m.waits
  where
    may : ℕ → Bool
    may = is_not_too_late_within_tolerance (time_range_of t.base e.time) (tolerance_of t.run)

    tolerance : tolerance_of r ≡ tolerance_of t.run
    tolerance = ap (λ (o : Option ℕ). unwrap_or o r.host.state.settings.tolerance_us) (sym f.header_tolerance) ∙ ap (λ (z : SenderState). unwrap_or t.run.header_tolerance z.settings.tolerance_us) f.state

    go : Waits r s e m.before → leaves_next may t.run ≡ Some sent
    go (inl a) = stands_next may t.run sent (ap (λ (z : SenderState). slice_get z.endpoint.outbox 0) (sym (a.0 ∙ f.state)) ∙ m.first)
    go (inr b) =
        let empty : slice_get t.run.host.state.endpoint.outbox 0 ≡ None =
        ap (λ (z : SenderState). slice_get z.endpoint.outbox 0) (sym f.state) ∙ ap (λ (l : List Sent). slice_get l 0) (no_items r.host.state.endpoint.outbox b.0) in
        let reach : may b.1 ≡ true =
        ap (λ (base : ℕ). is_not_too_late_within_tolerance (time_range_of base e.time) (tolerance_of t.run) b.1) f.base ∙ (ap (λ (n : ℕ). is_not_too_late_within_tolerance (time_range_of r.base e.time) n b.1) (sym tolerance) ∙ b.4) in
        expires_next may may t.run sent
        (empty, b.1, m.before, ap (λ (z : SenderState). deadline_of z) (sym f.state) ∙ b.2, reach, ap (advanced b.1) (sym f.state) ∙ b.3, m.first) reach

module _ (laws : Bases) where
  -- a packet that leaves is met
  newly_met : (r s : RunStateView) (t : RecorderView) (e : Event) (p : Packet) (y : RecorderView × EventRecordingView) → Follows r t []
      → run.performed r e (Outbound p) ≡ Ok s → meets_oldest t e t.unmet ≡ Ok y → Goes r s [] e (Outbound p) y
  newly_met r s t e p y f h k =
      let m = met r s e p h in
      let sent : Sent = m.0 in
      let may : ℕ → Bool = is_not_too_late_within_tolerance (time_range_of t.base e.time) (tolerance_of t.run) in
      let next : leaves_next may t.run ≡ Some sent = leaves_so r s t e sent f m.1 in
      let after : RecorderView × RecordedEvent → RecorderView × EventRecordingView = λ z. (based_after e.time (Some sent.at) z.0, took [] (Some (own_of z.1))) in
      let k1 : meets t e (leaves_next may t.run) ≡ Ok y = ap (meets_oldest t e) (sym f.unmet) ∙ k in
      let k2 : meets t e (Some sent) ≡ Ok y = ap (meets t e) (sym next) ∙ k1 in
      let b = both (λ (z : RecorderView × RecordedEvent). ok (after z)) (departs t e.line sent) y k2 in
      let packet : Packet = packet_of sent.segment in
      let x : Event = event_at t e.line sent.at (Outbound packet) in
      let was = has_happened t e.line sent.at (Outbound packet) b.0 b.1 in
      let u : RunStateView = was.0 in
      let n = met t.run u x packet (step_performs t.run u x was.1.0) in
      let alike = same_before r s t.run u e x sent n.0 (sym f.state) f.clock m.1 n.1 in
      let left : RecorderView × RecordedEvent = (gone t u, recorded_as sent.at x) in
      let went = packet_went laws t e.line may sent b.0 f.ready next b.1 in
      let its : after left ≡ y = ap after (sym was.1.2) ∙ given (after b.0) y b.2 in
      subst (Goes r s [] e (Outbound p)) its (record {
        later = [];
        follows = record {
          base = ap (λ (z : ℕ). base_from_moment_or_later_of_base_and_sent z e.time sent.at) f.base ∙ sym m.1.base;
          clock = alike.1;
          unmet = f.unmet;
          state = m.1.state ∙ (ap without_first (sym alike.0) ∙ sym n.1.state);
          header_tolerance = n.1.header_tolerance ∙ (f.header_tolerance ∙ sym m.1.header_tolerance);
          ready = subst (λ (z : RecorderView × RecordedEvent). IsReady z.0.count z.0.run) was.1.2 went.0.ready;
        };
        inputs = refl;
        packets = ap (λ (l : List Sent). map departed l ++ []) (sym m.1.happened);
      })

  expected_goes : (r s : RunStateView) (t : RecorderView) (w : List Sent) (e : Event) (p : Packet) (y : RecorderView × EventRecordingView) → Follows r t w
      → run.performed r e (Outbound p) ≡ Ok s → meets_oldest t e t.unmet ≡ Ok y → Goes r s w e (Outbound p) y
  expected_goes r s t [] e p y f h k = newly_met r s t e p y f h k
  expected_goes r s t (x ∷ ws) e p y f h k = oldest_met r s t x ws e p y f h k

-- ---- inputs

then_both : {A B : Type 0} (next : A → Result B Halt) (came : Result A Halt) (y : B) → then_on next came ≡ Ok y → (x : A) × (came ≡ Ok x) × (next x ≡ Ok y)
then_both next (Ok x) y h = (x, refl, h)
then_both next (Err stop) y h = absurd cc

abbrev came_out : {A : Type 0} → A → Result A Halt
came_out x = Ok x

same_came : {A : Type 0} (o : Result A Halt) (x y : A) → o ≡ Ok x → o ≡ Ok y → x ≡ y
same_came o x y a b = let same : came_out x ≡ came_out y = sym a ∙ b in cc

-- the effect of an arrival or a call on a state at a moment
abbrev Acting : Type 1
Acting = ℕ → SenderState → SenderState → Type 0

abbrev ArrivesAt : Packet → Acting
ArrivesAt p at s t = arrived (segment_in p) at s ≡ Ok t

abbrev CalledAt : Call → Acting
CalledAt call at s t = (answer : Answer) × (called call at s ≡ Ok (t, answer))

-- the packets that nobody has taken don't matter to it
record IsFree (acts : Acting) : Type 0 where
  freed : (v : List Sent) (at : ℕ) (s b : SenderState) → acts at (in_front v s) b → (c : SenderState) × acts at s c × (b ≡ in_front v c)
  one : (at : ℕ) (s b c : SenderState) → acts at s b → acts at s c → b ≡ c

arrivals_free : (p : Packet) → IsFree (ArrivesAt p)
arrivals_free p = record {
  freed = λ v at s b h. came_by (in_front v) (arrived (segment_in p) at (in_front v s)) (arrived (segment_in p) at s) b (arrived_freed v (segment_in p) at s) h;
  one = λ at s b c h k. same_came (arrived (segment_in p) at s) b c h k;
}

calls_free : (call : Call) → IsFree (CalledAt call)
calls_free call = record {
  freed = λ v at s b h.
      (let came = came_by (beside_answer v) (called call at (in_front v s)) (called call at s) (b, h.0) (called_freed v call at s) h.1 in
      (came.0.0, (came.0.1, came.1), ap (λ (x : SenderState × Answer). x.0) came.2));
  one = λ at s b c h k. ap (λ (x : SenderState × Answer). x.0) (same_came (called call at s) (b, h.0) (c, k.0) h.1 k.1);
}

-- it acted in a run: after all expiries up to its moment
abbrev ActedIn : Acting → RunStateView → Event → RunStateView → Type 0
ActedIn acts r e s = (a b : SenderState) × (advanced (run.action_time_not_before_clock r e) r.host.state ≡ Ok a) × acts (run.action_time_not_before_clock r e) a b × (acted r e b ≡ s)

abbrev run_came : RunStateView → Result RunStateView StopReason
run_came r = Ok r

arrival_came : (r s : RunStateView) (e : Event) (came : Result SenderState Halt) → on_arrival r e came ≡ Ok s → (b : SenderState) × (came ≡ Ok b) × (acted r e b ≡ s)
arrival_came r s e (Ok b) h = (b, refl, (let same : run_came (acted r e b) ≡ run_came s = h in cc))
arrival_came r s e (Err stop) h = absurd cc

arrival_in : (r s : RunStateView) (e : Event) (p : Packet) → run.performed r e (Inbound p) ≡ Ok s → ActedIn (ArrivesAt p) r e s
arrival_in r s e p h =
    let came = arrival_came r s e (run.arrives r e p) h in
    let parts = then_both (arrived (segment_in p) (run.action_time_not_before_clock r e)) (advanced (run.action_time_not_before_clock r e) r.host.state) came.0 came.1 in
    (parts.0, came.0, parts.1, parts.2, came.2)

answer_came : (r s : RunStateView) (e : Event) (call : Call) (came : Result (SenderState × Answer) Halt) → on_answer r e call came ≡ Ok s
    → (x : SenderState × Answer) × (came ≡ Ok x) × (acted r e x.0 ≡ s)
answer_came r s e call (Ok (b, answer)) h = ((b, answer), refl, agreed (acted r e b) s _ (result_mismatch call.result answer) h)
answer_came r s e call (Err stop) h = absurd cc

call_in : (r s : RunStateView) (e : Event) (call : Call) → run.performed r e (Calls call) ≡ Ok s → ActedIn (CalledAt call) r e s
call_in r s e call h =
    let came = answer_came r s e call (answers r e call) h in
    let parts = then_both (called call (run.action_time_not_before_clock r e)) (advanced (run.action_time_not_before_clock r e) r.host.state) came.0 came.1 in
    (parts.0, came.0.0, parts.1, (came.0.1, parts.2), came.2)

-- where no expiry is due any more it acts on the state itself
acts_now : (acts : Acting) (q u : RunStateView) (x : Event) (at : ℕ) → run.action_time_not_before_clock q x ≡ at → find_due at q.host.state ≡ None → ActedIn acts q x u
    → acts at q.host.state u.host.state × (u.clock ≡ at) × (u.header_tolerance ≡ q.header_tolerance)
acts_now acts q u x at moment none h =
    let still : q.host.state ≡ h.0 = same_came (advanced at q.host.state) q.host.state h.0 (none_due at q.host.state none) (ap (λ (m : ℕ). advanced m q.host.state) (sym moment) ∙ h.2) in
    let after : h.1 ≡ u.host.state = ap (λ (z : RunStateView). z.host.state) h.4 in (
      subst (λ (z : SenderState). acts at q.host.state z) after (subst (λ (z : SenderState). acts at z h.1) (sym still) (subst (λ (m : ℕ). acts m h.0 h.1) moment h.3)),
      sym (ap (λ (z : RunStateView). z.clock) h.4) ∙ moment,
      sym (ap (λ (z : RunStateView). z.header_tolerance) h.4),
    )

-- the recording of an input at a moment
record OwnActs (acts : Acting) (at : ℕ) (a : Action) (q : RecorderView) (z : RecorderView × OwnEvent) : Type 0 where
  after : RunStateView
  acts_so : acts at q.run.host.state after.host.state
  clock : after.clock ≡ at
  header_tolerance : after.header_tolerance ≡ q.run.header_tolerance
  tape : z.0 ≡ gone q after
  input : inputs_in (z.1.recorded ∷ []) ≡ input_at at a
  packet : departures_in (z.1.recorded ∷ []) ≡ []

-- the moment of an input that was recorded
acts_then : (q : RecorderView) (line at : ℕ) (action : Action) → q.run.base ≤ at → q.run.clock ≤ at → run.action_time_not_before_clock q.run (event_at q line at action) ≡ at
acts_then q line at action base clock = omega (arith, base, clock)

arrival_own : (line at : ℕ) (p : Packet) (q : RecorderView) (z : RecorderView × OwnEvent) → IsReady q.count q.run → q.run.clock ≤ at → find_due at q.run.host.state ≡ None
    → arrives line at p q ≡ Ok z → OwnActs (ArrivesAt p) at (Inbound p) q z
arrival_own line at p q z ready early none h =
    let b = both (λ (x : RecorderView × RecordedEvent). ok (x.0, own_of x.1)) (happened q line at (Inbound p)) z h in
    let was = has_happened q line at (Inbound p) b.0 b.1 in
    let x : Event = event_at q line at (Inbound p) in
    let base : q.run.base ≤ at = omega (arith, early, ready.timely) in
    let so = acts_now (ArrivesAt p) q.run was.0 x at (acts_then q line at (Inbound p) base early) none (arrival_in q.run was.0 x p (step_performs q.run was.0 x was.1.0)) in
    let its : (gone q was.0, own_of (recorded_as at x)) ≡ z = ap (λ (w : RecorderView × RecordedEvent). (w.0, own_of w.1)) (sym was.1.2) ∙ given (b.0.0, own_of b.0.1) z b.2 in
    subst (OwnActs (ArrivesAt p) at (Inbound p) q) its
    (record { after = was.0; acts_so = so.0; clock = so.1; header_tolerance = so.2; tape = refl; input = refl; packet = refl })

call_own : (line at : ℕ) (call : Call) (q : RecorderView) (z : RecorderView × OwnEvent) → IsReady q.count q.run → q.run.clock ≤ at → find_due at q.run.host.state ≡ None
    → calls line at call q ≡ Ok z → OwnActs (CalledAt call) at (Calls call) q z
call_own line at call q z ready early none h =
    let seen : Answer → RecorderView × RecordedEvent → RecorderView × OwnEvent = λ answer x. (x.0, answer_own call answer x.1) in
    let a = both (λ (answer : Answer). then_do (λ (x : RecorderView × RecordedEvent). ok (seen answer x)) (happened q line at (Calls (with_answer call answer)))) (answer_at q line at call) z h in
    let made : Call = with_answer call a.0 in
    let b = both (λ (x : RecorderView × RecordedEvent). ok (seen a.0 x)) (happened q line at (Calls made)) z a.2 in
    let was = has_happened q line at (Calls made) b.0 b.1 in
    let x : Event = event_at q line at (Calls made) in
    let base : q.run.base ≤ at = omega (arith, early, ready.timely) in
    let so = acts_now (CalledAt made) q.run was.0 x at (acts_then q line at (Calls made) base early) none (call_in q.run was.0 x made (step_performs q.run was.0 x was.1.0)) in
    let its : seen a.0 (gone q was.0, recorded_as at x) ≡ z = ap (seen a.0) (sym was.1.2) ∙ given (seen a.0 b.0) z b.2 in
    subst (OwnActs (CalledAt call) at (Calls call) q) its
    (record { after = was.0; acts_so = so.0; clock = so.1; header_tolerance = so.2; tape = refl; input = refl; packet = refl })

-- the verdict of a script that is run
on_run : {A : Type 0} (refused : ℕ → A) (stopped : Verdict → A) (go : RunStateView → A) (settings : Settings) (p : Parsed) (r : RunStateView)
    → p.fault ≡ None → start_of p.header.items settings ≡ Ok r → on_script refused stopped go settings p ≡ go r
on_run refused stopped go settings p r fault start = rw (fault, start) refl

-- a script of which something is recorded has no fault
unrefused : (settings : Settings) (p : Parsed) (recorded_script : RecordedScriptView) → recording_in settings p ≡ Ok recorded_script
    → (p.fault ≡ None) × (recorded_script_of p.header.items p.events settings ≡ Ok recorded_script)
unrefused settings p recorded_script h = go p.fault refl
  where
    go : (fault : Option ℕ) → p.fault ≡ fault → (p.fault ≡ None) × (recorded_script_of p.header.items p.events settings ≡ Ok recorded_script)
    go None is = let read : recording_in settings p ≡ recorded_script_of p.header.items p.events settings = rw is refl in (is, sym read ∙ h)
    go (Some line) is = absurd (let refused : recording_in settings p ≡ Err (Stopped (Syntax line)) = rw is refl in cc)

-- and its run begins
starts_so : (header : List HeaderItem) (es : List Event) (settings : Settings) (recorded_script : RecordedScriptView) → recorded_script_of header es settings ≡ Ok recorded_script
    → (r : RunStateView) × (start_of header settings ≡ Ok r) × (then_do closed (records es [] (blank r)) ≡ Ok recorded_script)
starts_so header es settings recorded_script h = go (start_of header settings) refl
  where
    go : (came : Result RunStateView Verdict) → start_of header settings ≡ came
        → (r : RunStateView) × (start_of header settings ≡ Ok r) × (then_do closed (records es [] (blank r)) ≡ Ok recorded_script)
    go (Ok r) is = (r, is, sym (ap (λ (x : Result RunStateView Verdict). then_do (λ (t : RecorderView). then_do closed (records es [] t)) (blank_from x)) is) ∙ h)
    go (Err v) is =
        absurd (let refused : recorded_script_of header es settings ≡ Err (Stopped v) = ap (λ (x : Result RunStateView Verdict). then_do (λ (t : RecorderView). then_do closed (records es [] t)) (blank_from x)) is in cc)

module _ (laws : Bases) where
  input_goes : (acts : Acting) → IsFree acts → (act : RecorderView → Answers (RecorderView × OwnEvent)) (r s : RunStateView) (t : RecorderView) (w : List Sent) (e : Event) (a : Action) (y : RecorderView × EventRecordingView)
      → ((q : RecorderView) (z : RecorderView × OwnEvent) → IsReady q.count q.run → q.run.clock ≤ action_time_not_before_clock t e → find_due (action_time_not_before_clock t e) q.run.host.state ≡ None → act q ≡ Ok z → OwnActs acts (action_time_not_before_clock t e) a q z)
      → matched_at r e a ≡ [] → Follows r t w → IsReady y.0.count y.0.run → ActedIn acts r e s → inputs act t e ≡ Ok y → Goes r s w e a y
  input_goes acts free act r s t w e a y own none_taken f ready h k =
      let at : ℕ = action_time_not_before_clock t e in
      let same_at : at ≡ run.action_time_not_before_clock r e =
      ap (λ (b : ℕ). max (single_moment_or_base b e.time) t.run.clock) f.base ∙ ap (λ (c : ℕ). max (single_moment_or_base r.base e.time) c) f.clock in
      let state : SenderState = t.run.host.state in
      let after : RecorderView × List RecordedEvent → RecorderView × OwnEvent → RecorderView × EventRecordingView = λ x z. (with_base (single_moment_or_base t.base e.time) z.0, took x.1 (Some z.1)) in
      let x = both (λ (x : RecorderView × List RecordedEvent). then_do (λ (z : RecorderView × OwnEvent). ok (after x z)) (act x.0)) (left_by e.line at t) y k in
      let z = both (λ (z : RecorderView × OwnEvent). ok (after x.0 z)) (act x.0.0) y x.2 in
      -- the expiries up to the moment
      let in_run : advanced at (in_front w state) ≡ Ok h.0 =
      ap (λ (m : ℕ). advanced m (in_front w state)) same_at ∙ (ap (advanced (run.action_time_not_before_clock r e)) (sym f.state) ∙ h.2) in
      let alone = came_by (in_front w) (advanced at (in_front w state)) (advanced at state) h.0 (advanced_freed w at state) in_run in
      let early : t.run.clock ≤ action_time_not_before_clock t e = omega arith in
      let all = all_left laws 4096 e.line at [] t x.0 alone.0 f.ready early alone.1 x.1 in
      let left : List Sent = all.1 in
      let over : LeftOver at t all.0 left x.0.0 alone.0 = all.3 in
      let q : SenderState = x.0.0.run.host.state in
      let before : h.0 ≡ in_front (w ++ left) q = alone.2 ∙ (ap (in_front w) over.state ∙ both_in_front w left q) in
      -- the input itself
      let o : OwnActs acts at a x.0.0 z.0 = own x.0.0 z.0 over.ready over.early over.none z.1 in
      let did : acts at (in_front (w ++ left) q) h.1 =
      subst (λ (v : SenderState). acts at v h.1) before (subst (λ (m : ℕ). acts m h.0 h.1) (sym same_at) h.3) in
      let freed = free.freed (w ++ left) at q h.1 did in
      let its : freed.0 ≡ o.after.host.state = free.one at q freed.0 o.after.host.state freed.1 o.acts_so in
      let is : after x.0 z.0 ≡ y = given (after x.0 z.0) y z.2 in
      let list : x.0.1 ≡ all.0 = all.2 in
      let run_of : z.0.0.run ≡ o.after = ap (λ (v : RecorderView). v.run) o.tape in
      subst (Goes r s w e a) is (record {
        later = w ++ left;
        follows = record {
          base = ap (λ (b : ℕ). single_moment_or_base b e.time) f.base ∙ ap (λ (v : RunStateView). v.base) h.4;
          clock = ap (λ (v : RunStateView). v.clock) run_of ∙ (o.clock ∙ (same_at ∙ ap (λ (v : RunStateView). v.clock) h.4));
          unmet = ap (λ (v : RecorderView). v.unmet) o.tape ∙ (over.unmet ∙ (ap (λ (l : List ℕ). l ++ map moment left) f.unmet ∙ sym (map-append moment w left)));
          state = sym (ap (λ (v : RunStateView). v.host.state) h.4) ∙ (freed.2 ∙ (ap (in_front (w ++ left)) its ∙ ap (λ (v : RunStateView). in_front (w ++ left) v.host.state) (sym run_of)));
          header_tolerance = ap (λ (v : RunStateView). v.header_tolerance) run_of ∙ (o.header_tolerance ∙ (over.header_tolerance ∙ (f.header_tolerance ∙ ap (λ (v : RunStateView). v.header_tolerance) h.4)));
          ready = subst (λ (v : RecorderView × EventRecordingView). IsReady v.0.count v.0.run) (sym is) ready;
        };
        inputs =
            inputs_append x.0.1 (z.0.1.recorded ∷ [])
            ∙ (ap (λ (l : List RecordedEvent). inputs_in l ++ inputs_in (z.0.1.recorded ∷ [])) list
            ∙ (ap (λ (l : List (ℕ × Input)). l ++ inputs_in (z.0.1.recorded ∷ [])) over.inputs
            ∙ (o.input ∙ ap (λ (m : ℕ). input_at m a) same_at)));
        packets =
            ap (λ (l : List (ℕ × Packet)). map departed w ++ l)
            (departures_append x.0.1 (z.0.1.recorded ∷ [])
            ∙ (ap (λ (l : List RecordedEvent). departures_in l ++ departures_in (z.0.1.recorded ∷ [])) list
            ∙ (ap (λ (l : List (ℕ × Packet)). l ++ departures_in (z.0.1.recorded ∷ [])) over.packets
            ∙ (ap (λ (l : List (ℕ × Packet)). map departed left ++ l) o.packet ∙ append-nil (map departed left)))))
            ∙ (sym (map-append departed w left) ∙ ap (λ (l : List Sent). map departed l ++ map departed (w ++ left)) (sym none_taken));
      })

  -- ---- events of the script

  performed_goes : (r s : RunStateView) (t : RecorderView) (w : List Sent) (e : Event) (a : Action) (y : RecorderView × EventRecordingView) → Follows r t w → IsReady y.0.count y.0.run
      → run.performed r e a ≡ Ok s → performed t e a ≡ Ok y → Goes r s w e a y
  performed_goes r s t w e (Inbound p) y f ready h k =
      input_goes (ArrivesAt p) (arrivals_free p) (arrives e.line (action_time_not_before_clock t e) p) r s t w e (Inbound p) y (λ q z. arrival_own e.line (action_time_not_before_clock t e) p q z) refl f ready (arrival_in r s e p h) k
  performed_goes r s t w e (Outbound p) y f ready h k = expected_goes laws r s t w e p y f h k
  performed_goes r s t w e (Calls call) y f ready h k =
      input_goes (CalledAt call) (calls_free call) (calls e.line (action_time_not_before_clock t e) call) r s t w e (Calls call) y (λ q z. call_own e.line (action_time_not_before_clock t e) call q z) refl f ready (call_in r s e call h) k
  performed_goes r s t w e Command y f ready h k = absurd cc
  performed_goes r s t w e Code y f ready h k = absurd cc

  event_goes : (r s : RunStateView) (t : RecorderView) (w : List Sent) (e : Event) (y : RecorderView × EventRecordingView) → Follows r t w → step r e ≡ Ok s → recorded t e ≡ Ok y → Goes r s w e e.action y
  event_goes r s t w e y f h k =
      performed_goes r s t w e e.action y f (event_went laws t e y f.ready k).ready (step_performs r s e h) (no_refusal (performed t e e.action) (precheck_at t e) y k).1

  -- a step that stops has no verdict that passes
  never_passes : (line n : ℕ) (reason : StopReason) → verdict_at line reason ≡ Pass n → ⊥
  never_passes line n (FailedPrecheck OverLimit) h = cc
  never_passes line n (FailedPrecheck NotRun) h = cc
  never_passes line n (FailedPrecheck Backwards) h = cc
  never_passes line n (Halted halt.Unsupported) h = cc
  never_passes line n (Halted halt.Limit) h = cc
  never_passes line n Missing h = cc
  never_passes line n (Differs k sent q) h = cc
  never_passes line n (Answered answer q) h = cc

  no_stop : (line n : ℕ) (v : Verdict) (o : Option StopReason) → option_map (verdict_at line) o ≡ Some v → v ≡ Pass n → ⊥
  no_stop line n v None h is = cc
  no_stop line n v (Some reason) h is = let same : verdict_at line reason ≡ v = cc in never_passes line n reason (same ∙ is)

  passed_on : (n m : ℕ) (e : Event) (es : List Event) (r : RunStateView) (came : Result RunStateView Verdict) → step r e ≡ came
      → on_step (verdict_from n es) (λ v. v) came ≡ Pass m → (s : RunStateView) × (came ≡ Ok s) × (verdict_from n es s ≡ Pass m)
  passed_on n m e es r (Ok s) is h = (s, refl, h)
  passed_on n m e es r (Err v) is h =
      absurd (no_stop e.line m v (stop_reason r e) (laws.reasons r e ∙ ap verdict_by_step is) h)

  -- the recording of the events that are left, and the packets that a run takes of them
  abbrev AllGo : List Event → RunStateView → List Sent → List EventRecordingView → Type 0
  AllGo es r w per_event =
      (inputs_in (all_own_events per_event) ≡ inputs_from es r)
      × (later : List Sent)
      × (map departed w ++ departures_in (all_own_events per_event) ≡ map departed (matched_from es r) ++ map departed later)

  all_go : (es : List Event) (n m : ℕ) (r : RunStateView) (t : RecorderView) (w : List Sent) (per_event : List EventRecordingView) (y : RecorderView × List EventRecordingView) → Follows r t w
      → verdict_from n es r ≡ Pass m → records es per_event t ≡ Ok y → (more : List EventRecordingView) × (y.1 ≡ per_event ++ more) × AllGo es r w more
  all_go [] n m r t w per_event y f h k =
      subst (λ (z : RecorderView × List EventRecordingView). (more : List EventRecordingView) × (z.1 ≡ per_event ++ more) × AllGo [] r w more) (given (t, per_event) y k)
      ([], sym (append-nil per_event), (refl, w, append-nil (map departed w)))
  all_go (e ∷ es) n m r t w per_event y f h k =
      let b = both (λ (x : RecorderView × EventRecordingView). records es (per_event ++ x.1 ∷ []) x.0) (recorded t e) y k in
      let one = passed_on (n + 1) m e es r (step r e) refl h in
      let s : RunStateView = one.0 in
      let g : Goes r s w e e.action b.0 = event_goes r s t w e b.0 f one.1 b.1 in
      let rest = all_go es (n + 1) m s b.0.0 g.later (per_event ++ b.0.1 ∷ []) y g.follows one.2 b.2 in
      let list : List RecordedEvent = all_own_events rest.0 in
      let first : List RecordedEvent = of_took b.0.1 in
      let a : List (ℕ × Packet) = map departed (matched_at r e e.action) in
      let goes_on : on_step (inputs_from es) (λ v. []) (step r e) ≡ inputs_from es s = ap (on_step (inputs_from es) (λ v. [])) one.1 in
      let takes_on : on_step (matched_from es) (λ v. []) (step r e) ≡ matched_from es s = ap (on_step (matched_from es) (λ v. [])) one.1 in (
        b.0.1 ∷ rest.0,
        rest.1 ∙ append_assoc per_event (b.0.1 ∷ []) rest.0,
        (
          inputs_append first list ∙ (ap (λ (l : List (ℕ × Input)). l ++ inputs_in list) g.inputs ∙ (ap (λ (l : List (ℕ × Input)). input_at (run.action_time_not_before_clock r e) e.action ++ l) (rest.2.0 ∙ sym goes_on))),
          rest.2.1,
          ap (λ (l : List (ℕ × Packet)). map departed w ++ l) (departures_append first list)
              ∙ (sym (append_assoc (map departed w) (departures_in first) (departures_in list))
              ∙ (ap (λ (l : List (ℕ × Packet)). l ++ departures_in list) g.packets
              ∙ (append_assoc a (map departed g.later) (departures_in list)
              ∙ (ap (λ (l : List (ℕ × Packet)). a ++ l) rest.2.2
              ∙ (sym (append_assoc a (map departed (matched_from es s)) (map departed rest.2.1))
              ∙ (ap (λ (l : List (ℕ × Packet)). l ++ map departed rest.2.1) (sym (map-append departed (matched_at r e e.action) (matched_from es s)))
              ∙ ap (λ (l : List Sent). map departed (matched_at r e e.action ++ l) ++ map departed rest.2.1) (sym takes_on))))))),
        ),
      )

  -- ---- whole texts

  -- only packets are unmatched at the end
  no_inputs : (line until : ℕ) (t : RecorderView) (y : RecorderView × List RecordedEvent) → IsReady t.count t.run → t.run.clock ≤ until
      → ((a : SenderState) × (advanced until t.run.host.state ≡ Ok a)) → left_by line until t ≡ Ok y → inputs_in y.1 ≡ []
  no_inputs line until t y ready early came h =
      let all = all_left laws 4096 line until [] t y came.0 ready early came.1 h in
      ap inputs_in all.2 ∙ all.3.inputs

  -- a run that goes on has performed all expiries up to its clock
  none_overdue : (n : ℕ) (r : RunStateView) → IsUnderway n r → find_due r.clock r.host.state ≡ None
  none_overdue n r underway = go (deadline_of r.host.state) underway.up_to.up_to.deadline
    where
      by_test : (d : ℕ) (b : Bool) → nat_le d r.clock ≡ b → r.clock < d → due_by r.clock (Some d) ≡ None
      by_test d true is h = (let late : d ≤ r.clock = leb-true d r.clock is in absurd (omega (arith, late, h)))
      by_test d false is h = ap (λ (b : Bool). if b then Some d else None) is

      go : (o : Option ℕ) → IfSome o (λ d. (r.clock < d) × (d ≤ r.clock + underway.up_to.begun.max_rto_us)) → due_by r.clock o ≡ None
      go None h = refl
      go (Some d) h = by_test d (nat_le d r.clock) refl h.0

  -- all that was recorded, as the recording lists its events
  own_events : (o : Option OwnEvent) → event_in o ≡ events_in (own_event_in o)
  own_events None = refl
  own_events (Some own) = refl

  all_events : (per_event : List EventRecordingView) → events_of_all per_event ≡ events_in (all_own_events per_event)
  all_events [] = refl
  all_events (x ∷ per_event) =
      let event : RecordedEvent → Event = λ z. z.event in
      ap (λ (l : List Event). (events_in x.before ++ l) ++ events_of_all per_event) (own_events x.own)
      ∙ (ap (λ (l : List Event). (events_in x.before ++ events_in (own_event_in x.own)) ++ l) (all_events per_event)
      ∙ (ap (λ (l : List Event). l ++ events_in (all_own_events per_event)) (sym (map-append event x.before (own_event_in x.own)))
      ∙ sym (map-append event (x.before ++ own_event_in x.own) (all_own_events per_event))))

  tracks_follow : (text : List (List ℕ)) (settings : Settings) (r : RunStateView) (n : ℕ) (recorded_script : RecordedScriptView)
      → (script_of text).fault ≡ None → start_of (script_of text).header.items settings ≡ Ok r → verdict_from 0 (script_of text).events r ≡ Pass n
      → then_do closed (records (script_of text).events [] (blank r)) ≡ Ok recorded_script → FollowsRun text settings recorded_script
  tracks_follow text settings r n recorded_script fault start passes h =
      let p : Parsed = script_of text in
      let es : List Event = p.events in
      let underway : IsUnderway 0 r = laws.starts p.header.items settings r start in
      let zero_base : 0 ≡ r.base = omega (arith, underway.base) in
      let ready : IsReady 0 r = record { underway = underway; timely = omega (arith, zero_base) } in
      let f : Follows r (blank r) [] = record { base = zero_base; clock = refl; unmet = refl; state = refl; header_tolerance = refl; ready = ready } in
      let a = both closed (records es [] (blank r)) recorded_script h in
      let b = both (λ (y : RecorderView × List RecordedEvent). ok (tracked a.0.1 y.1)) (left_by 0 a.0.0.run.clock a.0.0) recorded_script a.2 in
      let rest : List RecordedEvent = b.0.1 in
      let went = events_went laws es [] (blank r) a.0 ready a.1 in
      let late : IsReady a.0.0.count a.0.0.run = went.2.ready in
      let quiet : advanced a.0.0.run.clock a.0.0.run.host.state ≡ Ok a.0.0.run.host.state =
      none_due a.0.0.run.clock a.0.0.run.host.state (none_overdue a.0.0.count a.0.0.run late.underway) in
      let none : inputs_in rest ≡ [] = no_inputs 0 a.0.0.run.clock a.0.0 b.0 late (omega arith) (a.0.0.run.host.state, quiet) b.1 in
      let all = all_go es 0 n r (blank r) [] [] a.0 f passes a.1 in
      let list : a.0.1 ≡ all.0 = all.1 in
      let inputs_here : inputs_of text settings ≡ inputs_from es r = on_run (λ line. []) (λ v. []) (inputs_from es) settings p r fault start in
      let taken_here : matched_of_run text settings ≡ matched_from es r = on_run (λ line. []) (λ v. []) (matched_from es) settings p r fault start in
      subst (FollowsRun text settings) (given (tracked a.0.1 rest) recorded_script b.2) (record {
        all = ap (λ (l : List Event). l ++ events_in rest) (all_events a.0.1) ∙ sym (map-append (λ (z : RecordedEvent). z.event) (all_own_events a.0.1) rest);
        inputs =
            inputs_append (all_own_events a.0.1) rest
            ∙ (ap (λ (l : List (ℕ × Input)). inputs_in (all_own_events a.0.1) ++ l) none
            ∙ (append-nil (inputs_in (all_own_events a.0.1))
            ∙ (ap (λ (l : List EventRecordingView). inputs_in (all_own_events l)) list ∙ (all.2.0 ∙ sym inputs_here))));
        packets = (
          map departed all.2.1 ++ departures_in rest,
          departures_append (all_own_events a.0.1) rest
              ∙ (ap (λ (l : List EventRecordingView). departures_in (all_own_events l) ++ departures_in rest) list
              ∙ (ap (λ (l : List (ℕ × Packet)). l ++ departures_in rest) all.2.2
              ∙ (append_assoc (map departed (matched_from es r)) (map departed all.2.1) (departures_in rest)
              ∙ ap (λ (l : List Sent). map departed l ++ (map departed all.2.1 ++ departures_in rest)) (sym taken_here)))),
        );
      })

  pub recordings_follow : RecordingsFollowRuns
  recordings_follow text settings n recorded_script passes h =
      let read = unrefused settings (script_of text) recorded_script h in
      let begun = starts_so (script_of text).header.items (script_of text).events settings recorded_script read.1 in
      tracks_follow text settings begun.0 n recorded_script read.0 begun.1 (sym (verdict_begun settings (script_of text) begun.0 read.0 begun.1) ∙ passes) begun.2
