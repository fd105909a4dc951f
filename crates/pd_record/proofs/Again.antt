-- Recording what was recorded gives the same events.
use Rattle.std.proofs.Common.{◌≡◌, ℕ, zero, suc, ◌+◌, ◌-◌, ◌≤◌, max, nat_le, Bool, true, Option, Some, None, List, [], ◌∷◌, ◌++◌, length, map, option_map, Result, Ok, Err, refl, sym, ap, subst, ◌∙◌, append_assoc, append-nil, length-append, arith}
use Rattle.std.proofs.lemmas.Bool.{leb-true}
use Rattle.pd_settings.specs.declared.settings.Settings.{Settings}
use Rattle.pd_script.specs.Script.{script_of}
use Rattle.pd_script.specs.declared.calls.Call.{Call}
use Rattle.pd_script.specs.declared.parsed.Parsed.{Parsed}
use Rattle.pd_script.specs.declared.packets.Packet.{Packet}
use Rattle.pd_script.specs.declared.script_events.Action.{Action}
use Rattle.pd_script.specs.declared.script_events.Action.TheVariants.{Inbound, Outbound, Call as Calls, Command, Code}
use Rattle.pd_script.specs.declared.script_events.Event.{Event}
use Rattle.pd_script.specs.declared.script_header.HeaderItem.{HeaderItem}
use Rattle.pd_seg.specs.declared.call_results.Answer.{Answer}
use Rattle.pd_seg.specs.declared.segments.Sent.{Sent}
use Rattle.pd_host.specs.Calls.{called}
use Rattle.pd_host.specs.Expiries.{advanced}
use Rattle.pd_host.specs.InputLaws.{AdvancesPutOutAfter}
use Rattle.pd_host.specs.Host.{then_on}
use Rattle.pd_host.specs.SendingLaws.{SendsOneByOne}
use Rattle.pd_host.specs.declared.halts.Halt.{Halt}
use Rattle.pd_host.specs.declared.endpoint.SenderState.{SenderState}
use Rattle.pd_print.specs.Sent.{packet_of}
use Rattle.pd_run.specs.Laws.{IsUnderway, StartsUnderway, StepsGoOn}
use Rattle.pd_run.specs.Run.{start_of}
use Rattle.pd_run.specs.Step.{RunStateView, step, tolerance_of}
use Rattle.pd_run.specs.Times.{single_moment_or_base, time_range_of, is_not_too_late_within_tolerance}
use Rattle.pd_run.specs.Verdicts.{precheck_verdict}
use Rattle.pd_run.specs.declared.prechecks.Precheck.{Precheck}
use Rattle.pd_run.specs.StopReason.{ReasonsGiveVerdicts}
use Rattle.pd_run.specs.declared.verdict.Verdict.{Verdict}
use Rattle.pd_record.specs.FollowsRun.{RecordingsFollowRuns}
use Rattle.pd_record.specs.Recording.{RecordedScriptView, records, closed, recorded_script_of, recording_in, events_in, events_recorded, events_of_all, events_of}
use Rattle.pd_record.specs.Answered.{IsRecording}
use Rattle.pd_layout.specs.ReadAs.{without_line, AreSameEvents, kinds_of, IsReadAs}
use Rattle.pd_record.specs.Recorder.{RecorderView, EventRecordingView, Answers, then_do, unless, blank_from, gone_to, stepped, recorded_as, event_at, refusal_if_over_event_or_gap_limit, happened, leaves_next, departs, with_unmet, comes, comes_on, left_by, with_base, action_time_not_before_clock, inputs, arrives, answered, answer_at, with_answer, calls, based_after, meets, meets_oldest, precheck_at, performed, recorded}
use Rattle.pd_record.specs.declared.record_error.RecordError.TheVariants.{Stopped}
use Rattle.pd_record.specs.declared.recorded.OwnEvent.{OwnEvent}
use Rattle.pd_record.specs.declared.recorded.RecordedEvent.{RecordedEvent}
use Rattle.pd_record.proofs.Leaves.{step_unbarred, after_arrival, after_call, IsMoved, moved, met_again}
use Rattle.pd_record.proofs.Leaving.{comes_over}
use Rattle.pd_record.proofs.Lines.{step_unplaced, same_start, as_many, passes_as_read}
use Rattle.pd_record.proofs.Passing.{ok, given, both, no_refusal, alone, owned, own_of, answer_own, took, tracked, blank}

-- a tape that waits for nothing: its times count from the event recorded last, and all its packets were met
abbrev pub calm : ℕ → RunStateView → RecorderView
calm n r = record { run = r; count = n; base = r.base; unmet = [] }

-- an event of which, at whatever line it is read, just itself is recorded
abbrev pub Repeats : Event → ℕ → RunStateView → RunStateView → Type 0
Repeats x n r s = (e : Event) → without_line x ≡ without_line e → (took : EventRecordingView) × (recorded (calm n r) e ≡ Ok (calm (n + 1) s, took)) × (events_recorded took ≡ e ∷ [])

-- the tape after a step
abbrev pub gone : RecorderView → RunStateView → RecorderView
gone t s = record t { run = s; count = t.count + 1 }

-- ---- events that were recorded at a moment

-- the state after it, and what it is
abbrev pub IsTaken : RecorderView → ℕ → ℕ → Action → RecorderView × RecordedEvent → RunStateView → Type 0
IsTaken t line at action y s =
    (step t.run (event_at t line at action) ≡ Ok s) × (refusal_if_over_event_or_gap_limit t at ≡ None) × (y ≡ (gone t s, recorded_as at (event_at t line at action)))

stepped_to : (t u : RecorderView) (came : Result RunStateView Verdict) → gone_to t came ≡ Ok u → (s : RunStateView) × (came ≡ Ok s) × (u ≡ gone t s)
stepped_to t u (Ok s) h = (s, refl, sym (given (gone t s) u h))
stepped_to t u (Err v) h = absurd cc

pub has_happened : (t : RecorderView) (line at : ℕ) (action : Action) (y : RecorderView × RecordedEvent) → happened t line at action ≡ Ok y → (s : RunStateView) × IsTaken t line at action y s
has_happened t line at action y h =
    let e = event_at t line at action in
    let free = no_refusal (then_do (λ (u : RecorderView). ok (u, recorded_as at e)) (stepped t e)) (refusal_if_over_event_or_gap_limit t at) y h in
    let b = both (λ (u : RecorderView). ok (u, recorded_as at e)) (stepped t e) y free.1 in
    let went = stepped_to t b.0 (step t.run e) b.1 in
    let is : y ≡ (gone t went.0, recorded_as at e) = sym (given (b.0, recorded_as at e) y b.2) ∙ ap (λ (u : RecorderView). (u, recorded_as at e)) went.2 in
    (went.0, (went.1, free.0, is))

pub happens_next : (t : RecorderView) (line at : ℕ) (action : Action) (s : RunStateView) → step t.run (event_at t line at action) ≡ Ok s → refusal_if_over_event_or_gap_limit t at ≡ None
    → happened t line at action ≡ Ok (gone t s, recorded_as at (event_at t line at action))
happens_next t line at action s h free =
    let e = event_at t line at action in
    ap (unless (then_do (λ (u : RecorderView). ok (u, recorded_as at e)) (stepped t e))) free
    ∙ ap (λ (came : Result RunStateView Verdict). then_do (λ (u : RecorderView). ok (u, recorded_as at e)) (gone_to t came)) h

-- an event at another line is the same at that line
same_event : (x e : Event) → without_line x ≡ without_line e → record x { line = e.line } ≡ e
same_event x e same = ap (λ (y : Event). record y { line = e.line }) same

-- nothing rules at an event whose step goes on
pub no_ruling : (n : ℕ) (r s : RunStateView) (e : Event) → step r e ≡ Ok s → precheck_at (calm n r) e ≡ None
no_ruling n r s e h = ap (option_map (λ (bar : Precheck). Stopped (precheck_verdict e.line bar))) (step_unbarred r s e h)

-- ---- inputs

-- an input at a moment
abbrev inputs_at : ℕ → (RecorderView → Answers (RecorderView × OwnEvent)) → RecorderView → Event → Answers (RecorderView × EventRecordingView)
inputs_at at act t e =
    then_do (λ (x : RecorderView × List RecordedEvent). then_do (λ (y : RecorderView × OwnEvent). ok (with_base (single_moment_or_base t.base e.time) y.0, took x.1 (Some y.1))) (act x.0)) (left_by e.line at t)

nothing_left : (t : RecorderView) (line until : ℕ) → leaves_next (λ due. nat_le due until) t.run ≡ None → left_by line until t ≡ Ok (t, [])
nothing_left t line until none = comes_over 4096 4095 line until [] t (omega arith) none

input_again : (n at : ℕ) (r s : RunStateView) (e : Event) (act : RecorderView → Answers (RecorderView × OwnEvent)) (own : OwnEvent)
    → s.base ≡ single_moment_or_base r.base e.time → leaves_next (λ due. nat_le due at) r ≡ None
    → act (calm n r) ≡ Ok (gone (calm n r) s, own) → inputs_at at act (calm n r) e ≡ Ok (calm (n + 1) s, took [] (Some own))
input_again n at r s e act own base none acts =
    let c : RecorderView = calm n r in
    let after : List RecordedEvent → RecorderView × OwnEvent → Answers (RecorderView × EventRecordingView) = λ list y. ok (with_base (single_moment_or_base r.base e.time) y.0, took list (Some y.1)) in
    ap (then_do (λ (x : RecorderView × List RecordedEvent). then_do (after x.1) (act x.0))) (nothing_left c e.line at none)
    ∙ (ap (then_do (after [])) acts
    ∙ ap (λ (b : ℕ). ok (with_base b (gone c s), took [] (Some own))) (sym base))

-- the moment of an input that was recorded
acts_then : (n at line : ℕ) (r : RunStateView) (action : Action) → r.base ≤ at → r.clock ≤ at → action_time_not_before_clock (calm n r) (event_at (calm n r) line at action) ≡ at
acts_then n at line r action base clock = omega (arith, base, clock)

pub arrival_again : (n at line : ℕ) (r s : RunStateView) (p : Packet) → r.base ≤ at → r.clock ≤ at
    → step r (event_at (calm n r) line at (Inbound p)) ≡ Ok s → refusal_if_over_event_or_gap_limit (calm n r) at ≡ None → leaves_next (λ due. nat_le due at) r ≡ None
    → Repeats (event_at (calm n r) line at (Inbound p)) n r s
arrival_again n at line r s p base clock h free none e same =
    let c : RecorderView = calm n r in
    let x : Event = event_at c e.line at (Inbound p) in
    let goes : step r x ≡ Ok s = step_unplaced r s (event_at c line at (Inbound p)) x refl h in
    let own : OwnEvent = own_of (recorded_as at x) in
    let ruled : recorded c x ≡ inputs (arrives e.line (action_time_not_before_clock c x) p) c x = ap (unless (performed c x (Inbound p))) (no_ruling n r s x goes) in
    let moment : inputs (arrives e.line (action_time_not_before_clock c x) p) c x ≡ inputs_at at (arrives e.line at p) c x =
    ap (λ (m : ℕ). inputs_at m (arrives e.line m p) c x) (acts_then n at e.line r (Inbound p) base clock) in
    let arrived : arrives e.line at p c ≡ Ok (gone c s, own) = ap (then_do (λ (y : RecorderView × RecordedEvent). ok (y.0, own_of y.1))) (happens_next c e.line at (Inbound p) s goes free) in
    let again : recorded c x ≡ Ok (calm (n + 1) s, took [] (Some own)) =
    ruled ∙ (moment ∙ input_again n at r s x (arrives e.line at p) own (after_arrival r s x p refl goes).0 none arrived) in
    subst (λ (y : Event). (took : EventRecordingView) × (recorded c y ≡ Ok (calm (n + 1) s, took)) × (events_recorded took ≡ y ∷ [])) (same_event (event_at c line at (Inbound p)) e same)
    (took [] (Some own), again, refl)

answered_anew : (line other : ℕ) (came : Result (SenderState × Answer) Halt) (answer : Answer) → answered line came ≡ Ok answer → answered other came ≡ Ok answer
answered_anew line other (Ok x) answer h = h
answered_anew line other (Err halt) answer h = absurd cc

answer_anew : (t : RecorderView) (n line other at : ℕ) (call : Call) (answer : Answer) → n ≡ t.count → answer_at t line at call ≡ Ok answer
    → answer_at (calm n t.run) other at (with_answer call answer) ≡ Ok answer
answer_anew t n line other at call answer same h =
    let came : Result (SenderState × Answer) Halt = then_on (called call at) (advanced at t.run.host.state) in
    let free = no_refusal (answered line came) (refusal_if_over_event_or_gap_limit t at) answer h in
    let its : refusal_if_over_event_or_gap_limit (calm n t.run) at ≡ None = ap (λ (k : ℕ). refusal_if_over_event_or_gap_limit (calm k t.run) at) same ∙ free.0 in
    ap (unless (answered other came)) its ∙ answered_anew line other came answer free.1

pub call_again : (n at line : ℕ) (r s : RunStateView) (call : Call) (answer : Answer) → r.base ≤ at → r.clock ≤ at
    → ((other : ℕ) → answer_at (calm n r) other at (with_answer call answer) ≡ Ok answer)
    → step r (event_at (calm n r) line at (Calls (with_answer call answer))) ≡ Ok s → refusal_if_over_event_or_gap_limit (calm n r) at ≡ None → leaves_next (λ due. nat_le due at) r ≡ None
    → Repeats (event_at (calm n r) line at (Calls (with_answer call answer))) n r s
call_again n at line r s call answer base clock answers h free none e same =
    let c : RecorderView = calm n r in
    let made : Call = with_answer call answer in
    let x : Event = event_at c e.line at (Calls made) in
    let goes : step r x ≡ Ok s = step_unplaced r s (event_at c line at (Calls made)) x refl h in
    let own : OwnEvent = answer_own made answer (recorded_as at x) in
    let ruled : recorded c x ≡ inputs (calls e.line (action_time_not_before_clock c x) made) c x = ap (unless (performed c x (Calls made))) (no_ruling n r s x goes) in
    let moment : inputs (calls e.line (action_time_not_before_clock c x) made) c x ≡ inputs_at at (calls e.line at made) c x =
    ap (λ (m : ℕ). inputs_at m (calls e.line m made) c x) (acts_then n at e.line r (Calls made) base clock) in
    let recorded_call : Answer → Answers (RecorderView × OwnEvent) = λ a. then_do (λ (y : RecorderView × RecordedEvent). ok (y.0, answer_own made a y.1)) (happened c e.line at (Calls (with_answer made a))) in
    let called_so : calls e.line at made c ≡ Ok (gone c s, own) =
    ap (then_do recorded_call) (answers e.line) ∙ ap (then_do (λ (y : RecorderView × RecordedEvent). ok (y.0, answer_own made answer y.1))) (happens_next c e.line at (Calls made) s goes free) in
    let again : recorded c x ≡ Ok (calm (n + 1) s, took [] (Some own)) =
    ruled ∙ (moment ∙ input_again n at r s x (calls e.line at made) own (after_call r s x made refl goes).0 none called_so) in
    subst (λ (y : Event). (took : EventRecordingView) × (recorded c y ≡ Ok (calm (n + 1) s, took)) × (events_recorded took ≡ y ∷ [])) (same_event (event_at c line at (Calls made)) e same)
    (took [] (Some own), again, refl)

-- ---- packets that leave

pub packet_again : AdvancesPutOutAfter → (n line : ℕ) (r s : RunStateView) (may : ℕ → Bool) (sent : Sent) → leaves_next may r ≡ Some sent
    → s.base ≡ r.base + (sent.at - r.base)
    → step r (event_at (calm n r) line sent.at (Outbound (packet_of sent.segment))) ≡ Ok s → refusal_if_over_event_or_gap_limit (calm n r) sent.at ≡ None
    → Repeats (event_at (calm n r) line sent.at (Outbound (packet_of sent.segment))) n r s
packet_again puts_after n line r s may sent next base h free e same =
    let c : RecorderView = calm n r in
    let action : Action = Outbound (packet_of sent.segment) in
    let x : Event = event_at c e.line sent.at action in
    let goes : step r x ≡ Ok s = step_unplaced r s (event_at c line sent.at action) x refl h in
    let own : OwnEvent = own_of (recorded_as sent.at x) in
    let ruled : recorded c x ≡ meets c x (leaves_next (is_not_too_late_within_tolerance (time_range_of r.base x.time) (tolerance_of r)) r) = ap (unless (performed c x action)) (no_ruling n r s x goes) in
    let after : RecorderView × RecordedEvent → Answers (RecorderView × EventRecordingView) = λ y. ok (based_after x.time (Some sent.at) y.0, took [] (Some (own_of y.1))) in
    let left : departs c e.line sent ≡ Ok (gone c s, recorded_as sent.at x) = happens_next c e.line sent.at action s goes free in
    let again : recorded c x ≡ Ok (calm (n + 1) s, took [] (Some own)) =
    ruled ∙ (ap (meets c x) (met_again puts_after may r sent (tolerance_of r) next)
    ∙ (ap (then_do after) left
    ∙ ap (λ (b : ℕ). ok (with_base b (gone c s), took [] (Some own))) (sym base))) in
    subst (λ (y : Event). (took : EventRecordingView) × (recorded c y ≡ Ok (calm (n + 1) s, took)) × (events_recorded took ≡ y ∷ [])) (same_event (event_at c line sent.at action) e same)
    (took [] (Some own), again, refl)

-- ---- the recording of something, over a whole run

-- a run that goes on after so many events, whose clock isn't before its base
pub record IsReady (n : ℕ) (r : RunStateView) : Type 0 where
  pub underway : IsUnderway n r
  pub timely : r.base ≤ r.clock

abbrev pub RepeatsAll : List Event → ℕ → RunStateView → RunStateView → Type 0
RepeatsAll [] n r s = r ≡ s
RepeatsAll (x ∷ xs) n r s = (q : RunStateView) × Repeats x n r q × RepeatsAll xs (n + 1) q s

all_both : (xs ys : List Event) (n m : ℕ) (r q s : RunStateView) → m ≡ n + length xs → RepeatsAll xs n r q → RepeatsAll ys m q s → RepeatsAll (xs ++ ys) n r s
all_both [] ys n m r q s many a b =
    let same : m ≡ n = omega (arith, many) in
    subst (λ (k : ℕ). RepeatsAll ys k r s) same (subst (λ (x : RunStateView). RepeatsAll ys m x s) (sym a) b)
all_both (x ∷ xs) ys n m r q s many a b = (a.0, a.1, all_both xs ys (n + 1) m a.0 q s (omega (arith, many)) a.2 b)

-- events that were recorded from one state of the run to another are recorded again
pub record AreAgain (xs : List Event) (n : ℕ) (r : RunStateView) (m : ℕ) (s : RunStateView) : Type 0 where
  pub repeats : RepeatsAll xs n r s
  pub ready : IsReady m s
  pub count : m ≡ n + length xs
  pub later : r.clock ≤ s.clock

none_again : (n : ℕ) (r : RunStateView) → IsReady n r → AreAgain [] n r n r
none_again n r ready = record { repeats = refl; ready = ready; count = omega arith; later = omega arith }

both_again : (xs ys : List Event) (n : ℕ) (r : RunStateView) (m : ℕ) (q : RunStateView) (k : ℕ) (s : RunStateView) → AreAgain xs n r m q → AreAgain ys m q k s → AreAgain (xs ++ ys) n r k s
both_again xs ys n r m q k s a b = record {
  repeats = all_both xs ys n m r q s a.count a.repeats b.repeats;
  ready = b.ready;
  count = (let many : length (xs ++ ys) ≡ length xs + length ys = length-append xs ys in omega (arith, many, a.count, b.count));
  later = omega (arith, a.later, b.later);
}

one_again : (x : Event) (n : ℕ) (r s : RunStateView) → Repeats x n r s → IsReady (n + 1) s → r.clock ≤ s.clock → AreAgain (x ∷ []) n r (n + 1) s
one_again x n r s repeats ready later = record { repeats = (s, repeats, refl); ready = ready; count = omega arith; later = later }

-- the hypotheses of the proof
pub record Bases : Type 0 where
  pub after : AdvancesPutOutAfter
  pub one_by_one : SendsOneByOne
  pub starts : StartsUnderway
  pub steps : StepsGoOn
  pub reasons : ReasonsGiveVerdicts

abbrev pub Went : {X : Type 0} → (X → List Event) → RecorderView → RecorderView × X → Type 0
Went seen t y = AreAgain (seen y.1) t.count t.run y.0.count y.0.run

module _ (laws : Bases) where
  -- ---- packets that leave

  pub packet_went : (t : RecorderView) (line : ℕ) (may : ℕ → Bool) (sent : Sent) (y : RecorderView × RecordedEvent) → IsReady t.count t.run → leaves_next may t.run ≡ Some sent
      → departs t line sent ≡ Ok y
      → Went alone t y × ((until : ℕ) → ((at : ℕ) → may at ≡ true → at ≤ until) → t.run.clock ≤ until → y.0.run.clock ≤ until)
  packet_went t line may sent y ready next h =
      let packet : Packet = packet_of sent.segment in
      let x : Event = event_at t line sent.at (Outbound packet) in
      let was = has_happened t line sent.at (Outbound packet) y h in
      let s : RunStateView = was.0 in
      let move : IsMoved may t.run s x.time sent = moved laws.after may t.run s x packet sent refl refl ready.underway.up_to next was.1.0 in
      let base : s.base ≡ t.run.base + (sent.at - t.run.base) = move.base in
      let repeats : Repeats x t.count t.run s = packet_again laws.after t.count line t.run s may sent next base was.1.0 was.1.1 in
      let timely : s.base ≤ s.clock = omega (arith, base, move.left, move.clock, ready.timely) in
      let again : AreAgain (x ∷ []) t.count t.run (t.count + 1) s =
      one_again x t.count t.run s repeats (record { underway = laws.steps t.count t.run s x ready.underway was.1.0; timely = timely }) move.clock in
      subst (λ (z : RecorderView × RecordedEvent). Went alone t z × ((until : ℕ) → ((at : ℕ) → may at ≡ true → at ≤ until) → t.run.clock ≤ until → z.0.run.clock ≤ until)) (sym was.1.2)
      (again, move.until)

  -- all that leaves up to a moment is recorded, and then nothing more leaves
  abbrev LeftBy : ℕ → RecorderView → List RecordedEvent → RecorderView × List RecordedEvent → Type 0
  LeftBy until t before y =
      (more : List RecordedEvent) × (y.1 ≡ before ++ more) × AreAgain (events_in more) t.count t.run y.0.count y.0.run
      × (y.0.run.clock ≤ until) × (leaves_next (λ due. nat_le due until) y.0.run ≡ None)

  one_leaves : (further : List RecordedEvent → RecorderView → Answers (RecorderView × List RecordedEvent)) (until : ℕ)
      → ((before : List RecordedEvent) (t : RecorderView) (y : RecorderView × List RecordedEvent) → IsReady t.count t.run → t.run.clock ≤ until → further before t ≡ Ok y → LeftBy until t before y)
      → (line : ℕ) (before : List RecordedEvent) (t : RecorderView) (y : RecorderView × List RecordedEvent) (o : Option Sent) → leaves_next (λ due. nat_le due until) t.run ≡ o
      → IsReady t.count t.run → t.run.clock ≤ until → comes_on further line before t o ≡ Ok y → LeftBy until t before y
  one_leaves further until goes line before t y None is ready early h =
      subst (LeftBy until t before) (given (t, before) y h) ([], sym (append-nil before), none_again t.count t.run ready, early, is)
  one_leaves further until goes line before t y (Some sent) is ready early h =
      let b = both (λ (x : RecorderView × RecordedEvent). further (before ++ x.1 ∷ []) (with_unmet x.0 sent.at)) (departs t line sent) y h in
      let first = packet_went t line (λ due. nat_le due until) sent b.0 ready is b.1 in
      let within : b.0.0.run.clock ≤ until = first.1 until (λ at comes. leb-true at until comes) early in
      let rest = goes (before ++ b.0.1 ∷ []) (with_unmet b.0.0 sent.at) y first.0.ready within b.2 in (
        b.0.1 ∷ rest.0,
        rest.1 ∙ append_assoc before (b.0.1 ∷ []) rest.0,
        both_again (alone b.0.1) (events_in rest.0) t.count t.run b.0.0.count b.0.0.run y.0.count y.0.run first.0 rest.2,
        rest.3,
        rest.4,
      )

  all_leave : (n line until : ℕ) (before : List RecordedEvent) (t : RecorderView) (y : RecorderView × List RecordedEvent) → IsReady t.count t.run → t.run.clock ≤ until
      → comes n line until before t ≡ Ok y → LeftBy until t before y
  unfolding comes
  all_leave zero line until before t y ready early h = absurd cc
  all_leave (suc n) line until before t y ready early h = one_leaves (comes n line until) until (all_leave n line until) line before t y _ refl ready early h

  pub left_went : (line until : ℕ) (t : RecorderView) (y : RecorderView × List RecordedEvent) → IsReady t.count t.run → t.run.clock ≤ until → left_by line until t ≡ Ok y
      → Went events_in t y × (y.0.run.clock ≤ until) × (leaves_next (λ due. nat_le due until) y.0.run ≡ None)
  left_went line until t y ready early h =
      let all = all_leave 4096 line until [] t y ready early h in
      (subst (λ (list : List RecordedEvent). AreAgain (events_in list) t.count t.run y.0.count y.0.run) (sym all.1) all.2, all.3, all.4)

  -- ---- inputs

  -- an input that is recorded where nothing more leaves up to its moment
  abbrev Acts : ℕ → (RecorderView → Answers (RecorderView × OwnEvent)) → Type 0
  Acts at act =
      (t : RecorderView) (y : RecorderView × OwnEvent) → IsReady t.count t.run → t.run.clock ≤ at → leaves_next (λ due. nat_le due at) t.run ≡ None → act t ≡ Ok y → Went owned t y

  -- the run after an input is ready
  ready_after : (n : ℕ) (r s : RunStateView) (e : Event) → IsReady n r → step r e ≡ Ok s → s.base ≡ single_moment_or_base r.base e.time → s.clock ≡ max (single_moment_or_base r.base e.time) r.clock
      → IsReady (n + 1) s × (r.clock ≤ s.clock)
  ready_after n r s e ready h base clock = (record { underway = laws.steps n r s e ready.underway h; timely = omega (arith, base, clock) }, omega (arith, clock))

  arrival_went : (line at : ℕ) (p : Packet) → Acts at (arrives line at p)
  arrival_went line at p t y ready early none h =
      let b = both (λ (x : RecorderView × RecordedEvent). ok (x.0, own_of x.1)) (happened t line at (Inbound p)) y h in
      let was = has_happened t line at (Inbound p) b.0 b.1 in
      let x : Event = event_at t line at (Inbound p) in
      let acted = after_arrival t.run was.0 x p refl was.1.0 in
      let base : t.run.base ≤ at = omega (arith, early, ready.timely) in
      let repeats : Repeats x t.count t.run was.0 = arrival_again t.count at line t.run was.0 p base early was.1.0 was.1.1 none in
      let after = ready_after t.count t.run was.0 x ready was.1.0 acted.0 acted.1 in
      let z : RecorderView × OwnEvent = (gone t was.0, own_of (recorded_as at x)) in
      let is : z ≡ y = ap (λ (w : RecorderView × RecordedEvent). (w.0, own_of w.1)) (sym was.1.2) ∙ given (b.0.0, own_of b.0.1) y b.2 in
      subst (Went owned t) is (one_again x t.count t.run was.0 repeats after.0 after.1)

  call_went : (line at : ℕ) (call : Call) → Acts at (calls line at call)
  call_went line at call t y ready early none h =
      let seen : Answer → RecorderView × RecordedEvent → RecorderView × OwnEvent = λ answer x. (x.0, answer_own call answer x.1) in
      let a = both (λ (answer : Answer). then_do (λ (x : RecorderView × RecordedEvent). ok (seen answer x)) (happened t line at (Calls (with_answer call answer)))) (answer_at t line at call) y h in
      let made : Call = with_answer call a.0 in
      let b = both (λ (x : RecorderView × RecordedEvent). ok (seen a.0 x)) (happened t line at (Calls made)) y a.2 in
      let was = has_happened t line at (Calls made) b.0 b.1 in
      let x : Event = event_at t line at (Calls made) in
      let acted = after_call t.run was.0 x made refl was.1.0 in
      let base : t.run.base ≤ at = omega (arith, early, ready.timely) in
      let repeats : Repeats x t.count t.run was.0 =
      call_again t.count at line t.run was.0 call a.0 base early (λ other. answer_anew t t.count line other at call a.0 refl a.1) was.1.0 was.1.1 none in
      let after = ready_after t.count t.run was.0 x ready was.1.0 acted.0 acted.1 in
      let z : RecorderView × OwnEvent = seen a.0 (gone t was.0, recorded_as at x) in
      let is : z ≡ y = ap (seen a.0) (sym was.1.2) ∙ given (seen a.0 b.0) y b.2 in
      subst (Went owned t) is (one_again x t.count t.run was.0 repeats after.0 after.1)

  input_went : (act : RecorderView → Answers (RecorderView × OwnEvent)) (t : RecorderView) (e : Event) (y : RecorderView × EventRecordingView) → Acts (action_time_not_before_clock t e) act → IsReady t.count t.run → inputs act t e ≡ Ok y → Went events_recorded t y
  input_went act t e y goes ready h =
      let after : RecorderView × List RecordedEvent → RecorderView × OwnEvent → RecorderView × EventRecordingView = λ x z. (with_base (single_moment_or_base t.base e.time) z.0, took x.1 (Some z.1)) in
      let a = both (λ (x : RecorderView × List RecordedEvent). then_do (λ (z : RecorderView × OwnEvent). ok (after x z)) (act x.0)) (left_by e.line (action_time_not_before_clock t e) t) y h in
      let b = both (λ (z : RecorderView × OwnEvent). ok (after a.0 z)) (act a.0.0) y a.2 in
      let left = left_went e.line (action_time_not_before_clock t e) t a.0 ready (omega arith) a.1 in
      let own = goes a.0.0 b.0 left.0.ready left.1 left.2 b.1 in
      subst (Went events_recorded t) (given (after a.0 b.0) y b.2)
      (both_again (events_in a.0.1) (owned b.0.1) t.count t.run a.0.0.count a.0.0.run b.0.0.count b.0.0.run left.0 own)

  -- ---- expected packets

  meeting_went : (t : RecorderView) (e : Event) (y : RecorderView × EventRecordingView) (may : ℕ → Bool) (o : Option Sent) → leaves_next may t.run ≡ o → IsReady t.count t.run → meets t e o ≡ Ok y → Went events_recorded t y
  meeting_went t e y may None is ready h = subst (Went events_recorded t) (given (based_after e.time None t, took [] None) y h) (none_again t.count t.run ready)
  meeting_went t e y may (Some sent) is ready h =
      let after : RecorderView × RecordedEvent → RecorderView × EventRecordingView = λ x. (based_after e.time (Some sent.at) x.0, took [] (Some (own_of x.1))) in
      let b = both (λ (x : RecorderView × RecordedEvent). ok (after x)) (departs t e.line sent) y h in
      subst (Went events_recorded t) (given (after b.0) y b.2) (packet_went t e.line may sent b.0 ready is b.1).0

  expected_went : (t : RecorderView) (e : Event) (y : RecorderView × EventRecordingView) (unmet : List ℕ) → IsReady t.count t.run → meets_oldest t e unmet ≡ Ok y → Went events_recorded t y
  expected_went t e y [] ready h =
      meeting_went t e y (is_not_too_late_within_tolerance (time_range_of t.base e.time) (tolerance_of t.run)) (leaves_next (is_not_too_late_within_tolerance (time_range_of t.base e.time) (tolerance_of t.run)) t.run) refl ready h
  expected_went t e y (at ∷ others) ready h =
      subst (Went events_recorded t) (given (based_after e.time (Some at) (record t { unmet = others }), took [] None) y h) (none_again t.count t.run ready)

  -- ---- events of the script

  performed_went : (t : RecorderView) (e : Event) (y : RecorderView × EventRecordingView) (action : Action) → IsReady t.count t.run → performed t e action ≡ Ok y → Went events_recorded t y
  performed_went t e y (Inbound p) ready h = input_went (arrives e.line (action_time_not_before_clock t e) p) t e y (arrival_went e.line (action_time_not_before_clock t e) p) ready h
  performed_went t e y (Outbound p) ready h = expected_went t e y t.unmet ready h
  performed_went t e y (Calls call) ready h = input_went (calls e.line (action_time_not_before_clock t e) call) t e y (call_went e.line (action_time_not_before_clock t e) call) ready h
  performed_went t e y Command ready h = absurd cc
  performed_went t e y Code ready h = absurd cc

  pub event_went : (t : RecorderView) (e : Event) (y : RecorderView × EventRecordingView) → IsReady t.count t.run → recorded t e ≡ Ok y → Went events_recorded t y
  event_went t e y ready h = performed_went t e y e.action ready (no_refusal (performed t e e.action) (precheck_at t e) y h).1

  pub events_went : (es : List Event) (per_event : List EventRecordingView) (t : RecorderView) (y : RecorderView × List EventRecordingView) → IsReady t.count t.run → records es per_event t ≡ Ok y
      → (more : List EventRecordingView) × (y.1 ≡ per_event ++ more) × AreAgain (events_of_all more) t.count t.run y.0.count y.0.run
  events_went [] per_event t y ready h =
      subst (λ (z : RecorderView × List EventRecordingView). (more : List EventRecordingView) × (z.1 ≡ per_event ++ more) × AreAgain (events_of_all more) t.count t.run z.0.count z.0.run) (given (t, per_event) y h)
      ([], sym (append-nil per_event), none_again t.count t.run ready)
  events_went (e ∷ es) per_event t y ready h =
      let b = both (λ (x : RecorderView × EventRecordingView). records es (per_event ++ x.1 ∷ []) x.0) (recorded t e) y h in
      let first = event_went t e b.0 ready b.1 in
      let rest = events_went es (per_event ++ b.0.1 ∷ []) b.0.0 y first.ready b.2 in (
        b.0.1 ∷ rest.0,
        rest.1 ∙ append_assoc per_event (b.0.1 ∷ []) rest.0,
        both_again (events_recorded b.0.1) (events_of_all rest.0) t.count t.run b.0.0.count b.0.0.run y.0.count y.0.run first rest.2,
      )

  -- at the end nothing more leaves
  closed_went : (es : List Event) (t : RecorderView) (recorded_script : RecordedScriptView) → IsReady t.count t.run → then_do closed (records es [] t) ≡ Ok recorded_script
      → (m : ℕ) × (s : RunStateView) × AreAgain (events_of recorded_script) t.count t.run m s × (leaves_next (λ due. nat_le due s.clock) s ≡ None)
  closed_went es t recorded_script ready h =
      let a = both closed (records es [] t) recorded_script h in
      let b = both (λ (y : RecorderView × List RecordedEvent). ok (tracked a.0.1 y.1)) (left_by 0 a.0.0.run.clock a.0.0) recorded_script a.2 in
      let all = events_went es [] t a.0 ready a.1 in
      let per_event : AreAgain (events_of_all a.0.1) t.count t.run a.0.0.count a.0.0.run =
      subst (λ (list : List EventRecordingView). AreAgain (events_of_all list) t.count t.run a.0.0.count a.0.0.run) (sym all.1) all.2 in
      let rest = left_went 0 a.0.0.run.clock a.0.0 b.0 per_event.ready (omega arith) b.1 in
      let same : a.0.0.run.clock ≡ b.0.0.run.clock = omega (arith, rest.1, rest.0.later) in
      let none : leaves_next (λ due. nat_le due b.0.0.run.clock) b.0.0.run ≡ None =
      subst (λ (c : ℕ). leaves_next (λ due. nat_le due c) b.0.0.run ≡ None) same rest.2 in (
        b.0.0.count,
        b.0.0.run,
        subst (λ (x : RecordedScriptView). AreAgain (events_of x) t.count t.run b.0.0.count b.0.0.run) (given (tracked a.0.1 b.0.1) recorded_script b.2)
            (both_again (events_of_all a.0.1) (events_in b.0.1) t.count t.run a.0.0.count a.0.0.run b.0.0.count b.0.0.run per_event rest.0),
        none,
      )

-- ---- whole scripts

-- events that are recorded again, at whatever lines they are read
again_all : (xs es : List Event) (per_event : List EventRecordingView) (n m : ℕ) (r s : RunStateView) → AreSameEvents xs es → RepeatsAll xs n r s → m ≡ n + length xs
    → (more : List EventRecordingView) × (records es per_event (calm n r) ≡ Ok (calm m s, per_event ++ more)) × (events_of_all more ≡ es)
again_all [] [] per_event n m r s same all many =
    let count : n ≡ m = omega (arith, many) in (
      [],
      ap (λ (k : ℕ). ok (calm k r, per_event)) count
          ∙ (ap (λ (q : RunStateView). ok (calm m q, per_event)) all ∙ ap (λ (list : List EventRecordingView). ok (calm m s, list)) (sym (append-nil per_event))),
      refl,
    )
again_all [] (e ∷ es) per_event n m r s same all many = absurd cc
again_all (x ∷ xs) [] per_event n m r s same all many = absurd cc
again_all (x ∷ xs) (e ∷ es) per_event n m r s same all many =
    let first : without_line x ≡ without_line e = cc in
    let rest : AreSameEvents xs es = cc in
    let one = all.1 e first in
    let more = again_all xs es (per_event ++ one.0 ∷ []) (n + 1) m all.0 s rest all.2 (omega (arith, many)) in (
      one.0 ∷ more.0,
      ap (then_do (λ (y : RecorderView × EventRecordingView). records es (per_event ++ y.1 ∷ []) y.0)) one.1
          ∙ (more.1 ∙ ap (λ (list : List EventRecordingView). ok (calm m s, list)) (append_assoc per_event (one.0 ∷ []) more.0)),
      ap (λ (list : List Event). list ++ events_of_all more.0) one.2 ∙ ap (λ (list : List Event). e ∷ list) more.2,
    )

-- the recording with which a recorder that waits for nothing ends
closed_calm : (m : ℕ) (s : RunStateView) (per_event : List EventRecordingView) → leaves_next (λ due. nat_le due s.clock) s ≡ None → closed (calm m s, per_event) ≡ Ok (tracked per_event [])
closed_calm m s per_event none = ap (then_do (λ (y : RecorderView × List RecordedEvent). ok (tracked per_event y.1))) (nothing_left (calm m s) 0 s.clock none)

abbrev from_start : List Event → Result RunStateView Verdict → Answers RecordedScriptView
from_start es came = then_do (λ (t : RecorderView). then_do closed (records es [] t)) (blank_from came)

pub tracks_again : Bases → (header other : List HeaderItem) (events es : List Event) (settings : Settings) (recorded_script : RecordedScriptView) → kinds_of header ≡ kinds_of other
    → recorded_script_of header events settings ≡ Ok recorded_script → AreSameEvents (events_of recorded_script) es
    → (second : RecordedScriptView) × (recorded_script_of other es settings ≡ Ok second) × (events_of second ≡ es)
tracks_again laws header other events es settings recorded_script kinds h same = go (start_of header settings) refl
  where
    go : (came : Result RunStateView Verdict) → start_of header settings ≡ came → (second : RecordedScriptView) × (recorded_script_of other es settings ≡ Ok second) × (events_of second ≡ es)
    go (Ok r) is =
        let underway : IsUnderway 0 r = laws.starts header settings r is in
        let zero_base : 0 ≡ r.base = omega (arith, underway.base) in
        let ready : IsReady 0 r = record { underway = underway; timely = omega (arith, zero_base) } in
        let went = closed_went laws events (blank r) recorded_script ready (sym (ap (from_start events) is) ∙ h) in
        let all = again_all (events_of recorded_script) es [] 0 went.0 r went.1 same went.2.repeats went.2.count in
        let second : RecordedScriptView = tracked all.0 [] in (
          second,
          ap (from_start es) (same_start header other settings r kinds is)
              ∙ (ap (λ (b : ℕ). then_do closed (records es [] (record { run = r; count = 0; base = b; unmet = [] }))) zero_base
              ∙ (ap (then_do closed) all.1 ∙ closed_calm went.0 went.1 all.0 went.3)),
          append-nil (events_of_all all.0) ∙ all.2,
        )
    go (Err v) is = absurd (let refused : recorded_script_of header events settings ≡ Err (Stopped v) = ap (from_start events) is in cc)

-- so a recording is its own recording
pub recorded_again : Bases → RecordingsFollowRuns → (header : List HeaderItem) (events : List Event) (settings : Settings) (recorded_script : RecordedScriptView) (text : List (List ℕ))
    → recorded_script_of header events settings ≡ Ok recorded_script → IsReadAs header (events_of recorded_script) text
    → IsRecording text settings text (length (events_of recorded_script))
recorded_again laws follow header events settings recorded_script text h read =
    let p : Parsed = script_of text in
    let second = tracks_again laws header p.header.items events p.events settings recorded_script (sym read.header) h (sym read.events) in
    let whole : recording_in settings p ≡ recorded_script_of p.header.items p.events settings = rw read.whole refl in
    record {
      recorded_script = second.0;
      recorded = whole ∙ second.1;
      follows = λ n passes. follow text settings n second.0 passes (whole ∙ second.1);
      right = record {
        read = record { whole = read.whole; header = refl; events = ap (map without_line) (sym second.2) };
        passes = passes_as_read header events settings recorded_script text h read;
        number = sym (as_many p.events (events_of recorded_script) read.events) ∙ ap (λ (list : List Event). length list) (sym second.2);
      };
    }
