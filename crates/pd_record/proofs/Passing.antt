-- A recording passes: each of its events was a step of the run.
use Rattle.std.proofs.Common.{◌≡◌, ℕ, zero, suc, ◌+◌, Option, Some, None, List, [], ◌∷◌, ◌++◌, length, Result, Ok, Err, refl, sym, ap, subst, ◌∙◌, append_assoc, append-nil, arith}
use Rattle.pd_script.specs.declared.packets.Packet.{Packet}
use Rattle.pd_script.specs.declared.script_events.Action.{Action}
use Rattle.pd_script.specs.declared.script_events.Action.TheVariants.{Inbound, Outbound, Call as Calls, Command, Code}
use Rattle.pd_script.specs.declared.script_events.Event.{Event}
use Rattle.pd_script.specs.declared.script_header.HeaderItem.{HeaderItem}
use Rattle.pd_settings.specs.declared.settings.Settings.{Settings}
use Rattle.pd_script.specs.declared.calls.Call.{Call}
use Rattle.pd_seg.specs.declared.call_results.Answer.{Answer}
use Rattle.pd_seg.specs.declared.segments.Sent.{Sent}
use Rattle.pd_run.specs.Run.{start_of, verdict_from}
use Rattle.pd_print.specs.Sent.{packet_of}
use Rattle.pd_run.specs.Step.{RunStateView, on_step, step}
use Rattle.pd_run.specs.Times.{single_moment_or_base, time_range_of, is_not_too_late_within_tolerance}
use Rattle.pd_run.specs.Step.{tolerance_of}
use Rattle.pd_run.specs.declared.verdict.Verdict.{Verdict}
use Rattle.pd_run.specs.declared.verdict.Verdict.TheVariants.{Pass}
use Rattle.pd_record.specs.Recording.{RecordedScriptView, records, closed, recorded_script_of, events_in, events_recorded, events_of_all, events_of}
use Rattle.pd_record.specs.Recorder.{RecorderView, EventRecordingView, Answers, then_do, unless, blank_from, gone_to, stepped, recorded_as, event_at, refusal_if_over_event_or_gap_limit, happened, leaves_next, departs, with_unmet, comes, comes_on, left_by, with_base, action_time_not_before_clock, inputs, arrives, answer_at, with_answer, recorded_answer_of, calls, based_after, meets, meets_oldest, precheck_at, performed, recorded}
use Rattle.pd_record.specs.declared.record_error.RecordError.{RecordError}
use Rattle.pd_record.specs.declared.record_error.RecordError.TheVariants.{Stopped}
use Rattle.pd_record.specs.declared.recorded.OwnEvent.{OwnEvent}
use Rattle.pd_record.specs.declared.recorded.RecordedEvent.{RecordedEvent}

-- a run goes on through events, from one state to another
abbrev pub Through : List Event → RunStateView → RunStateView → Type 0
Through [] r s = r ≡ s
Through (e ∷ es) r s = (q : RunStateView) × (step r e ≡ Ok q) × Through es q s

through_both : (xs ys : List Event) (r q s : RunStateView) → Through xs r q → Through ys q s → Through (xs ++ ys) r s
through_both [] ys r q s a b = subst (λ (x : RunStateView). Through ys x s) (sym a) b
through_both (e ∷ xs) ys r q s a b = (a.0, a.1, through_both xs ys a.0 q s a.2 b)

-- so they pass
pub passes : (n : ℕ) (es : List Event) (r s : RunStateView) → Through es r s → verdict_from n es r ≡ Pass (n + length es)
passes n [] r s h = ap (λ (k : ℕ). Pass k) (omega arith)
passes n (e ∷ es) r s h =
    let more : (n + 1) + length es ≡ n + length (e ∷ es) = omega arith in
    ap (on_step (verdict_from (n + 1) es) (λ v. v)) h.1 ∙ (passes (n + 1) es h.0 s h.2 ∙ ap (λ (k : ℕ). Pass k) more)

-- ---- a result of two parts has one of each

abbrev pub ok : {A : Type 0} → A → Answers A
ok x = Ok x

pub given : {A : Type 0} (x y : A) → ok x ≡ ok y → x ≡ y
given x y h = cc

pub both : {A B : Type 0} (next : A → Answers B) (came : Answers A) (y : B) → then_do next came ≡ Ok y → (x : A) × (came ≡ Ok x) × (next x ≡ Ok y)
both next (Ok x) y h = (x, refl, h)
both next (Err refusal) y h = absurd cc

pub no_refusal : {A : Type 0} (answer : Answers A) (ruling : Option RecordError) (x : A) → unless answer ruling ≡ Ok x → (ruling ≡ None) × (answer ≡ Ok x)
no_refusal answer None x h = (refl, h)
no_refusal answer (Some refusal) x h = absurd cc

-- ---- one event of the recording

-- the events that were recorded of something were run through
abbrev pub Went : {X : Type 0} → (X → List Event) → RecorderView → RecorderView × X → Type 0
Went seen t y = Through (seen y.1) t.run y.0.run

abbrev pub alone : RecordedEvent → List Event
alone x = x.event ∷ []

abbrev pub owned : OwnEvent → List Event
owned own = own.recorded.event ∷ []

abbrev ran : RunStateView → Result RunStateView Verdict
ran r = Ok r

step_goes : (t u : RecorderView) (e : Event) (came : Result RunStateView Verdict) → step t.run e ≡ came → gone_to t came ≡ Ok u → step t.run e ≡ Ok u.run
step_goes t u e (Ok r) is h = is ∙ ap (λ (x : RecorderView). ran x.run) (given (record t { run = r; count = t.count + 1 }) u h)
step_goes t u e (Err v) is h = absurd cc

pub happened_goes : (t : RecorderView) (line at : ℕ) (action : Action) (y : RecorderView × RecordedEvent) → happened t line at action ≡ Ok y → Went alone t y
happened_goes t line at action y h =
    let e = event_at t line at action in
    let free = no_refusal (then_do (λ (u : RecorderView). ok (u, recorded_as at e)) (stepped t e)) (refusal_if_over_event_or_gap_limit t at) y h in
    let b = both (λ (u : RecorderView). ok (u, recorded_as at e)) (stepped t e) y free.1 in
    subst (Went alone t) (given (b.0, recorded_as at e) y b.2) (b.0.run, step_goes t b.0 e (step t.run e) refl b.1, refl)

-- ---- packets that leave

-- a packet that leaves is recorded after the events recorded before, and was run through
abbrev Leaves : RecorderView → List RecordedEvent → RecorderView × List RecordedEvent → Type 0
Leaves t before y = (more : List RecordedEvent) × (y.1 ≡ before ++ more) × Through (events_in more) t.run y.0.run

one_leaves : (further : List RecordedEvent → RecorderView → Answers (RecorderView × List RecordedEvent))
    → ((before : List RecordedEvent) (t : RecorderView) (y : RecorderView × List RecordedEvent) → further before t ≡ Ok y → Leaves t before y)
    → (line : ℕ) (before : List RecordedEvent) (t : RecorderView) (y : RecorderView × List RecordedEvent) (o : Option Sent)
    → comes_on further line before t o ≡ Ok y → Leaves t before y
one_leaves further goes line before t y None h = subst (Leaves t before) (given (t, before) y h) ([], sym (append-nil before), refl)
one_leaves further goes line before t y (Some sent) h =
    let b = both (λ (x : RecorderView × RecordedEvent). further (before ++ x.1 ∷ []) (with_unmet x.0 sent.at)) (departs t line sent) y h in
    let first = happened_goes t line sent.at (Outbound (packet_of sent.segment)) b.0 b.1 in
    let rest = goes (before ++ b.0.1 ∷ []) (with_unmet b.0.0 sent.at) y b.2 in (
      b.0.1 ∷ rest.0,
      rest.1 ∙ append_assoc before (b.0.1 ∷ []) rest.0,
      through_both (alone b.0.1) (events_in rest.0) t.run b.0.0.run y.0.run first rest.2,
    )

all_leave : (n line until : ℕ) (before : List RecordedEvent) (t : RecorderView) (y : RecorderView × List RecordedEvent) → comes n line until before t ≡ Ok y → Leaves t before y
unfolding comes
all_leave zero line until before t y h = absurd cc
all_leave (suc n) line until before t y h = one_leaves (comes n line until) (all_leave n line until) line before t y _ h

left_goes : (line until : ℕ) (t : RecorderView) (y : RecorderView × List RecordedEvent) → left_by line until t ≡ Ok y → Went events_in t y
left_goes line until t y h =
    let all = all_leave 4096 line until [] t y h in
    subst (λ (list : List RecordedEvent). Through (events_in list) t.run y.0.run) (sym all.1) all.2

-- ---- inputs

abbrev pub took : List RecordedEvent → Option OwnEvent → EventRecordingView
took before own = record { before = before; own = own }

abbrev pub own_of : RecordedEvent → OwnEvent
own_of x = record { recorded = x; recorded_answer = None }

abbrev pub answer_own : Call → Answer → RecordedEvent → OwnEvent
answer_own call answer x = record { recorded = x; recorded_answer = Some (recorded_answer_of call answer) }

-- an input that is recorded was run through
abbrev Acts : (RecorderView → Answers (RecorderView × OwnEvent)) → Type 0
Acts act = (t : RecorderView) (y : RecorderView × OwnEvent) → act t ≡ Ok y → Went owned t y

input_goes : (act : RecorderView → Answers (RecorderView × OwnEvent)) → Acts act → (t : RecorderView) (e : Event) (y : RecorderView × EventRecordingView) → inputs act t e ≡ Ok y → Went events_recorded t y
input_goes act goes t e y h =
    let after : RecorderView × List RecordedEvent → RecorderView × OwnEvent → RecorderView × EventRecordingView = λ x z. (with_base (single_moment_or_base t.base e.time) z.0, took x.1 (Some z.1)) in
    let a = both (λ (x : RecorderView × List RecordedEvent). then_do (λ (z : RecorderView × OwnEvent). ok (after x z)) (act x.0)) (left_by e.line (action_time_not_before_clock t e) t) y h in
    let b = both (λ (z : RecorderView × OwnEvent). ok (after a.0 z)) (act a.0.0) y a.2 in
    let left = left_goes e.line (action_time_not_before_clock t e) t a.0 a.1 in
    subst (Went events_recorded t) (given (after a.0 b.0) y b.2) (through_both (events_in a.0.1) (owned b.0.1) t.run a.0.0.run b.0.0.run left (goes a.0.0 b.0 b.1))

arrival_goes : (line at : ℕ) (packet : Packet) → Acts (arrives line at packet)
arrival_goes line at packet t y h =
    let b = both (λ (x : RecorderView × RecordedEvent). ok (x.0, own_of x.1)) (happened t line at (Inbound packet)) y h in
    subst (Went owned t) (given (b.0.0, own_of b.0.1) y b.2) (happened_goes t line at (Inbound packet) b.0 b.1)

call_goes : (line at : ℕ) (call : Call) → Acts (calls line at call)
call_goes line at call t y h =
    let seen : Answer → RecorderView × RecordedEvent → RecorderView × OwnEvent = λ answer x. (x.0, answer_own call answer x.1) in
    let a = both (λ (answer : Answer). then_do (λ (x : RecorderView × RecordedEvent). ok (seen answer x)) (happened t line at (Calls (with_answer call answer)))) (answer_at t line at call) y h in
    let b = both (λ (x : RecorderView × RecordedEvent). ok (seen a.0 x)) (happened t line at (Calls (with_answer call a.0))) y a.2 in
    subst (Went owned t) (given (seen a.0 b.0) y b.2) (happened_goes t line at (Calls (with_answer call a.0)) b.0 b.1)

-- ---- expected packets

meeting_goes : (t : RecorderView) (e : Event) (y : RecorderView × EventRecordingView) (o : Option Sent) → meets t e o ≡ Ok y → Went events_recorded t y
meeting_goes t e y None h = subst (Went events_recorded t) (given (based_after e.time None t, took [] None) y h) refl
meeting_goes t e y (Some sent) h =
    let after : RecorderView × RecordedEvent → RecorderView × EventRecordingView = λ x. (based_after e.time (Some sent.at) x.0, took [] (Some (own_of x.1))) in
    let b = both (λ (x : RecorderView × RecordedEvent). ok (after x)) (departs t e.line sent) y h in
    subst (Went events_recorded t) (given (after b.0) y b.2) (happened_goes t e.line sent.at (Outbound (packet_of sent.segment)) b.0 b.1)

expected_goes : (t : RecorderView) (e : Event) (y : RecorderView × EventRecordingView) (unmet : List ℕ) → meets_oldest t e unmet ≡ Ok y → Went events_recorded t y
expected_goes t e y [] h = meeting_goes t e y (leaves_next (is_not_too_late_within_tolerance (time_range_of t.base e.time) (tolerance_of t.run)) t.run) h
expected_goes t e y (at ∷ others) h =
    subst (Went events_recorded t) (given (based_after e.time (Some at) (record t { unmet = others }), took [] None) y h) refl

-- ---- events of the script

performed_goes : (t : RecorderView) (e : Event) (y : RecorderView × EventRecordingView) (action : Action) → performed t e action ≡ Ok y → Went events_recorded t y
performed_goes t e y (Inbound packet) h = input_goes (arrives e.line (action_time_not_before_clock t e) packet) (arrival_goes e.line (action_time_not_before_clock t e) packet) t e y h
performed_goes t e y (Outbound packet) h = expected_goes t e y t.unmet h
performed_goes t e y (Calls call) h = input_goes (calls e.line (action_time_not_before_clock t e) call) (call_goes e.line (action_time_not_before_clock t e) call) t e y h
performed_goes t e y Command h = absurd cc
performed_goes t e y Code h = absurd cc

event_goes : (t : RecorderView) (e : Event) (y : RecorderView × EventRecordingView) → recorded t e ≡ Ok y → Went events_recorded t y
event_goes t e y h = performed_goes t e y e.action (no_refusal (performed t e e.action) (precheck_at t e) y h).1

events_go : (es : List Event) (per_event : List EventRecordingView) (t : RecorderView) (y : RecorderView × List EventRecordingView) → records es per_event t ≡ Ok y
    → (more : List EventRecordingView) × (y.1 ≡ per_event ++ more) × Through (events_of_all more) t.run y.0.run
events_go [] per_event t y h =
    subst (λ (z : RecorderView × List EventRecordingView). (more : List EventRecordingView) × (z.1 ≡ per_event ++ more) × Through (events_of_all more) t.run z.0.run) (given (t, per_event) y h)
    ([], sym (append-nil per_event), refl)
events_go (e ∷ es) per_event t y h =
    let b = both (λ (x : RecorderView × EventRecordingView). records es (per_event ++ x.1 ∷ []) x.0) (recorded t e) y h in
    let rest = events_go es (per_event ++ b.0.1 ∷ []) b.0.0 y b.2 in (
      b.0.1 ∷ rest.0,
      rest.1 ∙ append_assoc per_event (b.0.1 ∷ []) rest.0,
      through_both (events_recorded b.0.1) (events_of_all rest.0) t.run b.0.0.run y.0.run (event_goes t e b.0 b.1) rest.2,
    )

abbrev pub tracked : List EventRecordingView → List RecordedEvent → RecordedScriptView
tracked per_event rest = record { per_event = per_event; rest = rest }

-- the events that were recorded after a recorder that had recorded none
closed_goes : (es : List Event) (t : RecorderView) (recorded_script : RecordedScriptView) → then_do closed (records es [] t) ≡ Ok recorded_script
    → (s : RunStateView) × Through (events_of recorded_script) t.run s
closed_goes es t recorded_script h =
    let a = both closed (records es [] t) recorded_script h in
    let b = both (λ (y : RecorderView × List RecordedEvent). ok (tracked a.0.1 y.1)) (left_by 0 a.0.0.run.clock a.0.0) recorded_script a.2 in
    let all = events_go es [] t a.0 a.1 in
    let per_event : Through (events_of_all a.0.1) t.run a.0.0.run =
    subst (λ (list : List EventRecordingView). Through (events_of_all list) t.run a.0.0.run) (sym all.1) all.2 in
    let rest = left_goes 0 a.0.0.run.clock a.0.0 b.0 b.1 in (
      b.0.0.run,
      subst (λ (x : RecordedScriptView). Through (events_of x) t.run b.0.0.run) (given (tracked a.0.1 b.0.1) recorded_script b.2)
          (through_both (events_of_all a.0.1) (events_in b.0.1) t.run a.0.0.run b.0.0.run per_event rest),
    )

abbrev pub blank : RunStateView → RecorderView
blank r = record { run = r; count = 0; base = 0; unmet = [] }

pub recording_goes : (header : List HeaderItem) (es : List Event) (settings : Settings) (recorded_script : RecordedScriptView) → recorded_script_of header es settings ≡ Ok recorded_script
    → (r s : RunStateView) × (start_of header settings ≡ Ok r) × Through (events_of recorded_script) r s
recording_goes header es settings recorded_script h = go (start_of header settings) refl
  where
    go : (came : Result RunStateView Verdict) → start_of header settings ≡ came → (r s : RunStateView) × (start_of header settings ≡ Ok r) × Through (events_of recorded_script) r s
    go (Ok r) is =
        let from : then_do closed (records es [] (blank r)) ≡ Ok recorded_script = sym (ap (λ (x : Result RunStateView Verdict). then_do (λ (t : RecorderView). then_do closed (records es [] t)) (blank_from x)) is) ∙ h in
        let all = closed_goes es (blank r) recorded_script from in
        (r, all.0, is, all.1)
    go (Err v) is =
        absurd (let refused : recorded_script_of header es settings ≡ Err (Stopped v) = ap (λ (x : Result RunStateView Verdict). then_do (λ (t : RecorderView). then_do closed (records es [] t)) (blank_from x)) is in cc)
