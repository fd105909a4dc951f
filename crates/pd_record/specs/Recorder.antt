-- The recording, event by event.
use Rattle.std.specs.Prelude.{ℕ, zero, suc, ◌+◌, ◌-◌, max, nat_le, nat_lt, Bool, slice_get, List, [], ◌∷◌, ◌++◌, Option, Some, None, option_map, unwrap_or, is_none, Result, Ok, Err, if◌then◌else◌}
use Rattle.pd_settings.specs.declared.settings.Settings.{Settings}
use Rattle.pd_script.specs.declared.calls.Call.{Call}
use Rattle.pd_script.specs.declared.packets.Packet.{Packet}
use Rattle.pd_script.specs.declared.script_events.Action.{Action}
use Rattle.pd_script.specs.declared.script_events.Action.TheVariants.{Inbound, Outbound, Call as Calls}
use Rattle.pd_script.specs.declared.script_events.Event.{Event}
use Rattle.pd_script.specs.declared.timing.Time.{Time}
use Rattle.pd_script.specs.declared.timing.Time.TheVariants.{Relative}
use Rattle.pd_script.specs.declared.script_header.HeaderItem.{HeaderItem}
use Rattle.pd_seg.specs.declared.call_results.Answer.{Answer}
use Rattle.pd_seg.specs.declared.segments.Sent.{Sent}
use Rattle.pd_host.specs.Calls.{called}
use Rattle.pd_host.specs.Expiries.{advanced, deadline_of}
use Rattle.pd_host.specs.Host.{then_on}
use Rattle.pd_host.specs.declared.halts.Halt.{Halt}
use Rattle.pd_host.specs.declared.endpoint.SenderState.{SenderState}
use Rattle.pd_match.specs.Calls.{result_mismatch}
use Rattle.pd_print.specs.Answers.{expected_result_of}
use Rattle.pd_print.specs.Sent.{packet_of}
use Rattle.pd_run.specs.Prechecks.{failed_precheck}
use Rattle.pd_run.specs.Run.{start_of}
use Rattle.pd_run.specs.RunStates.{RunStateView}
use Rattle.pd_run.specs.Step.{tolerance_of, step}
use Rattle.pd_run.specs.Times.{single_moment_or_base, time_range_of, is_not_too_late_within_tolerance, base_from_moment_or_later_of_base_and_sent}
use Rattle.pd_run.specs.Verdicts.{precheck_verdict, verdict_by}
use Rattle.pd_run.specs.declared.verdict.Verdict.{Verdict}
use Rattle.pd_run.specs.declared.verdict.Verdict.TheVariants as verdict
use Rattle.pd_record.specs.declared.record_error.RecordError.{RecordError}
use Rattle.pd_record.specs.declared.record_error.RecordError.TheVariants.{Stopped, TooManyEvents, TooLongGap}
use Rattle.pd_record.specs.declared.recorded.OwnEvent.{OwnEvent}
use Rattle.pd_record.specs.declared.recorded.RecordedEvent.{RecordedEvent}
use Rattle.pd_record.specs.declared.recorded.RecordedAnswer.{RecordedAnswer}

-- the recorder between two events of a script: the run of the events recorded so far and their number, the base of
-- the script's times in microseconds, and the moments of the packets that were recorded and that no expected packet has met,
-- the oldest first
pub record RecorderView : Type 0 where
  pub run : RunStateView
  pub count : ℕ
  pub base : ℕ
  pub unmet : List ℕ

-- the recording of one event of a script: the packets that are before it, and the event in its place, if there is one
pub record EventRecordingView : Type 0 where
  pub before : List RecordedEvent
  pub own : Option OwnEvent

-- the recording, or why there is none
abbrev pub Answers : Type 0 → Type 0
Answers A = Result A RecordError

-- goes on with what was recorded
abbrev pub then_do : {A B : Type 0} → (A → Answers B) → Answers A → Answers B
then_do next (Ok x) = next x
then_do next (Err refusal) = Err refusal

-- a tape on which nothing was recorded
abbrev pub blank_from : Result RunStateView Verdict → Answers RecorderView
blank_from (Ok r) = Ok (record { run = r; count = 0; base = 0; unmet = [] })
blank_from (Err v) = Err (Stopped v)

-- before the first event
abbrev pub recorder_at_start : List HeaderItem → Settings → Answers RecorderView
recorder_at_start header settings = blank_from (start_of header settings)

-- ---- one event of the recording

-- why nothing is recorded at a moment: it would be the 4,097th event, or come more than 3,600 seconds after the one before
abbrev pub refusal_if_over_event_or_gap_limit : RecorderView → ℕ → Option RecordError
refusal_if_over_event_or_gap_limit t at =
    if nat_le 4096 t.count then Some TooManyEvents
    else (if nat_lt 3600000000 (at - t.run.base) then Some TooLongGap else None)

-- goes on unless there is a reason not to
abbrev pub unless : {A : Type 0} → Answers A → Option RecordError → Answers A
unless answer None = answer
unless answer (Some refusal) = Err refusal

-- an event at a moment, counted from the event recorded before
abbrev pub event_at : RecorderView → ℕ → ℕ → Action → Event
event_at t line at action = record { line = line; time = Relative (at - t.run.base); blocking_end = None; action = action }

-- the tape after a step
abbrev pub gone_to : RecorderView → Result RunStateView Verdict → Answers RecorderView
gone_to t (Ok r) = Ok (record t { run = r; count = t.count + 1 })
gone_to t (Err v) = Err (Stopped v)

-- the tape after the step of an event
abbrev pub stepped : RecorderView → Event → Answers RecorderView
stepped t e = gone_to t (step t.run e)

-- an event of the recording, with its moment
abbrev pub recorded_as : ℕ → Event → RecordedEvent
recorded_as at e = record { event = e; at = at }

-- an event at a moment is recorded; halts are reported at a line of the script
abbrev pub happened : RecorderView → ℕ → ℕ → Action → Answers (RecorderView × RecordedEvent)
happened t line at action =
    unless (then_do (λ u. Ok (u, recorded_as at (event_at t line at action))) (stepped t (event_at t line at action))) (refusal_if_over_event_or_gap_limit t at)

-- ---- packets that leave

-- the oldest packet that is unmatched after expiries
abbrev pub oldest_of : Result SenderState Halt → Option Sent
oldest_of (Ok s) = slice_get s.endpoint.outbox 0
oldest_of (Err halt) = None

-- the packet that is unmatched, else the one that the next expiry sends, if one may come
abbrev pub or_expired : SenderState → Option Sent → Option ℕ → Option Sent
or_expired s (Some sent) due = Some sent
or_expired s None None = None
or_expired s None (Some at) = oldest_of (advanced at s)

-- the packet that leaves next: the oldest that is unmatched, else the one that the next expiry sends, if one may come
abbrev pub oldest_unmatched_or_next_expiry_packet : SenderState → Option ℕ → Option Sent
oldest_unmatched_or_next_expiry_packet s due = or_expired s (slice_get s.endpoint.outbox 0) due

-- the moment of an expiry that may come
abbrev pub due_where : (ℕ → Bool) → Option ℕ → Option ℕ
due_where may_come None = None
due_where may_come (Some at) = if may_come at then Some at else None

-- the packet of a run that leaves next, by expiries that may come
abbrev pub leaves_next : (ℕ → Bool) → RunStateView → Option Sent
leaves_next may_come r = oldest_unmatched_or_next_expiry_packet r.host.state (due_where may_come (deadline_of r.host.state))

-- a packet is recorded as it left, at its own moment
abbrev pub departs : RecorderView → ℕ → Sent → Answers (RecorderView × RecordedEvent)
departs t line sent = happened t line sent.at (Outbound (packet_of sent.segment))

-- a packet was recorded that no expected packet has met
abbrev pub with_unmet : RecorderView → ℕ → RecorderView
with_unmet t at = record t { unmet = t.unmet ++ at ∷ [] }

-- a packet that leaves next is recorded after others, and then what follows; without one that is all
abbrev pub comes_on : (List RecordedEvent → RecorderView → Answers (RecorderView × List RecordedEvent)) → ℕ → List RecordedEvent → RecorderView → Option Sent → Answers (RecorderView × List RecordedEvent)
comes_on further line before t None = Ok (t, before)
comes_on further line before t (Some sent) =
    then_do (λ x. further (before ++ x.1 ∷ []) (with_unmet x.0 sent.at)) (departs t line sent)

-- packets that are unmatched, and those that the expiries up to a moment send, are recorded one by one after others; so many
-- at most
unfoldable pub comes : ℕ → ℕ → ℕ → List RecordedEvent → RecorderView → Answers (RecorderView × List RecordedEvent)
comes zero line until before t = Err TooManyEvents
comes (suc n) line until before t =
    comes_on (comes n line until) line before t (leaves_next (λ due. nat_le due until) t.run)

-- all that leaves up to a moment
abbrev pub left_by : ℕ → ℕ → RecorderView → Answers (RecorderView × List RecordedEvent)
left_by line until t = comes 4096 line until [] t

-- ---- inputs

-- the script's next times count from another moment
abbrev pub with_base : ℕ → RecorderView → RecorderView
with_base base t = record t { base = base }

-- an input acts at the later of its time and the clock
abbrev pub action_time_not_before_clock : RecorderView → Event → ℕ
action_time_not_before_clock t e = max (single_moment_or_base t.base e.time) t.run.clock

-- packets that left before an input come before it; afterwards the base is the input's time
abbrev pub inputs : (RecorderView → Answers (RecorderView × OwnEvent)) → RecorderView → Event → Answers (RecorderView × EventRecordingView)
inputs act t e =
    then_do (λ x. then_do (λ y. Ok (with_base (single_moment_or_base t.base e.time) y.0, record { before = x.1; own = Some y.1 })) (act x.0))
    (left_by e.line (action_time_not_before_clock t e) t)

-- a packet arrives
abbrev pub arrives : ℕ → ℕ → Packet → RecorderView → Answers (RecorderView × OwnEvent)
arrives line at packet t = then_do (λ x. Ok (x.0, record { recorded = x.1; recorded_answer = None })) (happened t line at (Inbound packet))

-- the sender's answer, or the halt at a line
abbrev pub answered : ℕ → Result (SenderState × Answer) Halt → Answers Answer
answered line (Ok x) = Ok x.1
answered line (Err halt) = Err (Stopped (verdict_by line halt))

-- the sender's answer to a call at a moment
abbrev pub answer_at : RecorderView → ℕ → ℕ → Call → Answers Answer
answer_at t line at call = unless (answered line (then_on (called call at) (advanced at t.run.host.state))) (refusal_if_over_event_or_gap_limit t at)

-- the same call with an answer for its result
abbrev pub with_answer : Call → Answer → Call
with_answer call answer = record call { result = expected_result_of answer }

-- a call's answer, and whether it is the written result
abbrev pub recorded_answer_of : Call → Answer → RecordedAnswer
recorded_answer_of call answer = record { answer = answer; is_expected = is_none (result_mismatch call.result answer) }

-- a call is made, and recorded with what the sender answers
abbrev pub calls : ℕ → ℕ → Call → RecorderView → Answers (RecorderView × OwnEvent)
calls line at call t =
    then_do
    (λ answer. then_do (λ x. Ok (x.0, record { recorded = x.1; recorded_answer = Some (recorded_answer_of call answer) }))
    (happened t line at (Calls (with_answer call answer))))
    (answer_at t line at call)

-- ---- expected packets

-- the base after an expected packet that met one which left at a moment, or none
abbrev pub based_after : Time → Option ℕ → RecorderView → RecorderView
based_after time met t = with_base (base_from_moment_or_later_of_base_and_sent t.base time (unwrap_or met t.base)) t

-- an expected packet that no recorded one is there for meets the one that leaves next, if any does
abbrev pub meets : RecorderView → Event → Option Sent → Answers (RecorderView × EventRecordingView)
meets t e None = Ok (based_after e.time None t, record { before = []; own = None })
meets t e (Some sent) =
    then_do (λ x. Ok (based_after e.time (Some sent.at) x.0, record { before = []; own = Some (record { recorded = x.1; recorded_answer = None }) }))
    (departs t e.line sent)

-- an expected packet meets the oldest of those that were recorded and that none has met; without one the packet that leaves
-- next, by an expiry within reach
abbrev pub meets_oldest : RecorderView → Event → List ℕ → Answers (RecorderView × EventRecordingView)
meets_oldest t e (at ∷ others) = Ok (based_after e.time (Some at) (record t { unmet = others }), record { before = []; own = None })
meets_oldest t e [] = meets t e (leaves_next (is_not_too_late_within_tolerance (time_range_of t.base e.time) (tolerance_of t.run)) t.run)

-- an expected packet meets the oldest that none has met
abbrev pub expects : RecorderView → Event → Answers (RecorderView × EventRecordingView)
expects t e = meets_oldest t e t.unmet

-- ---- events of the script

-- the checks of a step before anything happens, from the base of the script's times
abbrev pub precheck_at : RecorderView → Event → Option RecordError
precheck_at t e = option_map (λ bar. Stopped (precheck_verdict e.line bar)) (failed_precheck t.base e)

-- the recording of an action
abbrev pub performed : RecorderView → Event → Action → Answers (RecorderView × EventRecordingView)
performed t e (Inbound packet) = inputs (arrives e.line (action_time_not_before_clock t e) packet) t e
performed t e (Outbound packet) = expects t e
performed t e (Calls call) = inputs (calls e.line (action_time_not_before_clock t e) call) t e
performed t e _ = Err (Stopped (verdict.Unsupported e.line))

-- the recording of an event of the script
abbrev pub recorded : RecorderView → Event → Answers (RecorderView × EventRecordingView)
recorded t e = unless (performed t e e.action) (precheck_at t e)
