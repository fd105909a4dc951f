-- One event of a run: its checks in order, what it does, and how it ends.
use Rattle.std.specs.Prelude.{◌≡◌, ℕ, ◌==◌, max, ◌||◌, length, slice_get, Option, Some, None, is_none, unwrap_or, Result, Ok, Err, if◌then◌else◌}
use Rattle.std.specs.Result.{result_err}
use Rattle.pd_script.specs.declared.calls.Call.{Call}
use Rattle.pd_script.specs.declared.packets.Packet.{Packet}
use Rattle.pd_script.specs.declared.script_events.Action.{Action}
use Rattle.pd_script.specs.declared.script_events.Action.TheVariants.{Inbound, Outbound, Call as Calls}
use Rattle.pd_script.specs.declared.script_events.Event.{Event}
use Rattle.pd_seg.specs.declared.call_results.Answer.{Answer}
use Rattle.pd_seg.specs.declared.segments.Sent.{Sent}
use Rattle.pd_host.specs.Arrivals.{arrived}
use Rattle.pd_host.specs.Calls.{called}
use Rattle.pd_host.specs.Expiries.{advanced, deadline_of}
use Rattle.pd_host.specs.Host.{then_on, without_oldest}
use Rattle.pd_host.specs.declared.halts.Halt.{Halt}
use Rattle.pd_host.specs.declared.halts.HostEnd.{HostEnd}
use Rattle.pd_host.specs.declared.halts.HostEnd.TheVariants as ending
use Rattle.pd_host.specs.declared.endpoint.SenderState.{SenderState}
use Rattle.pd_match.specs.Calls.{result_mismatch}
use Rattle.pd_match.specs.Packets.{mismatch}
use Rattle.pd_match.specs.declared.kinds.Kind.{Kind}
use Rattle.pd_run.specs.Prechecks.{failed_precheck}
use Rattle.pd_run.specs.InboundSegment.{segment_in}
pub use Rattle.pd_run.specs.RunStates.{RunStateView}
use Rattle.pd_run.specs.Times.{single_moment_or_base, time_range_of, is_not_too_late_within_tolerance, base_from_moment_or_later_of_base_and_sent}
use Rattle.pd_run.specs.Verdicts.{verdict_at}
use Rattle.pd_run.specs.declared.prechecks.Precheck.{Precheck}
use Rattle.pd_run.specs.declared.prechecks.Precheck.TheVariants.{NotRun}
use Rattle.pd_run.specs.declared.stepper.StepEnd.{StepEnd}
use Rattle.pd_run.specs.declared.stepper.StepEnd.TheVariants.{Go, Stop}
use Rattle.pd_run.specs.declared.verdict.Verdict.{Verdict}
use Rattle.pd_run.specs.declared.stop_reason.StopReason.{StopReason}
use Rattle.pd_run.specs.declared.stop_reason.StopReason.TheVariants.{FailedPrecheck, Halted, Missing, Differs, Answered}

-- the tolerance in microseconds: the header's, else the setting's
abbrev pub tolerance_of : RunStateView → ℕ
tolerance_of r = unwrap_or r.header_tolerance r.host.state.settings.tolerance_us

-- a packet is expected: without a header's tolerance that consults the setting's
abbrev pub comparison_noted : RunStateView → RunStateView
comparison_noted r = record r { used_tolerance = r.used_tolerance || is_none r.header_tolerance }

-- the run after an event: it goes on from the state after it, or from the reason that stopped it
abbrev pub on_step : {A S : Type 0} → (RunStateView → A) → (S → A) → Result RunStateView S → A
on_step go stop (Ok r) = go r
on_step go stop (Err s) = stop s

-- the compared fields agree, or the first that differs gives the reason to stop
abbrev pub judged : RunStateView → (Kind → StopReason) → Option Kind → Result RunStateView StopReason
judged r reason None = Ok r
judged r reason (Some kind) = Err (reason kind)

-- the run with its sender in another state
abbrev pub with_state : RunStateView → SenderState → RunStateView
with_state r s = record r { host = record r.host { state = s } }

-- a packet that arrives, and a call, act at the later of the event's time and the clock
abbrev pub action_time_not_before_clock : RunStateView → Event → ℕ
action_time_not_before_clock r e = max (single_moment_or_base r.base e.time) r.clock

-- the run after that: the clock is that moment, the base is the event's time
abbrev pub acted : RunStateView → Event → SenderState → RunStateView
acted r e s = record (with_state r s) { clock = action_time_not_before_clock r e; base = single_moment_or_base r.base e.time }

-- a packet arrives, after all expiries up to its moment
abbrev pub arrives : RunStateView → Event → Packet → Result SenderState Halt
arrives r e p = then_on (arrived (segment_in p) (action_time_not_before_clock r e)) (advanced (action_time_not_before_clock r e) r.host.state)

-- the result of the arrival: the run goes on, or the sender halts
abbrev pub on_arrival : RunStateView → Event → Result SenderState Halt → Result RunStateView StopReason
on_arrival r e (Ok s) = Ok (acted r e s)
on_arrival r e (Err halt) = Err (Halted halt)

-- a call is made, after all expiries up to its moment
abbrev pub answers : RunStateView → Event → Call → Result (SenderState × Answer) Halt
answers r e call = then_on (called call (action_time_not_before_clock r e)) (advanced (action_time_not_before_clock r e) r.host.state)

-- the result of the call: its answer is compared with the written one, in the run after it, or the sender halts
abbrev pub on_answer : RunStateView → Event → Call → Result (SenderState × Answer) Halt → Result RunStateView StopReason
on_answer r e call (Ok (s, answer)) = judged (acted r e s) (λ kind. Answered answer (acted r e s)) (result_mismatch call.result answer)
on_answer r e call (Err halt) = Err (Halted halt)

-- the next expiry is performed, and the clock becomes its moment; or the sender halts
abbrev pub on_expiry : RunStateView → ℕ → Result SenderState Halt → Result RunStateView StopReason
on_expiry r at (Ok s) = Ok (record (with_state r s) { clock = at })
on_expiry r at (Err halt) = Err (Halted halt)

-- the next expiry, provided that a packet which it sends may still be the one expected; without such an expiry the packet
-- is missing
abbrev pub expires : RunStateView → Event → Option ℕ → Result RunStateView StopReason
expires r e None = Err Missing
expires r e (Some at) =
    if is_not_too_late_within_tolerance (time_range_of r.base e.time) (tolerance_of r) at then on_expiry r at (advanced at r.host.state) else Err Missing

-- where no packet is unmatched, the next expiry is awaited
abbrev pub awaited : RunStateView → Event → Result RunStateView StopReason
awaited r e = if length r.host.state.endpoint.outbox == 0 then expires r e (deadline_of r.host.state) else Ok r

-- the oldest packet that nobody has taken is compared, and taken where it agrees
abbrev pub packet_taken : Event → Packet → RunStateView → Option Sent → Result RunStateView StopReason
packet_taken e p r None = Err Missing
packet_taken e p r (Some sent) =
    judged (record r { host = without_oldest r.host; base = base_from_moment_or_later_of_base_and_sent r.base e.time sent.at }) (λ kind. Differs kind sent r)
    (mismatch p (time_range_of r.base e.time) sent (tolerance_of r))

-- a packet is expected to have left
abbrev pub leaves : RunStateView → Event → Packet → Result RunStateView StopReason
leaves r e p = on_step (λ s. packet_taken e p s (slice_get s.host.state.endpoint.outbox 0)) (λ reason. Err reason) (awaited r e)

-- the effect of an action of a shape that is run
abbrev pub performed : RunStateView → Event → Action → Result RunStateView StopReason
performed r e (Inbound p) = on_arrival r e (arrives r e p)
performed r e (Outbound p) = leaves (comparison_noted r) e p
performed r e (Calls call) = on_answer r e call (answers r e call)
performed r e _ = Err (FailedPrecheck NotRun)

-- nothing happens where a check bars the event
abbrev pub unless_failed_precheck : Result RunStateView StopReason → Option Precheck → Result RunStateView StopReason
unless_failed_precheck came None = came
unless_failed_precheck came (Some bar) = Err (FailedPrecheck bar)

-- how an event ends: the run goes on in the next state, or stops for a reason
abbrev pub precheck_then_perform_event_and_find_stop : RunStateView → Event → Result RunStateView StopReason
precheck_then_perform_event_and_find_stop r e = unless_failed_precheck (performed r e e.action) (failed_precheck r.base e)

-- the same with the reason's verdict at a line
abbrev pub at_line : ℕ → Result RunStateView StopReason → Result RunStateView Verdict
at_line line (Ok r) = Ok r
at_line line (Err reason) = Err (verdict_at line reason)

-- one event: the next state, or the verdict of a stop
abbrev pub step : RunStateView → Event → Result RunStateView Verdict
step r e = at_line e.line (precheck_then_perform_event_and_find_stop r e)

-- why a run stops at an event; nothing where it goes on
abbrev pub stop_reason : RunStateView → Event → Option StopReason
stop_reason r e = result_err (precheck_then_perform_event_and_find_stop r e)

-- the answer of a step, and the state that it left where the run goes on
abbrev pub IsStepEnd : Result RunStateView Verdict → StepEnd → RunStateView → Type 0
IsStepEnd came Go new = came ≡ Ok new
IsStepEnd came (Stop v) new = came ≡ Err v

-- a step by whether the sender has ended: of a run that was stopped by a halt nothing is claimed, and one that has found no
-- memory takes no further step
abbrev pub StepsFrom : Option HostEnd → RunStateView → Event → StepEnd → RunStateView → Type 0
StepsFrom None old e end new = IsStepEnd (step old e) end new
StepsFrom (Some (ending.Halted h)) old e end new = Unit {0}
StepsFrom (Some ending.OutOfMemory) old e end new = ⊥

-- the same of a run, by how its sender stands before the step
abbrev pub Steps : RunStateView → Event → StepEnd → RunStateView → Type 0
Steps old e end new = StepsFrom old.host.end_reason old e end new
