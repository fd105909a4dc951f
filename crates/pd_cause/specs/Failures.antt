-- The report of an event that failed.
use Rattle.std.specs.Prelude.{◌≡◌, ℕ, ◌++◌, Bool, true, false, List}
use Rattle.pd_script.specs.declared.script_events.Action.{Action}
use Rattle.pd_script.specs.declared.script_events.Action.TheVariants.{Outbound}
use Rattle.pd_script.specs.declared.script_events.Event.{Event}
use Rattle.pd_seg.specs.declared.segments.Sent.{Sent}
use Rattle.pd_print.specs.Answers.{answer_text}
use Rattle.pd_print.specs.Numbers.{time_text}
use Rattle.pd_print.specs.Sent.{packet_of}
use Rattle.pd_host.specs.Expiries.{deadline_of}
use Rattle.pd_host.specs.SendBlockers.{blocker_in}
use Rattle.pd_host.specs.Host.{HostView}
use Rattle.pd_run.specs.RunStates.{RunStateView}
use Rattle.pd_run.specs.declared.prechecks.Precheck.TheVariants.{Backwards}
use Rattle.pd_run.specs.declared.stop_point.StopPoint.{StopPoint}
use Rattle.pd_run.specs.declared.stop_reason.StopReason.{StopReason}
use Rattle.pd_run.specs.declared.stop_reason.StopReason.TheVariants as stop_reason
use Rattle.pd_cause.specs.AlignedPackets.{relative_or_any_time_from_base, comment_of, align_packet_to_other}
use Rattle.pd_cause.specs.Outlook.{IsOutlook}
use Rattle.pd_cause.specs.SenderSnapshots.{snapshot_of, reason_of}
use Rattle.pd_refusal.specs.Escape.{escaped}
use Rattle.pd_cause.specs.Unexpected.{CountsUnexpected}
use Rattle.pd_cause.specs.declared.causes.failure.WrongPacket.{WrongPacket}
use Rattle.pd_cause.specs.declared.causes.failure.Failed.{Failed}
use Rattle.pd_cause.specs.declared.causes.failure.Failed.TheVariants as failed
use Rattle.pd_cause.specs.declared.causes.failure.Failure.{Failure}

-- an event failed, so that no rule stopped it
abbrev pub is_failure : StopReason → Bool
is_failure (stop_reason.FailedPrecheck Backwards) = true
is_failure stop_reason.Missing = true
is_failure (stop_reason.Differs kind sent r) = true
is_failure (stop_reason.Answered answer r) = true
is_failure _ = false

-- the sender at the stop: after the call whose result it is, after the expiry that sent the packet compared, else as the event
-- found it
abbrev pub sender_at : RunStateView → StopReason → HostView
sender_at before (stop_reason.Differs kind sent r) = r.host
sender_at before (stop_reason.Answered answer r) = r.host
sender_at before _ = before.host

-- the expected packet, whose time is shown so, and the one that was sent, one below the other
abbrev pub ShowsPackets : List ℕ → Action → Sent → ℕ → WrongPacket → Type 0
ShowsPackets time (Outbound p) sent base c =
    (c.script.items ≡ align_packet_to_other time p (time_text (relative_or_any_time_from_base base sent.at)) (packet_of sent.segment))
    × (c.actual.items ≡ align_packet_to_other (time_text (relative_or_any_time_from_base base sent.at)) (packet_of sent.segment) time p ++ comment_of sent.at)
ShowsPackets time _ sent base c = Unit {0}

-- the report of the event, whose time is written so, by why it stopped the run
abbrev pub Tells : List ℕ → Event → RunStateView → StopReason → Failed → Type 0
Tells time e before (stop_reason.Differs kind sent r) (failed.Packet c) =
    (c.kind ≡ kind) × (c.at ≡ sent.at) × ShowsPackets (escaped time) e.action sent r.base c × CountsUnexpected e r c.unexpected
Tells time e before stop_reason.Missing (failed.Missing w) =
    (w.reason ≡ reason_of e.action (blocker_in before.host.state)) × (w.expiry ≡ deadline_of before.host.state)
    × IsOutlook before.host.state w.outlook
Tells time e before (stop_reason.Answered answer r) (failed.Result wrong_result) = wrong_result.answer.items ≡ answer_text answer
Tells time e before (stop_reason.FailedPrecheck Backwards) (failed.Backwards time_backwards) = time_backwards.base ≡ before.base
Tells time e before _ _ = ⊥

-- the same with the sender at the stop
abbrev pub IsFailureOf : List ℕ → Event → StopPoint → Failure → Type 0
IsFailureOf time e stop f =
    Tells time e stop.before stop.stop_reason f.failed × (f.sender ≡ snapshot_of (sender_at stop.before stop.stop_reason))
