-- Segments that a check of the sender dropped, before a packet that differs or is missing.
use Rattle.std.specs.Prelude.{ℕ, ◌-◌, Bool, true, false, List, [], drop, length, map, take, Option, Some, None, is_none, Result, Ok, Err, if◌then◌else◌}
use Rattle.std.specs.List.{filter_map, zip}
use Rattle.pd_settings.specs.declared.settings.Settings.{Settings}
use Rattle.pd_script.specs.declared.packets.Packet.{Packet}
use Rattle.pd_script.specs.declared.parsed.Parsed.{Parsed}
use Rattle.pd_script.specs.declared.script_events.Action.{Action}
use Rattle.pd_script.specs.declared.script_events.Action.TheVariants.{Inbound}
use Rattle.pd_script.specs.declared.script_events.Event.{Event}
use Rattle.pd_host.specs.Arrivals.{failed_check_in}
use Rattle.pd_host.specs.Expiries.{advanced}
use Rattle.pd_host.specs.declared.connection.segment_check.SegmentCheck.{SegmentCheck}
use Rattle.pd_host.specs.declared.connection.segment_check.SegmentCheck.TheVariants.{StrayRst, OutsideWindow, ChallengedRst, WithoutAck, RefusedAck, EarlyAck, OldAck}
use Rattle.pd_host.specs.declared.endpoint.SenderState.{SenderState}
use Rattle.pd_host.specs.declared.halts.Halt.{Halt}
use Rattle.pd_run.specs.Prechecks.{failed_precheck}
use Rattle.pd_run.specs.InboundSegment.{segment_in}
use Rattle.pd_run.specs.Step.{RunStateView, action_time_not_before_clock}
use Rattle.pd_run.specs.declared.stop_point.StopPoint.{StopPoint}
use Rattle.pd_run.specs.declared.stop_reason.StopReason.{StopReason}
use Rattle.pd_run.specs.declared.stop_reason.StopReason.TheVariants.{Missing, Differs}
use Rattle.pd_cause.specs.Origins.{stages}
use Rattle.pd_cause.specs.declared.dropped.DroppedSegment.{DroppedSegment}

-- a check by which a segment counts for nothing: it is dropped, answered or not; of one with an old ACK a FIN alone counts
-- (RFC 9293, section 3.10.7.4)
abbrev pub is_check_that_drops_segment : SegmentCheck → Bool
is_check_that_drops_segment StrayRst = true
is_check_that_drops_segment OutsideWindow = true
is_check_that_drops_segment ChallengedRst = true
is_check_that_drops_segment WithoutAck = true
is_check_that_drops_segment RefusedAck = true
is_check_that_drops_segment EarlyAck = true
is_check_that_drops_segment OldAck = true
is_check_that_drops_segment _ = false

-- the check that a packet doesn't pass which arrives when all expiries up to its moment are over
abbrev pub failed_check_after_expiries : Packet → Result SenderState Halt → Option SegmentCheck
failed_check_after_expiries p (Ok s) = failed_check_in (segment_in p) s
failed_check_after_expiries p (Err halt) = None

-- the same of an event in a run
abbrev pub failed_check_in_event : RunStateView → Event → Action → Option SegmentCheck
failed_check_in_event r e (Inbound p) = failed_check_after_expiries p (advanced (action_time_not_before_clock r e) r.host.state)
failed_check_in_event r e _ = None

-- the report of it, where it drops the segment
abbrev pub dropped_segment_if_check_drops : ℕ → Option SegmentCheck → Option DroppedSegment
dropped_segment_if_check_drops line None = None
dropped_segment_if_check_drops line (Some failed_check) = if is_check_that_drops_segment failed_check then Some (record { line = line; failed_check = failed_check }) else None

-- the check that decides on the segment of an event; none where a check bars the event
abbrev pub deciding_check : RunStateView → Event → Option SegmentCheck
deciding_check r e = if is_none (failed_precheck r.base e) then failed_check_in_event r e e.action else None

-- the segment that is dropped in an event
abbrev pub dropped_in_event : RunStateView → Event → Option DroppedSegment
dropped_in_event r e = dropped_segment_if_check_drops e.line (deciding_check r e)

-- of each of the first events of a script
abbrev pub dropped_in : Settings → Parsed → ℕ → List (Option DroppedSegment)
dropped_in settings parsed passed = take passed (map (λ at. dropped_in_event at.0 at.1) (zip (stages settings parsed) parsed.events))

-- the last items of a list
abbrev pub last : {A : Type 0} → ℕ → List A → List A
last n xs = drop (length xs - n) xs

-- those that are reported: the last four among the last 16 events
abbrev pub last_dropped_segments_of_last_events : List (Option DroppedSegment) → List DroppedSegment
last_dropped_segments_of_last_events each = last 4 (filter_map (λ it. it) (last 16 each))

-- those before an event
abbrev pub dropped_before : Settings → Parsed → ℕ → List DroppedSegment
dropped_before settings parsed passed = last_dropped_segments_of_last_events (dropped_in settings parsed passed)

-- those where a run stops: before a packet that differs or is missing
abbrev pub last_dropped_segments_if_packet_stop : Settings → Parsed → StopPoint → List DroppedSegment
last_dropped_segments_if_packet_stop settings parsed stop = by stop.stop_reason
  where
    by : StopReason → List DroppedSegment
    by Missing = dropped_before settings parsed stop.passed
    by (Differs kind sent r) = dropped_before settings parsed stop.passed
    by _ = []
