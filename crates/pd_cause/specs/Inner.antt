-- Definitions that contracts of private functions cite and no public one does.
use Rattle.std.specs.Prelude.{◌≡◌, ◌≤◌, ℕ, List, [], ◌++◌, ◌+◌, ◌-◌, drop, map, take, replicate, length, min, slice_get, nat_le, Bool, Option, Some, option_map}
use Rattle.pd_settings.specs.declared.settings.Settings.{Settings}
use Rattle.pd_print.specs.Packets.{arrow}
use Rattle.pd_print.specs.declared.packet_texts.Direction.TheVariants.{Outbound}
use Rattle.pd_print.specs.declared.parts.PacketParts.{PacketParts}
use Rattle.pd_cause.specs.AlignedPackets.{pad_part_before_rest}
use Rattle.pd_script.specs.declared.timing.Time.{Time}
use Rattle.pd_script.specs.declared.parsed.Parsed.{Parsed}
use Rattle.pd_script.specs.declared.script_events.Event.{Event}
use Rattle.pd_host.specs.InputLaws.{PutsOutAfter, CallsPutOutAfter, AdvancesPutOutAfter}
use Rattle.pd_run.specs.Laws.{IsUnderway, unmatched, PassedPacketsAreTaken}
use Rattle.pd_run.specs.Step.{RunStateView, tolerance_of}
use Rattle.pd_run.specs.StopPoints.{stop_from, stop_in}
use Rattle.pd_run.specs.Times.{time_range_of}
use Rattle.pd_seg.specs.declared.segments.Sent.{Sent}
use Rattle.pd_run.specs.declared.stop_point.StopPoint.{StopPoint}
use Rattle.pd_run.specs.declared.stop_reason.StopReason.{StopReason}
use Rattle.pd_run.specs.declared.stop_reason.StopReason.TheVariants as stop_reason
use Rattle.pd_cause.specs.Origins.{stages, taken_by, after_timer, after_input, listed_packets, IsSentBy}
use Rattle.pd_cause.specs.Failures.{sender_at}
use Rattle.pd_cause.specs.declared.causes.failure.ExpectedTime.{ExpectedTime}
use Rattle.pd_cause.specs.declared.origins.Origin.{Origin}
use Rattle.pd_cause.specs.declared.origins.Trigger.{Trigger}
use Rattle.pd_cause.specs.declared.origins.Trigger.TheVariants.{Timer, Line}

-- the event of a packet that leaves, by its parts, each as wide as that of another one
abbrev pub align_parts_to_other : List ℕ → PacketParts → List ℕ → PacketParts → List ℕ
align_parts_to_other time p other q =
    pad_part_before_rest time other (arrow Outbound
    ++ pad_part_before_rest p.flags.items q.flags.items
    (pad_part_before_rest p.octets.items q.octets.items
    (pad_part_before_rest p.ack.items q.ack.items
    (pad_part_before_rest p.win.items q.win.items p.options.items))))

-- when a packet with a time is awaited
abbrev pub expected_time_of : Time → RunStateView → Option ExpectedTime
expected_time_of time r = option_map expected_time (time_range_of r.base time)
  where
    expected_time : ℕ × ℕ → ExpectedTime
    expected_time time_range = record { first = time_range.0; last = time_range.1; tolerance = tolerance_of r }

-- a run that was taken up after so many events of a script stops where the whole run does
pub record IsResumed (settings : Settings) (parsed : Parsed) (passed : ℕ) (run : RunStateView) : Type 0 where
  pub underway : IsUnderway passed run
  pub stage : slice_get (stages settings parsed) passed ≡ Some run
  pub stops : (line : ℕ) → stop_in line settings parsed ≡ stop_from line passed (drop passed parsed.events) run

-- a script's run gets as far as an event after so many others, or to its end
pub record Reaches (settings : Settings) (parsed : Parsed) (passed : ℕ) : Type 0 where
  pub run : RunStateView
  pub stage : slice_get (stages settings parsed) passed ≡ Some run
  pub within : passed ≤ length parsed.events

-- the origin of a packet, by its trigger
abbrev pub origin_by : Trigger → Sent → Origin
origin_by trigger sent = record { trigger = trigger; at = sent.at; rule = sent.rule }

-- the triggers of so many packets, first the timer and then the input of a line
abbrev pub triggers_of : ℕ → ℕ → ℕ → List Trigger
triggers_of timer input line = replicate timer Timer ++ replicate input (Line line)

-- the triggers of the packets that an event puts out
abbrev pub triggers_at : RunStateView → Event → List Trigger
triggers_at r e = triggers_of (length (after_timer r e) - length (unmatched r)) (length (after_input r e) - length (after_timer r e)) e.line

-- the same of an event that stopped a run: one whose packet or answer was compared
abbrev pub triggers_by : RunStateView → Event → StopReason → List Trigger
triggers_by r e (stop_reason.Differs kind sent q) = triggers_at r e
triggers_by r e (stop_reason.Answered answer q) = triggers_at r e
triggers_by r e _ = []

-- these let the packets go from a number on, up to so many that nobody has taken after so many events of a script
pub record AreTriggers (settings : Settings) (parsed : Parsed) (first passed packets : ℕ) (triggers : List Trigger) : Type 0 where
  pub counted : first + length triggers ≡ taken_by (take passed parsed.events) + packets
  pub each :
      (place : ℕ) (trigger : Trigger) → slice_get triggers place ≡ Some trigger
      → IsSentBy settings parsed (first + place) trigger

-- the origins of the oldest unmatched packets, by the triggers of those that were put out last
pub record AreOriginsOf (packets : List Sent) (triggers : List Trigger) (origins : List Origin) : Type 0 where
  pub all : length origins ≡ min listed_packets (length packets)
  pub each :
      (place : ℕ) (sent : Sent) (origin : Origin) → slice_get packets place ≡ Some sent → slice_get origins place ≡ Some origin
      → (trigger : Trigger) × (slice_get triggers (length triggers - length packets + place) ≡ Some trigger) × (origin ≡ origin_by trigger sent)

-- the packets that nobody has taken where a run stops
abbrev pub unmatched_at : StopPoint → List Sent
unmatched_at stop = (sender_at stop.before stop.stop_reason).state.endpoint.outbox

-- the triggers of the packets are known where a run stops
abbrev pub IsTraced : Settings → Parsed → StopPoint → List Trigger → Type 0
IsTraced settings parsed stop triggers = (first : ℕ) × AreTriggers settings parsed first stop.passed (length (unmatched_at stop)) triggers

-- the origin of each unmatched packet is known
abbrev pub knows_all_origins : StopPoint → List Trigger → Bool
knows_all_origins stop triggers = nat_le (length (unmatched_at stop)) (length triggers)

-- the triggers of the packets that a run put out that has come to its end
abbrev pub HasTriggersToEnd : Settings → Parsed → RunStateView → List Trigger → Type 0
HasTriggersToEnd settings parsed run triggers = AreTriggers settings parsed 0 (length parsed.events) (length (unmatched run)) triggers

-- the laws on which notes of triggers rest
pub record PacketsAppend : Type 0 where
  pub arrivals : PutsOutAfter
  pub calls : CallsPutOutAfter
  pub advances : AdvancesPutOutAfter
  pub taken : PassedPacketsAreTaken
