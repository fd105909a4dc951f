-- The effect of the line that is shown as the actual one, in the place of the script's.
use Rattle.std.specs.Prelude.{◌≡◌, ℕ, max, false, Some, Ok}
use Rattle.pd_script.specs.declared.packets.Packet.{Packet}
use Rattle.pd_script.specs.declared.script_events.Action.TheVariants.{Outbound}
use Rattle.pd_script.specs.declared.script_events.Event.{Event}
use Rattle.pd_seg.specs.declared.segments.Sent.{Sent}
use Rattle.pd_host.specs.Host.{without_oldest}
use Rattle.pd_match.specs.declared.kinds.Kind.{Kind}
use Rattle.pd_print.specs.Sent.{packet_of}
use Rattle.pd_run.specs.Limits.{is_any_event_number_over_limit}
use Rattle.pd_run.specs.Step.{RunStateView, step}
use Rattle.pd_run.specs.StopReason.{stop_reason}
use Rattle.pd_run.specs.declared.stop_reason.StopReason.TheVariants.{Differs}
use Rattle.pd_cause.specs.AlignedPackets.{relative_or_any_time_from_base}

-- the event with the packet that was sent, at the time from the base that is shown of it, in the place of its own
abbrev pub with_actual : ℕ → Sent → Event → Event
with_actual base sent e = record e { time = relative_or_any_time_from_base base sent.at; action = Outbound (packet_of sent.segment) }

-- the run that took its oldest packet, which was sent at this moment: the base is the later of the two
abbrev pub past_packet : Sent → RunStateView → RunStateView
past_packet sent r = record r { host = without_oldest r.host; base = max r.base sent.at }

-- a law: where a packet differs, the event with the packet that was compared in its place passes, and the run goes on past
-- it, unless a number of that packet or its time is over the limits of a run
abbrev pub ActualPacketsPass : Type 0
ActualPacketsPass =
    (r q : RunStateView) (e : Event) (p : Packet) (k : Kind) (sent : Sent)
    → e.action ≡ Outbound p
    → stop_reason r e ≡ Some (Differs k sent q)
    → is_any_event_number_over_limit (with_actual q.base sent e) ≡ false
    → step r (with_actual q.base sent e) ≡ Ok (past_packet sent q)
