-- The laws of the reasons for which runs stop.
use Rattle.std.specs.Prelude.{◌≡◌, slice_get, Option, Some, None, option_map, Result, Ok, Err}
use Rattle.pd_script.specs.declared.packets.Packet.{Packet}
use Rattle.pd_script.specs.declared.script_events.Action.TheVariants.{Outbound}
use Rattle.pd_script.specs.declared.script_events.Event.{Event}
use Rattle.pd_seg.specs.declared.segments.Sent.{Sent}
use Rattle.pd_match.specs.Agreement.{Agrees, IsFirstFailing}
use Rattle.pd_match.specs.Packets.{compared_fields}
use Rattle.pd_match.specs.declared.kinds.Kind.{Kind}
pub use Rattle.pd_run.specs.Step.{stop_reason}
use Rattle.pd_run.specs.Step.{RunStateView, tolerance_of, comparison_noted, awaited, step}
use Rattle.pd_run.specs.Times.{time_range_of}
pub use Rattle.pd_run.specs.Verdicts.{verdict_at}
use Rattle.pd_run.specs.declared.verdict.Verdict.{Verdict}
use Rattle.pd_run.specs.declared.stop_reason.StopReason.TheVariants.{Differs}

-- the verdict of a step that stops
abbrev pub verdict_by_step : Result RunStateView Verdict → Option Verdict
verdict_by_step (Ok r) = None
verdict_by_step (Err v) = Some v

-- a law: a run stops at an event exactly where there is a reason for it, with the verdict of that reason
abbrev pub ReasonsGiveVerdicts : Type 0
ReasonsGiveVerdicts = (r : RunStateView) (e : Event) → option_map (verdict_at e.line) (stop_reason r e) ≡ verdict_by_step (step r e)

-- a law: where a packet differs, it is the oldest that nobody had taken, of the run that awaited it, and what is named is the
-- first field, in the order of comparison, that doesn't agree with the expected one
abbrev pub DifferencesAreFirst : Type 0
DifferencesAreFirst =
    (r q : RunStateView) (e : Event) (p : Packet) (k : Kind) (sent : Sent) → e.action ≡ Outbound p → stop_reason r e ≡ Some (Differs k sent q)
    → (awaited (comparison_noted r) e ≡ Ok q)
    × (slice_get q.host.state.endpoint.outbox 0 ≡ Some sent)
    × IsFirstFailing (Agrees p (time_range_of q.base e.time) sent (tolerance_of q)) compared_fields (Some k)
