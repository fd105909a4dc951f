-- Packets that no line of a script asks for.
use Rattle.std.specs.Prelude.{◌≡◌, ℕ, ◌+◌, ◌<◌, ◌^◌, max, false, List, [], ◌∷◌, Option, Some, None, is_none, option_map, unwrap_or, if◌then◌else◌}
use Rattle.std.specs.List.{AllByRecursion, list_any}
use Rattle.pd_script.specs.declared.packets.Packet.{Packet}
use Rattle.pd_script.specs.declared.script_events.Action.{Action}
use Rattle.pd_script.specs.declared.script_events.Action.TheVariants.{Outbound}
use Rattle.pd_script.specs.declared.script_events.Event.{Event}
use Rattle.pd_script.specs.declared.timing.Time.{Time}
use Rattle.pd_seg.specs.declared.segments.Sent.{Sent}
use Rattle.pd_match.specs.Packets.{mismatch}
use Rattle.pd_run.specs.Laws.{unmatched}
use Rattle.pd_run.specs.Limits.{is_long, written_times}
use Rattle.pd_run.specs.Step.{RunStateView, tolerance_of}
use Rattle.pd_run.specs.Times.{time_range_of}

-- how many packets come before the first that agrees with an expected one, each of which moves the base of times as one that an event
-- takes does; nothing where none agrees
abbrev pub before_awaited : Packet → Time → ℕ → ℕ → List Sent → Option ℕ
before_awaited p time tolerance base [] = None
before_awaited p time tolerance base (sent ∷ others) =
    if is_none (mismatch p (time_range_of base time) sent tolerance) then Some 0
    else option_map (λ n. n + 1) (before_awaited p time tolerance (max base sent.at) others)

-- how many of a run's packets no line asks for, of those that nobody has taken: those that come before the first which an event
-- awaits; none where that isn't among them
abbrev pub unexpected : Event → RunStateView → ℕ
unexpected e r = by e.action
  where
    by : Action → ℕ
    by (Outbound p) = unwrap_or (before_awaited p e.time (tolerance_of r) r.base (unmatched r)) 0
    by _ = 0

-- the base of a run and the moments of its packets lie within the limits of a run
abbrev pub IsEarly : RunStateView → Type 0
IsEarly r = (r.base < 2 ^ 61) × AllByRecursion (λ (sent : Sent). sent.at < 2 ^ 61) (unmatched r)

-- so many of them no line asks for, within these limits
abbrev pub CountsUnexpected : Event → RunStateView → ℕ → Type 0
CountsUnexpected e r count = IsEarly r → list_any is_long (written_times e.time) ≡ false → count ≡ unexpected e r
