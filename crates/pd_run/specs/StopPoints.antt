-- Where a run stops on a line, and why.
use Rattle.std.specs.Prelude.{◌≡◌, ℕ, ◌+◌, ◌==◌, List, [], ◌∷◌, Option, Some, None, Result, Ok, Err, if◌then◌else◌}
use Rattle.pd_settings.specs.declared.settings.Settings.{Settings}
use Rattle.pd_script.specs.declared.parsed.Parsed.{Parsed}
use Rattle.pd_script.specs.declared.script_events.Event.{Event}
use Rattle.pd_run.specs.Run.{start_of, verdict_from}
use Rattle.pd_run.specs.Step.{RunStateView, on_step, step}
use Rattle.pd_run.specs.StopReason.{stop_reason, verdict_at}
use Rattle.pd_run.specs.declared.stop_point.StopPoint.{StopPoint}
use Rattle.pd_run.specs.declared.verdict.Verdict.{Verdict}
use Rattle.pd_run.specs.declared.verdict.Verdict.TheVariants as verdict
use Rattle.pd_run.specs.declared.stop_reason.StopReason.{StopReason}

-- why an event on the line stops a run
abbrev pub preview_stop_reason_if_on_line : ℕ → RunStateView → Event → Option StopReason
preview_stop_reason_if_on_line line r e = if e.line == line then stop_reason r e else None

-- an event stops a run after n others, where there is a reason; else the rest follows
abbrev pub stop_by : ℕ → RunStateView → Option StopReason → Option StopPoint → Option StopPoint
stop_by n r (Some reason) rest = Some (record { passed = n; before = r; stop_reason = reason })
stop_by n r None rest = rest

-- where the events that are left, after n others, stop a run on a line
abbrev pub stop_from : ℕ → ℕ → List Event → RunStateView → Option StopPoint
stop_from line n [] r = None
stop_from line n (e ∷ es) r =
    stop_by n r (preview_stop_reason_if_on_line line r e) (on_step (stop_from line (n + 1) es) (λ v. None) (step r e))

-- the same of a script that was read, from its first event on a fresh host
abbrev pub stop_in : ℕ → Settings → Parsed → Option StopPoint
stop_in line settings parsed = started (start_of parsed.header.items settings)
  where
    started : Result RunStateView Verdict → Option StopPoint
    started (Ok r) = stop_from line 0 parsed.events r
    started (Err v) = None

-- the line at which a verdict says that an event stopped the run
abbrev pub line_of : Verdict → Option ℕ
line_of (verdict.Fail line kind) = Some line
line_of (verdict.Unsupported line) = Some line
line_of (verdict.Limit line) = Some line
line_of _ = None

-- a law: a run with a verdict at a line stops there, by a reason with this verdict
abbrev pub VerdictsHaveReasons : Type 0
VerdictsHaveReasons =
    (n line : ℕ) (es : List Event) (r : RunStateView) → line_of (verdict_from n es r) ≡ Some line
    → (stop : StopPoint) × (stop_from line n es r ≡ Some stop) × (verdict_at line stop.stop_reason ≡ verdict_from n es r)
