-- The reasons for which an event isn't run, whatever the sender does.
use Rattle.std.specs.Prelude.{ℕ, not, Option, Some, None, if◌then◌else◌}
use Rattle.pd_script.specs.declared.script_events.Event.{Event}
use Rattle.pd_run.specs.Limits.{is_any_event_number_over_limit}
use Rattle.pd_run.specs.Supported.{is_shape_supported}
use Rattle.pd_run.specs.Times.{is_before_base_beyond_tolerance}
use Rattle.pd_run.specs.declared.prechecks.Precheck.{Precheck}
use Rattle.pd_run.specs.declared.prechecks.Precheck.TheVariants.{OverLimit, NotRun, Backwards}

-- the checks of an event before anything happens, in their order, by the base of its time: the first that it doesn't pass
abbrev pub failed_precheck : ℕ → Event → Option Precheck
failed_precheck base e =
    if is_any_event_number_over_limit e then Some OverLimit
    else (if not (is_shape_supported e) then Some NotRun
    else (if is_before_base_beyond_tolerance base e.time then Some Backwards else None))
