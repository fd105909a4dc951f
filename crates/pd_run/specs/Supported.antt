-- Which events are run.
use Rattle.std.specs.Prelude.{Bool, false, not, ◌&&◌, is_some, is_none}
use Rattle.pd_script.specs.declared.script_events.Action.{Action}
use Rattle.pd_script.specs.declared.script_events.Action.TheVariants.{Inbound, Outbound, Call as Calls}
use Rattle.pd_script.specs.declared.script_events.Event.{Event}
use Rattle.pd_script.specs.declared.timing.Time.{Time}
use Rattle.pd_host.specs.Syscalls.{syscall_of}
use Rattle.pd_run.specs.Times.{is_single_moment}

-- a packet that arrives and a call happen at one moment; a packet has none of the flags U, E, W and C; a call has a name
-- and a shape that are run; a command and code aren't run
abbrev pub is_time_and_action_shape_supported : Time → Action → Bool
is_time_and_action_shape_supported time (Inbound p) = is_single_moment time && not p.flags.other
is_time_and_action_shape_supported time (Outbound p) = not p.flags.other
is_time_and_action_shape_supported time (Calls call) = is_single_moment time && is_some (syscall_of call)
is_time_and_action_shape_supported time _ = false

-- a shape that is run: such an action, without a blocking time
abbrev pub is_shape_supported : Event → Bool
is_shape_supported e = is_none e.blocking_end && is_time_and_action_shape_supported e.time e.action
