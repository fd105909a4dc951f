-- The numbers of an event that are over the limits of a run.
use Rattle.std.specs.Prelude.{ℕ, ◌-◌, ◌^◌, Bool, true, false, ◌||◌, ◌&&◌, nat_lt, Option, Some, None, List, [], ◌∷◌, length}
use Rattle.std.specs.List.{list_any, slice_get}
use Rattle.pd_script.specs.declared.calls.Argument.{Argument}
use Rattle.pd_script.specs.declared.calls.Argument.TheVariants.{Int}
use Rattle.pd_script.specs.declared.calls.Function.{Function}
use Rattle.pd_script.specs.declared.calls.Function.TheVariants.{Write}
use Rattle.pd_script.specs.declared.packets.SackBlock.{SackBlock}
use Rattle.pd_script.specs.declared.packets.Options.{Options}
use Rattle.pd_script.specs.declared.packets.Options.TheVariants.{Listed}
use Rattle.pd_script.specs.declared.packets.Packet.{Packet}
use Rattle.pd_script.specs.declared.packets.PacketOption.{PacketOption}
use Rattle.pd_script.specs.declared.packets.PacketOption.TheVariants.{Mss, Wscale, Sack}
use Rattle.pd_script.specs.declared.script_events.Action.{Action}
use Rattle.pd_script.specs.declared.script_events.Action.TheVariants.{Inbound, Outbound, Call as Calls}
use Rattle.pd_script.specs.declared.script_events.Event.{Event}
use Rattle.pd_script.specs.declared.timing.Time.{Time}
use Rattle.pd_script.specs.declared.timing.Time.TheVariants.{Any, Absolute, Relative, AbsoluteRange, RelativeRange}
use Rattle.pd_script.specs.declared.timing.BlockingEnd.{BlockingEnd}
use Rattle.pd_script.specs.declared.timing.BlockingEnd.TheVariants.{Absolute as AtLast, Relative as AfterLast}

-- the written times of an event, in microseconds
abbrev pub written_times : Time → List ℕ
written_times Any = []
written_times (Absolute t) = t ∷ []
written_times (Relative t) = t ∷ []
written_times (AbsoluteRange first last) = first ∷ last ∷ []
written_times (RelativeRange first last) = first ∷ last ∷ []

-- the written end of a blocking time
abbrev pub written_blocking_end : Option BlockingEnd → List ℕ
written_blocking_end None = []
written_blocking_end (Some (AtLast t)) = t ∷ []
written_blocking_end (Some (AfterLast t)) = t ∷ []

-- a written time is over its limit: above 3,600 seconds
abbrev pub is_long : ℕ → Bool
is_long t = nat_lt 3600000000 t

-- a sequence, ack or SACK number is over its limit: above 2^31 - 1
abbrev pub is_high : ℕ → Bool
is_high n = nat_lt (2 ^ 31 - 1) n

-- a number is written, and above this one
abbrev pub is_present_number_over : ℕ → Option ℕ → Bool
is_present_number_over most None = false
is_present_number_over most (Some n) = nat_lt most n

-- an edge of a block is over its limit
abbrev pub is_block_over : SackBlock → Bool
is_block_over b = is_high b.left || is_high b.right

-- an option's value, or the number of its blocks, is over its limit
abbrev pub is_option_over_limits : PacketOption → Bool
is_option_over_limits (Mss n) = nat_lt 65535 n
is_option_over_limits (Wscale n) = nat_lt 255 n
is_option_over_limits (Sack blocks) = nat_lt 4 (length blocks) || list_any is_block_over blocks
is_option_over_limits _ = false

-- more than 16 options, or one of them over its limits
abbrev pub are_options_over_limits : Options → Bool
are_options_over_limits (Listed options) = nat_lt 16 (length options) || list_any is_option_over_limits options
are_options_over_limits _ = false

-- a number of the packet is over its limit; a window field is at most 65,535
abbrev pub is_packet_number_over_limit : Packet → Bool
is_packet_number_over_limit p =
    is_high p.start || is_high p.end || is_present_number_over (2 ^ 31 - 1) p.ack || is_present_number_over 65535 p.win || are_options_over_limits p.options

-- the call's name is `write`
abbrev pub is_write : Function → Bool
is_write Write = true
is_write _ = false

-- an argument is a number above 262,144 octets
abbrev pub is_count_over : Option Argument → Bool
is_count_over (Some (Int n)) = nat_lt 262144 n
is_count_over _ = false

-- a number of the action is over its limit
abbrev pub is_action_number_over_limit : Action → Bool
is_action_number_over_limit (Inbound p) = is_packet_number_over_limit p
is_action_number_over_limit (Outbound p) = is_packet_number_over_limit p
is_action_number_over_limit (Calls call) = is_write call.function && is_count_over (slice_get call.arguments 2)
is_action_number_over_limit _ = false

-- some number of the event is over its limit
abbrev pub is_any_event_number_over_limit : Event → Bool
is_any_event_number_over_limit e = list_any is_long (written_times e.time) || list_any is_long (written_blocking_end e.blocking_end) || is_action_number_over_limit e.action
