-- A rule is named exactly where one applies.
use Rattle.std.proofs.Common.{◌≡◌, length, Bool, true, false, not, ◌&&◌, ◌||◌, if◌then◌else◌, List, [], ◌∷◌, Option, Some, None, is_some, is_none, nat_lt, refl, ap, ◌∙◌, ℕ}
use Rattle.std.specs.List.{list_any}
use Rattle.std.specs.Option.{option_or}
use Rattle.pd_script.specs.declared.packets.Options.{Options}
use Rattle.pd_script.specs.declared.packets.Options.TheVariants.{Absent, Any, Listed}
use Rattle.pd_script.specs.declared.packets.Packet.{Packet}
use Rattle.pd_script.specs.declared.packets.PacketOption.{PacketOption}
use Rattle.pd_script.specs.declared.packets.PacketOption.TheVariants.{Mss, Wscale, SackOk, Nop, Eol, Timestamp, Sack}
use Rattle.pd_script.specs.declared.script_events.Action.{Action}
use Rattle.pd_script.specs.declared.script_events.Action.TheVariants as action
use Rattle.pd_script.specs.declared.timing.Time.{Time}
use Rattle.pd_script.specs.declared.timing.BlockingEnd.{BlockingEnd}
use Rattle.pd_host.specs.Syscalls.{syscall_of}
use Rattle.pd_host.specs.declared.syscall.Syscall.{Syscall}
use Rattle.pd_run.specs.Limits.{is_high, is_present_number_over, is_block_over, is_option_over_limits, are_options_over_limits, is_packet_number_over_limit, is_action_number_over_limit}
use Rattle.pd_run.specs.Supported.{is_time_and_action_shape_supported}
use Rattle.pd_run.specs.Times.{is_single_moment}
use Rattle.pd_refusal.specs.Rules.{limit_of, where_so, if_exceeded_by, if_exceeded_by_some, is_some_long, number_over_in_option, first_number_over_in_listed_options, number_over_in_options, number_over_in_packet, number_over_in_action, LimitsHaveNumbers, is_known, find_unsupported_shape_of_call, find_unsupported_shape_by_packet_flags, find_unsupported_shape_of_action, ShapesHaveRules}
use Rattle.pd_refusal.specs.declared.rules.limited_numbers.LimitedNumber.{LimitedNumber}
use Rattle.pd_refusal.specs.declared.rules.limited_numbers.LimitedNumber.TheVariants as number
use Rattle.pd_refusal.specs.declared.rules.unsupported_shapes.UnsupportedShape.{UnsupportedShape}
use Rattle.pd_refusal.specs.declared.rules.unsupported_shapes.UnsupportedShape.TheVariants as shape

where_it_is : (b : Bool) (n : LimitedNumber) → is_some (where_so b n) ≡ b
where_it_is true n = refl
where_it_is false n = refl

one_of : (a b : Option LimitedNumber) → is_some (option_or a b) ≡ (is_some a || is_some b)
one_of None b = refl
one_of (Some n) b = refl

-- two tests, the first before the second
both : (a b : Option LimitedNumber) (x y : Bool) → is_some a ≡ x → is_some b ≡ y → is_some (option_or a b) ≡ (x || y)
both a b x y h k = one_of a b ∙ ap (λ v. v || is_some b) h ∙ ap (λ v. x || v) k

before : (b : Bool) (n : LimitedNumber) (o : Option LimitedNumber) (x : Bool) → is_some o ≡ x → is_some (if b then Some n else o) ≡ (b || x)
before true n o x h = refl
before false n o x h = h

written : (n : LimitedNumber) (most : ℕ) (value : Option ℕ) → limit_of n ≡ most → is_some (if_exceeded_by_some n value) ≡ is_present_number_over most value
written n most None h = refl
written n most (Some v) h = where_it_is (nat_lt (limit_of n) v) n ∙ ap (λ m. nat_lt m v) h

of_option : (o : PacketOption) → is_some (number_over_in_option o) ≡ is_option_over_limits o
of_option (Mss v) = where_it_is (nat_lt 65535 v) number.Mss
of_option (Wscale v) = where_it_is (nat_lt 255 v) number.Shift
of_option SackOk = refl
of_option Nop = refl
of_option Eol = refl
of_option (Timestamp v e) = refl
of_option (Sack blocks) =
    both (if_exceeded_by number.Blocks (length blocks)) (where_so (list_any is_block_over blocks) number.Edge) (nat_lt 4 (length blocks)) (list_any is_block_over blocks)
    (where_it_is (nat_lt 4 (length blocks)) number.Blocks) (where_it_is (list_any is_block_over blocks) number.Edge)

of_list : (os : List PacketOption) → is_some (first_number_over_in_listed_options os) ≡ list_any is_option_over_limits os
of_list [] = refl
of_list (o ∷ os) = both (number_over_in_option o) (first_number_over_in_listed_options os) (is_option_over_limits o) (list_any is_option_over_limits os) (of_option o) (of_list os)

of_options : (os : Options) → is_some (number_over_in_options os) ≡ are_options_over_limits os
of_options Absent = refl
of_options Any = refl
of_options (Listed os) =
    both (if_exceeded_by number.Options (length os)) (first_number_over_in_listed_options os) (nat_lt 16 (length os)) (list_any is_option_over_limits os)
    (where_it_is (nat_lt 16 (length os)) number.Options) (of_list os)

of_packet : (p : Packet) → is_some (number_over_in_packet p) ≡ is_packet_number_over_limit p
of_packet p =
    both (option_or (option_or (option_or (if_exceeded_by number.Start p.start) (if_exceeded_by number.End p.end)) (if_exceeded_by_some number.Ack p.ack)) (if_exceeded_by_some number.Window p.win))
    (number_over_in_options p.options)
    (is_high p.start || is_high p.end || is_present_number_over 2147483647 p.ack || is_present_number_over 65535 p.win) (are_options_over_limits p.options)
    (both (option_or (option_or (if_exceeded_by number.Start p.start) (if_exceeded_by number.End p.end)) (if_exceeded_by_some number.Ack p.ack)) (if_exceeded_by_some number.Window p.win)
    (is_high p.start || is_high p.end || is_present_number_over 2147483647 p.ack) (is_present_number_over 65535 p.win)
    (both (option_or (if_exceeded_by number.Start p.start) (if_exceeded_by number.End p.end)) (if_exceeded_by_some number.Ack p.ack)
    (is_high p.start || is_high p.end) (is_present_number_over 2147483647 p.ack)
    (both (if_exceeded_by number.Start p.start) (if_exceeded_by number.End p.end) (is_high p.start) (is_high p.end)
    (where_it_is (is_high p.start) number.Start) (where_it_is (is_high p.end) number.End))
    (written number.Ack 2147483647 p.ack refl))
    (written number.Window 65535 p.win refl))
    (of_options p.options)

of_action : (a : Action) → is_some (number_over_in_action a) ≡ is_action_number_over_limit a
of_action (action.Inbound p) = of_packet p
of_action (action.Outbound p) = of_packet p
of_action (action.Call call) = where_it_is (is_action_number_over_limit (action.Call call)) number.Write
of_action action.Command = refl
of_action action.Code = refl

pub limits_have_numbers : LimitsHaveNumbers
limits_have_numbers e =
    before (is_some_long e.time e.blocking_end) number.Time (number_over_in_action e.action) (is_action_number_over_limit e.action) (of_action e.action)

unsingle : (s : Bool) (r : UnsupportedShape) (o : Option UnsupportedShape) (x : Bool) → is_some o ≡ not x → is_some (if not s then Some r else o) ≡ not (s && x)
unsingle true r o x h = h
unsingle false r o x h = refl

flagged : (b : Bool) → is_some (if b then Some shape.Flag else None) ≡ not (not b)
flagged true = refl
flagged false = refl

unrun : (r : Option Syscall) (known : Bool) → is_some (if is_some r then None else Some (if known then shape.CallShape else shape.CallName)) ≡ not (is_some r)
unrun None known = refl
unrun (Some r) known = refl

shaped : (time : Time) (a : Action) → is_some (find_unsupported_shape_of_action time a) ≡ not (is_time_and_action_shape_supported time a)
shaped time (action.Inbound p) = unsingle (is_single_moment time) shape.InboundTime (find_unsupported_shape_by_packet_flags p) (not p.flags.other) (flagged p.flags.other)
shaped time (action.Outbound p) = flagged p.flags.other
shaped time (action.Call call) =
    unsingle (is_single_moment time) shape.CallTime (find_unsupported_shape_of_call call) (is_some (syscall_of call)) (unrun (syscall_of call) (is_known call.function))
shaped time action.Command = refl
shaped time action.Code = refl

blocked : (blocking_end : Option BlockingEnd) (o : Option UnsupportedShape) (x : Bool) → is_some o ≡ not x → is_some (if is_some blocking_end then Some shape.Blocking else o) ≡ not (is_none blocking_end && x)
blocked None o x h = h
blocked (Some u) o x h = refl

pub shapes_have_rules : ShapesHaveRules
shapes_have_rules e = blocked e.blocking_end (find_unsupported_shape_of_action e.time e.action) (is_time_and_action_shape_supported e.time e.action) (shaped e.time e.action)
