-- Which rule stops a script with `limit` or `unsupported`: the first that applies, in the order in which the step and the
-- sender look.
use Rattle.std.specs.Prelude.{◌≡◌, ℕ, ◌==◌, nat_lt, not, Bool, true, false, ◌&&◌, ◌||◌, List, [], ◌∷◌, length, Option, Some, None, is_some, if◌then◌else◌}
use Rattle.std.specs.List.{list_any}
use Rattle.std.specs.Option.{option_or}
use Rattle.pd_script.specs.declared.calls.Call.{Call}
use Rattle.pd_script.specs.declared.calls.Function.{Function}
use Rattle.pd_script.specs.declared.calls.Function.TheVariants as function
use Rattle.pd_script.specs.declared.packets.Options.{Options}
use Rattle.pd_script.specs.declared.packets.Options.TheVariants.{Listed}
use Rattle.pd_script.specs.declared.packets.Packet.{Packet}
use Rattle.pd_script.specs.declared.packets.PacketOption.{PacketOption}
use Rattle.pd_script.specs.declared.packets.PacketOption.TheVariants.{Mss, Wscale, Sack}
use Rattle.pd_script.specs.declared.script_events.Action.{Action}
use Rattle.pd_script.specs.declared.script_events.Action.TheVariants as action
use Rattle.pd_script.specs.declared.script_events.Event.{Event}
use Rattle.pd_script.specs.declared.script_header.HeaderKind.{HeaderKind}
use Rattle.pd_script.specs.declared.script_header.HeaderKind.TheVariants as header
use Rattle.pd_script.specs.declared.timing.Time.{Time}
use Rattle.pd_script.specs.declared.timing.BlockingEnd.{BlockingEnd}
use Rattle.pd_seg.specs.declared.segments.Segment.{Segment}
use Rattle.pd_host.specs.ConnStates.{state_of, is_closed}
use Rattle.pd_host.specs.Arrivals.{has_in_window_fin_out_of_order, not_run_if_data_syn_misplaced_fin_or_closed}
use Rattle.pd_host.specs.Connection.{ConnectionView}
use Rattle.pd_host.specs.Handshake.{is_listening, is_syn_alone, is_peer_mss_supported, is_supported_syn_while_listening, length_of, offered_mss}
use Rattle.pd_host.specs.Syscalls.{syscall_of}
use Rattle.pd_host.specs.declared.halts.Halt.TheVariants as halt
use Rattle.pd_host.specs.declared.descriptors.ListenState.{ListenState}
use Rattle.pd_host.specs.declared.endpoint.SenderState.{SenderState}
use Rattle.pd_run.specs.InboundSegment.{segment_in}
use Rattle.pd_run.specs.Limits.{written_times, written_blocking_end, is_long, is_block_over, is_action_number_over_limit, is_any_event_number_over_limit}
use Rattle.pd_run.specs.Supported.{is_shape_supported}
use Rattle.pd_run.specs.Times.{is_single_moment}
use Rattle.pd_run.specs.declared.stop_point.StopPoint.{StopPoint}
use Rattle.pd_run.specs.declared.stop_reason.StopReason.{StopReason}
use Rattle.pd_run.specs.declared.stop_reason.StopReason.TheVariants.{Halted}
use Rattle.pd_refusal.specs.declared.rules.Rule.{Rule}
use Rattle.pd_refusal.specs.declared.rules.Rule.TheVariants.{Over, NotRun, NotTaken}
use Rattle.pd_refusal.specs.declared.rules.unsupported_inputs.UnsupportedInput.{UnsupportedInput}
use Rattle.pd_refusal.specs.declared.rules.unsupported_inputs.UnsupportedInput.TheVariants.{SecondSocket, ListenerClose, NotListening, NotSyn, SmallMss, Payload, SecondSyn, StrayFin, AfterReset, AfterFins}
use Rattle.pd_refusal.specs.declared.rules.limited_numbers.LimitedNumber.{LimitedNumber}
use Rattle.pd_refusal.specs.declared.rules.limited_numbers.LimitedNumber.TheVariants as number
use Rattle.pd_refusal.specs.declared.rules.unsupported_shapes.UnsupportedShape.{UnsupportedShape}
use Rattle.pd_refusal.specs.declared.rules.unsupported_shapes.UnsupportedShape.TheVariants as shape

-- of a header item that isn't run
abbrev pub unsupported_header_item_rule : HeaderKind → Rule
unsupported_header_item_rule header.Command = NotRun shape.HeaderCommand
unsupported_header_item_rule _ = NotRun shape.HeaderOption

-- Numbers over their limits

-- the limit of a number; of a time in seconds
abbrev pub limit_of : LimitedNumber → ℕ
limit_of number.Time = 3600
limit_of number.Start = 2147483647
limit_of number.End = 2147483647
limit_of number.Ack = 2147483647
limit_of number.Window = 65535
limit_of number.Options = 16
limit_of number.Mss = 65535
limit_of number.Shift = 255
limit_of number.Blocks = 4
limit_of number.Edge = 2147483647
limit_of number.Write = 262144
limit_of number.Outbox = 1024

-- a number, where a test holds of it
abbrev pub where_so : Bool → LimitedNumber → Option LimitedNumber
where_so b n = if b then Some n else None

-- a number that is above its limit
abbrev pub if_exceeded_by : LimitedNumber → ℕ → Option LimitedNumber
if_exceeded_by n value = where_so (nat_lt (limit_of n) value) n

-- the same of one that is written
abbrev pub if_exceeded_by_some : LimitedNumber → Option ℕ → Option LimitedNumber
if_exceeded_by_some n None = None
if_exceeded_by_some n (Some value) = if_exceeded_by n value

-- some written time of an event is over its limit
abbrev pub is_some_long : Time → Option BlockingEnd → Bool
is_some_long time blocking_end = list_any is_long (written_times time) || list_any is_long (written_blocking_end blocking_end)

-- of an option: its value, the number of its blocks, or an edge of one
abbrev pub number_over_in_option : PacketOption → Option LimitedNumber
number_over_in_option (Mss octets) = if_exceeded_by number.Mss octets
number_over_in_option (Wscale count) = if_exceeded_by number.Shift count
number_over_in_option (Sack blocks) = option_or (if_exceeded_by number.Blocks (length blocks)) (where_so (list_any is_block_over blocks) number.Edge)
number_over_in_option _ = None

-- of the first option that has one
abbrev pub first_number_over_in_listed_options : List PacketOption → Option LimitedNumber
first_number_over_in_listed_options [] = None
first_number_over_in_listed_options (option ∷ options) = option_or (number_over_in_option option) (first_number_over_in_listed_options options)

-- of a packet's options: how many they are, before each in order
abbrev pub number_over_in_options : Options → Option LimitedNumber
number_over_in_options (Listed options) = option_or (if_exceeded_by number.Options (length options)) (first_number_over_in_listed_options options)
number_over_in_options _ = None

-- of a packet
abbrev pub number_over_in_packet : Packet → Option LimitedNumber
number_over_in_packet p =
    option_or (option_or (option_or (option_or (if_exceeded_by number.Start p.start)
    (if_exceeded_by number.End p.end))
    (if_exceeded_by_some number.Ack p.ack))
    (if_exceeded_by_some number.Window p.win))
    (number_over_in_options p.options)

-- of an action
abbrev pub number_over_in_action : Action → Option LimitedNumber
number_over_in_action (action.Inbound p) = number_over_in_packet p
number_over_in_action (action.Outbound p) = number_over_in_packet p
number_over_in_action (action.Call call) = where_so (is_action_number_over_limit (action.Call call)) number.Write
number_over_in_action _ = None

-- the first number of an event that is over its limit
abbrev pub first_number_over_limit : Event → Option LimitedNumber
first_number_over_limit e = if is_some_long e.time e.blocking_end then Some number.Time else number_over_in_action e.action

-- a law: there is such a number exactly where one is over its limit
abbrev pub LimitsHaveNumbers : Type 0
LimitsHaveNumbers = (e : Event) → is_some (first_number_over_limit e) ≡ is_any_event_number_over_limit e

-- Shapes that aren't run

-- the name of the call is one that is run
abbrev pub is_known : Function → Bool
is_known function.Unknown = false
is_known _ = true

-- of a call
abbrev pub find_unsupported_shape_of_call : Call → Option UnsupportedShape
find_unsupported_shape_of_call call =
    if is_some (syscall_of call) then None
    else Some (if is_known call.function then shape.CallShape else shape.CallName)

-- of a packet
abbrev pub find_unsupported_shape_by_packet_flags : Packet → Option UnsupportedShape
find_unsupported_shape_by_packet_flags p = if p.flags.other then Some shape.Flag else None

-- of an action at a time
abbrev pub find_unsupported_shape_of_action : Time → Action → Option UnsupportedShape
find_unsupported_shape_of_action time (action.Inbound p) = if not (is_single_moment time) then Some shape.InboundTime else find_unsupported_shape_by_packet_flags p
find_unsupported_shape_of_action time (action.Outbound p) = find_unsupported_shape_by_packet_flags p
find_unsupported_shape_of_action time (action.Call call) = if not (is_single_moment time) then Some shape.CallTime else find_unsupported_shape_of_call call
find_unsupported_shape_of_action time action.Command = Some shape.Command
find_unsupported_shape_of_action time action.Code = Some shape.Code

-- the first rule by which an event isn't run, whatever the sender's state
abbrev pub find_unsupported_shape_of_event : Event → Option UnsupportedShape
find_unsupported_shape_of_event e = if is_some e.blocking_end then Some shape.Blocking else find_unsupported_shape_of_action e.time e.action

-- a law: there is such a rule exactly where an event isn't run
abbrev pub ShapesHaveRules : Type 0
ShapesHaveRules = (e : Event) → is_some (find_unsupported_shape_of_event e) ≡ not (is_shape_supported e)

-- The inputs that a sender that halts doesn't run in its state

-- exactly a SYN: no other flag, start 0, no data
abbrev pub is_exactly_syn : Segment → Bool
is_exactly_syn segment = is_syn_alone segment.flags && (segment.start == 0 && length_of segment == 0)

-- of a first segment
abbrev pub unsupported_first_segment_rule : ListenState → Segment → UnsupportedInput
unsupported_first_segment_rule listener segment =
    if not (is_listening listener) then NotListening
    else (if is_exactly_syn segment then SmallMss else NotSyn)

-- a rule that names a first segment is right of it
abbrev pub HoldsOfFirst : ListenState → Segment → UnsupportedInput → Type 0
HoldsOfFirst listener _ NotListening = is_listening listener ≡ false
HoldsOfFirst _ segment NotSyn = is_exactly_syn segment ≡ false
HoldsOfFirst _ segment SmallMss = is_peer_mss_supported (offered_mss segment.options) ≡ false
HoldsOfFirst _ _ _ = ⊥

-- a law: so is the one that is given for a first segment that begins no connection
abbrev pub OpeningsHaveRules : Type 0
OpeningsHaveRules =
    (listener : ListenState) (segment : Segment)
    → is_supported_syn_while_listening listener segment ≡ false
    → HoldsOfFirst listener segment (unsupported_first_segment_rule listener segment)

-- a connection is closed
abbrev pub is_closed_by : ConnectionView → Bool
is_closed_by c = is_closed (state_of c)

-- of a segment on a connection: where it has neither data nor a SYN, and the connection goes on, its FIN is out of place
abbrev pub why_connection_segment_is_unsupported : ConnectionView → Segment → UnsupportedInput
why_connection_segment_is_unsupported c segment =
    if nat_lt 0 (length_of segment) then Payload
    else (if segment.flags.syn then SecondSyn
    else (if not (is_closed_by c) then StrayFin
    else (if c.is_reset then AfterReset else AfterFins)))

-- a rule that names a segment on a connection is right of it
abbrev pub HoldsOn : ConnectionView → Segment → UnsupportedInput → Type 0
HoldsOn _ segment Payload = nat_lt 0 (length_of segment) ≡ true
HoldsOn _ segment SecondSyn = segment.flags.syn ≡ true
HoldsOn c segment StrayFin = has_in_window_fin_out_of_order c segment ≡ true
HoldsOn c _ AfterReset = c.is_reset ≡ true
HoldsOn c _ AfterFins = (is_closed_by c ≡ true) × (c.is_reset ≡ false)
HoldsOn _ _ _ = ⊥

-- a law: so is the one that is given for a segment whose contents aren't run
abbrev pub ContentsHaveRules : Type 0
ContentsHaveRules =
    (c : ConnectionView) (segment : Segment)
    → is_some (not_run_if_data_syn_misplaced_fin_or_closed c segment) ≡ true
    → HoldsOn c segment (why_connection_segment_is_unsupported c segment)

-- of a segment, by whether a connection was begun
abbrev pub unsupported_arrival_rule : SenderState → Segment → UnsupportedInput
unsupported_arrival_rule s segment = by s.endpoint.connection
  where
    by : Option ConnectionView → UnsupportedInput
    by None = unsupported_first_segment_rule s.endpoint.listener segment
    by (Some c) = why_connection_segment_is_unsupported c segment

-- of a call: the others answer
abbrev pub unsupported_call_rule : Function → UnsupportedInput
unsupported_call_rule function.Socket = SecondSocket
unsupported_call_rule _ = ListenerClose

-- of an action
abbrev pub unsupported_input_of_halted_action : Action → SenderState → Option UnsupportedInput
unsupported_input_of_halted_action (action.Inbound p) s = Some (unsupported_arrival_rule s (segment_in p))
unsupported_input_of_halted_action (action.Call call) s = Some (unsupported_call_rule call.function)
unsupported_input_of_halted_action _ s = None

-- All of them

-- by what the sender halted; an outbox that is full is the only other reason
abbrev pub halt_rule : StopReason → Option UnsupportedInput → Rule
halt_rule (Halted halt.Unsupported) (Some input) = NotTaken input
halt_rule _ _ = Over number.Outbox

-- of an event that stops a run
abbrev pub rule_that_stopped_run_at_event : Event → StopPoint → Rule
rule_that_stopped_run_at_event e stop = by (first_number_over_limit e) (find_unsupported_shape_of_event e)
  where
    by : Option LimitedNumber → Option UnsupportedShape → Rule
    by (Some n) _ = Over n
    by None (Some s) = NotRun s
    by None None = halt_rule stop.stop_reason (unsupported_input_of_halted_action e.action stop.before.host.state)
