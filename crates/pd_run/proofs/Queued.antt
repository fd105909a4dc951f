-- How much a step queues.
use Rattle.std.proofs.Common.{◌≡◌, ℕ, ◌+◌, ◌≤◌, ◌==◌, Bool, true, false, ◌&&◌, if◌then◌else◌, Option, Some, None, List, [], ◌∷◌, length, slice_get, Result, Ok, Err, refl, sym, ap, ◌∙◌, arith}
use Rattle.std.proofs.lemmas.Bool.Decides.{nat_tests}
use Rattle.pd_script.specs.declared.calls.Argument.{Argument}
use Rattle.pd_script.specs.declared.calls.Argument.TheVariants.{Int, Element, Constant as Word}
use Rattle.pd_script.specs.declared.calls.Call.{Call}
use Rattle.pd_script.specs.declared.calls.Constant.TheVariants.{SockStream, SolSocket, SoReuseaddr, TcpNodelay, FSetfl}
use Rattle.pd_script.specs.declared.calls.Function.{Function}
use Rattle.pd_script.specs.declared.calls.Function.TheVariants.{Socket as SocketCall, Bind as BindCall, Listen as ListenCall, Accept as AcceptCall, Setsockopt as SetsockoptCall, Fcntl as FcntlCall, Write as WriteCall, Close as CloseCall, Unknown as UnknownCall}
use Rattle.pd_script.specs.declared.packets.Packet.{Packet}
use Rattle.pd_script.specs.declared.script_events.Action.{Action}
use Rattle.pd_script.specs.declared.script_events.Action.TheVariants.{Inbound, Outbound, Call as Calls, Command, Code}
use Rattle.pd_script.specs.declared.script_events.Event.{Event}
use Rattle.pd_seg.specs.declared.call_results.Answer.{Answer}
use Rattle.pd_seg.specs.declared.segments.Sent.{Sent}
use Rattle.pd_host.specs.Arrivals.{arrived}
use Rattle.pd_host.specs.Calls.{called}
use Rattle.pd_host.specs.Expiries.{advanced, deadline_of}
use Rattle.pd_host.specs.Growth.{asked_by, HasRoomFor, ExpiriesQueueNothing, CallsAskFew}
use Rattle.pd_host.specs.Syscalls.{is_tcp_or_default_protocol, is_tcp_level, nodelay_syscall_if_zero_or_one, parse_socket_arguments_if_tcp_stream, parse_setsockopt_reuseaddr_or_nodelay, parse_fcntl_arguments_if_setfl, parse_bind_or_accept_arguments, parse_listen_arguments, parse_write_arguments, parse_close_arguments, syscall_in, syscall_of}
use Rattle.pd_host.specs.Host.{HostView, IsShort, queued_to, without_oldest}
use Rattle.pd_host.specs.InputResults.{GoesFrom, Goes}
use Rattle.pd_host.specs.declared.halts.HostEnd.{HostEnd}
use Rattle.pd_host.specs.declared.halts.Halt.{Halt}
use Rattle.pd_host.specs.declared.syscall.SocketOperation.TheVariants.{Bind, Accept, NoDelay}
use Rattle.pd_host.specs.declared.syscall.Syscall.TheVariants.{Socket, On}
use Rattle.pd_host.specs.declared.endpoint.SenderState.{SenderState}
use Rattle.pd_match.specs.Calls.{result_mismatch}
use Rattle.pd_match.specs.Packets.{mismatch}
use Rattle.pd_run.specs.InboundSegment.{segment_in}
use Rattle.pd_run.specs.Inner.{SenderIsLawful}
use Rattle.pd_run.specs.Limits.{is_write, is_count_over, is_action_number_over_limit}
use Rattle.pd_run.specs.Step.{RunStateView, tolerance_of, comparison_noted, on_step, with_state, action_time_not_before_clock, acted, arrives, on_arrival, answers, on_answer, on_expiry, expires, awaited, packet_taken, performed, step}
use Rattle.pd_run.specs.Times.{time_range_of, base_from_moment_or_later_of_base_and_sent, is_not_too_late_within_tolerance}
use Rattle.pd_run.specs.declared.stop_reason.StopReason.{StopReason}
use Rattle.pd_run.proofs.Bounds.{given, agreed, both, action_within, in_reach, step_performs, step_unlimited}

-- The request of a call

-- at most what one `write` may name
abbrev IsSmall : ℕ → Type 0
IsSmall octets = octets ≤ 262144

nothing : IsSmall 0
nothing = omega arith

one : IsSmall 1
one = omega arith

socket_asks : (sndbuf : ℕ) (arguments : List Argument) → IsSmall (asked_by sndbuf (parse_socket_arguments_if_tcp_stream arguments))
socket_asks sndbuf (_ ∷ Word SockStream ∷ protocol ∷ []) = by_protocol (is_tcp_or_default_protocol protocol)
  where
    by_protocol : (b : Bool) → IsSmall (asked_by sndbuf (if b then Some Socket else None))
    by_protocol true = nothing
    by_protocol false = nothing
socket_asks sndbuf _ = nothing

no_delay_asks : (sndbuf fd n : ℕ) → IsSmall (asked_by sndbuf (nodelay_syscall_if_zero_or_one fd n))
no_delay_asks sndbuf fd n = by_value (n == 1) (n == 0)
  where
    by_value : (a b : Bool) → IsSmall (asked_by sndbuf (if a then Some (On fd (NoDelay true)) else if b then Some (On fd (NoDelay false)) else None))
    by_value true b = nothing
    by_value false true = nothing
    by_value false false = nothing

option_asks : (sndbuf : ℕ) (arguments : List Argument) → IsSmall (asked_by sndbuf (parse_setsockopt_reuseaddr_or_nodelay arguments))
option_asks sndbuf (Int fd ∷ Word SolSocket ∷ Word SoReuseaddr ∷ _ ∷ _ ∷ []) = nothing
option_asks sndbuf (Int fd ∷ Word level ∷ Word TcpNodelay ∷ Element n ∷ _ ∷ []) = by_level (is_tcp_level level)
  where
    by_level : (b : Bool) → IsSmall (asked_by sndbuf (if b then nodelay_syscall_if_zero_or_one fd n else None))
    by_level true = no_delay_asks sndbuf fd n
    by_level false = nothing
option_asks sndbuf _ = nothing

flags_ask : (sndbuf : ℕ) (arguments : List Argument) → IsSmall (asked_by sndbuf (parse_fcntl_arguments_if_setfl arguments))
flags_ask sndbuf (Int fd ∷ Word FSetfl ∷ _ ∷ []) = nothing
flags_ask sndbuf _ = nothing

bind_asks : (sndbuf : ℕ) (arguments : List Argument) → IsSmall (asked_by sndbuf (parse_bind_or_accept_arguments Bind arguments))
bind_asks sndbuf (Int fd ∷ _ ∷ _ ∷ []) = nothing
bind_asks sndbuf _ = nothing

accept_asks : (sndbuf : ℕ) (arguments : List Argument) → IsSmall (asked_by sndbuf (parse_bind_or_accept_arguments Accept arguments))
accept_asks sndbuf (Int fd ∷ _ ∷ _ ∷ []) = nothing
accept_asks sndbuf _ = nothing

listen_asks : (sndbuf : ℕ) (arguments : List Argument) → IsSmall (asked_by sndbuf (parse_listen_arguments arguments))
listen_asks sndbuf (Int fd ∷ _ ∷ []) = nothing
listen_asks sndbuf _ = nothing

close_asks : (sndbuf : ℕ) (arguments : List Argument) → IsSmall (asked_by sndbuf (parse_close_arguments arguments))
close_asks sndbuf (Int fd ∷ []) = one
close_asks sndbuf _ = nothing

write_asks : (sndbuf : ℕ) (arguments : List Argument) → is_count_over (slice_get arguments 2) ≡ false → IsSmall (asked_by sndbuf (parse_write_arguments arguments))
write_asks sndbuf (Int fd ∷ _ ∷ Int n ∷ []) h = grind (arith, nat_tests)
write_asks sndbuf _ h = nothing

asks : (sndbuf : ℕ) (f : Function) (arguments : List Argument) → (is_write f && is_count_over (slice_get arguments 2)) ≡ false → IsSmall (asked_by sndbuf (syscall_in f arguments))
asks sndbuf SocketCall arguments h = socket_asks sndbuf arguments
asks sndbuf BindCall arguments h = bind_asks sndbuf arguments
asks sndbuf ListenCall arguments h = listen_asks sndbuf arguments
asks sndbuf AcceptCall arguments h = accept_asks sndbuf arguments
asks sndbuf SetsockoptCall arguments h = option_asks sndbuf arguments
asks sndbuf FcntlCall arguments h = flags_ask sndbuf arguments
asks sndbuf WriteCall arguments h = write_asks sndbuf arguments h
asks sndbuf CloseCall arguments h = close_asks sndbuf arguments
asks sndbuf UnknownCall arguments h = nothing

-- The octets that a step queues

-- after the expiries up to a moment there is room for what a call asks for
pub room_for : ExpiriesQueueNothing → CallsAskFew → (until : ℕ) (call : Call) (old new : HostView) (u : Unit {0}) → Goes old (advanced until) (Ok u) new
    → IsShort old.state → HasRoomFor (asked_by new.state.settings.sndbuf (syscall_of call)) new.state
room_for still few until call old new u h short = go old.end_reason h
  where
    go : (o : Option HostEnd) → GoesFrom o old (advanced until) (Ok u) new → HasRoomFor (asked_by new.state.settings.sndbuf (syscall_of call)) new.state
    go None told = omega (arith, short, still until old.state new.state told.0, few new.state.settings call)
    go (Some ending) told = absurd cc

-- the number after the last octet that a run has queued
abbrev pub end_of : RunStateView → ℕ
end_of r = queued_to r.host.state.endpoint.connection

abbrev state_end : SenderState → ℕ
state_end s = queued_to s.endpoint.connection

after_arrival : SenderIsLawful → (r s : RunStateView) (e : Event) (p : Packet) (came : Result SenderState Halt) → arrives r e p ≡ came
    → on_arrival r e came ≡ Ok s → end_of s ≤ end_of r + 262144
after_arrival laws r s e p (Ok t) is h =
    let came = both (arrived (segment_in p) (action_time_not_before_clock r e)) (advanced (action_time_not_before_clock r e) r.host.state) t is in
    let same : end_of s ≡ state_end t = ap end_of (sym (given (acted r e t) s h)) in
    let before : state_end came.0 ≡ end_of r = laws.queued_by_expiries (action_time_not_before_clock r e) r.host.state came.0 came.1 in
    let more : state_end t ≤ state_end came.0 + 1 = laws.queued_by_arrivals (segment_in p) (action_time_not_before_clock r e) came.0 t came.2 in
    omega (arith, same, before, more)
after_arrival laws r s e p (Err halt) is h = absurd cc

after_call : SenderIsLawful → (r s : RunStateView) (e : Event) (call : Call) (came : Result (SenderState × Answer) Halt) → answers r e call ≡ came
    → is_action_number_over_limit (Calls call) ≡ false → on_answer r e call came ≡ Ok s → end_of s ≤ end_of r + 262144
after_call laws r s e call (Ok (t, a)) is within h =
    let came = both (called call (action_time_not_before_clock r e)) (advanced (action_time_not_before_clock r e) r.host.state) (t, a) is in
    let same : end_of s ≡ state_end t = ap end_of (sym (agreed (acted r e t) s _ (result_mismatch call.result a) h)) in
    let before : state_end came.0 ≡ end_of r = laws.queued_by_expiries (action_time_not_before_clock r e) r.host.state came.0 came.1 in
    let more : state_end t ≤ state_end came.0 + asked_by came.0.settings.sndbuf (syscall_of call) = laws.queued_by_calls call (action_time_not_before_clock r e) came.0 t a came.2 in
    let few : asked_by came.0.settings.sndbuf (syscall_of call) ≤ 262144 = asks came.0.settings.sndbuf call.function call.arguments within in
    omega (arith, same, before, more, few)
after_call laws r s e call (Err halt) is within h = absurd cc

after_taking : (r s : RunStateView) (e : Event) (p : Packet) (first : Option Sent) → packet_taken e p r first ≡ Ok s → end_of s ≡ end_of r
after_taking r s e p None h = absurd cc
after_taking r s e p (Some sent) h =
    let next : RunStateView = record r { host = without_oldest r.host; base = base_from_moment_or_later_of_base_and_sent r.base e.time sent.at } in
    ap end_of (sym (agreed next s _ (mismatch p (time_range_of r.base e.time) sent (tolerance_of r)) h))

after_expiry : SenderIsLawful → (r s : RunStateView) (at : ℕ) (came : Result SenderState Halt) → advanced at r.host.state ≡ came
    → on_expiry r at came ≡ Ok s → end_of s ≡ end_of r
after_expiry laws r s at (Ok t) is h =
    ap end_of (sym (given (record (with_state r t) { clock = at }) s h)) ∙ laws.queued_by_expiries at r.host.state t is
after_expiry laws r s at (Err halt) is h = absurd cc

after_due : SenderIsLawful → (r s : RunStateView) (e : Event) (o : Option ℕ) → expires r e o ≡ Ok s → end_of s ≡ end_of r
after_due laws r s e None h = absurd cc
after_due laws r s e (Some at) h =
    after_expiry laws r s at (advanced at r.host.state) refl
    (in_reach (is_not_too_late_within_tolerance (time_range_of r.base e.time) (tolerance_of r) at) (on_expiry r at (advanced at r.host.state)) s h)

after_wait : SenderIsLawful → (r s : RunStateView) (e : Event) (empty : Bool) → (if empty then expires r e (deadline_of r.host.state) else Ok r) ≡ Ok s
    → end_of s ≡ end_of r
after_wait laws r s e true h = after_due laws r s e (deadline_of r.host.state) h
after_wait laws r s e false h = ap end_of (sym (given r s h))

after_leaving : SenderIsLawful → (r s : RunStateView) (e : Event) (p : Packet) (came : Result RunStateView StopReason) → awaited r e ≡ came
    → on_step (λ q. packet_taken e p q (slice_get q.host.state.endpoint.outbox 0)) (λ reason. Err reason) came ≡ Ok s
    → end_of s ≤ end_of r + 262144
after_leaving laws r s e p (Ok t) is h =
    let waited : end_of t ≡ end_of r = after_wait laws r t e (length r.host.state.endpoint.outbox == 0) is in
    let took : end_of s ≡ end_of t = after_taking t s e p (slice_get t.host.state.endpoint.outbox 0) h in
    omega (arith, waited, took)
after_leaving laws r s e p (Err reason) is h = absurd cc

after_action : SenderIsLawful → (r s : RunStateView) (e : Event) (action : Action) → is_action_number_over_limit action ≡ false → performed r e action ≡ Ok s
    → end_of s ≤ end_of r + 262144
after_action laws r s e (Inbound p) within h = after_arrival laws r s e p (arrives r e p) refl h
after_action laws r s e (Outbound p) within h = after_leaving laws (comparison_noted r) s e p (awaited (comparison_noted r) e) refl h
after_action laws r s e (Calls call) within h = after_call laws r s e call (answers r e call) refl within h
after_action laws r s e Command within h = absurd cc
after_action laws r s e Code within h = absurd cc

-- no step queues more than one `write` may name
pub step_queues : SenderIsLawful → (r s : RunStateView) (e : Event) → step r e ≡ Ok s → end_of s ≤ end_of r + 262144
step_queues laws r s e h =
    after_action laws r s e e.action (action_within e (step_unlimited r s e h)) (step_performs r s e h)
