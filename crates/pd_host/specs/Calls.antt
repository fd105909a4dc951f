-- The table of calls: what each answers, and what it changes (own profile of POSIX's socket calls). Every call answers at
-- once, as on a descriptor that doesn't block.
use Rattle.std.specs.Prelude.{ℕ, ◌-◌, ◌==◌, min, Bool, true, false, not, ◌&&◌, Option, Some, None, is_some, option_map, Result, Ok, Err, if◌then◌else◌}
use Rattle.pd_script.specs.declared.calls.Call.{Call}
use Rattle.pd_seg.specs.declared.call_results.Answer.{Answer}
use Rattle.pd_seg.specs.declared.call_results.Answer.TheVariants.{Number, Error}
use Rattle.pd_seg.specs.declared.call_results.Errno.TheVariants.{Ebadf, Einval, Eagain, Epipe}
use Rattle.pd_host.specs.declared.established.Established.{Established}
use Rattle.pd_host.specs.declared.halts.Halt.{Halt}
use Rattle.pd_host.specs.declared.halts.Halt.TheVariants.{Unsupported}
use Rattle.pd_host.specs.declared.descriptors.ListenState.{ListenState}
use Rattle.pd_host.specs.declared.descriptors.ListenState.TheVariants.{Absent, Open, Bound, Listens, Closed}
use Rattle.pd_host.specs.declared.syscall.SocketOperation.{SocketOperation}
use Rattle.pd_host.specs.declared.syscall.SocketOperation.TheVariants.{Bind, Listen, Accept, ReuseAddress, NoDelay, SetFlags, Write, Close}
use Rattle.pd_host.specs.declared.syscall.Syscall.{Syscall}
use Rattle.pd_host.specs.declared.syscall.Syscall.TheVariants.{Socket, On}
use Rattle.pd_host.specs.declared.descriptors.StreamState.{StreamState}
use Rattle.pd_host.specs.declared.descriptors.StreamState.TheVariants as stream_state
use Rattle.pd_host.specs.Syscalls.{syscall_of}
use Rattle.pd_settings.specs.declared.setting_set.SettingSet.{SettingSet}
use Rattle.pd_board.specs.Board.{written}
use Rattle.pd_host.specs.Connection.{ConnectionView}
use Rattle.pd_host.specs.Sending.{ordinary_outside_recovery}
use Rattle.pd_host.specs.declared.endpoint.Endpoint.{Endpoint}
use Rattle.pd_host.specs.declared.endpoint.SenderState.{SenderState}

-- the state after a call with what the call answers, or a halt
abbrev pub Reply : Type 0
Reply = Result (SenderState × Answer) Halt

-- an answer, with the state after it
abbrev pub answered : SenderState → Answer → Reply
answered s answer = Ok (s, answer)

-- the state with another listener
abbrev pub with_listener : ListenState → SenderState → SenderState
with_listener l s = record s { endpoint = record s.endpoint { listener = l } }

-- the state with another connection
abbrev pub with_stored : Option ConnectionView → SenderState → SenderState
with_stored c s = record s { endpoint = record s.endpoint { connection = c } }

-- whether descriptor 3 is open
abbrev pub is_listener_open : ListenState → Bool
is_listener_open Absent = false
is_listener_open Closed = false
is_listener_open _ = true

-- whether `accept` has still to hand out descriptor 4
abbrev pub is_unaccepted : StreamState → Bool
is_unaccepted stream_state.Waiting = true
is_unaccepted _ = false

-- whether descriptor 4 is open
abbrev pub is_open : StreamState → Bool
is_open stream_state.Open = true
is_open _ = false

-- descriptor 4, which waits for `accept` from the SYN on
abbrev pub stream_in : Option Established → StreamState
stream_in None = stream_state.Waiting
stream_in (Some e) = e.stream_state

-- descriptor 4 of a connection
abbrev pub stream_of : ConnectionView → StreamState
stream_of c = stream_in c.established

-- whether a connection was begun that isn't accepted
abbrev pub has_begun_unaccepted_connection : Option ConnectionView → Bool
has_begun_unaccepted_connection None = false
has_begun_unaccepted_connection (Some c) = is_unaccepted (stream_of c)

-- a descriptor that is open: 3, which listens or may come to listen, and 4, the connection that `accept` has handed out
pub data Descriptor : Type 0 where
  Listening : Descriptor
  Connected : ConnectionView → Descriptor

-- descriptor 4, where it is open on a connection
abbrev pub open_stream : Option ConnectionView → Option Descriptor
open_stream None = None
open_stream (Some c) = if is_open (stream_of c) then Some (Connected c) else None

-- the open descriptor of a number
abbrev pub open_descriptor : Endpoint → ℕ → Option Descriptor
open_descriptor e fd =
    if fd == 3 && is_listener_open e.listener then Some Listening
    else if fd == 4 then open_stream e.connection
    else None

-- `socket`: 3; a second one isn't run
abbrev pub socket_reply : SenderState → ListenState → Reply
socket_reply s Absent = answered (with_listener Open s) (Number 3)
socket_reply s _ = Err Unsupported

-- `bind`: 0 once on 3, else EINVAL
abbrev pub bind_reply : SenderState → ListenState → Descriptor → Reply
bind_reply s Open Listening = answered (with_listener Bound s) (Number 0)
bind_reply s _ _ = answered s (Error Einval)

-- `listen`: 0 on a bound 3, also again, else EINVAL
abbrev pub listen_reply : SenderState → ListenState → Descriptor → Reply
listen_reply s Bound Listening = answered (with_listener Listens s) (Number 0)
listen_reply s Listens Listening = answered s (Number 0)
listen_reply s _ _ = answered s (Error Einval)

-- the connection with descriptor 4 that far
abbrev pub with_stream : StreamState → ConnectionView → ConnectionView
with_stream d c = record c { established = option_map {T = Established} (λ e. record e { stream_state = d }) c.established }

-- `accept` hands out 4 where the connection was established, also if it was reset since, and isn't accepted; else EAGAIN
abbrev pub handed_out : SenderState → Option ConnectionView → Reply
handed_out s None = answered s (Error Eagain)
handed_out s (Some c) =
    if is_some c.established && is_unaccepted (stream_of c)
    then answered (with_stored (Some (with_stream stream_state.Open c)) s) (Number 4)
    else answered s (Error Eagain)

-- `accept`: so on a listening 3, else EINVAL
abbrev pub accept_reply : SenderState → ListenState → Descriptor → Reply
accept_reply s Listens Listening = handed_out s s.endpoint.connection
accept_reply s _ _ = answered s (Error Einval)

-- Nagle's algorithm is switched on or off (RFC 9293, section 3.7.4)
abbrev pub with_nagle : Bool → ConnectionView → ConnectionView
with_nagle on c = record c { established = option_map {T = Established} (λ e. record e { nagle = on }) c.established }

-- `setsockopt` with `TCP_NODELAY`: 0; on 4 Nagle's algorithm is off where it is set
abbrev pub no_delay_reply : SenderState → Bool → Descriptor → Reply
no_delay_reply s set Listening = answered s (Number 0)
no_delay_reply s set (Connected c) = answered (with_stored (Some (with_nagle (not set) c)) s) (Number 0)

-- `setsockopt` with `SO_REUSEADDR`, and `fcntl` with `F_SETFL`: 0, no effect
abbrev pub idle_reply : SenderState → Reply
idle_reply s = answered s (Number 0)

-- an answer beside what a rule gives for the state
abbrev pub with_answer : Answer → Result SenderState Halt → Reply
with_answer answer (Ok s) = Ok (s, answer)
with_answer answer (Err halt) = Err halt

-- how many octets `write` may still queue, by the setting `sndbuf`
abbrev pub free_of : ℕ → ConnectionView → ℕ
free_of sndbuf c = sndbuf - (c.board.end - c.board.una)

-- the connection with octets more queued
abbrev pub with_queued : ℕ → ConnectionView → ConnectionView
with_queued n c = record c { board = written n c.board }

-- the settings that a `write` of some octets consults
abbrev pub write_settings : SettingSet → SettingSet
write_settings consulted_settings = record consulted_settings { sndbuf = true }

-- octets are queued, as many as there is room for, and sent as the windows let them; without room EAGAIN
abbrev pub queued : ℕ → ℕ → ℕ → ConnectionView → SenderState → Reply
queued now n free c s =
    if free == 0 then answered s (Error Eagain)
    else with_answer (Number (min n free)) (ordinary_outside_recovery now c (with_stored (Some (with_queued (min n free) c)) s))

-- `write` on an open 4: EPIPE after a reset, 0 for no octets
abbrev pub written_on : ℕ → ℕ → ConnectionView → SenderState → Reply
written_on now n c s =
    if c.is_reset then answered s (Error Epipe)
    else if n == 0 then answered s (Number 0)
    else queued now n (free_of s.settings.sndbuf c) c (record s { consulted_settings = write_settings s.consulted_settings })

-- `write` at a moment: EINVAL on 3
abbrev pub write_reply : ℕ → SenderState → ℕ → Descriptor → Reply
write_reply now s n Listening = answered s (Error Einval)
write_reply now s n (Connected c) = written_on now n c s

-- our FIN is queued after the data (RFC 9293, section 3.10.4)
abbrev pub with_fin : ConnectionView → ConnectionView
with_fin c = record (with_queued 1 c) { fin = true }

-- the connection whose descriptor is closed; a FIN is queued unless it was reset
abbrev pub closed_stream : ConnectionView → ConnectionView
closed_stream c = with_stream stream_state.Closed (if c.is_reset then c else with_fin c)

-- `close` on an open 4: 0, and the FIN is sent as the windows let it
abbrev pub closed_on : ℕ → ConnectionView → SenderState → Reply
closed_on now c s =
    let closed = with_stored (Some (closed_stream c)) s in
    with_answer (Number 0) (if c.is_reset then Ok closed else ordinary_outside_recovery now c closed)

-- `close` at a moment: 0 on 3, but not while a connection was begun and isn't accepted
abbrev pub close_reply : ℕ → SenderState → Descriptor → Reply
close_reply now s Listening =
    if has_begun_unaccepted_connection s.endpoint.connection then Err Unsupported else answered (with_listener Closed s) (Number 0)
close_reply now s (Connected c) = closed_on now c s

-- the row of an operation on an open descriptor
abbrev pub operated : ℕ → SenderState → Descriptor → SocketOperation → Reply
operated now s descriptor Bind = bind_reply s s.endpoint.listener descriptor
operated now s descriptor Listen = listen_reply s s.endpoint.listener descriptor
operated now s descriptor Accept = accept_reply s s.endpoint.listener descriptor
operated now s descriptor ReuseAddress = idle_reply s
operated now s descriptor (NoDelay set) = no_delay_reply s set descriptor
operated now s descriptor SetFlags = idle_reply s
operated now s descriptor (Write n) = write_reply now s n descriptor
operated now s descriptor Close = close_reply now s descriptor

-- a descriptor that isn't open answers EBADF, before all else
abbrev pub on_open : ℕ → SenderState → SocketOperation → Option Descriptor → Reply
on_open now s operation None = answered s (Error Ebadf)
on_open now s operation (Some descriptor) = operated now s descriptor operation

-- the reply to a request
abbrev pub reply_to : ℕ → SenderState → Syscall → Reply
reply_to now s Socket = socket_reply s s.endpoint.listener
reply_to now s (On fd operation) = on_open now s operation (open_descriptor s.endpoint fd)

-- the effect of a request; without one the call isn't run
abbrev pub requested : ℕ → SenderState → Option Syscall → Reply
requested now s None = Err Unsupported
requested now s (Some request) = reply_to now s request

-- a call at a moment: the state after it and its answer; a call whose name or shape isn't run halts
abbrev pub called : Call → ℕ → SenderState → Reply
called call now s = requested now s (syscall_of call)
