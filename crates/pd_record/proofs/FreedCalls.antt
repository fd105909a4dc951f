-- The packets that nobody has taken change nothing of a call.
use Rattle.std.proofs.Common.{ℕ, ◌==◌, ◌&&◌, min, Bool, if◌then◌else◌, not, Option, None, Some, is_some, List, Result, Ok, Err, refl, ap}
use Rattle.pd_seg.specs.declared.call_results.Answer.{Answer}
use Rattle.pd_seg.specs.declared.call_results.Answer.TheVariants.{Number, Error}
use Rattle.pd_seg.specs.declared.call_results.Errno.TheVariants.{Ebadf, Einval, Eagain, Epipe}
use Rattle.pd_seg.specs.declared.segments.Sent.{Sent}
use Rattle.pd_script.specs.declared.calls.Call.{Call}
use Rattle.pd_host.specs.Calls.{Descriptor, Listening, Connected, Reply, answered, with_listener, with_stored, with_answer, socket_reply, bind_reply, listen_reply, accept_reply, handed_out, no_delay_reply, free_of, with_queued, write_settings, queued, written_on, write_reply, closed_stream, closed_on, close_reply, operated, on_open, open_descriptor, reply_to, requested, called, has_begun_unaccepted_connection, is_unaccepted, stream_of, with_stream, with_nagle}
use Rattle.pd_host.specs.Connection.{ConnectionView}
use Rattle.pd_host.specs.Syscalls.{syscall_of}
use Rattle.pd_host.specs.Sending.{ordinary, ordinary_outside_recovery, is_recovering}
use Rattle.pd_host.specs.declared.halts.Halt.{Halt}
use Rattle.pd_host.specs.declared.halts.Halt.TheVariants.{Unsupported}
use Rattle.pd_host.specs.declared.descriptors.ListenState.{ListenState}
use Rattle.pd_host.specs.declared.descriptors.ListenState.TheVariants.{Absent, Open, Bound, Listens, Closed}
use Rattle.pd_host.specs.declared.syscall.SocketOperation.{SocketOperation}
use Rattle.pd_host.specs.declared.syscall.SocketOperation.TheVariants.{Bind, Listen, Accept, ReuseAddress, NoDelay, SetFlags, Write, Close}
use Rattle.pd_host.specs.declared.syscall.Syscall.{Syscall}
use Rattle.pd_host.specs.declared.syscall.Syscall.TheVariants.{Socket, On}
use Rattle.pd_host.specs.declared.endpoint.SenderState.{SenderState}
use Rattle.pd_host.specs.declared.descriptors.StreamState.TheVariants as stream
use Rattle.pd_record.proofs.Freed.{CameBy, either_by, in_front, ordinary_freed}

-- a state and an answer, with these packets in front
abbrev pub beside_answer : List Sent → SenderState × Answer → SenderState × Answer
beside_answer w x = (in_front w x.0, x.1)

-- the answer of a call, without the packets in front
abbrev Freed : List Sent → Reply → Reply → Type 0
Freed w r q = CameBy (beside_answer w) r q

answer_freed : (w : List Sent) (answer : Answer) (r q : Result SenderState Halt) → CameBy (in_front w) r q → Freed w (with_answer answer r) (with_answer answer q)
answer_freed w answer (Ok s) q h = ((h.0, answer), ap (with_answer answer) h.1, ap (λ (t : SenderState). (t, answer)) h.2)
answer_freed w answer (Err halt) q h = tt

outside_freed : (w : List Sent) (now : ℕ) (c : ConnectionView) (s : SenderState)
    → CameBy (in_front w) (ordinary_outside_recovery now c (in_front w s)) (ordinary_outside_recovery now c s)
outside_freed w now c s =
    either_by (in_front w) (is_recovering c.established) (Ok (in_front w s)) (ordinary now (in_front w s)) (Ok s) (ordinary now s)
    (s, refl, refl) (ordinary_freed w now s)

queued_freed : (w : List Sent) (now n free : ℕ) (c : ConnectionView) (s : SenderState) → Freed w (queued now n free c (in_front w s)) (queued now n free c s)
queued_freed w now n free c s =
    let u : SenderState = with_stored (Some (with_queued (min n free) c)) s in
    let answer : Answer = Number (min n free) in
    either_by (beside_answer w) (free == 0)
    (answered (in_front w s) (Error Eagain)) (with_answer answer (ordinary_outside_recovery now c (in_front w u)))
    (answered s (Error Eagain)) (with_answer answer (ordinary_outside_recovery now c u))
    ((s, Error Eagain), refl, refl)
    (answer_freed w answer (ordinary_outside_recovery now c (in_front w u)) (ordinary_outside_recovery now c u) (outside_freed w now c u))

socket_freed : (w : List Sent) (s : SenderState) (l : ListenState) → Freed w (socket_reply (in_front w s) l) (socket_reply s l)
socket_freed w s Absent = ((with_listener Open s, Number 3), refl, refl)
socket_freed w s _ = tt

bind_freed : (w : List Sent) (s : SenderState) (l : ListenState) (d : Descriptor) → Freed w (bind_reply (in_front w s) l d) (bind_reply s l d)
bind_freed w s Open Listening = ((with_listener Bound s, Number 0), refl, refl)
bind_freed w s _ _ = ((s, Error Einval), refl, refl)

listen_freed : (w : List Sent) (s : SenderState) (l : ListenState) (d : Descriptor) → Freed w (listen_reply (in_front w s) l d) (listen_reply s l d)
listen_freed w s Bound Listening = ((with_listener Listens s, Number 0), refl, refl)
listen_freed w s Listens Listening = ((s, Number 0), refl, refl)
listen_freed w s _ _ = ((s, Error Einval), refl, refl)

handed_freed : (w : List Sent) (s : SenderState) (o : Option ConnectionView) → Freed w (handed_out (in_front w s) o) (handed_out s o)
handed_freed w s None = ((s, Error Eagain), refl, refl)
handed_freed w s (Some c) =
    let handed : SenderState = with_stored (Some (with_stream stream.Open c)) s in
    either_by (beside_answer w) (is_some c.established && is_unaccepted (stream_of c))
    (answered (in_front w handed) (Number 4)) (answered (in_front w s) (Error Eagain))
    (answered handed (Number 4)) (answered s (Error Eagain))
    ((handed, Number 4), refl, refl) ((s, Error Eagain), refl, refl)

accept_freed : (w : List Sent) (s : SenderState) (l : ListenState) (d : Descriptor) → Freed w (accept_reply (in_front w s) l d) (accept_reply s l d)
accept_freed w s Listens Listening = handed_freed w s s.endpoint.connection
accept_freed w s _ _ = ((s, Error Einval), refl, refl)

no_delay_freed : (w : List Sent) (s : SenderState) (set : Bool) (d : Descriptor) → Freed w (no_delay_reply (in_front w s) set d) (no_delay_reply s set d)
no_delay_freed w s set Listening = ((s, Number 0), refl, refl)
no_delay_freed w s set (Connected c) = ((with_stored (Some (with_nagle (not set) c)) s, Number 0), refl, refl)

written_freed : (w : List Sent) (now n : ℕ) (c : ConnectionView) (s : SenderState) → Freed w (written_on now n c (in_front w s)) (written_on now n c s)
written_freed w now n c s =
    let noted : SenderState = record s { consulted_settings = write_settings s.consulted_settings } in
    let free : ℕ = free_of s.settings.sndbuf c in
    either_by (beside_answer w) c.is_reset
    (answered (in_front w s) (Error Epipe)) (if n == 0 then answered (in_front w s) (Number 0) else queued now n free c (in_front w noted))
    (answered s (Error Epipe)) (if n == 0 then answered s (Number 0) else queued now n free c noted)
    ((s, Error Epipe), refl, refl)
    (either_by (beside_answer w) (n == 0)
    (answered (in_front w s) (Number 0)) (queued now n free c (in_front w noted)) (answered s (Number 0)) (queued now n free c noted)
    ((s, Number 0), refl, refl) (queued_freed w now n free c noted))

write_freed : (w : List Sent) (now : ℕ) (s : SenderState) (n : ℕ) (d : Descriptor) → Freed w (write_reply now (in_front w s) n d) (write_reply now s n d)
write_freed w now s n Listening = ((s, Error Einval), refl, refl)
write_freed w now s n (Connected c) = written_freed w now n c s

closed_freed : (w : List Sent) (now : ℕ) (c : ConnectionView) (s : SenderState) → Freed w (closed_on now c (in_front w s)) (closed_on now c s)
closed_freed w now c s =
    let closed : SenderState = with_stored (Some (closed_stream c)) s in
    answer_freed w (Number 0)
    (if c.is_reset then Ok (in_front w closed) else ordinary_outside_recovery now c (in_front w closed)) (if c.is_reset then Ok closed else ordinary_outside_recovery now c closed)
    (either_by (in_front w) c.is_reset
    (Ok (in_front w closed)) (ordinary_outside_recovery now c (in_front w closed)) (Ok closed) (ordinary_outside_recovery now c closed)
    (closed, refl, refl) (outside_freed w now c closed))

close_freed : (w : List Sent) (now : ℕ) (s : SenderState) (d : Descriptor) → Freed w (close_reply now (in_front w s) d) (close_reply now s d)
close_freed w now s Listening =
    either_by (beside_answer w) (has_begun_unaccepted_connection s.endpoint.connection)
    (Err Unsupported) (answered (in_front w (with_listener Closed s)) (Number 0)) (Err Unsupported) (answered (with_listener Closed s) (Number 0))
    tt ((with_listener Closed s, Number 0), refl, refl)
close_freed w now s (Connected c) = closed_freed w now c s

operated_freed : (w : List Sent) (now : ℕ) (s : SenderState) (d : Descriptor) (o : SocketOperation) → Freed w (operated now (in_front w s) d o) (operated now s d o)
operated_freed w now s d Bind = bind_freed w s s.endpoint.listener d
operated_freed w now s d Listen = listen_freed w s s.endpoint.listener d
operated_freed w now s d Accept = accept_freed w s s.endpoint.listener d
operated_freed w now s d ReuseAddress = ((s, Number 0), refl, refl)
operated_freed w now s d (NoDelay set) = no_delay_freed w s set d
operated_freed w now s d SetFlags = ((s, Number 0), refl, refl)
operated_freed w now s d (Write n) = write_freed w now s n d
operated_freed w now s d Close = close_freed w now s d

open_freed : (w : List Sent) (now : ℕ) (s : SenderState) (o : SocketOperation) (d : Option Descriptor) → Freed w (on_open now (in_front w s) o d) (on_open now s o d)
open_freed w now s o None = ((s, Error Ebadf), refl, refl)
open_freed w now s o (Some d) = operated_freed w now s d o

replied_freed : (w : List Sent) (now : ℕ) (s : SenderState) (r : Syscall) → Freed w (reply_to now (in_front w s) r) (reply_to now s r)
replied_freed w now s Socket = socket_freed w s s.endpoint.listener
replied_freed w now s (On fd o) = open_freed w now s o (open_descriptor s.endpoint fd)

requested_freed : (w : List Sent) (now : ℕ) (s : SenderState) (r : Option Syscall) → Freed w (requested now (in_front w s) r) (requested now s r)
requested_freed w now s None = tt
requested_freed w now s (Some r) = replied_freed w now s r

pub called_freed : (w : List Sent) (call : Call) (now : ℕ) (s : SenderState) → CameBy (beside_answer w) (called call now (in_front w s)) (called call now s)
called_freed w call now s = requested_freed w now s (syscall_of call)
