-- The packets that a call puts out follow those that nobody has taken.
use Rattle.std.proofs.Common.{ℕ, ◌==◌, min, Bool, true, false, not, ◌&&◌, if◌then◌else◌, Option, None, Some, is_some, Result, Ok, Err, refl}
use Rattle.pd_seg.specs.declared.call_results.Answer.{Answer}
use Rattle.pd_seg.specs.declared.call_results.Answer.TheVariants.{Number, Error}
use Rattle.pd_seg.specs.declared.call_results.Errno.TheVariants.{Eagain, Epipe}
use Rattle.pd_host.specs.Calls.{Descriptor, Listening, Connected, Reply, answered, with_listener, with_stored, with_answer, socket_reply, bind_reply, listen_reply, accept_reply, handed_out, no_delay_reply, free_of, with_queued, write_settings, queued, written_on, write_reply, closed_stream, closed_on, close_reply, operated, on_open, open_descriptor, reply_to, requested, called, has_begun_unaccepted_connection, is_unaccepted, stream_of, with_stream, with_nagle}
use Rattle.pd_host.specs.Syscalls.{syscall_of}
use Rattle.pd_host.specs.Connection.{ConnectionView}
use Rattle.pd_host.specs.InputLaws.{IsAfter, CallsPutOutAfter}
use Rattle.pd_host.specs.Sending.{ordinary, ordinary_outside_recovery, is_recovering}
use Rattle.pd_host.specs.declared.halts.Halt.{Halt}
use Rattle.pd_host.specs.declared.halts.Halt.TheVariants.{Unsupported}
use Rattle.pd_host.specs.declared.descriptors.ListenState.{ListenState}
use Rattle.pd_host.specs.declared.descriptors.ListenState.TheVariants.{Absent, Open, Bound, Listens, Closed}
use Rattle.pd_host.specs.declared.syscall.SocketOperation.{SocketOperation}
use Rattle.pd_host.specs.declared.syscall.SocketOperation.TheVariants.{Bind, Listen, Accept, ReuseAddress, NoDelay, SetFlags, Write, Close}
use Rattle.pd_host.specs.declared.syscall.Syscall.{Syscall}
use Rattle.pd_host.specs.declared.syscall.Syscall.TheVariants.{Socket, On}
use Rattle.pd_host.specs.declared.endpoint.SenderState.{SenderState}
use Rattle.pd_host.specs.declared.descriptors.StreamState.TheVariants as stream_state
use Rattle.pd_host.proofs.After.{none_after}
use Rattle.pd_host.proofs.Outcomes.{Leaves, came, leaves_too, either}
use Rattle.pd_host.proofs.SentOn.{IsSentOn, nothing_sent, ordinary_sends}

-- what holds of the state that a call leaves
abbrev pub Replies : (SenderState → Type 0) → Reply → Type 0
Replies P reply = Leaves (λ (x : SenderState × Answer). P x.0) reply

pub reply_leaves : (P : SenderState → Type 0) (answer : Answer) (r : Result SenderState Halt) → Leaves P r → Replies P (with_answer answer r)
reply_leaves P answer (Ok s) holds = holds
reply_leaves P answer (Err halt) holds = tt

pub either_reply : (P : SenderState → Type 0) (b : Bool) (x y : Reply) → Replies P x → Replies P y → Replies P (if b then x else y)
either_reply P true x y first second = first
either_reply P false x y first second = second

-- what is sent outside of recovery
pub outside_sends : (now : ℕ) (c : ConnectionView) (s : SenderState) → Leaves (IsSentOn now s) (ordinary_outside_recovery now c s)
outside_sends now c s =
    either (IsSentOn now s) (is_recovering c.established) (Ok s) (ordinary now s) (nothing_sent now s) (ordinary_sends now s s (nothing_sent now s))

-- what a `write` queues is sent on
pub queued_sends : (now n free : ℕ) (c : ConnectionView) (s : SenderState) (P : SenderState → Type 0) → P s
    → ((t : SenderState) → IsSentOn now (with_stored (Some (with_queued (min n free) c)) s) t → P t)
    → Replies P (queued now n free c s)
queued_sends now n free c s P here sent =
    let u : SenderState = with_stored (Some (with_queued (min n free) c)) s in
    either_reply P (free == 0) (answered s (Error Eagain)) (with_answer (Number (min n free)) (ordinary_outside_recovery now c u)) here
    (reply_leaves P (Number (min n free)) (ordinary_outside_recovery now c u)
    (leaves_too (IsSentOn now u) P (ordinary_outside_recovery now c u) sent (outside_sends now c u)))

socket_after : (now : ℕ) (s : SenderState) (l : ListenState) → Replies (IsAfter now s) (socket_reply s l)
socket_after now s Absent = none_after now s (with_listener Open s) refl
socket_after now s _ = tt

bind_after : (now : ℕ) (s : SenderState) (l : ListenState) (d : Descriptor) → Replies (IsAfter now s) (bind_reply s l d)
bind_after now s Open Listening = none_after now s (with_listener Bound s) refl
bind_after now s _ _ = none_after now s s refl

listen_after : (now : ℕ) (s : SenderState) (l : ListenState) (d : Descriptor) → Replies (IsAfter now s) (listen_reply s l d)
listen_after now s Bound Listening = none_after now s (with_listener Listens s) refl
listen_after now s Listens Listening = none_after now s s refl
listen_after now s _ _ = none_after now s s refl

handed_after : (now : ℕ) (s : SenderState) (c : Option ConnectionView) → Replies (IsAfter now s) (handed_out s c)
handed_after now s None = none_after now s s refl
handed_after now s (Some c) =
    let handed : SenderState = with_stored (Some (with_stream stream_state.Open c)) s in
    either_reply (IsAfter now s) (is_some c.established && is_unaccepted (stream_of c)) (answered handed (Number 4)) (answered s (Error Eagain))
    (none_after now s handed refl) (none_after now s s refl)

accept_after : (now : ℕ) (s : SenderState) (l : ListenState) (d : Descriptor) → Replies (IsAfter now s) (accept_reply s l d)
accept_after now s Listens Listening = handed_after now s s.endpoint.connection
accept_after now s _ _ = none_after now s s refl

no_delay_after : (now : ℕ) (s : SenderState) (set : Bool) (d : Descriptor) → Replies (IsAfter now s) (no_delay_reply s set d)
no_delay_after now s set Listening = none_after now s s refl
no_delay_after now s set (Connected c) = none_after now s (with_stored (Some (with_nagle (not set) c)) s) refl

written_after : (now n : ℕ) (s : SenderState) (c : ConnectionView) → Replies (IsAfter now s) (written_on now n c s)
written_after now n s c =
    let noted : SenderState = record s { consulted_settings = write_settings s.consulted_settings } in
    let free : ℕ = free_of s.settings.sndbuf c in
    let rest : Reply = if n == 0 then answered s (Number 0) else queued now n free c noted in
    either_reply (IsAfter now s) c.is_reset (answered s (Error Epipe)) rest (none_after now s s refl)
    (either_reply (IsAfter now s) (n == 0) (answered s (Number 0)) (queued now n free c noted) (none_after now s s refl)
    (queued_sends now n free c noted (IsAfter now s) (none_after now s noted refl) (λ t h. (h.packets, h.moments, h.outbox))))

write_after : (now : ℕ) (s : SenderState) (n : ℕ) (d : Descriptor) → Replies (IsAfter now s) (write_reply now s n d)
write_after now s n Listening = none_after now s s refl
write_after now s n (Connected c) = written_after now n s c

closed_after : (now : ℕ) (s : SenderState) (c : ConnectionView) → Replies (IsAfter now s) (closed_on now c s)
closed_after now s c =
    let closed : SenderState = with_stored (Some (closed_stream c)) s in
    let r : Result SenderState Halt = if c.is_reset then Ok closed else ordinary_outside_recovery now c closed in
    reply_leaves (IsAfter now s) (Number 0) r
    (either (IsAfter now s) c.is_reset (Ok closed) (ordinary_outside_recovery now c closed) (none_after now s closed refl)
    (leaves_too (IsSentOn now closed) (IsAfter now s) (ordinary_outside_recovery now c closed) (λ t h. (h.packets, h.moments, h.outbox)) (outside_sends now c closed)))

close_after : (now : ℕ) (s : SenderState) (d : Descriptor) → Replies (IsAfter now s) (close_reply now s d)
close_after now s Listening =
    either_reply (IsAfter now s) (has_begun_unaccepted_connection s.endpoint.connection) (Err Unsupported) (answered (with_listener Closed s) (Number 0)) tt
    (none_after now s (with_listener Closed s) refl)
close_after now s (Connected c) = closed_after now s c

operated_after : (now : ℕ) (s : SenderState) (d : Descriptor) (o : SocketOperation) → Replies (IsAfter now s) (operated now s d o)
operated_after now s d Bind = bind_after now s s.endpoint.listener d
operated_after now s d Listen = listen_after now s s.endpoint.listener d
operated_after now s d Accept = accept_after now s s.endpoint.listener d
operated_after now s d ReuseAddress = none_after now s s refl
operated_after now s d (NoDelay set) = no_delay_after now s set d
operated_after now s d SetFlags = none_after now s s refl
operated_after now s d (Write n) = write_after now s n d
operated_after now s d Close = close_after now s d

open_after : (now : ℕ) (s : SenderState) (o : SocketOperation) (d : Option Descriptor) → Replies (IsAfter now s) (on_open now s o d)
open_after now s o None = none_after now s s refl
open_after now s o (Some d) = operated_after now s d o

reply_after : (now : ℕ) (s : SenderState) (r : Syscall) → Replies (IsAfter now s) (reply_to now s r)
reply_after now s Socket = socket_after now s s.endpoint.listener
reply_after now s (On fd o) = open_after now s o (open_descriptor s.endpoint fd)

requested_after : (now : ℕ) (s : SenderState) (r : Option Syscall) → Replies (IsAfter now s) (requested now s r)
requested_after now s None = tt
requested_after now s (Some r) = reply_after now s r

pub calls_put_out_after : CallsPutOutAfter
calls_put_out_after call now s t a h =
    came (λ (x : SenderState × Answer). IsAfter now s x.0) (called call now s) (t, a) h (requested_after now s (syscall_of call))
