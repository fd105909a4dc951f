-- Settings stay as they are, and what was consulted stays noted.
use Rattle.std.proofs.Common.{◌≡◌, ℕ, ◌==◌, min, Bool, not, ◌&&◌, if◌then◌else◌, Option, None, Some, is_some, Result, Ok, Err, refl, sym, subst, ◌∙◌}
use Rattle.pd_settings.specs.SettingSets.{Includes}
use Rattle.pd_settings.specs.declared.keys.Key.TheVariants.{Mss}
use Rattle.pd_settings.specs.declared.setting_set.SettingSet.{SettingSet}
use Rattle.pd_seg.specs.declared.call_results.Answer.{Answer}
use Rattle.pd_seg.specs.declared.call_results.Answer.TheVariants.{Number, Error}
use Rattle.pd_seg.specs.declared.call_results.Errno.TheVariants.{Eagain, Epipe}
use Rattle.pd_seg.specs.declared.segments.Segment.{Segment}
use Rattle.pd_host.specs.AckEffects.{taking, ack_taken}
use Rattle.pd_host.specs.Arrivals.{check_outcome, arrived_on, arrived, failed_check_of, reset_of}
use Rattle.pd_host.specs.Calls.{Descriptor, Listening, Connected, Reply, answered, with_listener, with_stored, socket_reply, bind_reply, listen_reply, accept_reply, handed_out, no_delay_reply, free_of, with_queued, write_settings, queued, written_on, write_reply, closed_stream, closed_on, close_reply, operated, on_open, open_descriptor, reply_to, requested, called, has_begun_unaccepted_connection, is_unaccepted, stream_of, with_stream, with_nagle}
use Rattle.pd_host.specs.Connection.{ConnectionView}
use Rattle.pd_host.specs.Expiries.{expired, advanced}
use Rattle.pd_host.specs.Handshake.{is_supported_syn_while_listening, connection_begun, answered_syn, syn_settings, establishment_settings}
use Rattle.pd_host.specs.InputLaws.{Notes, ArrivalsNote, CallsNote, AdvancesNote}
use Rattle.pd_host.specs.Syscalls.{syscall_of}
use Rattle.pd_host.specs.Host.{beside}
use Rattle.pd_host.specs.Sending.{ordinary_outside_recovery, places_left, with_begun_connection}
use Rattle.pd_host.specs.declared.endpoint.Endpoint.{Endpoint}
use Rattle.pd_host.specs.declared.halts.Halt.{Halt}
use Rattle.pd_host.specs.declared.halts.Halt.TheVariants.{Unsupported}
use Rattle.pd_host.specs.declared.descriptors.ListenState.{ListenState}
use Rattle.pd_host.specs.declared.descriptors.ListenState.TheVariants.{Absent, Open, Bound, Listens, Closed}
use Rattle.pd_host.specs.declared.syscall.SocketOperation.{SocketOperation}
use Rattle.pd_host.specs.declared.syscall.SocketOperation.TheVariants.{Bind, Listen, Accept, ReuseAddress, NoDelay, SetFlags, Write, Close}
use Rattle.pd_host.specs.declared.syscall.Syscall.{Syscall}
use Rattle.pd_host.specs.declared.syscall.Syscall.TheVariants.{Socket, On}
use Rattle.pd_host.specs.declared.connection.segment_check.SegmentCheck.{SegmentCheck}
use Rattle.pd_host.specs.declared.connection.segment_check.SegmentCheck.TheVariants.{NotRun, StrayRst, OutsideWindow, ExactRst, ChallengedRst, WithoutAck, FirstAck, RefusedAck, EarlyAck, OldAck}
use Rattle.pd_host.specs.declared.endpoint.SenderState.{SenderState}
use Rattle.pd_host.specs.declared.descriptors.StreamState.TheVariants as stream_state
use Rattle.pd_host.proofs.Advances.{expiry_finds, expiry_sends}
use Rattle.pd_host.proofs.CallsAfter.{Replies, reply_leaves, either_reply, outside_sends, queued_sends}
use Rattle.pd_host.proofs.Finishes.{passed_leaves}
use Rattle.pd_host.proofs.Outcomes.{Leaves, came, leaves_too, either, kept}
use Rattle.pd_host.proofs.SentOn.{IsSentOn}
use Rattle.pd_host.proofs.Taken.{taken_sends}

-- The segment that is noted

all_of : (consulted_settings : SettingSet) → Includes consulted_settings consulted_settings
all_of consulted_settings key e = e

more_by_syn : (consulted_settings : SettingSet) → Includes (syn_settings consulted_settings) consulted_settings
more_by_syn consulted_settings Mss e = cc
more_by_syn consulted_settings _ e = cc

more_by_establishment : (consulted_settings : SettingSet) → Includes (establishment_settings consulted_settings) consulted_settings
more_by_establishment consulted_settings Mss e = cc
more_by_establishment consulted_settings _ e = cc

more_by_write : (consulted_settings : SettingSet) → Includes (write_settings consulted_settings) consulted_settings
more_by_write consulted_settings Mss e = cc
more_by_write consulted_settings _ e = cc

same_notes : (s t : SenderState) → t.settings ≡ s.settings → t.consulted_settings ≡ s.consulted_settings → Notes s t
same_notes s t settings consulted_settings = record {
  settings = settings;
  consulted_settings = subst (λ (x : SettingSet). Includes x s.consulted_settings) (sym consulted_settings) (all_of s.consulted_settings);
}

-- what was sent on from there changes neither
sent_notes : (now : ℕ) (s u t : SenderState) → Notes s u → IsSentOn now u t → Notes s t
sent_notes now s u t h sent = record {
  settings = sent.settings ∙ h.settings;
  consulted_settings = subst (λ (x : SettingSet). Includes x s.consulted_settings) (sym sent.consulted_settings) h.consulted_settings;
}

-- Arrivals

-- the endpoint's rules leave both
beside_notes : (s u : SenderState) (r : Result Endpoint Halt) → Notes s u → Leaves (Notes s) (beside u r)
beside_notes s u (Ok e) h = record { settings = h.settings; consulted_settings = h.consulted_settings }
beside_notes s u (Err halt) h = tt

here : (s : SenderState) → Notes s s
here s = same_notes s s refl refl

by_ruling : (r : Option SegmentCheck) (segment : Segment) (now : ℕ) (s : SenderState) (c : ConnectionView) → Leaves (Notes s) (check_outcome now segment c s r)
by_ruling (Some NotRun) segment now s c = tt
by_ruling (Some StrayRst) segment now s c = here s
by_ruling (Some OutsideWindow) segment now s c = beside_notes s s _ (here s)
by_ruling (Some ExactRst) segment now s c = same_notes s (with_begun_connection (reset_of c) s) refl refl
by_ruling (Some ChallengedRst) segment now s c = beside_notes s s _ (here s)
by_ruling (Some WithoutAck) segment now s c = here s
by_ruling (Some FirstAck) segment now s c = record { settings = refl; consulted_settings = more_by_establishment s.consulted_settings }
by_ruling (Some RefusedAck) segment now s c = beside_notes s s _ (here s)
by_ruling (Some EarlyAck) segment now s c = beside_notes s s _ (here s)
by_ruling (Some OldAck) segment now s c = here s
by_ruling None segment now s c =
    let left : SenderState = with_begun_connection (taking now segment c c.established).0 s in
    leaves_too (IsSentOn now left) (Notes s) (ack_taken now segment c s c.established)
    (λ t h. sent_notes now s left t (same_notes s left refl refl) h) (taken_sends now segment c s c.established)

opening : (now : ℕ) (c : ConnectionView) (s : SenderState) → Leaves (Notes s) (answered_syn now c s)
opening now c s =
    let noted : SenderState = record s { consulted_settings = syn_settings s.consulted_settings } in
    beside_notes s noted _ (record { settings = refl; consulted_settings = more_by_syn s.consulted_settings })

on_connection : (o : Option ConnectionView) (segment : Segment) (now : ℕ) (s : SenderState) → Leaves (Notes s) (arrived_on now segment s o)
on_connection None segment now s =
    either (Notes s) (is_supported_syn_while_listening s.endpoint.listener segment) (answered_syn now (connection_begun now s.settings segment) s) (Err Unsupported)
    (opening now (connection_begun now s.settings segment) s) tt
on_connection (Some c) segment now s =
    passed_leaves (Notes s) now segment c s (failed_check_of c segment) (λ u d e k. record { settings = k.settings; consulted_settings = k.consulted_settings })
    (by_ruling (failed_check_of c segment) segment now s c)

pub arrivals_note : ArrivalsNote
arrivals_note segment now s t h = came (Notes s) (arrived segment now s) t h (on_connection s.endpoint.connection segment now s)

-- Calls

socket_notes : (now : ℕ) (s : SenderState) (l : ListenState) → Replies (Notes s) (socket_reply s l)
socket_notes now s Absent = same_notes s (with_listener Open s) refl refl
socket_notes now s _ = tt

bind_notes : (now : ℕ) (s : SenderState) (l : ListenState) (d : Descriptor) → Replies (Notes s) (bind_reply s l d)
bind_notes now s Open Listening = same_notes s (with_listener Bound s) refl refl
bind_notes now s _ _ = same_notes s s refl refl

listen_notes : (now : ℕ) (s : SenderState) (l : ListenState) (d : Descriptor) → Replies (Notes s) (listen_reply s l d)
listen_notes now s Bound Listening = same_notes s (with_listener Listens s) refl refl
listen_notes now s Listens Listening = same_notes s s refl refl
listen_notes now s _ _ = same_notes s s refl refl

handed_notes : (now : ℕ) (s : SenderState) (c : Option ConnectionView) → Replies (Notes s) (handed_out s c)
handed_notes now s None = same_notes s s refl refl
handed_notes now s (Some c) =
    let handed : SenderState = with_stored (Some (with_stream stream_state.Open c)) s in
    either_reply (Notes s) (is_some c.established && is_unaccepted (stream_of c)) (answered handed (Number 4)) (answered s (Error Eagain))
    (same_notes s handed refl refl) (same_notes s s refl refl)

accept_notes : (now : ℕ) (s : SenderState) (l : ListenState) (d : Descriptor) → Replies (Notes s) (accept_reply s l d)
accept_notes now s Listens Listening = handed_notes now s s.endpoint.connection
accept_notes now s _ _ = same_notes s s refl refl

no_delay_notes : (now : ℕ) (s : SenderState) (set : Bool) (d : Descriptor) → Replies (Notes s) (no_delay_reply s set d)
no_delay_notes now s set Listening = same_notes s s refl refl
no_delay_notes now s set (Connected c) = same_notes s (with_stored (Some (with_nagle (not set) c)) s) refl refl

written_notes : (now n : ℕ) (s : SenderState) (c : ConnectionView) → Replies (Notes s) (written_on now n c s)
written_notes now n s c =
    let noted : SenderState = record s { consulted_settings = write_settings s.consulted_settings } in
    let wrote : Notes s noted = record { settings = refl; consulted_settings = more_by_write s.consulted_settings } in
    let free : ℕ = free_of s.settings.sndbuf c in
    let rest : Reply = if n == 0 then answered s (Number 0) else queued now n free c noted in
    either_reply (Notes s) c.is_reset (answered s (Error Epipe)) rest (same_notes s s refl refl)
    (either_reply (Notes s) (n == 0) (answered s (Number 0)) (queued now n free c noted) (same_notes s s refl refl)
    (queued_sends now n free c noted (Notes s) wrote (λ t h. sent_notes now s (with_stored (Some (with_queued (min n free) c)) noted) t (record { settings = wrote.settings; consulted_settings = wrote.consulted_settings }) h)))

write_notes : (now : ℕ) (s : SenderState) (n : ℕ) (d : Descriptor) → Replies (Notes s) (write_reply now s n d)
write_notes now s n Listening = same_notes s s refl refl
write_notes now s n (Connected c) = written_notes now n s c

closed_notes : (now : ℕ) (s : SenderState) (c : ConnectionView) → Replies (Notes s) (closed_on now c s)
closed_notes now s c =
    let closed : SenderState = with_stored (Some (closed_stream c)) s in
    let r : Result SenderState Halt = if c.is_reset then Ok closed else ordinary_outside_recovery now c closed in
    reply_leaves (Notes s) (Number 0) r
    (either (Notes s) c.is_reset (Ok closed) (ordinary_outside_recovery now c closed) (same_notes s closed refl refl)
    (leaves_too (IsSentOn now closed) (Notes s) (ordinary_outside_recovery now c closed) (λ t h. sent_notes now s closed t (same_notes s closed refl refl) h) (outside_sends now c closed)))

close_notes : (now : ℕ) (s : SenderState) (d : Descriptor) → Replies (Notes s) (close_reply now s d)
close_notes now s Listening =
    either_reply (Notes s) (has_begun_unaccepted_connection s.endpoint.connection) (Err Unsupported) (answered (with_listener Closed s) (Number 0)) tt
    (same_notes s (with_listener Closed s) refl refl)
close_notes now s (Connected c) = closed_notes now s c

operated_notes : (now : ℕ) (s : SenderState) (d : Descriptor) (o : SocketOperation) → Replies (Notes s) (operated now s d o)
operated_notes now s d Bind = bind_notes now s s.endpoint.listener d
operated_notes now s d Listen = listen_notes now s s.endpoint.listener d
operated_notes now s d Accept = accept_notes now s s.endpoint.listener d
operated_notes now s d ReuseAddress = same_notes s s refl refl
operated_notes now s d (NoDelay set) = no_delay_notes now s set d
operated_notes now s d SetFlags = same_notes s s refl refl
operated_notes now s d (Write n) = write_notes now s n d
operated_notes now s d Close = close_notes now s d

open_notes : (now : ℕ) (s : SenderState) (o : SocketOperation) (d : Option Descriptor) → Replies (Notes s) (on_open now s o d)
open_notes now s o None = same_notes s s refl refl
open_notes now s o (Some d) = operated_notes now s d o

reply_notes : (now : ℕ) (s : SenderState) (r : Syscall) → Replies (Notes s) (reply_to now s r)
reply_notes now s Socket = socket_notes now s s.endpoint.listener
reply_notes now s (On fd o) = open_notes now s o (open_descriptor s.endpoint fd)

requested_notes : (now : ℕ) (s : SenderState) (r : Option Syscall) → Replies (Notes s) (requested now s r)
requested_notes now s None = tt
requested_notes now s (Some r) = reply_notes now s r

pub calls_note : CallsNote
calls_note call now s t a h = came (λ (x : SenderState × Answer). Notes s x.0) (called call now s) (t, a) h (requested_notes now s (syscall_of call))

-- Expiries

expired_notes : (at : ℕ) (s t : SenderState) (o : Option ConnectionView) → Notes s t → Notes s (expired at o t)
expired_notes at s t None h = h
expired_notes at s t (Some c) h = record { settings = h.settings; consulted_settings = h.consulted_settings }

pub advances_note : AdvancesNote
advances_note until s t h =
    came (Notes s) (advanced until s) t h
    (kept (Notes s) (expiry_finds until) expiry_sends (λ at u e k. expired_notes at s u u.endpoint.connection k) (places_left s) s (here s))
