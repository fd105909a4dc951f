-- Other settings that agree on all that was consulted give the same call.
use Rattle.std.proofs.Common.{◌≡◌, ℕ, ◌==◌, min, Bool, true, false, ◌&&◌, if◌then◌else◌, Option, None, Some, is_some, Result, Ok, Err, refl, sym, ap, ◌∙◌}
use Rattle.pd_seg.specs.declared.call_results.Answer.{Answer}
use Rattle.pd_seg.specs.declared.call_results.Answer.TheVariants.{Number, Error}
use Rattle.pd_seg.specs.declared.call_results.Errno.TheVariants.{Eagain, Epipe}
use Rattle.pd_settings.specs.SettingSets.{Agree}
use Rattle.pd_settings.specs.declared.settings.Settings.{Settings}
use Rattle.pd_settings.specs.declared.keys.Key.TheVariants.{Sndbuf}
use Rattle.pd_settings.specs.declared.setting_set.SettingSet.{SettingSet}
use Rattle.pd_host.specs.Calls.{Descriptor, Listening, Connected, Reply, answered, with_listener, with_stored, with_answer, socket_reply, bind_reply, listen_reply, accept_reply, handed_out, no_delay_reply, free_of, with_queued, write_settings, queued, written_on, write_reply, closed_stream, closed_on, close_reply, operated, on_open, open_descriptor, reply_to, requested, has_begun_unaccepted_connection, is_unaccepted, stream_of, with_stream}
use Rattle.pd_host.specs.Syscalls.{syscall_of}
use Rattle.pd_host.specs.Connection.{ConnectionView}
use Rattle.pd_host.specs.InputLaws.{CallsOnlyUse, with_settings}
use Rattle.pd_host.specs.Sending.{ordinary, ordinary_outside_recovery, is_recovering}
use Rattle.pd_host.specs.declared.halts.Halt.{Halt}
use Rattle.pd_host.specs.declared.halts.Halt.TheVariants.{Unsupported}
use Rattle.pd_host.specs.declared.descriptors.ListenState.{ListenState}
use Rattle.pd_host.specs.declared.descriptors.ListenState.TheVariants.{Absent, Open, Bound, Listens, Closed}
use Rattle.pd_host.specs.declared.syscall.SocketOperation.{SocketOperation}
use Rattle.pd_host.specs.declared.syscall.SocketOperation.TheVariants.{Bind, Listen, Accept, ReuseAddress, NoDelay, SetFlags, Write, Close}
use Rattle.pd_host.specs.declared.syscall.Syscall.{Syscall}
use Rattle.pd_host.specs.declared.syscall.Syscall.TheVariants.{Socket, On}
use Rattle.pd_host.specs.declared.endpoint.SenderState.{SenderState}
use Rattle.pd_host.specs.declared.descriptors.StreamState.TheVariants as stream_state
use Rattle.pd_host.proofs.CallsAfter.{queued_sends}
use Rattle.pd_host.proofs.Outcomes.{came, mapped, either_mapped}
use Rattle.pd_host.proofs.Rebound.{again, ordinary_again}
use Rattle.pd_settings.proofs.SameValues.{number_of}

-- a state and an answer, with other settings held
abbrev rebound_with : Settings → SenderState × Answer → SenderState × Answer
rebound_with b x = (with_settings b x.0, x.1)

abbrev reply_again : Settings → Reply → Reply
reply_again b r = mapped (rebound_with b) r

answer_again : (b : Settings) (answer : Answer) (r : Result SenderState Halt) → with_answer answer (again b r) ≡ reply_again b (with_answer answer r)
answer_again b answer (Ok s) = refl
answer_again b answer (Err halt) = refl

outside_again : (b : Settings) (now : ℕ) (c : ConnectionView) (s : SenderState)
    → ordinary_outside_recovery now c (with_settings b s) ≡ again b (ordinary_outside_recovery now c s)
outside_again b now c s =
    either_mapped (with_settings b) (is_recovering c.established) (Ok s) (ordinary now s) (Ok (with_settings b s)) (ordinary now (with_settings b s))
    refl (ordinary_again b now s)

queued_again : (b : Settings) (now n free : ℕ) (c : ConnectionView) (s : SenderState) → queued now n free c (with_settings b s) ≡ reply_again b (queued now n free c s)
queued_again b now n free c s =
    let u : SenderState = with_stored (Some (with_queued (min n free) c)) s in
    let answer : Answer = Number (min n free) in
    either_mapped (rebound_with b) (free == 0)
    (answered s (Error Eagain)) (with_answer answer (ordinary_outside_recovery now c u))
    (answered (with_settings b s) (Error Eagain)) (with_answer answer (ordinary_outside_recovery now c (with_settings b u)))
    refl
    (ap (with_answer answer) (outside_again b now c u) ∙ answer_again b answer (ordinary_outside_recovery now c u))

socket_again : (b : Settings) (s : SenderState) (l : ListenState) → socket_reply (with_settings b s) l ≡ reply_again b (socket_reply s l)
socket_again b s Absent = refl
socket_again b s _ = refl

bind_again : (b : Settings) (s : SenderState) (l : ListenState) (d : Descriptor) → bind_reply (with_settings b s) l d ≡ reply_again b (bind_reply s l d)
bind_again b s Open Listening = refl
bind_again b s _ _ = refl

listen_again : (b : Settings) (s : SenderState) (l : ListenState) (d : Descriptor) → listen_reply (with_settings b s) l d ≡ reply_again b (listen_reply s l d)
listen_again b s Bound Listening = refl
listen_again b s Listens Listening = refl
listen_again b s _ _ = refl

handed_again : (b : Settings) (s : SenderState) (o : Option ConnectionView) → handed_out (with_settings b s) o ≡ reply_again b (handed_out s o)
handed_again b s None = refl
handed_again b s (Some c) =
    let handed : SenderState = with_stored (Some (with_stream stream_state.Open c)) s in
    either_mapped (rebound_with b) (is_some c.established && is_unaccepted (stream_of c))
    (answered handed (Number 4)) (answered s (Error Eagain))
    (answered (with_settings b handed) (Number 4)) (answered (with_settings b s) (Error Eagain)) refl refl

accept_again : (b : Settings) (s : SenderState) (l : ListenState) (d : Descriptor) → accept_reply (with_settings b s) l d ≡ reply_again b (accept_reply s l d)
accept_again b s Listens Listening = handed_again b s s.endpoint.connection
accept_again b s _ _ = refl

no_delay_again : (b : Settings) (s : SenderState) (set : Bool) (d : Descriptor) → no_delay_reply (with_settings b s) set d ≡ reply_again b (no_delay_reply s set d)
no_delay_again b s set Listening = refl
no_delay_again b s set (Connected c) = refl

-- what a `write` consulted
queued_uses : (now n free : ℕ) (c : ConnectionView) (s t : SenderState) (a : Answer) → queued now n free c s ≡ Ok (t, a) → t.consulted_settings ≡ s.consulted_settings
queued_uses now n free c s t a h =
    came (λ (x : SenderState × Answer). x.0.consulted_settings ≡ s.consulted_settings) (queued now n free c s) (t, a) h
    (queued_sends now n free c s (λ u. u.consulted_settings ≡ s.consulted_settings) refl (λ u sent. sent.consulted_settings))

-- a `write`, by whether the connection was reset and whether it has octets
abbrev wrote : Bool → Bool → ℕ → ℕ → ConnectionView → SenderState → Reply
wrote is_reset none now n c s =
    if is_reset then answered s (Error Epipe)
    else if none then answered s (Number 0)
    else queued now n (free_of s.settings.sndbuf c) c (record s { consulted_settings = write_settings s.consulted_settings })

wrote_again : (b : Settings) (is_reset none : Bool) (now n : ℕ) (c : ConnectionView) (s t : SenderState) (a : Answer)
    → wrote is_reset none now n c s ≡ Ok (t, a)
    → Agree t.consulted_settings s.settings b
    → wrote is_reset none now n c (with_settings b s) ≡ reply_again b (wrote is_reset none now n c s)
wrote_again b true none now n c s t a h agree = refl
wrote_again b false true now n c s t a h agree = refl
wrote_again b false false now n c s t a h agree =
    let u : SenderState = record s { consulted_settings = write_settings s.consulted_settings } in
    let consulted_settings : t.consulted_settings ≡ write_settings s.consulted_settings = queued_uses now n (free_of s.settings.sndbuf c) c u t a h in
    let same : b.sndbuf ≡ s.settings.sndbuf = sym (number_of (agree Sndbuf (ap (λ (x : SettingSet). x.sndbuf) consulted_settings))) in
    ap (λ (x : ℕ). queued now n (free_of x c) c (with_settings b u)) same ∙ queued_again b now n (free_of s.settings.sndbuf c) c u

written_again : (b : Settings) (now n : ℕ) (c : ConnectionView) (s t : SenderState) (a : Answer)
    → written_on now n c s ≡ Ok (t, a)
    → Agree t.consulted_settings s.settings b
    → written_on now n c (with_settings b s) ≡ reply_again b (written_on now n c s)
written_again b now n c s t a h agree = wrote_again b c.is_reset (n == 0) now n c s t a h agree

write_again : (b : Settings) (now : ℕ) (s : SenderState) (n : ℕ) (d : Descriptor) (t : SenderState) (a : Answer)
    → write_reply now s n d ≡ Ok (t, a)
    → Agree t.consulted_settings s.settings b
    → write_reply now (with_settings b s) n d ≡ reply_again b (write_reply now s n d)
write_again b now s n Listening t a h agree = refl
write_again b now s n (Connected c) t a h agree = written_again b now n c s t a h agree

closed_again : (b : Settings) (now : ℕ) (c : ConnectionView) (s : SenderState) → closed_on now c (with_settings b s) ≡ reply_again b (closed_on now c s)
closed_again b now c s =
    let closed : SenderState = with_stored (Some (closed_stream c)) s in
    let r : Result SenderState Halt = if c.is_reset then Ok closed else ordinary_outside_recovery now c closed in
    ap (with_answer (Number 0))
    (either_mapped (with_settings b) c.is_reset (Ok closed) (ordinary_outside_recovery now c closed)
    (Ok (with_settings b closed)) (ordinary_outside_recovery now c (with_settings b closed)) refl (outside_again b now c closed))
    ∙ answer_again b (Number 0) r

close_again : (b : Settings) (now : ℕ) (s : SenderState) (d : Descriptor) → close_reply now (with_settings b s) d ≡ reply_again b (close_reply now s d)
close_again b now s Listening =
    either_mapped (rebound_with b) (has_begun_unaccepted_connection s.endpoint.connection)
    (Err Unsupported) (answered (with_listener Closed s) (Number 0))
    (Err Unsupported) (answered (with_settings b (with_listener Closed s)) (Number 0)) refl refl
close_again b now s (Connected c) = closed_again b now c s

operated_again : (b : Settings) (now : ℕ) (s : SenderState) (d : Descriptor) (o : SocketOperation) (t : SenderState) (a : Answer)
    → operated now s d o ≡ Ok (t, a)
    → Agree t.consulted_settings s.settings b
    → operated now (with_settings b s) d o ≡ reply_again b (operated now s d o)
operated_again b now s d Bind t a h agree = bind_again b s s.endpoint.listener d
operated_again b now s d Listen t a h agree = listen_again b s s.endpoint.listener d
operated_again b now s d Accept t a h agree = accept_again b s s.endpoint.listener d
operated_again b now s d ReuseAddress t a h agree = refl
operated_again b now s d (NoDelay set) t a h agree = no_delay_again b s set d
operated_again b now s d SetFlags t a h agree = refl
operated_again b now s d (Write n) t a h agree = write_again b now s n d t a h agree
operated_again b now s d Close t a h agree = close_again b now s d

open_again : (b : Settings) (now : ℕ) (s : SenderState) (o : SocketOperation) (d : Option Descriptor) (t : SenderState) (a : Answer)
    → on_open now s o d ≡ Ok (t, a)
    → Agree t.consulted_settings s.settings b
    → on_open now (with_settings b s) o d ≡ reply_again b (on_open now s o d)
open_again b now s o None t a h agree = refl
open_again b now s o (Some d) t a h agree = operated_again b now s d o t a h agree

replied_again : (b : Settings) (now : ℕ) (s : SenderState) (r : Syscall) (t : SenderState) (a : Answer)
    → reply_to now s r ≡ Ok (t, a)
    → Agree t.consulted_settings s.settings b
    → reply_to now (with_settings b s) r ≡ reply_again b (reply_to now s r)
replied_again b now s Socket t a h agree = socket_again b s s.endpoint.listener
replied_again b now s (On fd o) t a h agree = open_again b now s o (open_descriptor s.endpoint fd) t a h agree

requested_again : (b : Settings) (now : ℕ) (s : SenderState) (r : Option Syscall) (t : SenderState) (a : Answer)
    → requested now s r ≡ Ok (t, a)
    → Agree t.consulted_settings s.settings b
    → requested now (with_settings b s) r ≡ reply_again b (requested now s r)
requested_again b now s None t a h agree = refl
requested_again b now s (Some r) t a h agree = replied_again b now s r t a h agree

pub calls_only_use : CallsOnlyUse
calls_only_use call now s t a b h agree = requested_again b now s (syscall_of call) t a h agree ∙ ap (reply_again b) h
