-- The FIN is the last octet that is queued, and `close` alone queues it.
use Rattle.std.proofs.Common.{◌≡◌, ◌⊎◌, inl, inr, ℕ, ◌==◌, ◌<◌, ◌≤◌, min, Bool, true, false, true≢false, ◌&&◌, nat_lt, nat_le, if◌then◌else◌, Option, None, Some, is_some, Ok, Err, refl, sym, ap, ◌∙◌, arith}
use Rattle.std.proofs.lemmas.Bool.Decides.{nat_tests}
use Rattle.pd_script.specs.declared.calls.Call.{Call}
use Rattle.pd_seg.specs.declared.call_results.Answer.{Answer}
use Rattle.pd_seg.specs.declared.call_results.Answer.TheVariants.{Number, Error}
use Rattle.pd_seg.specs.declared.call_results.Errno.TheVariants.{Eagain, Epipe}
use Rattle.pd_seg.specs.declared.sack_spans.Span.{Span}
use Rattle.pd_host.specs.Calls.{Descriptor, Listening, Connected, Reply, answered, with_listener, with_stored, socket_reply, bind_reply, listen_reply, accept_reply, handed_out, no_delay_reply, free_of, with_queued, write_settings, queued, written_on, write_reply, operated, on_open, open_descriptor, reply_to, requested, called, has_begun_unaccepted_connection, is_unaccepted, is_open, stream_of, with_stream}
use Rattle.pd_host.specs.Connection.{ConnectionView, data_end}
use Rattle.pd_host.specs.Packets.{data_of}
use Rattle.pd_host.specs.Syscalls.{syscall_of}
use Rattle.pd_host.specs.declared.halts.Halt.TheVariants.{Unsupported}
use Rattle.pd_host.specs.declared.descriptors.ListenState.{ListenState}
use Rattle.pd_host.specs.declared.descriptors.ListenState.TheVariants.{Absent, Open, Bound, Listens, Closed}
use Rattle.pd_host.specs.declared.syscall.SocketOperation.{SocketOperation}
use Rattle.pd_host.specs.declared.syscall.SocketOperation.TheVariants.{Bind, Listen, Accept, ReuseAddress, NoDelay, SetFlags, Write, Close}
use Rattle.pd_host.specs.declared.syscall.Syscall.{Syscall}
use Rattle.pd_host.specs.declared.syscall.Syscall.TheVariants.{Socket, On}
use Rattle.pd_host.specs.declared.endpoint.SenderState.{SenderState}
use Rattle.pd_host.specs.declared.descriptors.StreamState.TheVariants as stream_state
use Rattle.pd_host.proofs.CallsKept.{connected, IsOpenOn, open_on}
use Rattle.pd_host.proofs.CallsAfter.{Replies, either_reply, queued_sends}
use Rattle.pd_host.proofs.Chosen.{first_of_two, second_of_two, is_above, is_within}
use Rattle.pd_host.proofs.Outcomes.{came}
use Rattle.pd_host.proofs.SentOn.{IsSentOn, stills}

-- Segments

pub fin_covered : (c : ConnectionView) (segment : Span) → (data_of c segment).flags.fin ≡ true
    → (c.fin ≡ true) × (segment.start < c.board.end) × (c.board.end ≤ segment.end)
fin_covered c segment h =
    let below : Bool = nat_lt segment.start c.board.end in
    let above : Bool = nat_le c.board.end segment.end in
    let both : (below && above) ≡ true = second_of_two c.fin (below && above) h in (
      first_of_two c.fin (below && above) h,
      is_above segment.start c.board.end (first_of_two below above both),
      is_within c.board.end segment.end (second_of_two below above both),
    )

lesser : (a b : ℕ) → min a b ≤ b
lesser a b = omega arith

pub ends_before : (c : ConnectionView) (segment : Span) → (data_of c segment).end ≤ data_end c
ends_before c segment = lesser segment.end (data_end c)

-- Descriptors

equal : (m n : ℕ) → (m == n) ≡ true → m ≡ n
equal m n h = grind (arith, nat_tests)

-- Only `close` queues the FIN

abbrev fins : Option ConnectionView → Bool
fins None = false
fins (Some c) = c.fin

abbrev SameFin : SenderState → SenderState → Type 0
SameFin s t = fins t.endpoint.connection ≡ fins s.endpoint.connection

still_fin : (o : Option ConnectionView) → fins (stills o) ≡ fins o
still_fin None = refl
still_fin (Some c) = refl

sent_fin : (now : ℕ) (s t : SenderState) → IsSentOn now s t → SameFin s t
sent_fin now s t h = sym (still_fin t.endpoint.connection) ∙ ap fins h.connection ∙ still_fin s.endpoint.connection

socket_fin : (s : SenderState) (l : ListenState) → Replies (SameFin s) (socket_reply s l)
socket_fin s Absent = refl
socket_fin s _ = tt

bind_fin : (s : SenderState) (l : ListenState) (d : Descriptor) → Replies (SameFin s) (bind_reply s l d)
bind_fin s Open Listening = refl
bind_fin s _ _ = refl

listen_fin : (s : SenderState) (l : ListenState) (d : Descriptor) → Replies (SameFin s) (listen_reply s l d)
listen_fin s Bound Listening = refl
listen_fin s Listens Listening = refl
listen_fin s _ _ = refl

handed_fin : (s : SenderState) (o : Option ConnectionView) → s.endpoint.connection ≡ o → Replies (SameFin s) (handed_out s o)
handed_fin s None e = refl
handed_fin s (Some c) e =
    either_reply (SameFin s) (is_some c.established && is_unaccepted (stream_of c))
    (answered (with_stored (Some (with_stream stream_state.Open c)) s) (Number 4)) (answered s (Error Eagain)) (sym (ap fins e)) refl

accept_fin : (s : SenderState) (l : ListenState) (d : Descriptor) → Replies (SameFin s) (accept_reply s l d)
accept_fin s Listens Listening = handed_fin s s.endpoint.connection refl
accept_fin s _ _ = refl

no_delay_fin : (s : SenderState) (set : Bool) (d : Descriptor) → IsOpenOn s d → Replies (SameFin s) (no_delay_reply s set d)
no_delay_fin s set Listening unclosed = refl
no_delay_fin s set (Connected c) unclosed = sym (ap fins unclosed.0)

written_fin : (now n : ℕ) (s : SenderState) (c : ConnectionView) → s.endpoint.connection ≡ Some c → Replies (SameFin s) (written_on now n c s)
written_fin now n s c e =
    let noted : SenderState = record s { consulted_settings = write_settings s.consulted_settings } in
    let free : ℕ = free_of s.settings.sndbuf c in
    let u : SenderState = with_stored (Some (with_queued (min n free) c)) noted in
    let rest : Reply = if n == 0 then answered s (Number 0) else queued now n free c noted in
    either_reply (SameFin s) c.is_reset (answered s (Error Epipe)) rest refl
    (either_reply (SameFin s) (n == 0) (answered s (Number 0)) (queued now n free c noted) refl
    (queued_sends now n free c noted (SameFin s) refl (λ t h. sent_fin now u t h ∙ sym (ap fins e))))

write_fin : (now : ℕ) (s : SenderState) (n : ℕ) (d : Descriptor) → IsOpenOn s d → Replies (SameFin s) (write_reply now s n d)
write_fin now s n Listening unclosed = refl
write_fin now s n (Connected c) unclosed = written_fin now n s c unclosed.0

-- what is asked of an open descriptor leaves the FIN, or is the closing of the connection's
operated_fin : (now fd : ℕ) (s : SenderState) (d : Option Descriptor) (o : SocketOperation) → open_descriptor s.endpoint fd ≡ d
    → (On fd o ≡ On 4 Close) ⊎ Replies (SameFin s) (on_open now s o d)
operated_fin now fd s None o e = inr refl
operated_fin now fd s (Some d) Bind e = inr (bind_fin s s.endpoint.listener d)
operated_fin now fd s (Some d) Listen e = inr (listen_fin s s.endpoint.listener d)
operated_fin now fd s (Some d) Accept e = inr (accept_fin s s.endpoint.listener d)
operated_fin now fd s (Some d) ReuseAddress e = inr refl
operated_fin now fd s (Some d) (NoDelay set) e = inr (no_delay_fin s set d (open_on s fd d e))
operated_fin now fd s (Some d) SetFlags e = inr refl
operated_fin now fd s (Some d) (Write n) e = inr (write_fin now s n d (open_on s fd d e))
operated_fin now fd s (Some Listening) Close e =
    inr (either_reply (SameFin s) (has_begun_unaccepted_connection s.endpoint.connection) (Err Unsupported) (answered (with_listener Closed s) (Number 0)) tt refl)
operated_fin now fd s (Some (Connected c)) Close e =
    inl (ap (λ (n : ℕ). On n Close) (equal fd 4 (connected s.endpoint fd c e).0))

reply_fin : (now : ℕ) (s : SenderState) (r : Syscall) → (r ≡ On 4 Close) ⊎ Replies (SameFin s) (reply_to now s r)
reply_fin now s Socket = inr (socket_fin s s.endpoint.listener)
reply_fin now s (On fd o) = operated_fin now fd s (open_descriptor s.endpoint fd) o refl

-- a call that queued the FIN
abbrev Queues : SenderState → SenderState → Type 0
Queues s t = (fins s.endpoint.connection ≡ false) × (fins t.endpoint.connection ≡ true)

fin_queued : (now : ℕ) (s t : SenderState) (a : Answer) (r : Syscall) → Queues s t → reply_to now s r ≡ Ok (t, a)
    → (r ≡ On 4 Close) ⊎ Replies (SameFin s) (reply_to now s r) → r ≡ On 4 Close
fin_queued now s t a r queues h (inl same) = same
fin_queued now s t a r queues h (inr kept) =
    let same : SameFin s t = came (λ (x : SenderState × Answer). SameFin s x.0) (reply_to now s r) (t, a) h kept in
    absurd (true≢false (sym queues.1 ∙ same ∙ queues.0))

asked : (now : ℕ) (s t : SenderState) (a : Answer) (o : Option Syscall) → Queues s t → requested now s o ≡ Ok (t, a) → o ≡ Some (On 4 Close)
asked now s t a None queues h = absurd cc
asked now s t a (Some r) queues h = ap (λ (x : Syscall). Some x) (fin_queued now s t a r queues h (reply_fin now s r))

pub only_close_queues : (call : Call) (now : ℕ) (s t : SenderState) (a : Answer) (c d : ConnectionView)
    → s.endpoint.connection ≡ Some c → t.endpoint.connection ≡ Some d → c.fin ≡ false → d.fin ≡ true
    → called call now s ≡ Ok (t, a) → syscall_of call ≡ Some (On 4 Close)
only_close_queues call now s t a c d hc hd before after h =
    asked now s t a (syscall_of call) (ap fins hc ∙ before, ap fins hd ∙ after) h

-- After `close` no call moves the connection

abbrev SameConnection : SenderState → SenderState → Type 0
SameConnection s t = t.endpoint.connection ≡ s.endpoint.connection

socket_same : (s : SenderState) (l : ListenState) → Replies (SameConnection s) (socket_reply s l)
socket_same s Absent = refl
socket_same s _ = tt

bind_same : (s : SenderState) (l : ListenState) → Replies (SameConnection s) (bind_reply s l Listening)
bind_same s Open = refl
bind_same s _ = refl

listen_same : (s : SenderState) (l : ListenState) → Replies (SameConnection s) (listen_reply s l Listening)
listen_same s Bound = refl
listen_same s Listens = refl
listen_same s _ = refl

nobody_waits : (a b : Bool) (s : SenderState) (x : Reply) → b ≡ false → Replies (SameConnection s) (if a && b then x else answered s (Error Eagain))
nobody_waits a true s x e = absurd (true≢false e)
nobody_waits true false s x e = refl
nobody_waits false false s x e = refl

handed_same : (s : SenderState) (c : ConnectionView) (o : Option ConnectionView) → o ≡ Some c → stream_of c ≡ stream_state.Closed
    → Replies (SameConnection s) (handed_out s o)
handed_same s c None e closed = refl
handed_same s c (Some d) e closed =
    let same : d ≡ c = cc in
    nobody_waits (is_some d.established) (is_unaccepted (stream_of d)) s (answered (with_stored (Some (with_stream stream_state.Open d)) s) (Number 4))
    (ap (λ (x : ConnectionView). is_unaccepted (stream_of x)) same ∙ ap is_unaccepted closed)

accept_same : (s : SenderState) (c : ConnectionView) (l : ListenState) → s.endpoint.connection ≡ Some c → stream_of c ≡ stream_state.Closed
    → Replies (SameConnection s) (accept_reply s l Listening)
accept_same s c Listens e closed = handed_same s c s.endpoint.connection e closed
accept_same s c _ e closed = refl

listening_same : (now : ℕ) (s : SenderState) (c : ConnectionView) (o : SocketOperation) → s.endpoint.connection ≡ Some c → stream_of c ≡ stream_state.Closed
    → Replies (SameConnection s) (operated now s Listening o)
listening_same now s c Bind e closed = bind_same s s.endpoint.listener
listening_same now s c Listen e closed = listen_same s s.endpoint.listener
listening_same now s c Accept e closed = accept_same s c s.endpoint.listener e closed
listening_same now s c ReuseAddress e closed = refl
listening_same now s c (NoDelay set) e closed = refl
listening_same now s c SetFlags e closed = refl
listening_same now s c (Write n) e closed = refl
listening_same now s c Close e closed =
    either_reply (SameConnection s) (has_begun_unaccepted_connection s.endpoint.connection) (Err Unsupported) (answered (with_listener Closed s) (Number 0)) tt refl

given_some : (d c : ConnectionView) → Some d ≡ Some c → d ≡ c
given_some d c e = cc

open_same : (now fd : ℕ) (s : SenderState) (c : ConnectionView) (o : SocketOperation) (d : Option Descriptor) → s.endpoint.connection ≡ Some c → stream_of c ≡ stream_state.Closed
    → open_descriptor s.endpoint fd ≡ d → Replies (SameConnection s) (on_open now s o d)
open_same now fd s c o None e closed h = refl
open_same now fd s c o (Some Listening) e closed h = listening_same now s c o e closed
open_same now fd s c o (Some (Connected d)) e closed h =
    let found = connected s.endpoint fd d h in
    let same : d ≡ c = given_some d c (sym found.1 ∙ e) in
    absurd (true≢false (sym found.2 ∙ ap (λ (x : ConnectionView). is_open (stream_of x)) same ∙ ap is_open closed))

reply_same : (now : ℕ) (s : SenderState) (c : ConnectionView) (o : Option Syscall) → s.endpoint.connection ≡ Some c → stream_of c ≡ stream_state.Closed
    → Replies (SameConnection s) (requested now s o)
reply_same now s c None e closed = tt
reply_same now s c (Some Socket) e closed = socket_same s s.endpoint.listener
reply_same now s c (Some (On fd o)) e closed = open_same now fd s c o (open_descriptor s.endpoint fd) e closed refl

pub closed_stays : (call : Call) (now : ℕ) (s t : SenderState) (a : Answer) (c : ConnectionView)
    → s.endpoint.connection ≡ Some c → stream_of c ≡ stream_state.Closed → called call now s ≡ Ok (t, a) → t.endpoint.connection ≡ Some c
closed_stays call now s t a c e closed h =
    came (λ (x : SenderState × Answer). SameConnection s x.0) (called call now s) (t, a) h (reply_same now s c (syscall_of call) e closed) ∙ e
