-- Calls keep each property of a connection that each rule keeps.
use Rattle.std.proofs.Common.{◌≡◌, ℕ, ◌==◌, ◌&&◌, min, not, Bool, true, false, if◌then◌else◌, List, Option, Some, None, Result, Ok, Err, refl, ap, subst}
use Rattle.std.specs.Prelude.{is_some, IfSome}
use Rattle.pd_script.specs.declared.calls.Call.{Call}
use Rattle.pd_settings.specs.declared.settings.Settings.{Settings}
use Rattle.pd_seg.specs.declared.call_results.Answer.{Answer}
use Rattle.pd_seg.specs.declared.call_results.Answer.TheVariants.{Number}
use Rattle.pd_seg.specs.declared.segments.Sent.{Sent}
use Rattle.pd_host.specs.Calls.{Descriptor, Listening, Connected, Reply, with_answer, with_listener, with_stored, is_listener_open, is_unaccepted, is_open, open_stream, has_begun_unaccepted_connection, stream_of, open_descriptor, socket_reply, bind_reply, listen_reply, handed_out, accept_reply, with_stream, with_nagle, no_delay_reply, free_of, with_queued, write_settings, queued, written_on, write_reply, closed_stream, closed_on, close_reply, operated, on_open, reply_to, requested, called}
use Rattle.pd_host.specs.Connection.{ConnectionView}
use Rattle.pd_host.specs.Syscalls.{syscall_of}
use Rattle.pd_host.specs.Sending.{is_recovering, ordinary, ordinary_outside_recovery}
use Rattle.pd_host.specs.declared.endpoint.Endpoint.{Endpoint}
use Rattle.pd_host.specs.declared.halts.Halt.{Halt}
use Rattle.pd_host.specs.declared.halts.Halt.TheVariants.{Unsupported}
use Rattle.pd_host.specs.declared.descriptors.ListenState.{ListenState}
use Rattle.pd_host.specs.declared.descriptors.ListenState.TheVariants.{Absent, Open, Bound, Listens, Closed}
use Rattle.pd_host.specs.declared.syscall.SocketOperation.{SocketOperation}
use Rattle.pd_host.specs.declared.syscall.SocketOperation.TheVariants.{Bind, Listen, Accept, ReuseAddress, NoDelay, SetFlags, Write, Close}
use Rattle.pd_host.specs.declared.syscall.Syscall.{Syscall}
use Rattle.pd_host.specs.declared.syscall.Syscall.TheVariants.{Socket, On}
use Rattle.pd_host.specs.declared.endpoint.SenderState.{SenderState}
use Rattle.pd_host.specs.declared.descriptors.StreamState.TheVariants as stream_state
use Rattle.pd_host.proofs.Kept.{Comes, by_test, came, comes_more}
use Rattle.pd_host.proofs.Rules.{Holds, KeptByCalls}
use Rattle.pd_host.proofs.SendingKept.{TakesOne, ordinary_where}

-- it holds of the state of a reply
abbrev Leaves : (SenderState → Type 0) → Reply → Type 0
Leaves P reply = Comes (λ (r : SenderState × Answer). P r.0) reply

answered_leaves : (P : SenderState → Type 0) (answer : Answer) (r : Result SenderState Halt) → Comes P r → Leaves P (with_answer answer r)
answered_leaves P answer (Ok s) h = h
answered_leaves P answer (Err halt) h = tt

-- descriptor 4 is open where it was found

opened_so : (b : Bool) (c d : ConnectionView) → is_open (stream_of c) ≡ b → (if b then Some (Connected c) else None) ≡ Some (Connected d)
    → (Some c ≡ Some d) × (is_open (stream_of d) ≡ true)
opened_so true c d is e =
    let same : c ≡ d = cc in
    (ap (λ (x : ConnectionView). Some x) same, subst (λ (x : ConnectionView). is_open (stream_of x) ≡ true) same is)
opened_so false c d is e = absurd cc

opened : (o : Option ConnectionView) (d : ConnectionView) → open_stream o ≡ Some (Connected d) → (o ≡ Some d) × (is_open (stream_of d) ≡ true)
opened None d e = absurd cc
opened (Some c) d e = opened_so (is_open (stream_of c)) c d refl e

connected_so : (a b : Bool) (o : Option ConnectionView) (d : ConnectionView) → (if a then Some Listening else if b then open_stream o else None) ≡ Some (Connected d)
    → (b ≡ true) × (open_stream o ≡ Some (Connected d))
connected_so true b o d e = absurd cc
connected_so false true o d e = (refl, e)
connected_so false false o d e = absurd cc

pub connected : (e : Endpoint) (fd : ℕ) (d : ConnectionView) → open_descriptor e fd ≡ Some (Connected d)
    → ((fd == 4) ≡ true) × (e.connection ≡ Some d) × (is_open (stream_of d) ≡ true)
connected e fd d is =
    let p = connected_so (fd == 3 && is_listener_open e.listener) (fd == 4) e.connection d is in
    let o = opened e.connection d p.1 in
    (p.0, o.0, o.1)

-- so it is on a state
abbrev pub IsOpenOn : SenderState → Descriptor → Type 0
IsOpenOn s Listening = Unit {0}
IsOpenOn s (Connected c) = (s.endpoint.connection ≡ Some c) × (is_open (stream_of c) ≡ true)

pub open_on : (s : SenderState) (fd : ℕ) (d : Descriptor) → open_descriptor s.endpoint fd ≡ Some d → IsOpenOn s d
open_on s fd Listening is = tt
open_on s fd (Connected c) is = let found = connected s.endpoint fd c is in (found.1, found.2)

module _ (now : ℕ) (O : List Sent → Type 0) (C D : Settings → ConnectionView → Type 0) (Q : ConnectionView → Type 0)
    (more : (b : Settings) (c : ConnectionView) → D b c → TakesOne now O) (rules : (b : Settings) → KeptByCalls now b Q (C b) (D b)) where
  abbrev All : SenderState → Type 0
  All s = Holds O C s

  -- the same connection under another listener, and the other way round
  listens : (l : ListenState) (s : SenderState) → All s → All (with_listener l s)
  listens l s h = record { packets = h.packets; connection = h.connection }

  stored : (o : Option ConnectionView) (s : SenderState) → All s → IfSome o (C s.settings) → All (with_stored o s)
  stored o s h d = record { packets = h.packets; connection = d }

  socket_leaves : (s : SenderState) (l : ListenState) → All s → Leaves All (socket_reply s l)
  socket_leaves s Absent h = listens Open s h
  socket_leaves s _ h = tt

  bind_leaves : (s : SenderState) (l : ListenState) (d : Descriptor) → All s → Leaves All (bind_reply s l d)
  bind_leaves s Open Listening h = listens Bound s h
  bind_leaves s _ _ h = h

  listen_leaves : (s : SenderState) (l : ListenState) (d : Descriptor) → All s → Leaves All (listen_reply s l d)
  listen_leaves s Bound Listening h = listens Listens s h
  listen_leaves s Listens Listening h = h
  listen_leaves s _ _ h = h

  handed_leaves : (s : SenderState) (o : Option ConnectionView) → All s → IfSome o (C s.settings) → Leaves All (handed_out s o)
  handed_leaves s None h d = h
  handed_leaves s (Some c) h d =
      by_test (Leaves All) (is_some c.established && is_unaccepted (stream_of c)) _ _
      (λ e. stored (Some (with_stream stream_state.Open c)) s h ((rules s.settings).accepted c d e)) (λ _. h)

  accept_leaves : (s : SenderState) (l : ListenState) (d : Descriptor) → All s → Leaves All (accept_reply s l d)
  accept_leaves s Listens Listening h = handed_leaves s s.endpoint.connection h h.connection
  accept_leaves s _ _ h = h

  -- Nagle's algorithm
  no_delay_leaves : (s : SenderState) (set : Bool) (d : Descriptor) → All s → IsOpenOn s d → Leaves All (no_delay_reply s set d)
  no_delay_leaves s set Listening h unclosed = h
  no_delay_leaves s set (Connected c) h unclosed =
      stored (Some (with_nagle (not set) c)) s h ((rules s.settings).nagle (not set) c (subst (λ o. IfSome o (C s.settings)) unclosed.0 h.connection))

  -- octets are queued, and sent
  went_on : (s : SenderState) → (o : Option ConnectionView) → IfSome o (D s.settings) → IfSome o (C s.settings)
  went_on s None d = tt
  went_on s (Some c) d = (rules s.settings).sent c d

  sent_all : (s : SenderState) → Holds O D s → All s
  sent_all s h = record { packets = h.packets; connection = went_on s s.endpoint.connection h.connection }

  outside_recovery : (c : ConnectionView) (s : SenderState) → Holds O D s → Comes All (ordinary_outside_recovery now c s)
  outside_recovery c s h =
      by_test (Comes All) (is_recovering c.established) (Ok s) (ordinary now s) (λ _. sent_all s h)
      (λ _. comes_more (Holds O D) All sent_all (ordinary now s) (ordinary_where now O D more (λ b. (rules b).sending) s h))

  queued_leaves : (n : ℕ) (c : ConnectionView) (s : SenderState) → Q c → All s → C s.settings c → is_open (stream_of c) ≡ true → c.is_reset ≡ false
      → Leaves All (queued now n (free_of s.settings.sndbuf c) c s)
  queued_leaves n c s q h d unclosed still =
      by_test (Leaves All) (free_of s.settings.sndbuf c == 0) _ _ (λ _. h)
      (λ _. answered_leaves All (Number (min n (free_of s.settings.sndbuf c))) _
      (outside_recovery c (with_stored (Some (with_queued (min n (free_of s.settings.sndbuf c)) c)) s)
      (record { packets = h.packets; connection = (rules s.settings).queued n c q d unclosed still })))

  written_leaves : (n : ℕ) (c : ConnectionView) (s : SenderState) → Q c → All s → C s.settings c → is_open (stream_of c) ≡ true
      → Leaves All (written_on now n c s)
  written_leaves n c s q h d unclosed =
      by_test (Leaves All) c.is_reset _ _ (λ _. h)
      (λ still. by_test (Leaves All) (n == 0) _ _ (λ _. h)
      (λ _. queued_leaves n c (record s { consulted_settings = write_settings s.consulted_settings }) q (record { packets = h.packets; connection = h.connection }) d unclosed still))

  closed_leaves : (c : ConnectionView) (s : SenderState) → Q c → All s → C s.settings c → is_open (stream_of c) ≡ true
      → Leaves All (closed_on now c s)
  closed_leaves c s q h d unclosed =
      let closed : SenderState = with_stored (Some (closed_stream c)) s in
      answered_leaves All (Number 0) (if c.is_reset then Ok closed else ordinary_outside_recovery now c closed)
      (by_test (Comes All) c.is_reset (Ok closed) (ordinary_outside_recovery now c closed)
      (λ was. stored (Some (closed_stream c)) s h ((rules s.settings).abandoned c d unclosed was))
      (λ still. outside_recovery c closed (record { packets = h.packets; connection = (rules s.settings).finished c q d unclosed still })))

  -- the condition is looked at where descriptor 4 is open
  abbrev MayCall : SenderState → Type 0
  MayCall s = IfSome s.endpoint.connection Q

  write_leaves : (s : SenderState) (n : ℕ) (d : Descriptor) → MayCall s → All s → IsOpenOn s d → Leaves All (write_reply now s n d)
  write_leaves s n Listening q h unclosed = h
  write_leaves s n (Connected c) q h unclosed =
      written_leaves n c s (subst (λ o. IfSome o Q) unclosed.0 q) h (subst (λ o. IfSome o (C s.settings)) unclosed.0 h.connection) unclosed.1

  close_leaves : (s : SenderState) (d : Descriptor) → MayCall s → All s → IsOpenOn s d → Leaves All (close_reply now s d)
  close_leaves s Listening q h unclosed =
      by_test (Leaves All) (has_begun_unaccepted_connection s.endpoint.connection) (Err Unsupported) _ (λ _. tt) (λ _. listens Closed s h)
  close_leaves s (Connected c) q h unclosed =
      closed_leaves c s (subst (λ o. IfSome o Q) unclosed.0 q) h (subst (λ o. IfSome o (C s.settings)) unclosed.0 h.connection) unclosed.1

  operated_leaves : (s : SenderState) (d : Descriptor) (o : SocketOperation) → MayCall s → All s → IsOpenOn s d → Leaves All (operated now s d o)
  operated_leaves s d Bind q h unclosed = bind_leaves s s.endpoint.listener d h
  operated_leaves s d Listen q h unclosed = listen_leaves s s.endpoint.listener d h
  operated_leaves s d Accept q h unclosed = accept_leaves s s.endpoint.listener d h
  operated_leaves s d ReuseAddress q h unclosed = h
  operated_leaves s d (NoDelay set) q h unclosed = no_delay_leaves s set d h unclosed
  operated_leaves s d SetFlags q h unclosed = h
  operated_leaves s d (Write n) q h unclosed = write_leaves s n d q h unclosed
  operated_leaves s d Close q h unclosed = close_leaves s d q h unclosed

  open_leaves : (s : SenderState) (fd : ℕ) (o : SocketOperation) (d : Option Descriptor) → MayCall s → All s → open_descriptor s.endpoint fd ≡ d
      → Leaves All (on_open now s o d)
  open_leaves s fd o None q h is = h
  open_leaves s fd o (Some d) q h is = operated_leaves s d o q h (open_on s fd d is)

  reply_leaves : (s : SenderState) (r : Syscall) → MayCall s → All s → Leaves All (reply_to now s r)
  reply_leaves s Socket q h = socket_leaves s s.endpoint.listener h
  reply_leaves s (On fd o) q h = open_leaves s fd o (open_descriptor s.endpoint fd) q h refl

  requested_leaves : (s : SenderState) (r : Option Syscall) → MayCall s → All s → Leaves All (requested now s r)
  requested_leaves s None q h = tt
  requested_leaves s (Some r) q h = reply_leaves s r q h

  pub called_where : (call : Call) (s t : SenderState) (answer : Answer) → MayCall s → All s → called call now s ≡ Ok (t, answer) → All t
  called_where call s t answer q h is =
      came (λ (r : SenderState × Answer). All r.0) (called call now s) (t, answer) (requested_leaves s (syscall_of call) q h) is

-- the same where any packet may be put out
pub called_holds : (now : ℕ) (O : List Sent → Type 0) (C D : Settings → ConnectionView → Type 0) (Q : ConnectionView → Type 0) → TakesOne now O
    → ((b : Settings) → KeptByCalls now b Q (C b) (D b))
    → (call : Call) (s t : SenderState) (answer : Answer) → IfSome s.endpoint.connection Q → Holds O C s → called call now s ≡ Ok (t, answer) → Holds O C t
called_holds now O C D Q more = called_where now O C D Q (λ b c d. more)
