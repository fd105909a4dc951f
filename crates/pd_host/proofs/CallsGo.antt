-- A relation of states that each segment sent keeps holds of all that a call sends.
use Rattle.std.proofs.Common.{◌≡◌, ℕ, ◌==◌, min, Bool, true, false, not, ◌&&◌, if◌then◌else◌, Option, None, Some, is_some, option_map, Result, Ok, Err, refl, sym, ap, ◌∙◌}
use Rattle.pd_script.specs.declared.calls.Call.{Call}
use Rattle.pd_seg.specs.declared.call_results.Answer.{Answer}
use Rattle.pd_seg.specs.declared.call_results.Answer.TheVariants.{Number, Error}
use Rattle.pd_seg.specs.declared.call_results.Errno.TheVariants.{Eagain, Epipe}
use Rattle.pd_host.specs.Calls.{Descriptor, Listening, Connected, Reply, answered, with_listener, with_stored, with_answer, socket_reply, bind_reply, listen_reply, accept_reply, handed_out, no_delay_reply, free_of, with_queued, write_settings, queued, written_on, write_reply, closed_stream, with_fin, closed_on, close_reply, operated, on_open, open_descriptor, reply_to, requested, called, has_begun_unaccepted_connection, is_unaccepted, stream_of, with_stream, with_nagle}
use Rattle.pd_host.specs.Connection.{ConnectionView}
use Rattle.pd_host.specs.Syscalls.{syscall_of}
use Rattle.pd_host.specs.Sending.{ordinary, ordinary_outside_recovery, is_recovering}
use Rattle.pd_host.specs.SendingLaws.{top_in, peer_window_edge, rtt_segment_in}
use Rattle.pd_host.specs.declared.established.Established.{Established}
use Rattle.pd_host.specs.declared.halts.Halt.{Halt}
use Rattle.pd_host.specs.declared.halts.Halt.TheVariants.{Unsupported}
use Rattle.pd_host.specs.declared.descriptors.ListenState.{ListenState}
use Rattle.pd_host.specs.declared.descriptors.ListenState.TheVariants.{Absent, Open, Bound, Listens, Closed}
use Rattle.pd_host.specs.declared.syscall.SocketOperation.{SocketOperation}
use Rattle.pd_host.specs.declared.syscall.SocketOperation.TheVariants.{Bind, Listen, Accept, ReuseAddress, NoDelay, SetFlags, Write, Close}
use Rattle.pd_host.specs.declared.syscall.Syscall.{Syscall}
use Rattle.pd_host.specs.declared.syscall.Syscall.TheVariants.{Socket, On}
use Rattle.pd_host.specs.declared.endpoint.SenderState.{SenderState}
use Rattle.pd_host.specs.declared.descriptors.StreamState.{StreamState}
use Rattle.pd_host.specs.declared.descriptors.StreamState.TheVariants as stream_state
use Rattle.pd_host.proofs.CallsAfter.{Replies, either_reply, reply_leaves}
use Rattle.pd_host.proofs.CallsKept.{IsOpenOn, open_on}
use Rattle.pd_host.proofs.Goes.{window_end, Goes, ordinary_goes}
use Rattle.pd_host.proofs.Outcomes.{Leaves, came, leaves_too, either}

-- nothing was put out, nothing else is timed, and the numbers of what was sent and what the peer takes are the same
pub record IsQuiet (s t : SenderState) : Type 0 where
  pub outbox : t.endpoint.outbox ≡ s.endpoint.outbox
  pub rtt_segment : rtt_segment_in t.endpoint.connection ≡ rtt_segment_in s.endpoint.connection
  pub sent : top_in t.endpoint.connection ≡ top_in s.endpoint.connection
  pub taken : peer_window_edge t.endpoint.connection ≡ peer_window_edge s.endpoint.connection

-- so of connections
record IsAlike (x y : Option ConnectionView) : Type 0 where
  pub rtt_segment : rtt_segment_in x ≡ rtt_segment_in y
  pub sent : top_in x ≡ top_in y
  pub taken : peer_window_edge x ≡ peer_window_edge y

quiet : (s t : SenderState) → t.endpoint.outbox ≡ s.endpoint.outbox → t.endpoint.connection ≡ s.endpoint.connection → IsQuiet s t
quiet s t out same = record { outbox = out; rtt_segment = ap rtt_segment_in same; sent = ap top_in same; taken = ap peer_window_edge same }

stored_in : (s u : SenderState) (x y : Option ConnectionView) → u.endpoint.outbox ≡ s.endpoint.outbox → s.endpoint.connection ≡ y → IsAlike x y
    → IsQuiet s (with_stored x u)
stored_in s u x y out e h = record {
  outbox = out;
  rtt_segment = h.rtt_segment ∙ sym (ap rtt_segment_in e);
  sent = h.sent ∙ sym (ap top_in e);
  taken = h.taken ∙ sym (ap peer_window_edge e);
}

stored : (s : SenderState) (x y : Option ConnectionView) → s.endpoint.connection ≡ y → IsAlike x y → IsQuiet s (with_stored x s)
stored s x y e h = stored_in s s x y refl e h

-- what calls change of a connection

stream_window : (d : StreamState) (c : ConnectionView) (o : Option Established) → window_end c (option_map {T = Established} (λ e. record e { stream_state = d }) o) ≡ window_end c o
stream_window d c None = refl
stream_window d c (Some e) = refl

streamed : (d : StreamState) (c : ConnectionView) → IsAlike (Some (with_stream d c)) (Some c)
streamed d c = record { rtt_segment = refl; sent = refl; taken = stream_window d c c.established }

nagle_window : (on : Bool) (c : ConnectionView) (o : Option Established) → window_end c (option_map {T = Established} (λ e. record e { nagle = on }) o) ≡ window_end c o
nagle_window on c None = refl
nagle_window on c (Some e) = refl

nagled : (on : Bool) (c : ConnectionView) → IsAlike (Some (with_nagle on c)) (Some c)
nagled on c = record { rtt_segment = refl; sent = refl; taken = nagle_window on c c.established }

bounded : (c : ConnectionView) (n : ℕ) → IsAlike (Some (with_queued n c)) (Some c)
bounded c n = record { rtt_segment = refl; sent = refl; taken = queued_window c.established }
  where
    queued_window : (o : Option Established) → window_end (with_queued n c) o ≡ window_end c o
    queued_window None = refl
    queued_window (Some e) = refl

finished : (c : ConnectionView) → IsAlike (Some (with_fin c)) (Some c)
finished c = record { rtt_segment = refl; sent = refl; taken = fin_window c.established }
  where
    fin_window : (o : Option Established) → window_end (with_fin c) o ≡ window_end c o
    fin_window None = refl
    fin_window (Some e) = refl

after_both : (x y z : Option ConnectionView) → IsAlike x y → IsAlike y z → IsAlike x z
after_both x y z h k = record { rtt_segment = h.rtt_segment ∙ k.rtt_segment; sent = h.sent ∙ k.sent; taken = h.taken ∙ k.taken }

closed_so : (b : Bool) (c : ConnectionView) → IsAlike (Some (with_stream stream_state.Closed (if b then c else with_fin c))) (Some c)
closed_so true c = streamed stream_state.Closed c
closed_so false c = after_both (Some (with_stream stream_state.Closed (with_fin c))) (Some (with_fin c)) (Some c) (streamed stream_state.Closed (with_fin c)) (finished c)

module _ (now : ℕ) (R : SenderState → SenderState → Type 0) (rules : Goes now R) where
  -- a call leaves a quiet state, and sends from there on
  abbrev pub Went : SenderState → SenderState → Type 0
  Went s t = (u : SenderState) × IsQuiet s u × R u t

  stayed : (s : SenderState) → Went s s
  stayed s = (s, quiet s s refl refl, rules.none s)

  changed : (s t : SenderState) → t.endpoint.outbox ≡ s.endpoint.outbox → t.endpoint.connection ≡ s.endpoint.connection → Went s t
  changed s t out same = (t, quiet s t out same, rules.none t)

  outside_goes : (c : ConnectionView) (s : SenderState) → Leaves (R s) (ordinary_outside_recovery now c s)
  outside_goes c s =
      either (R s) (is_recovering c.established) (Ok s) (ordinary now s) (rules.none s) (ordinary_goes now R rules s s (rules.none s))

  socket_goes : (s : SenderState) (l : ListenState) → Replies (Went s) (socket_reply s l)
  socket_goes s Absent = changed s (with_listener Open s) refl refl
  socket_goes s _ = tt

  bind_goes : (s : SenderState) (l : ListenState) (d : Descriptor) → Replies (Went s) (bind_reply s l d)
  bind_goes s Open Listening = changed s (with_listener Bound s) refl refl
  bind_goes s _ _ = stayed s

  listen_goes : (s : SenderState) (l : ListenState) (d : Descriptor) → Replies (Went s) (listen_reply s l d)
  listen_goes s Bound Listening = changed s (with_listener Listens s) refl refl
  listen_goes s Listens Listening = stayed s
  listen_goes s _ _ = stayed s

  handed_goes : (s : SenderState) (o : Option ConnectionView) → s.endpoint.connection ≡ o → Replies (Went s) (handed_out s o)
  handed_goes s None e = stayed s
  handed_goes s (Some c) e =
      let x : Option ConnectionView = Some (with_stream stream_state.Open c) in
      either_reply (Went s) (is_some c.established && is_unaccepted (stream_of c)) (answered (with_stored x s) (Number 4)) (answered s (Error Eagain))
      (with_stored x s, stored s x (Some c) e (streamed stream_state.Open c), rules.none (with_stored x s)) (stayed s)

  accept_goes : (s : SenderState) (l : ListenState) (d : Descriptor) → Replies (Went s) (accept_reply s l d)
  accept_goes s Listens Listening = handed_goes s s.endpoint.connection refl
  accept_goes s _ _ = stayed s

  no_delay_goes : (s : SenderState) (set : Bool) (d : Descriptor) → IsOpenOn s d → Replies (Went s) (no_delay_reply s set d)
  no_delay_goes s set Listening unclosed = stayed s
  no_delay_goes s set (Connected c) unclosed =
      let x : Option ConnectionView = Some (with_nagle (not set) c) in
      (with_stored x s, stored s x (Some c) unclosed.0 (nagled (not set) c), rules.none (with_stored x s))

  -- what a call queues is sent on
  sends_on : (c : ConnectionView) (s u : SenderState) (answer : Answer) → IsQuiet s u → Replies (Went s) (with_answer answer (ordinary_outside_recovery now c u))
  sends_on c s u answer h =
      reply_leaves (Went s) answer (ordinary_outside_recovery now c u)
      (leaves_too (R u) (Went s) (ordinary_outside_recovery now c u) (λ t r. (u, h, r)) (outside_goes c u))

  written_goes : (n : ℕ) (s : SenderState) (c : ConnectionView) → s.endpoint.connection ≡ Some c → Replies (Went s) (written_on now n c s)
  written_goes n s c e =
      let noted : SenderState = record s { consulted_settings = write_settings s.consulted_settings } in
      let free : ℕ = free_of s.settings.sndbuf c in
      let x : Option ConnectionView = Some (with_queued (min n free) c) in
      let sending : Reply = with_answer (Number (min n free)) (ordinary_outside_recovery now c (with_stored x noted)) in
      let rest : Reply = if n == 0 then answered s (Number 0) else queued now n free c noted in
      either_reply (Went s) c.is_reset (answered s (Error Epipe)) rest (stayed s)
      (either_reply (Went s) (n == 0) (answered s (Number 0)) (queued now n free c noted) (stayed s)
      (either_reply (Went s) (free == 0) (answered noted (Error Eagain)) sending (changed s noted refl refl)
      (sends_on c s (with_stored x noted) (Number (min n free)) (stored_in s noted x (Some c) refl e (bounded c (min n free))))))

  write_goes : (s : SenderState) (n : ℕ) (d : Descriptor) → IsOpenOn s d → Replies (Went s) (write_reply now s n d)
  write_goes s n Listening unclosed = stayed s
  write_goes s n (Connected c) unclosed = written_goes n s c unclosed.0

  closed_goes : (s : SenderState) (c : ConnectionView) → s.endpoint.connection ≡ Some c → Replies (Went s) (closed_on now c s)
  closed_goes s c e =
      let x : Option ConnectionView = Some (closed_stream c) in
      let u : SenderState = with_stored x s in
      let h : IsQuiet s u = stored s x (Some c) e (closed_so c.is_reset c) in
      let r : Result SenderState Halt = if c.is_reset then Ok u else ordinary_outside_recovery now c u in
      reply_leaves (Went s) (Number 0) r
      (either (Went s) c.is_reset (Ok u) (ordinary_outside_recovery now c u) (u, h, rules.none u)
      (leaves_too (R u) (Went s) (ordinary_outside_recovery now c u) (λ t k. (u, h, k)) (outside_goes c u)))

  close_goes : (s : SenderState) (d : Descriptor) → IsOpenOn s d → Replies (Went s) (close_reply now s d)
  close_goes s Listening unclosed =
      either_reply (Went s) (has_begun_unaccepted_connection s.endpoint.connection) (Err Unsupported) (answered (with_listener Closed s) (Number 0)) tt
      (changed s (with_listener Closed s) refl refl)
  close_goes s (Connected c) unclosed = closed_goes s c unclosed.0

  operated_goes : (s : SenderState) (d : Descriptor) (o : SocketOperation) → IsOpenOn s d → Replies (Went s) (operated now s d o)
  operated_goes s d Bind unclosed = bind_goes s s.endpoint.listener d
  operated_goes s d Listen unclosed = listen_goes s s.endpoint.listener d
  operated_goes s d Accept unclosed = accept_goes s s.endpoint.listener d
  operated_goes s d ReuseAddress unclosed = stayed s
  operated_goes s d (NoDelay set) unclosed = no_delay_goes s set d unclosed
  operated_goes s d SetFlags unclosed = stayed s
  operated_goes s d (Write n) unclosed = write_goes s n d unclosed
  operated_goes s d Close unclosed = close_goes s d unclosed

  open_goes : (s : SenderState) (fd : ℕ) (o : SocketOperation) (d : Option Descriptor) → open_descriptor s.endpoint fd ≡ d → Replies (Went s) (on_open now s o d)
  open_goes s fd o None e = stayed s
  open_goes s fd o (Some d) e = operated_goes s d o (open_on s fd d e)

  reply_goes : (s : SenderState) (r : Syscall) → Replies (Went s) (reply_to now s r)
  reply_goes s Socket = socket_goes s s.endpoint.listener
  reply_goes s (On fd o) = open_goes s fd o (open_descriptor s.endpoint fd) refl

  requested_goes : (s : SenderState) (r : Option Syscall) → Replies (Went s) (requested now s r)
  requested_goes s None = tt
  requested_goes s (Some r) = reply_goes s r

  pub called_goes : (call : Call) (s t : SenderState) (a : Answer) → called call now s ≡ Ok (t, a) → Went s t
  called_goes call s t a h =
      came (λ (x : SenderState × Answer). Went s x.0) (called call now s) (t, a) h (requested_goes s (syscall_of call))
