-- A call moves the state along one edge at most, and an expiry leaves it.
use Rattle.std.proofs.Common.{◌≡◌, inl, inr, ℕ, ◌+◌, ◌≤◌, ◌==◌, ◌&&◌, min, not, Bool, true, false, if◌then◌else◌, Option, None, Some, is_some, option_map, Ok, Err, refl, sym, ap, subst, ◌∙◌, arith}
use Rattle.std.proofs.lemmas.Bool.Decides.{nat_tests}
use Rattle.pd_settings.specs.declared.settings.Settings.{Settings}
use Rattle.pd_script.specs.declared.calls.Call.{Call}
use Rattle.pd_seg.specs.declared.call_results.Answer.{Answer}
use Rattle.pd_seg.specs.declared.call_results.Answer.TheVariants.{Number, Error}
use Rattle.pd_seg.specs.declared.call_results.Errno.TheVariants.{Eagain, Epipe}
use Rattle.pd_host.specs.Calls.{Descriptor, Listening, Connected, answered, with_listener, with_stored, socket_reply, bind_reply, listen_reply, accept_reply, handed_out, no_delay_reply, free_of, with_queued, write_settings, queued, written_on, write_reply, closed_stream, with_fin, closed_on, close_reply, operated, on_open, open_descriptor, requested, called, is_open, has_begun_unaccepted_connection, is_unaccepted, stream_in, stream_of, with_stream, with_nagle}
use Rattle.pd_host.specs.ConnStates.{state_from_fins_and_all_acked, state_after_handshake, state_of, state_on, conn_state}
use Rattle.pd_host.specs.Connection.{ConnectionView, peer_fin_in}
use Rattle.pd_host.specs.Expiries.{connection_expired, expired, advanced}
use Rattle.pd_host.specs.StateDiagram.{MovesByCall}
use Rattle.pd_host.specs.Invariants.{IsReached, IsLawful}
use Rattle.pd_host.specs.Syscalls.{syscall_of}
use Rattle.pd_host.specs.Sending.{ordinary_outside_recovery, places_left}
use Rattle.pd_host.specs.declared.connection.states.ConnState.{ConnState}
use Rattle.pd_host.specs.declared.connection.states.ConnState.TheVariants as state
use Rattle.pd_host.specs.declared.established.Established.{Established}
use Rattle.pd_host.specs.declared.halts.Halt.TheVariants.{Unsupported}
use Rattle.pd_host.specs.declared.descriptors.ListenState.{ListenState}
use Rattle.pd_host.specs.declared.descriptors.ListenState.TheVariants.{Absent, Open, Bound, Listens, Closed}
use Rattle.pd_host.specs.declared.established.PeerFin.{PeerFin}
use Rattle.pd_host.specs.declared.established.PeerFin.TheVariants.{Awaited, BeforeOurs, AfterOurs}
use Rattle.pd_host.specs.declared.syscall.SocketOperation.{SocketOperation}
use Rattle.pd_host.specs.declared.syscall.SocketOperation.TheVariants.{Bind, Listen, Accept, ReuseAddress, NoDelay, SetFlags, Write, Close}
use Rattle.pd_host.specs.declared.syscall.Syscall.{Syscall}
use Rattle.pd_host.specs.declared.syscall.Syscall.TheVariants.{Socket, On}
use Rattle.pd_host.specs.declared.endpoint.SenderState.{SenderState}
use Rattle.pd_host.specs.declared.descriptors.StreamState.{StreamState}
use Rattle.pd_host.specs.declared.descriptors.StreamState.TheVariants as stream_state
use Rattle.pd_host.proofs.Advances.{expiry_finds, expiry_sends}
use Rattle.pd_host.proofs.Boards.{sure}
use Rattle.pd_host.proofs.CallsAfter.{Replies, reply_leaves, either_reply, queued_sends, outside_sends}
use Rattle.pd_host.proofs.CallsKept.{IsOpenOn, open_on}
use Rattle.pd_host.proofs.Faces.{peer_of, face, faces, since, state_named, same_state, sent_faces}
use Rattle.pd_host.proofs.Kept.{by_test}
use Rattle.pd_host.proofs.Outcomes.{came, leaves_too, either, kept}
use Rattle.pd_host.proofs.Reached.{at_some}
use Rattle.pd_host.proofs.SentOn.{IsSentOn}

-- Expiries

expired_state : (at : ℕ) (c : ConnectionView) (o : Option Established) → c.established ≡ o → state_of (connection_expired at c o) ≡ state_of c
expired_state at c None e = refl
expired_state at c (Some x) e = ap (λ (y : Option Established). if c.is_reset then state.Closed else state_after_handshake c y) (sym e)

one_expired : (at : ℕ) (s : SenderState) (o : Option ConnectionView) → s.endpoint.connection ≡ o → conn_state (expired at o s) ≡ conn_state s
one_expired at s None e = refl
one_expired at s (Some c) e = expired_state at c c.established refl ∙ sym (ap (state_on s.endpoint.listener) e)

pub expiries_stay : (until : ℕ) (s t : SenderState) → advanced until s ≡ Ok t → conn_state t ≡ conn_state s
expiries_stay until s t h =
    came (λ (u : SenderState). conn_state u ≡ conn_state s) (advanced until s) t h
    (kept (λ (u : SenderState). conn_state u ≡ conn_state s) (expiry_finds until) expiry_sends
    (λ at u e same. one_expired at u u.endpoint.connection refl ∙ same) (places_left s) s refl)

-- Sending leaves the state

on_faces : (l m : ListenState) (x y : Option ConnectionView) → m ≡ l → faces y ≡ faces x → state_on m y ≡ state_on l x
on_faces l m None None e h = ap (λ (n : ListenState). state_on n None) e
on_faces l m None (Some d) e h = absurd cc
on_faces l m (Some c) None e h = absurd cc
on_faces l m (Some c) (Some d) e h = same_state c d (same h)
  where
    same : Some (face d) ≡ Some (face c) → face d ≡ face c
    same h = cc

sent_state : (now : ℕ) (s t : SenderState) → IsSentOn now s t → conn_state t ≡ conn_state s
sent_state now s t h =
    on_faces s.endpoint.listener t.endpoint.listener s.endpoint.connection t.endpoint.connection h.listener (sent_faces now s t h)

-- Calls

-- the state that they leave, from where they began
abbrev Moves : ConnState → SenderState → Type 0
Moves a t = MovesByCall a (conn_state t)

-- another listener
relisten : (l m : ListenState) (o : Option ConnectionView) → MovesByCall (state_on l None) (state_on m None) → MovesByCall (state_on l o) (state_on m o)
relisten l m None h = h
relisten l m (Some c) h = inl refl

relistened : (l m : ListenState) (s : SenderState) → s.endpoint.listener ≡ l → MovesByCall (state_on l None) (state_on m None)
    → Moves (conn_state s) (with_listener m s)
relistened l m s e h =
    subst (λ (x : ListenState). MovesByCall (state_on x s.endpoint.connection) (state_on m s.endpoint.connection)) (sym e)
    (relisten l m s.endpoint.connection h)

socket_moves : (s : SenderState) (l : ListenState) → s.endpoint.listener ≡ l → Replies (Moves (conn_state s)) (socket_reply s l)
socket_moves s Absent e = relistened Absent Open s e (inl refl)
socket_moves s _ e = tt

bind_moves : (s : SenderState) (l : ListenState) (d : Descriptor) → s.endpoint.listener ≡ l → Replies (Moves (conn_state s)) (bind_reply s l d)
bind_moves s Open Listening e = relistened Open Bound s e (inl refl)
bind_moves s _ _ e = inl refl

listen_moves : (s : SenderState) (l : ListenState) (d : Descriptor) → s.endpoint.listener ≡ l → Replies (Moves (conn_state s)) (listen_reply s l d)
listen_moves s Bound Listening e = relistened Bound Listens s e (inr refl)
listen_moves s Listens Listening e = inl refl
listen_moves s _ _ e = inl refl

-- the same state on another connection
restored : (s : SenderState) (c d : ConnectionView) → s.endpoint.connection ≡ Some c → state_of d ≡ state_of c → conn_state (with_stored (Some d) s) ≡ conn_state s
restored s c d e h = h ∙ sym (ap (state_on s.endpoint.listener) e)

streamed : (d : StreamState) (c : ConnectionView) → state_of (with_stream d c) ≡ state_of c
streamed d c = same_state c (with_stream d c) (ap (λ (p : Option PeerFin). record { is_reset = c.is_reset; peer = p; fin = c.fin; acked = c.board.una == c.board.end }) (same c.established))
  where
    same : (o : Option Established) → peer_of (option_map {T = Established} (λ e. record e { stream_state = d }) o) ≡ peer_of o
    same None = refl
    same (Some e) = refl

switched : (on : Bool) (c : ConnectionView) → state_of (with_nagle on c) ≡ state_of c
switched on c = same_state c (with_nagle on c) (ap (λ (p : Option PeerFin). record { is_reset = c.is_reset; peer = p; fin = c.fin; acked = c.board.una == c.board.end }) (same c.established))
  where
    same : (o : Option Established) → peer_of (option_map {T = Established} (λ e. record e { nagle = on }) o) ≡ peer_of o
    same None = refl
    same (Some e) = refl

handed_moves : (s : SenderState) (o : Option ConnectionView) → s.endpoint.connection ≡ o → Replies (Moves (conn_state s)) (handed_out s o)
handed_moves s None e = inl refl
handed_moves s (Some c) e =
    either_reply (Moves (conn_state s)) (is_some c.established && is_unaccepted (stream_of c))
    (answered (with_stored (Some (with_stream stream_state.Open c)) s) (Number 4)) (answered s (Error Eagain))
    (inl (restored s c (with_stream stream_state.Open c) e (streamed stream_state.Open c))) (inl refl)

accept_moves : (s : SenderState) (l : ListenState) (d : Descriptor) → Replies (Moves (conn_state s)) (accept_reply s l d)
accept_moves s Listens Listening = handed_moves s s.endpoint.connection refl
accept_moves s _ _ = inl refl

no_delay_moves : (s : SenderState) (set : Bool) (d : Descriptor) → IsOpenOn s d → Replies (Moves (conn_state s)) (no_delay_reply s set d)
no_delay_moves s set Listening unclosed = inl refl
no_delay_moves s set (Connected c) unclosed = inl (restored s c (with_nagle (not set) c) unclosed.0 (switched (not set) c))

-- an open descriptor 4 shows this

not_open : (d : StreamState) → is_open d ≡ true → d ≡ stream_state.Closed → ⊥
not_open d e f = let w : is_open stream_state.Closed ≡ true = subst (λ x. is_open x ≡ true) f e in absurd cc

unfinished : (b : Settings) (now : ℕ) (c : ConnectionView) → IsReached b now c → is_open (stream_of c) ≡ true → c.fin ≡ false
unfinished b now c h unclosed = sure c.fin (λ queued. not_open (stream_of c) unclosed (h.fin.0 queued))

since_unfinished : (p : Option PeerFin) (x y : Bool) → since p false x ≡ since p false y
since_unfinished None x y = refl
since_unfinished (Some Awaited) x y = refl
since_unfinished (Some BeforeOurs) x y = refl
since_unfinished (Some AfterOurs) x y = refl

-- octets more queued leave the state, while our FIN isn't
queued_state : (n : ℕ) (c : ConnectionView) → c.fin ≡ false → state_of (with_queued n c) ≡ state_of c
queued_state n c h =
    let x : Bool = c.board.una == c.board.end + n in
    let y : Bool = c.board.una == c.board.end in
    state_named (with_queued n c)
    ∙ ap (λ (z : ConnState). if c.is_reset then state.Closed else z)
    (ap (λ (f : Bool). since (peer_of c.established) f x) h ∙ since_unfinished (peer_of c.established) x y ∙ sym (ap (λ (f : Bool). since (peer_of c.established) f y) h))
    ∙ sym (state_named c)

write_moves : (now : ℕ) (s : SenderState) (n : ℕ) (c : ConnectionView) → s.endpoint.connection ≡ Some c → c.fin ≡ false
    → Replies (Moves (conn_state s)) (written_on now n c s)
write_moves now s n c e h =
    let after : SenderState = record s { consulted_settings = write_settings s.consulted_settings } in
    either_reply (Moves (conn_state s)) c.is_reset (answered s (Error Epipe)) _ (inl refl)
    (either_reply (Moves (conn_state s)) (n == 0) (answered s (Number 0)) (queued now n (free_of s.settings.sndbuf c) c after) (inl refl)
    (queued_sends now n (free_of s.settings.sndbuf c) c after (Moves (conn_state s)) (inl refl)
    (λ t sent. inl (sent_state now (with_stored (Some (with_queued (min n (free_of s.settings.sndbuf c)) c)) after) t sent
    ∙ restored s c (with_queued (min n (free_of s.settings.sndbuf c)) c) e (queued_state (min n (free_of s.settings.sndbuf c)) c h)))))

-- our FIN is queued

fin_waits : (p : PeerFin) (x : Bool) → (p ≡ AfterOurs → false ≡ true) → MovesByCall (state_from_fins_and_all_acked p false x) (state_from_fins_and_all_acked p true false)
fin_waits Awaited x h = inr refl
fin_waits BeforeOurs x h = inr refl
fin_waits AfterOurs x h = let no : false ≡ true = h refl in absurd cc

beyond : (una end : ℕ) → una ≤ end → (una == end + 1) ≡ false
beyond una end h = grind (arith, nat_tests)

closing_moves : (b : Settings) (now : ℕ) (c : ConnectionView) (e : Established) → IsReached b now c → c.established ≡ Some e → is_open (stream_of c) ≡ true
    → c.is_reset ≡ false → MovesByCall (state_of c) (state_of (with_stream stream_state.Closed (with_fin c)))
closing_moves b now c e h is unclosed live =
    let x : Bool = c.board.una == c.board.end in
    let none : c.fin ≡ false = unfinished b now c h unclosed in
    let order : e.peer_fin ≡ AfterOurs → false ≡ true = λ q. sym none ∙ h.fin.1 (ap peer_fin_in is ∙ q) in
    let from : state_of c ≡ state_from_fins_and_all_acked e.peer_fin false x =
    ap (λ (r : Bool). if r then state.Closed else state_after_handshake c c.established) live ∙ ap (state_after_handshake c) is
    ∙ ap (λ (f : Bool). state_from_fins_and_all_acked e.peer_fin f x) none in
    let low : c.board.una ≤ c.board.end = omega (arith, h.board.una_next, h.board.next_top, h.board.top_end) in
    let to : state_of (with_stream stream_state.Closed (with_fin c)) ≡ state_from_fins_and_all_acked e.peer_fin true false =
    streamed stream_state.Closed (with_fin c)
    ∙ ap (λ (r : Bool). if r then state.Closed else state_after_handshake (with_fin c) c.established) live
    ∙ ap (state_after_handshake (with_fin c)) is
    ∙ ap (λ (y : Bool). state_from_fins_and_all_acked e.peer_fin true y) (beyond c.board.una c.board.end low) in
    subst (λ (a : ConnState). MovesByCall a (state_of (with_stream stream_state.Closed (with_fin c)))) (sym from)
    (subst (MovesByCall (state_from_fins_and_all_acked e.peer_fin false x)) (sym to) (fin_waits e.peer_fin x order))

opened_some : (o : Option Established) → is_open (stream_in o) ≡ true → (e : Established) × (o ≡ Some e)
opened_some None e = absurd cc
opened_some (Some est) e = (est, refl)

closed_moves : (b : Settings) (now : ℕ) (c : ConnectionView) → IsReached b now c → is_open (stream_of c) ≡ true → MovesByCall (state_of c) (state_of (closed_stream c))
closed_moves b now c h unclosed =
    let k = opened_some c.established unclosed in
    by_test (λ (d : ConnectionView). MovesByCall (state_of c) (state_of (with_stream stream_state.Closed d))) c.is_reset c (with_fin c)
    (λ _. inl (streamed stream_state.Closed c)) (λ live. closing_moves b now c k.0 h k.1 unclosed live)

close_moves : (now : ℕ) (s : SenderState) (c : ConnectionView) → s.endpoint.connection ≡ Some c → IsReached s.settings now c → is_open (stream_of c) ≡ true
    → Replies (Moves (conn_state s)) (closed_on now c s)
close_moves now s c e h unclosed =
    let closed : SenderState = with_stored (Some (closed_stream c)) s in
    let here : Moves (conn_state s) closed =
    subst (λ (o : Option ConnectionView). MovesByCall (state_on s.endpoint.listener o) (state_of (closed_stream c))) (sym e)
    (closed_moves s.settings now c h unclosed) in
    reply_leaves (Moves (conn_state s)) (Number 0) (if c.is_reset then Ok closed else ordinary_outside_recovery now c closed)
    (either (Moves (conn_state s)) c.is_reset (Ok closed) (ordinary_outside_recovery now c closed) here
    (leaves_too (IsSentOn now closed) (Moves (conn_state s)) (ordinary_outside_recovery now c closed)
    (λ t sent. subst (MovesByCall (conn_state s)) (sym (sent_state now closed t sent)) here) (outside_sends now c closed)))

-- the rows

module _ (now : ℕ) (s : SenderState) (h : IsLawful now s) where
  reached : (c : ConnectionView) → s.endpoint.connection ≡ Some c → IsReached s.settings now c
  reached c e = at_some (IsReached s.settings now) s.endpoint.connection c e h.connection

  write_row : (n : ℕ) (d : Descriptor) → IsOpenOn s d → Replies (Moves (conn_state s)) (write_reply now s n d)
  write_row n Listening unclosed = inl refl
  write_row n (Connected c) unclosed = write_moves now s n c unclosed.0 (unfinished s.settings now c (reached c unclosed.0) unclosed.1)

  -- a listener that closes
  unlistens : (l : ListenState) → MovesByCall (state_on l None) (state_on Closed None)
  unlistens Absent = inl refl
  unlistens Open = inl refl
  unlistens Bound = inl refl
  unlistens Listens = inr refl
  unlistens Closed = inl refl

  close_row : (d : Descriptor) → IsOpenOn s d → Replies (Moves (conn_state s)) (close_reply now s d)
  close_row Listening unclosed =
      either_reply (Moves (conn_state s)) (has_begun_unaccepted_connection s.endpoint.connection) (Err Unsupported) (answered (with_listener Closed s) (Number 0)) tt
      (relistened s.endpoint.listener Closed s refl (unlistens s.endpoint.listener))
  close_row (Connected c) unclosed = close_moves now s c unclosed.0 (reached c unclosed.0) unclosed.1

  operated_moves : (d : Descriptor) (o : SocketOperation) → IsOpenOn s d → Replies (Moves (conn_state s)) (operated now s d o)
  operated_moves d Bind unclosed = bind_moves s s.endpoint.listener d refl
  operated_moves d Listen unclosed = listen_moves s s.endpoint.listener d refl
  operated_moves d Accept unclosed = accept_moves s s.endpoint.listener d
  operated_moves d ReuseAddress unclosed = inl refl
  operated_moves d (NoDelay set) unclosed = no_delay_moves s set d unclosed
  operated_moves d SetFlags unclosed = inl refl
  operated_moves d (Write n) unclosed = write_row n d unclosed
  operated_moves d Close unclosed = close_row d unclosed

  open_moves : (fd : ℕ) (o : SocketOperation) (d : Option Descriptor) → open_descriptor s.endpoint fd ≡ d → Replies (Moves (conn_state s)) (on_open now s o d)
  open_moves fd o None e = inl refl
  open_moves fd o (Some d) e = operated_moves d o (open_on s fd d e)

  requested_moves : (r : Option Syscall) → Replies (Moves (conn_state s)) (requested now s r)
  requested_moves None = tt
  requested_moves (Some Socket) = socket_moves s s.endpoint.listener refl
  requested_moves (Some (On fd o)) = open_moves fd o (open_descriptor s.endpoint fd) refl

pub calls_move : (call : Call) (now : ℕ) (s t : SenderState) (answer : Answer) → IsLawful now s → called call now s ≡ Ok (t, answer)
    → MovesByCall (conn_state s) (conn_state t)
calls_move call now s t answer h is =
    came (λ (x : SenderState × Answer). Moves (conn_state s) x.0) (called call now s) (t, answer) is (requested_moves now s h (syscall_of call))
