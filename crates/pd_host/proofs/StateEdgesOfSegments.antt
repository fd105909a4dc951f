-- A segment moves the state along one edge, or along two.
use Rattle.std.proofs.Common.{◌≡◌, ◌⊎◌, inl, inr, ℕ, ◌≤◌, ◌==◌, ◌&&◌, ◌||◌, nat_lt, nat_le, not, length, Bool, true, false, if◌then◌else◌, List, Option, None, Some, Ok, Err, refl, sym, ap, subst, ◌∙◌, arith}
use Rattle.std.specs.Prelude.{is_some}
use Rattle.std.proofs.lemmas.Bool.Decides.{nat_tests}
use Rattle.pd_settings.specs.declared.settings.Settings.{Settings}
use Rattle.pd_seg.specs.declared.segments.Segment.{Segment}
use Rattle.pd_seg.specs.declared.segments.Sent.{Sent}
use Rattle.pd_host.specs.AckEffects.{taking, ack_taken}
use Rattle.pd_host.specs.Arrivals.{is_in_window, is_awaited, has_in_window_fin_out_of_order, failed_check_of, check_outcome, goes_on, with_peer_fin, finished_by, passed_on, arrived_on, arrived}
use Rattle.pd_host.specs.Calls.{stream_in}
use Rattle.pd_host.specs.ConnStates.{state_after_handshake, state_of, state_on, conn_state, is_closed}
use Rattle.pd_host.specs.Connection.{ConnectionView, peer_fin_in, rcv_nxt}
use Rattle.pd_host.specs.StateDiagram.{MovesBySegment}
use Rattle.pd_host.specs.Handshake.{is_listening, length_of, is_supported_syn_while_listening, connection_begun, answered_syn, syn_settings, established_by, syn_acked}
use Rattle.pd_host.specs.Invariants.{IsReached, IsLawful}
use Rattle.pd_host.specs.Host.{beside, with_outbox}
use Rattle.pd_host.specs.Sending.{with_begun_connection}
use Rattle.pd_host.specs.declared.connection.states.ConnState.{ConnState}
use Rattle.pd_host.specs.declared.connection.states.ConnState.TheVariants.{Closed, Listen, SynReceived, Established as Stands, CloseWait}
use Rattle.pd_host.specs.declared.established.Established.{Established}
use Rattle.pd_host.specs.declared.halts.Halt.TheVariants.{Limit, Unsupported}
use Rattle.pd_host.specs.declared.descriptors.ListenState.{ListenState}
use Rattle.pd_host.specs.declared.established.PeerFin.{PeerFin}
use Rattle.pd_host.specs.declared.established.PeerFin.TheVariants.{Awaited, BeforeOurs, AfterOurs}
use Rattle.pd_host.specs.declared.connection.segment_check.SegmentCheck.{SegmentCheck}
use Rattle.pd_host.specs.declared.connection.segment_check.SegmentCheck.TheVariants.{NotRun, StrayRst, OutsideWindow, ExactRst, ChallengedRst, WithoutAck, FirstAck, RefusedAck, EarlyAck, OldAck}
use Rattle.pd_host.specs.declared.endpoint.SenderState.{SenderState}
use Rattle.pd_host.specs.declared.descriptors.StreamState.TheVariants as stream_state
use Rattle.pd_host.proofs.AckedBelow.{first_of_two}
use Rattle.pd_host.proofs.Boards.{sure}
use Rattle.pd_host.proofs.ExactRst.{at_rcv_nxt}
use Rattle.pd_host.proofs.Faces.{Face, peer_of, face, faces, since, named, state_named, state_at, sent_faces, face_with, is_all_acked, taking_face, noted, finished, finished_face}
use Rattle.pd_host.proofs.Finishes.{finished_where}
use Rattle.pd_host.proofs.Outcomes.{Leaves, came, leaves_too, then_leaves}
use Rattle.pd_host.proofs.Passed.{checks, open_live, passes, first_comes}
use Rattle.pd_host.proofs.Reached.{at_some}
use Rattle.pd_host.proofs.SentOn.{IsSentOn}
use Rattle.pd_host.proofs.Taken.{taken_sends, measured_keeps}

-- The checks show this of a segment that goes on to its FIN

goes : (bad inside rst here flag shaken sent above below : Bool) → goes_on (checks bad inside rst here flag shaken sent above below) ≡ true
    → (bad ≡ false) × (inside ≡ true)
goes true inside rst here flag shaken sent above below h = absurd cc
goes false false true here flag shaken sent above below h = absurd cc
goes false false false here flag shaken sent above below h = absurd cc
goes false true rst here flag shaken sent above below h = (refl, refl)

last_two : (a b c d : Bool) → (a || (b || (c || d))) ≡ false → (c ≡ false) × (d ≡ false)
last_two false false false false h = (refl, refl)
last_two false false false true h = absurd cc
last_two false false true d h = absurd cc
last_two false true c d h = absurd cc
last_two true b c d h = absurd cc

awaited_next : (fin inside awaited here : Bool) → (fin && (inside && not (awaited && here))) ≡ false → fin ≡ true → inside ≡ true → awaited ≡ true
awaited_next true true true here h f i = refl
awaited_next true true false here h f i = absurd cc
awaited_next true false awaited here h f i = absurd cc
awaited_next false inside awaited here h f i = absurd cc

is_the_first : (p : PeerFin) → is_awaited p ≡ true → p ≡ Awaited
is_the_first Awaited h = refl
is_the_first BeforeOurs h = absurd cc
is_the_first AfterOurs h = absurd cc

record Going (c : ConnectionView) (segment : Segment) : Type 0 where
  live : c.is_reset ≡ false
  first : segment.flags.fin ≡ true → peer_fin_in c.established ≡ Awaited

going : (c : ConnectionView) (segment : Segment) → goes_on (failed_check_of c segment) ≡ true → Going c segment
going c segment h =
    let k = goes (nat_lt 0 (length_of segment) || (segment.flags.syn || (has_in_window_fin_out_of_order c segment || is_closed (state_of c)))) (is_in_window c segment)
    segment.flags.rst (segment.start == rcv_nxt c) segment.flags.ack (is_some c.established)
    (nat_lt c.board.una segment.ack && nat_le segment.ack c.board.top) (nat_lt c.board.top segment.ack) (nat_lt segment.ack c.board.una) h in
    let l = last_two (nat_lt 0 (length_of segment)) segment.flags.syn (has_in_window_fin_out_of_order c segment) (is_closed (state_of c)) k.0 in
    record {
      live = open_live c l.1;
      first = λ fin.
          is_the_first (peer_fin_in c.established)
          (awaited_next segment.flags.fin (is_in_window c segment) (is_awaited (peer_fin_in c.established)) (segment.start == rcv_nxt c) l.0 fin k.1);
    }

-- How the names move

ack_moves : (segment : Segment) (p : Option PeerFin) (fin x y : Bool) → (x ≡ true → y ≡ true) → MovesBySegment segment (since p fin x) (since p fin y)
ack_moves segment None fin x y h = inl refl
ack_moves segment (Some Awaited) false x y h = inl refl
ack_moves segment (Some BeforeOurs) false x y h = inl refl
ack_moves segment (Some AfterOurs) false x y h = inl refl
ack_moves segment (Some Awaited) true false false h = inl refl
ack_moves segment (Some BeforeOurs) true false false h = inl refl
ack_moves segment (Some AfterOurs) true false false h = inl refl
ack_moves segment (Some Awaited) true false true h = inr (inl refl)
ack_moves segment (Some BeforeOurs) true false true h = inr (inl refl)
ack_moves segment (Some AfterOurs) true false true h = inr (inl refl)
ack_moves segment (Some Awaited) true true true h = inl refl
ack_moves segment (Some BeforeOurs) true true true h = inl refl
ack_moves segment (Some AfterOurs) true true true h = inl refl
ack_moves segment (Some p) true true false h = let no : false ≡ true = h refl in absurd cc

peer_first : (o : Option Established) → peer_fin_in o ≡ Awaited → (peer_of o ≡ None) ⊎ (peer_of o ≡ Some Awaited)
peer_first None h = inl refl
peer_first (Some e) h = inr (ap (λ (p : PeerFin). Some p) h)

fin_moves : (segment : Segment) (p : Option PeerFin) (fin x y : Bool) → (x ≡ true → y ≡ true) → segment.flags.fin ≡ true
    → (p ≡ None) ⊎ (p ≡ Some Awaited) → MovesBySegment segment (since p fin x) (since (noted fin p) fin y)
fin_moves segment None fin x y h has first = inl refl
fin_moves segment (Some Awaited) false x y h has first = inr (inl refl)
fin_moves segment (Some Awaited) true false false h has first = inr (inl refl)
fin_moves segment (Some Awaited) true false true h has first = inr (inr (inl (has, refl)))
fin_moves segment (Some Awaited) true true true h has first = inr (inl refl)
fin_moves segment (Some Awaited) true true false h has first = let no : false ≡ true = h refl in absurd cc
fin_moves segment (Some BeforeOurs) fin x y h has (inl first) = absurd cc
fin_moves segment (Some BeforeOurs) fin x y h has (inr first) = absurd cc
fin_moves segment (Some AfterOurs) fin x y h has (inl first) = absurd cc
fin_moves segment (Some AfterOurs) fin x y h has (inr first) = absurd cc

-- the same between names that are equal
between : (segment : Segment) (a b from to : ConnState) → from ≡ a → to ≡ b → MovesBySegment segment a b → MovesBySegment segment from to
between segment a b from to f t h =
    subst (λ (x : ConnState). MovesBySegment segment x to) (sym f) (subst (MovesBySegment segment a) (sym t) h)

live_named : (f : Face) → f.is_reset ≡ false → named f ≡ since f.peer f.fin f.acked
live_named f live = ap (λ (b : Bool). if b then Closed else since f.peer f.fin f.acked) live

module _ (segment : Segment) (now : ℕ) (c : ConnectionView) where
  -- where the segment leads from the connection
  abbrev Moves : SenderState → Type 0
  Moves t = MovesBySegment segment (state_of c) (conn_state t)

  abbrev HasFace : Face → SenderState → Type 0
  HasFace f t = faces t.endpoint.connection ≡ Some f

  some_faces : (o : Option ConnectionView) (d : ConnectionView) (f : Face) → faces o ≡ Some f → o ≡ Some d → face d ≡ f
  some_faces o d f h e = same (sym (ap faces e) ∙ h)
    where
      same : {x y : Face} → Some x ≡ Some y → x ≡ y
      same h = cc

  -- from the face that the ruling leaves on
  goes_from : (f : Face) (r : Option SegmentCheck) (s : SenderState) → Leaves (HasFace f) (check_outcome now segment c s r)
      → MovesBySegment segment (state_of c) (named f)
      → (segment.flags.fin ≡ true → MovesBySegment segment (state_of c) (named (finished f)))
      → Leaves Moves (passed_on now segment c s r)
  goes_from f r s has plain end_reason =
      then_leaves (HasFace f) Moves (finished_by now segment r) (check_outcome now segment c s r) has
      (λ u k. finished_where Moves now segment r u
      (subst (MovesBySegment segment (state_of c)) (sym (state_at u.endpoint.listener u.endpoint.connection f k)) plain)
      (λ d is fin. subst (MovesBySegment segment (state_of c))
      (sym (state_named (with_peer_fin d) ∙ ap named (finished_face d) ∙ ap (λ (x : Face). named (finished x)) (some_faces u.endpoint.connection d f k is)))
      (end_reason fin)))

  -- an ACK leaves the face but for what is acknowledged
  acks_from : (y : Bool) (r : Option SegmentCheck) (s : SenderState) → Going c segment → ((c.board.una == c.board.end) ≡ true → y ≡ true)
      → Leaves (HasFace (face_with y c)) (check_outcome now segment c s r) → Leaves Moves (passed_on now segment c s r)
  acks_from y r s g more has =
      let x : Bool = c.board.una == c.board.end in
      let from : state_of c ≡ since (peer_of c.established) c.fin x = state_named c ∙ live_named (face c) g.live in
      goes_from (face_with y c) r s has
      (between segment (since (peer_of c.established) c.fin x) (since (peer_of c.established) c.fin y) (state_of c) (named (face_with y c))
      from (live_named (face_with y c) g.live) (ack_moves segment (peer_of c.established) c.fin x y more))
      (λ fin. between segment (since (peer_of c.established) c.fin x) (since (noted c.fin (peer_of c.established)) c.fin y) (state_of c)
      (named (finished (face_with y c))) from (live_named (finished (face_with y c)) g.live)
      (fin_moves segment (peer_of c.established) c.fin x y more fin (peer_first c.established (g.first fin))))

  -- what is answered or dropped leaves it
  answers : (b : Bool) (packets : List Sent) (s : SenderState) → Moves s
      → Leaves Moves (beside s (with_outbox s.endpoint (if b then Ok packets else Err Limit)))
  answers true packets s h = h
  answers false packets s h = tt

  more_acked : (una ack top end : ℕ) → una ≤ ack → ack ≤ top → top ≤ end → (una == end) ≡ true → (ack == end) ≡ true
  more_acked una ack top end a b d e = grind (arith, nat_tests)

  all_acked : (o : Option Established) → c.board.una ≤ segment.ack → segment.ack ≤ c.board.top → c.board.top ≤ c.board.end
      → (c.board.una == c.board.end) ≡ true → is_all_acked segment.ack c o ≡ true
  all_acked None a b d e = e
  all_acked (Some x) a b d e = more_acked c.board.una segment.ack c.board.top c.board.end a b d e

  waiting : stream_state.Waiting ≡ stream_state.Closed → ⊥
  waiting e = cc

  first_face : (b : Settings) → face (established_by now b segment c) ≡ record { is_reset = c.is_reset; peer = Some Awaited; fin = c.fin; acked = 1 == c.board.end }
  first_face b =
      ap (λ (x : ConnectionView). record { is_reset = x.is_reset; peer = Some Awaited; fin = x.fin; acked = x.board.una == x.board.end })
      (measured_keeps now b.granularity_us 1 (syn_acked c) (syn_acked c).rtt_segment)

  module _ (b : Settings) (h : IsReached b now c) where
    shakes : (s : SenderState) → failed_check_of c segment ≡ Some FirstAck → Leaves Moves (passed_on now segment c s (Some FirstAck))
    shakes s is =
        let k = first_comes c segment is in
        let unfinished : c.fin ≡ false = sure c.fin (λ queued. waiting (sym (ap stream_in k.1) ∙ h.fin.0 queued)) in
        let f : Face = record { is_reset = c.is_reset; peer = Some Awaited; fin = c.fin; acked = 1 == c.board.end } in
        let from : state_of c ≡ SynReceived = ap (λ (x : Bool). if x then Closed else state_after_handshake c c.established) k.0 ∙ ap (state_after_handshake c) k.1 in
        goes_from f (Some FirstAck) s (ap (λ (x : Face). Some x) (first_face s.settings))
        (between segment SynReceived Stands (state_of c) (named f) from
        (live_named f k.0 ∙ ap (λ (x : Bool). since (Some Awaited) x (1 == c.board.end)) unfinished) (inr (inl refl)))
        (λ fin. between segment SynReceived CloseWait (state_of c) (named (finished f)) from
        (live_named (finished f) k.0 ∙ ap (λ (x : Bool). since (noted x (Some Awaited)) x (1 == c.board.end)) unfinished) (inr (inr (inl (fin, refl)))))

    by_ruling : (r : Option SegmentCheck) (s : SenderState) → s.endpoint.connection ≡ Some c → failed_check_of c segment ≡ r → Leaves Moves (passed_on now segment c s r)
    by_ruling (Some NotRun) s e is = tt
    by_ruling (Some StrayRst) s e is = inl (ap (state_on s.endpoint.listener) e)
    by_ruling (Some OutsideWindow) s e is =
        then_leaves Moves Moves (finished_by now segment (Some OutsideWindow)) _
        (answers (nat_lt (length s.endpoint.outbox) 1024) _ s (inl (ap (state_on s.endpoint.listener) e))) (λ u k. k)
    by_ruling (Some ExactRst) s e is =
        inr (inr (inr ((at_rcv_nxt _ _ segment.flags.rst (segment.start == rcv_nxt c) _ _ _ _ _ is).0, refl)))
    by_ruling (Some ChallengedRst) s e is =
        then_leaves Moves Moves (finished_by now segment (Some ChallengedRst)) _
        (answers (nat_lt (length s.endpoint.outbox) 1024) _ s (inl (ap (state_on s.endpoint.listener) e))) (λ u k. k)
    by_ruling (Some WithoutAck) s e is = inl (ap (state_on s.endpoint.listener) e)
    by_ruling (Some FirstAck) s e is = shakes s is
    by_ruling (Some RefusedAck) s e is =
        then_leaves Moves Moves (finished_by now segment (Some RefusedAck)) _
        (answers (nat_lt (length s.endpoint.outbox) 1024) _ s (inl (ap (state_on s.endpoint.listener) e))) (λ u k. k)
    by_ruling (Some EarlyAck) s e is =
        then_leaves Moves Moves (finished_by now segment (Some EarlyAck)) _
        (answers (nat_lt (length s.endpoint.outbox) 1024) _ s (inl (ap (state_on s.endpoint.listener) e))) (λ u k. k)
    by_ruling (Some OldAck) s e is =
        acks_from (c.board.una == c.board.end) (Some OldAck) s (going c segment (ap goes_on is)) (λ x. x) (ap faces e)
    by_ruling None s e is =
        let p = passes c segment is in
        let left : SenderState = with_begun_connection (taking now segment c c.established).0 s in
        acks_from (is_all_acked segment.ack c c.established) None s (going c segment (ap goes_on is))
        (all_acked c.established p.from p.to h.board.top_end)
        (leaves_too (IsSentOn now left) (HasFace (face_with (is_all_acked segment.ack c c.established) c)) (ack_taken now segment c s c.established)
        (λ t sent. sent_faces now left t sent ∙ ap (λ (x : Face). Some x) (taking_face now segment c c.established refl))
        (taken_sends now segment c s c.established))

-- The first segment

opening_listens : (l : ListenState) (segment : Segment) → is_supported_syn_while_listening l segment ≡ true → is_listening l ≡ true
opening_listens l segment h = first_of_two (is_listening l) _ h

listens_so : (l : ListenState) → is_listening l ≡ true → state_on l None ≡ Listen
listens_so l h = ap (λ (b : Bool). if b then Listen else Closed) h

begins : (b : Bool) (packets : List Sent) (segment : Segment) (now : ℕ) (s : SenderState) (a : ConnState) → a ≡ Listen
    → Leaves (λ t. MovesBySegment segment a (conn_state t))
    (beside (record s { consulted_settings = syn_settings s.consulted_settings }) (with_outbox (record s.endpoint { connection = Some (connection_begun now s.settings segment) }) (if b then Ok packets else Err Limit)))
begins true packets segment now s a e = subst (λ (x : ConnState). MovesBySegment segment x SynReceived) (sym e) (inr (inl refl))
begins false packets segment now s a e = tt

opens : (b : Bool) (segment : Segment) (now : ℕ) (s : SenderState) (a : ConnState) → (b ≡ true → a ≡ Listen)
    → Leaves (λ t. MovesBySegment segment a (conn_state t)) (if b then answered_syn now (connection_begun now s.settings segment) s else Err Unsupported)
opens true segment now s a e = begins (nat_lt (length s.endpoint.outbox) 1024) _ segment now s a (e refl)
opens false segment now s a e = tt

on_connection : (o : Option ConnectionView) (segment : Segment) (now : ℕ) (s : SenderState) → IsLawful now s → s.endpoint.connection ≡ o
    → Leaves (λ t. MovesBySegment segment (state_on s.endpoint.listener o) (conn_state t)) (arrived_on now segment s o)
on_connection None segment now s h e =
    opens (is_supported_syn_while_listening s.endpoint.listener segment) segment now s (state_on s.endpoint.listener None)
    (λ is. listens_so s.endpoint.listener (opening_listens s.endpoint.listener segment is))
on_connection (Some c) segment now s h e =
    by_ruling segment now c s.settings (at_some (IsReached s.settings now) s.endpoint.connection c e h.connection) (failed_check_of c segment) s e refl

pub segments_move : (segment : Segment) (now : ℕ) (s t : SenderState) → IsLawful now s → arrived segment now s ≡ Ok t
    → MovesBySegment segment (conn_state s) (conn_state t)
segments_move segment now s t h is =
    came (λ (u : SenderState). MovesBySegment segment (conn_state s) (conn_state u)) (arrived segment now s) t is
    (on_connection s.endpoint.connection segment now s h refl)
