-- How much an input queues.
use Rattle.std.proofs.Common.{◌≡◌, ℕ, ◌+◌, ◌≤◌, ◌==◌, ◌&&◌, ◌||◌, min, nat_lt, Bool, true, false, if◌then◌else◌, Option, None, Some, is_some, List, [], ◌∷◌, Result, Ok, Err, refl, sym, ap, subst, ◌∙◌, arith}
use Rattle.std.specs.Prelude.{IfSome}
use Rattle.pd_settings.specs.declared.settings.Settings.{Settings}
use Rattle.pd_seg.specs.declared.call_results.Answer.{Answer}
use Rattle.pd_seg.specs.declared.call_results.Answer.TheVariants.{Number, Error}
use Rattle.pd_seg.specs.declared.call_results.Errno.TheVariants.{Eagain, Epipe}
use Rattle.pd_seg.specs.declared.sack_spans.Span.{Span}
use Rattle.pd_seg.specs.declared.segments.Segment.{Segment}
use Rattle.pd_board.specs.Board.{BoardView, with_sacked_block, has_new}
use Rattle.pd_recover.specs.declared.next_segment.NextSegment.{NextSegment}
use Rattle.pd_recover.specs.declared.next_segment.NextSegment.TheVariants.{Lost, New, Hole, Rescue}
use Rattle.pd_host.specs.AckEffects.{is_block_sent, with_block_marked, with_blocks_marked, blocks_of, blocks_marked, with_number, with_blocks, newly_acked, with_timing, with_new_window, can_update_window, fill_noted_on, sent_as, entered_on, with_ack, taking}
use Rattle.pd_host.specs.Calls.{Descriptor, Listening, Connected, Reply, answered, with_listener, with_stored, with_stream, with_queued, with_fin, with_answer, socket_reply, bind_reply, listen_reply, accept_reply, handed_out, no_delay_reply, queued, free_of, write_settings, written_on, write_reply, closed_stream, closed_on, close_reply, operated, on_open, open_descriptor, requested, called, has_begun_unaccepted_connection, is_unaccepted, stream_of}
use Rattle.pd_host.specs.Connection.{ConnectionView}
use Rattle.pd_host.specs.Expiries.{advanced, deadline_of, due_by, expired, expired_on}
use Rattle.pd_host.specs.Growth.{asked_of, asked_by, ExpiriesQueueNothing, ArrivalsQueueOurSyn, CallsQueueWhatTheyAsk, CallsAskFew}
use Rattle.pd_host.specs.Handshake.{syn_acked, before_eol}
use Rattle.pd_host.specs.Syscalls.{syscall_of}
use Rattle.pd_host.specs.Host.{queued_to}
use Rattle.pd_host.specs.Sending.{places_left, ordinary, is_recovering, ordinary_outside_recovery}
use Rattle.pd_host.specs.RttSegment.{timing_started, measured, is_measured, with_sample, with_timer_updated}
use Rattle.pd_host.specs.declared.established.Established.{Established}
use Rattle.pd_host.specs.declared.connection.ack_effects.WindowFill.{WindowFill}
use Rattle.pd_host.specs.declared.halts.Halt.{Halt}
use Rattle.pd_host.specs.declared.halts.Halt.TheVariants.{Unsupported}
use Rattle.pd_host.specs.declared.descriptors.ListenState.{ListenState}
use Rattle.pd_host.specs.declared.descriptors.ListenState.TheVariants.{Absent, Open, Bound, Listens, Closed}
use Rattle.pd_host.specs.declared.syscall.SocketOperation.{SocketOperation}
use Rattle.pd_host.specs.declared.syscall.SocketOperation.TheVariants.{Bind, Listen, Accept, ReuseAddress, NoDelay, SetFlags, Write, Close}
use Rattle.pd_host.specs.declared.syscall.Syscall.{Syscall}
use Rattle.pd_host.specs.declared.syscall.Syscall.TheVariants.{Socket, On}
use Rattle.pd_host.specs.declared.endpoint.SenderState.{SenderState}
use Rattle.pd_host.specs.declared.descriptors.StreamState.TheVariants as stream_state
use Rattle.pd_host.specs.declared.connection.rtt_segment.RttSegment.{RttSegment}
use Rattle.pd_host.proofs.CallsKept.{IsOpenOn, open_on}
use Rattle.pd_host.proofs.ArrivalsKept.{arrived_holds}
use Rattle.pd_host.proofs.Kept.{Comes, by_test, came, repeated_holds}
use Rattle.pd_host.proofs.Rules.{Holds, KeptBySending, KeptByArrivals, first_run}
use Rattle.pd_host.proofs.SendingKept.{ordinary_holds}

-- The state that an ACK leaves

either : (b : Bool) (c d : ConnectionView) (n : ℕ) → c.board.end ≡ n → d.board.end ≡ n → (if b then c else d).board.end ≡ n
either true c d n hc hd = hc
either false c d n hc hd = hd

told_end : (blocks : List Span) (so_far : BoardView × Bool) → (with_blocks_marked blocks so_far).0.end ≡ so_far.0.end
told_end [] so_far = refl
told_end (block ∷ blocks) so_far = told_end blocks (with_block_marked block so_far) ∙ one (is_block_sent so_far.0 block)
  where
    one : (b : Bool) → (if b then (with_sacked_block block so_far.0, so_far.1 || has_new block so_far.0) else so_far).0.end ≡ so_far.0.end
    one true = refl
    one false = refl

scored_end : (segment : Segment) (c : ConnectionView) → (blocks_marked segment c).0.end ≡ c.board.end
scored_end segment c = by_sack c.sack
  where
    by_sack : (b : Bool) → (if b then with_blocks_marked (blocks_of (before_eol segment.options)) (c.board, false) else (c.board, false)).0.end ≡ c.board.end
    by_sack true = told_end (blocks_of (before_eol segment.options)) (c.board, false)
    by_sack false = refl

measured_end : (now granularity ack : ℕ) (c : ConnectionView) (o : Option RttSegment) → (measured now granularity ack c o).board.end ≡ c.board.end
measured_end now granularity ack c None = refl
measured_end now granularity ack c (Some t) = either (is_measured ack t) _ c c.board.end refl refl

timing_end : (now granularity n : ℕ) (c : ConnectionView) → (with_timing now granularity n c).board.end ≡ c.board.end
timing_end now granularity n c =
    either (nat_lt 0 n) (with_timer_updated now (with_sample now granularity c.board.una c)) c c.board.end
    (measured_end now granularity c.board.una c c.rtt_segment) refl

window_end : (segment : Segment) (e : Established) (c : ConnectionView) → (with_new_window segment e c).0.board.end ≡ c.board.end
window_end segment e c = by_test (λ (p : ConnectionView × Established). p.0.board.end ≡ c.board.end) (can_update_window e segment) _ (c, e) (λ _. refl) (λ _. refl)

with_ack_end : (now : ℕ) (segment : Segment) (e : Established) (c : ConnectionView) → (with_ack now segment e c).0.0.board.end ≡ c.board.end
with_ack_end now segment e c =
    let so_far : ConnectionView = with_blocks segment (with_number segment c) in
    window_end segment e (with_timing now e.granularity_us (newly_acked c segment) so_far)
    ∙ (timing_end now e.granularity_us (newly_acked c segment) so_far ∙ scored_end segment (with_number segment c))

taking_end : (now : ℕ) (segment : Segment) (c : ConnectionView) (o : Option Established) → (taking now segment c o).0.board.end ≡ c.board.end
taking_end now segment c None = refl
taking_end now segment c (Some e) = with_ack_end now segment e c

-- Sending leaves the end

sent_as_end : (now : ℕ) (sent : NextSegment) (c : ConnectionView) → (sent_as now sent c).board.end ≡ c.board.end
sent_as_end now (Lost segment) c = refl
sent_as_end now (New segment) c = refl
sent_as_end now (Hole segment) c = refl
sent_as_end now (Rescue segment) c = refl

noted_end : (filling : WindowFill) (sent : NextSegment) (c : ConnectionView) (o : Option Established) → (fill_noted_on filling sent c o).board.end ≡ c.board.end
noted_end filling sent c None = refl
noted_end filling sent c (Some e) = refl

entered_end : (segment : Span) (c : ConnectionView) (o : Option Established) → (entered_on segment c o).board.end ≡ c.board.end
entered_end segment c None = refl
entered_end segment c (Some e) = refl

-- Arrivals

-- a connection ends at or below a place
abbrev IsUpToPlace : ℕ → ConnectionView → Type 0
IsUpToPlace n c = c.board.end ≤ n

alike : (n from to : ℕ) → to ≡ from → from ≤ n → to ≤ n
alike n from to same h = subst (λ m. m ≤ n) (sym same) h

sending : (now n : ℕ) → KeptBySending now (IsUpToPlace n)
sending now n = record { ready = λ c h. h; sent = λ c segment h e. h }

arrivals : (now n : ℕ) (b : Settings) → KeptByArrivals now b (IsUpToPlace n) (IsUpToPlace n)
arrivals now n b = record {
  sending = sending now n;
  sent = λ c h. h;
  acks = record {
    filled = λ filling pipe c sent h e.
        alike n _ _ (noted_end filling sent (sent_as now sent c) c.established ∙ sent_as_end now sent c) h;
    entry = λ c h e. alike n _ _ (entered_end (first_run c) (timing_started now (first_run c) c) c.established) h;
    entry_alone = λ c h. alike n _ _ (entered_end (first_run c) c c.established) h;
    ack = λ segment c h passed. alike n _ _ (taking_end now segment c c.established) h;
    new_segment = λ segment c new h passed e. alike n _ _ (taking_end now segment c c.established) h;
    again = λ segment c first h passed e. alike n _ _ (taking_end now segment c c.established) h;
  };
  established = λ segment c h e. alike n _ _ (measured_end now b.granularity_us 1 (syn_acked c) c.rtt_segment) h;
  is_reset = λ c h. h;
  finished = λ c h. h;
}

-- a sender whose connection, if any, ends at or below a place
abbrev Ends : ℕ → SenderState → Type 0
Ends n s = queued_to s.endpoint.connection ≤ n

abbrev Sparse : ℕ → SenderState → Type 0
Sparse n s = Holds (λ _. Unit {0}) (λ _ c. IsUpToPlace n c) s

of_end : (n : ℕ) (o : Option ConnectionView) → queued_to o ≤ n → IfSome o (IsUpToPlace n)
of_end n None h = tt
of_end n (Some c) h = h

to_end : (n : ℕ) (o : Option ConnectionView) → IfSome o (IsUpToPlace n) → queued_to o ≤ n
to_end n None h = omega arith
to_end n (Some c) h = h

sparse : (n : ℕ) (s : SenderState) → Ends n s → Sparse n s
sparse n s h = record { packets = tt; connection = of_end n s.endpoint.connection h }

pub arrivals_queue_our_syn : ArrivalsQueueOurSyn
arrivals_queue_our_syn segment now s t is =
    let n : ℕ = queued_to s.endpoint.connection + 1 in
    let after : Sparse n t =
    arrived_holds now (λ _. Unit {0}) (λ _ c. IsUpToPlace n c) (λ _ c. IsUpToPlace n c) (λ packets p e h. tt) (arrivals now n)
    (λ b listener segment e. omega arith) segment s t (sparse n s (omega arith)) is in
    to_end n t.endpoint.connection after.connection

-- Expiries

expired_on_end : (at : ℕ) (c : ConnectionView) (o : Option Established) (s : SenderState) → queued_to (expired_on at c o s).endpoint.connection ≡ c.board.end
expired_on_end at c None s = refl
expired_on_end at c (Some e) s = refl

expired_end : (at : ℕ) (o : Option ConnectionView) (s : SenderState) → s.endpoint.connection ≡ o
    → queued_to (expired at o s).endpoint.connection ≡ queued_to s.endpoint.connection
expired_end at None s is = refl
expired_end at (Some c) s is = expired_on_end at c c.established s ∙ sym (ap queued_to is)

pub expiries_queue_nothing : ExpiriesQueueNothing
expiries_queue_nothing until s t is =
    came (λ (u : SenderState). queued_to u.endpoint.connection ≡ queued_to s.endpoint.connection) (advanced until s) t
    (repeated_holds (λ (u : SenderState). queued_to u.endpoint.connection ≡ queued_to s.endpoint.connection) (λ u. due_by until (deadline_of u))
    (λ at u. expired at u.endpoint.connection u) (λ u at same e. expired_end at u.endpoint.connection u refl ∙ same) (places_left s) s refl)
    is

-- Calls

more : (m n : ℕ) → m ≤ m + n
more m n = omega arith

-- the reply leaves the end at or below a place
abbrev AtMost : ℕ → Reply → Type 0
AtMost n reply = Comes (λ (r : SenderState × Answer). Ends n r.0) reply

answered_at_most : (n : ℕ) (answer : Answer) (r : Result SenderState Halt) → Comes (Ends n) r → AtMost n (with_answer answer r)
answered_at_most n answer (Ok s) h = h
answered_at_most n answer (Err halt) h = tt

sparse_ends : (n : ℕ) (r : Result SenderState Halt) → Comes (Sparse n) r → Comes (Ends n) r
sparse_ends n (Ok s) h = to_end n s.endpoint.connection h.connection
sparse_ends n (Err halt) h = tt

outside_recovery_ends : (n now : ℕ) (c : ConnectionView) (s : SenderState) → Ends n s → Comes (Ends n) (ordinary_outside_recovery now c s)
outside_recovery_ends n now c s h =
    by_test (Comes (Ends n)) (is_recovering c.established) (Ok s) (ordinary now s) (λ _. h)
    (λ _. sparse_ends n (ordinary now s) (ordinary_holds now (λ _. Unit {0}) (λ _ c. IsUpToPlace n c) (λ packets p e h. tt) (λ b. sending now n) s (sparse n s h)))

socket_ends : (n : ℕ) (s : SenderState) (l : ListenState) → Ends n s → AtMost n (socket_reply s l)
socket_ends n s Absent h = h
socket_ends n s _ h = tt

bind_ends : (n : ℕ) (s : SenderState) (l : ListenState) (d : Descriptor) → Ends n s → AtMost n (bind_reply s l d)
bind_ends n s Open Listening h = h
bind_ends n s _ _ h = h

listen_ends : (n : ℕ) (s : SenderState) (l : ListenState) (d : Descriptor) → Ends n s → AtMost n (listen_reply s l d)
listen_ends n s Bound Listening h = h
listen_ends n s Listens Listening h = h
listen_ends n s _ _ h = h

handed_ends : (n : ℕ) (s : SenderState) (o : Option ConnectionView) → s.endpoint.connection ≡ o → Ends n s → AtMost n (handed_out s o)
handed_ends n s None is h = h
handed_ends n s (Some c) is h =
    by_test (AtMost n) (is_some c.established && is_unaccepted (stream_of c)) (answered (with_stored (Some (with_stream stream_state.Open c)) s) (Number 4))
    (answered s (Error Eagain)) (λ _. subst (λ o. queued_to o ≤ n) is h) (λ _. h)

accept_ends : (n : ℕ) (s : SenderState) (l : ListenState) (d : Descriptor) → Ends n s → AtMost n (accept_reply s l d)
accept_ends n s Listens Listening h = handed_ends n s s.endpoint.connection refl h
accept_ends n s _ _ h = h

no_delay_ends : (n : ℕ) (s : SenderState) (set : Bool) (d : Descriptor) → IsOpenOn s d → Ends n s → AtMost n (no_delay_reply s set d)
no_delay_ends n s set Listening unclosed h = h
no_delay_ends n s set (Connected c) unclosed h = subst (λ o. queued_to o ≤ n) unclosed.0 h

queued_ends : (now octets free n : ℕ) (c : ConnectionView) (s : SenderState) → c.board.end + min octets free ≤ n → Ends n s → AtMost n (queued now octets free c s)
queued_ends now octets free n c s le h =
    by_test (AtMost n) (free == 0) (answered s (Error Eagain)) _ (λ _. h)
    (λ _. answered_at_most n (Number (min octets free)) _
    (outside_recovery_ends n now c (with_stored (Some (with_queued (min octets free) c)) s) (omega (arith, le))))

written_ends : (now octets : ℕ) (s : SenderState) (c : ConnectionView) → s.endpoint.connection ≡ Some c
    → AtMost (queued_to s.endpoint.connection + min octets s.settings.sndbuf) (written_on now octets c s)
written_ends now octets s c is =
    let n : ℕ = queued_to s.endpoint.connection + min octets s.settings.sndbuf in
    let kept : Ends n s = more (queued_to s.endpoint.connection) (min octets s.settings.sndbuf) in
    let same : queued_to s.endpoint.connection ≡ c.board.end = ap queued_to is in
    let after : SenderState = record s { consulted_settings = write_settings s.consulted_settings } in
    by_test (AtMost n) c.is_reset (answered s (Error Epipe)) _ (λ _. kept)
    (λ _. by_test (AtMost n) (octets == 0) (answered s (Number 0)) (queued now octets (free_of s.settings.sndbuf c) c after) (λ _. kept)
    (λ _. queued_ends now octets (free_of s.settings.sndbuf c) n c after (omega (arith, same)) kept))

write_ends : (now : ℕ) (s : SenderState) (octets : ℕ) (d : Descriptor) → IsOpenOn s d
    → AtMost (queued_to s.endpoint.connection + min octets s.settings.sndbuf) (write_reply now s octets d)
write_ends now s octets Listening unclosed = more (queued_to s.endpoint.connection) (min octets s.settings.sndbuf)
write_ends now s octets (Connected c) unclosed = written_ends now octets s c unclosed.0

closed_stream_end : (c : ConnectionView) → (closed_stream c).board.end ≤ c.board.end + 1
closed_stream_end c = by_test (λ (d : ConnectionView). d.board.end ≤ c.board.end + 1) c.is_reset c (with_fin c) (λ _. more c.board.end 1) (λ _. omega arith)

closed_ends : (now : ℕ) (s : SenderState) (c : ConnectionView) → s.endpoint.connection ≡ Some c
    → AtMost (queued_to s.endpoint.connection + 1) (closed_on now c s)
closed_ends now s c is =
    let n : ℕ = queued_to s.endpoint.connection + 1 in
    let same : queued_to s.endpoint.connection ≡ c.board.end = ap queued_to is in
    let closed : SenderState = with_stored (Some (closed_stream c)) s in
    let kept : Ends n closed = omega (arith, same, closed_stream_end c) in
    answered_at_most n (Number 0) _
    (by_test (Comes (Ends n)) c.is_reset (Ok closed) (ordinary_outside_recovery now c closed) (λ _. kept) (λ _. outside_recovery_ends n now c closed kept))

close_ends : (now : ℕ) (s : SenderState) (d : Descriptor) → IsOpenOn s d → AtMost (queued_to s.endpoint.connection + 1) (close_reply now s d)
close_ends now s Listening unclosed =
    by_test (AtMost (queued_to s.endpoint.connection + 1)) (has_begun_unaccepted_connection s.endpoint.connection) (Err Unsupported) (answered (with_listener Closed s) (Number 0))
    (λ _. tt) (λ _. more (queued_to s.endpoint.connection) 1)
close_ends now s (Connected c) unclosed = closed_ends now s c unclosed.0

operated_ends : (now : ℕ) (s : SenderState) (d : Descriptor) (o : SocketOperation) → IsOpenOn s d
    → AtMost (queued_to s.endpoint.connection + asked_of s.settings.sndbuf o) (operated now s d o)
operated_ends now s d Bind unclosed = bind_ends (queued_to s.endpoint.connection + 0) s s.endpoint.listener d (more (queued_to s.endpoint.connection) 0)
operated_ends now s d Listen unclosed = listen_ends (queued_to s.endpoint.connection + 0) s s.endpoint.listener d (more (queued_to s.endpoint.connection) 0)
operated_ends now s d Accept unclosed = accept_ends (queued_to s.endpoint.connection + 0) s s.endpoint.listener d (more (queued_to s.endpoint.connection) 0)
operated_ends now s d ReuseAddress unclosed = more (queued_to s.endpoint.connection) 0
operated_ends now s d (NoDelay set) unclosed = no_delay_ends (queued_to s.endpoint.connection + 0) s set d unclosed (more (queued_to s.endpoint.connection) 0)
operated_ends now s d SetFlags unclosed = more (queued_to s.endpoint.connection) 0
operated_ends now s d (Write octets) unclosed = write_ends now s octets d unclosed
operated_ends now s d Close unclosed = close_ends now s d unclosed

open_ends : (now fd : ℕ) (s : SenderState) (o : SocketOperation) (d : Option Descriptor) → open_descriptor s.endpoint fd ≡ d
    → AtMost (queued_to s.endpoint.connection + asked_of s.settings.sndbuf o) (on_open now s o d)
open_ends now fd s o None e = more (queued_to s.endpoint.connection) (asked_of s.settings.sndbuf o)
open_ends now fd s o (Some d) e = operated_ends now s d o (open_on s fd d e)

requested_ends : (now : ℕ) (s : SenderState) (r : Option Syscall) → AtMost (queued_to s.endpoint.connection + asked_by s.settings.sndbuf r) (requested now s r)
requested_ends now s None = tt
requested_ends now s (Some Socket) = socket_ends (queued_to s.endpoint.connection + 0) s s.endpoint.listener (more (queued_to s.endpoint.connection) 0)
requested_ends now s (Some (On fd o)) = open_ends now fd s o (open_descriptor s.endpoint fd) refl

pub calls_queue_what_they_ask : CallsQueueWhatTheyAsk
calls_queue_what_they_ask call now s t answer is =
    came (λ (r : SenderState × Answer). Ends (queued_to s.endpoint.connection + asked_by s.settings.sndbuf (syscall_of call)) r.0) (called call now s) (t, answer)
    (requested_ends now s (syscall_of call)) is

operation_asks_few : (b : Settings) (o : SocketOperation) → asked_of b.sndbuf o ≤ 1048576
operation_asks_few b (Write n) = omega (arith, b.sndbuf_in_range.1)
operation_asks_few b Close = omega arith
operation_asks_few b _ = omega arith

request_asks_few : (b : Settings) (r : Option Syscall) → asked_by b.sndbuf r ≤ 1048576
request_asks_few b (Some (On fd o)) = operation_asks_few b o
request_asks_few b _ = omega arith

pub calls_ask_few : CallsAskFew
calls_ask_few b call = request_asks_few b (syscall_of call)
