-- Arrivals keep each property of a connection that each rule keeps.
use Rattle.std.proofs.Common.{◌≡◌, ℕ, ◌&&◌, nat_lt, length, Bool, true, false, if◌then◌else◌, List, Option, Some, None, Result, Ok, Err, refl, sym, subst}
use Rattle.std.specs.Prelude.{IfSome}
use Rattle.pd_settings.specs.declared.settings.Settings.{Settings}
use Rattle.pd_seg.specs.declared.sack_spans.Span.{Span}
use Rattle.pd_seg.specs.declared.segments.Segment.{Segment}
use Rattle.pd_seg.specs.declared.segments.Sent.{Sent}
use Rattle.pd_seg.specs.declared.send_rule.SendRule.{SendRule}
use Rattle.pd_seg.specs.declared.send_rule.SendRule.TheVariants.{SynAck, Ack, Rst, LimitedTransmit as LimitedBy3042, FastRetransmit as FastBy5681, SackFastRetransmit}
use Rattle.pd_recover.specs.declared.ack_action.AckAction.{AckAction}
use Rattle.pd_recover.specs.declared.ack_action.AckAction.TheVariants.{Ordinary, StepC, Entry, LimitedTransmit, NewSegment, FastRetransmit, Nothing}
use Rattle.pd_recover.specs.declared.next_segment.NextSegment.{NextSegment}
use Rattle.pd_host.specs.AckEffects.{OnTheWay, taking, ack_taken, next_fill, one_filled, filled, sender_of, pipe_of, push_data_segment_to_outbox, entered_on, entry, after_ack_action}
use Rattle.pd_host.specs.Arrivals.{failed_check_of, check_outcome, goes_on, with_connection, with_peer_fin, finished_on, finished_by, arrived_on, arrived}
use Rattle.pd_host.specs.Connection.{ConnectionView}
use Rattle.pd_host.specs.Handshake.{is_supported_syn_while_listening, connection_begun, syn_settings}
use Rattle.pd_host.specs.Packets.{ack_of, refusal_of, syn_ack_of, data_of}
use Rattle.pd_host.specs.OutboxLimit.{has_place}
use Rattle.pd_host.specs.Host.{beside, with_outbox, put_out}
use Rattle.pd_host.specs.Sending.{with_begun_connection, places_left, sent_on, ordinary}
use Rattle.pd_host.specs.RttSegment.{timing_started}
use Rattle.pd_host.specs.declared.endpoint.Endpoint.{Endpoint}
use Rattle.pd_host.specs.declared.connection.ack_effects.WindowFill.{WindowFill}
use Rattle.pd_host.specs.declared.connection.ack_effects.WindowFill.TheVariants.{NextSeg, NewData}
use Rattle.pd_host.specs.declared.halts.Halt.{Halt}
use Rattle.pd_host.specs.declared.halts.Halt.TheVariants.{Limit, Unsupported}
use Rattle.pd_host.specs.declared.connection.segment_check.SegmentCheck.{SegmentCheck}
use Rattle.pd_host.specs.declared.connection.segment_check.SegmentCheck.TheVariants.{NotRun, StrayRst, OutsideWindow, ExactRst, ChallengedRst, WithoutAck, FirstAck, RefusedAck, EarlyAck, OldAck}
use Rattle.pd_host.specs.declared.endpoint.SenderState.{SenderState}
use Rattle.pd_host.proofs.Kept.{Comes, by_test, came, comes_more, comes_then, repeated_holds}
use Rattle.pd_host.proofs.Rules.{Holds, HoldsFirst, KeptByArrivals, first_run}
use Rattle.pd_host.proofs.SendingKept.{TakesOne, placed, ordinary_holds}

-- what holds of the sender that a state of loss recovery has
sender_comes : (P : SenderState → Type 0) (r : Result OnTheWay Halt) → Comes (λ t. P t.0) r → Comes P (sender_of r)
sender_comes P (Ok t) h = h
sender_comes P (Err halt) h = tt

module _ (now : ℕ) (O : List Sent → Type 0) (C D : Settings → ConnectionView → Type 0) (more : TakesOne now O) where
  -- it holds between two inputs
  abbrev All : SenderState → Type 0
  All s = Holds O C s

  -- it holds while data is sent
  abbrev Sends : SenderState → Type 0
  Sends s = Holds O D s

  module _ (rules : (b : Settings) → KeptByArrivals now b (C b) (D b)) where
    ordinary_after : (s : SenderState) → Sends s → Comes Sends (ordinary now s)
    ordinary_after s h = ordinary_holds now O D more (λ b. (rules b).sending) s h

    in_filled : (filling : WindowFill) (o : Option ConnectionView) (sent : NextSegment) (t : OnTheWay) → Sends t.0 → IfSome o (D t.0.settings)
        → next_fill filling t.1 o ≡ Some sent → Sends (one_filled now filling sent o t).0
    in_filled filling None sent t h d e = h
    in_filled filling (Some c) sent t h d e = placed now O D more _ _ _ t.0 h ((rules t.0.settings).acks.filled filling t.1 c sent d e)

    filled_holds : (filling : WindowFill) (s : SenderState) → Sends s → Comes Sends (filled now filling s)
    filled_holds filling s h =
        sender_comes Sends _ (repeated_holds (λ (t : OnTheWay). Sends t.0) (λ t. next_fill filling t.1 t.0.endpoint.connection)
        (λ sent t. one_filled now filling sent t.0.endpoint.connection t)
        (λ t sent k e. in_filled filling t.0.endpoint.connection sent t k k.connection e)
        (places_left s) (s, pipe_of s.endpoint.connection) h)

    put_holds : (rule : SendRule) (segment : Span) (before after : ConnectionView) (s : SenderState) → Sends s → D s.settings after
        → Comes Sends (push_data_segment_to_outbox now rule segment before after s)
    put_holds rule segment before after s h d =
        by_test (Comes Sends) (has_place s.endpoint.outbox) _ (Err Limit) (λ _. placed now O D more rule (data_of before segment) after s h d) (λ _. tt)

    entry_holds : (c : ConnectionView) (s : SenderState) → Sends s → D s.settings c → Comes Sends (entry now c s)
    entry_holds c s h d =
        by_test (Comes Sends) (nat_lt (first_run c).start (first_run c).end) _ _
        (λ e. put_holds SackFastRetransmit (first_run c) c (entered_on (first_run c) (timing_started now (first_run c) c) c.established) s h ((rules s.settings).acks.entry c d e))
        (λ _. record { packets = h.packets; connection = (rules s.settings).acks.entry_alone c d })

    -- what an ACK that was taken leads to
    led_holds : (segment : Segment) (c : ConnectionView) (s : SenderState) (x : AckAction)
        → Sends s → C s.settings c → D s.settings (taking now segment c c.established).0 → failed_check_of c segment ≡ None
        → (taking now segment c c.established).1 ≡ x → Comes Sends (after_ack_action now (taking now segment c c.established).0 s x)
    led_holds segment c s Ordinary h old d passed e = ordinary_after s h
    led_holds segment c s StepC h old d passed e = filled_holds NextSeg s h
    led_holds segment c s Entry h old d passed e =
        comes_then Sends Sends (filled now NextSeg) (filled_holds NextSeg) (entry now (taking now segment c c.established).0 s)
        (entry_holds (taking now segment c c.established).0 s h d)
    led_holds segment c s LimitedTransmit h old d passed e = filled_holds NewData s h
    led_holds segment c s (NewSegment new) h old d passed e =
        let t : ConnectionView = (taking now segment c c.established).0 in
        put_holds LimitedBy3042 new t (sent_on now new t) s h ((rules s.settings).acks.new_segment segment c new old passed e)
    led_holds segment c s (FastRetransmit first) h old d passed e =
        let t : ConnectionView = (taking now segment c c.established).0 in
        comes_then Sends Sends (ordinary now) ordinary_after (push_data_segment_to_outbox now FastBy5681 first t (timing_started now first t) s)
        (put_holds FastBy5681 first t (timing_started now first t) s h ((rules s.settings).acks.again segment c first old passed e))
    led_holds segment c s Nothing h old d passed e = h

    went_on : (s : SenderState) → (o : Option ConnectionView) → IfSome o (D s.settings) → IfSome o (C s.settings)
    went_on s None d = tt
    went_on s (Some c) d = (rules s.settings).sent c d

    sent_all : (s : SenderState) → Sends s → All s
    sent_all s h = record { packets = h.packets; connection = went_on s s.endpoint.connection h.connection }

    taken_holds : (segment : Segment) (c : ConnectionView) (s : SenderState) → All s → C s.settings c → failed_check_of c segment ≡ None
        → Comes All (ack_taken now segment c s c.established)
    taken_holds segment c s h d passed =
        let k : D s.settings (taking now segment c c.established).0 = (rules s.settings).acks.ack segment c d passed in
        comes_more Sends All sent_all (ack_taken now segment c s c.established)
        (led_holds segment c (with_begun_connection (taking now segment c c.established).0 s) (taking now segment c c.established).1
        (record { packets = h.packets; connection = k }) d k passed refl)

    -- a packet is put out, where the outbox has a place
    answers : (room : Bool) (packets : List Sent) (s : SenderState) (e : Endpoint) → O packets → IfSome e.connection (C s.settings)
        → Comes All (beside s (with_outbox e (if room then Ok packets else Err Limit)))
    answers true packets s e h d = record { packets = h; connection = d }
    answers false packets s e h d = tt

    answers_with : (rule : SendRule) (segment : Segment) (s : SenderState) (e : Endpoint) → O e.outbox → IfSome e.connection (C s.settings)
        → Comes All (beside s (put_out now rule segment e))
    answers_with rule segment s e h d = answers (nat_lt (length e.outbox) 1024) _ s e (more e.outbox _ refl h) d

    ruled_holds : (r : Option SegmentCheck) (segment : Segment) (c : ConnectionView) (s : SenderState)
        → All s → C s.settings c → s.endpoint.connection ≡ Some c → failed_check_of c segment ≡ r → Comes All (check_outcome now segment c s r)
    ruled_holds (Some NotRun) segment c s h d is e = tt
    ruled_holds (Some StrayRst) segment c s h d is e = h
    ruled_holds (Some OutsideWindow) segment c s h d is e = answers_with Ack (ack_of c) s s.endpoint h.packets h.connection
    ruled_holds (Some ExactRst) segment c s h d is e = record { packets = h.packets; connection = (rules s.settings).is_reset c d }
    ruled_holds (Some ChallengedRst) segment c s h d is e = answers_with Ack (ack_of c) s s.endpoint h.packets h.connection
    ruled_holds (Some WithoutAck) segment c s h d is e = h
    ruled_holds (Some FirstAck) segment c s h d is e =
        record { packets = h.packets; connection = (rules s.settings).established segment c d e }
    ruled_holds (Some RefusedAck) segment c s h d is e = answers_with Rst (refusal_of segment.ack) s s.endpoint h.packets h.connection
    ruled_holds (Some EarlyAck) segment c s h d is e = answers_with Ack (ack_of c) s s.endpoint h.packets h.connection
    ruled_holds (Some OldAck) segment c s h d is e = h
    ruled_holds None segment c s h d is e = taken_holds segment c s h d e

    -- the peer's FIN is taken
    finished_on_holds : (s : SenderState) (o : Option ConnectionView) → All s → IfSome o (C s.settings) → Comes All (finished_on now s o)
    finished_on_holds s None h d = h
    finished_on_holds s (Some c) h d =
        answers_with Ack (ack_of (with_peer_fin c)) s (with_connection (with_peer_fin c) s.endpoint) h.packets ((rules s.settings).finished c d)

    finished_holds : (segment : Segment) (r : Option SegmentCheck) (s : SenderState) → All s → Comes All (finished_by now segment r s)
    finished_holds segment r s h =
        by_test (Comes All) (goes_on r && segment.flags.fin) (finished_on now s s.endpoint.connection) (Ok s)
        (λ _. finished_on_holds s s.endpoint.connection h h.connection) (λ _. h)

    passed_holds : (segment : Segment) (c : ConnectionView) (s : SenderState) → All s → C s.settings c → s.endpoint.connection ≡ Some c
        → Comes All (arrived_on now segment s (Some c))
    passed_holds segment c s h d is =
        comes_then All All (finished_by now segment (failed_check_of c segment)) (finished_holds segment (failed_check_of c segment))
        (check_outcome now segment c s (failed_check_of c segment)) (ruled_holds (failed_check_of c segment) segment c s h d is refl)

    -- on a connection
    pub arrived_later : (segment : Segment) (c : ConnectionView) (s t : SenderState) → s.endpoint.connection ≡ Some c → All s → arrived segment now s ≡ Ok t
        → All t
    arrived_later segment c s t on h is =
        came All (arrived segment now s) t
        (subst (λ o. Comes All (arrived_on now segment s o)) (sym on)
        (passed_holds segment c s h (subst (λ o. IfSome o (C s.settings)) on h.connection) on)) is

    module _ (first : HoldsFirst now C) where
      opened_holds : (segment : Segment) (s : SenderState) → All s → Comes All (arrived_on now segment s None)
      opened_holds segment s h =
          by_test (Comes All) (is_supported_syn_while_listening s.endpoint.listener segment) _ (Err Unsupported)
          (λ e. answers_with SynAck (syn_ack_of (connection_begun now s.settings segment)) (record s { consulted_settings = syn_settings s.consulted_settings })
          (record s.endpoint { connection = Some (connection_begun now s.settings segment) }) h.packets
          (first s.settings s.endpoint.listener segment e))
          (λ _. tt)

      arrived_on_holds : (o : Option ConnectionView) (segment : Segment) (s : SenderState) → All s → IfSome o (C s.settings) → s.endpoint.connection ≡ o
          → Comes All (arrived_on now segment s o)
      arrived_on_holds None segment s h d is = opened_holds segment s h
      arrived_on_holds (Some c) segment s h d is = passed_holds segment c s h d is

      pub arrived_holds : (segment : Segment) (s t : SenderState) → All s → arrived segment now s ≡ Ok t → All t
      arrived_holds segment s t h is =
          came All (arrived segment now s) t (arrived_on_holds s.endpoint.connection segment s h h.connection refl) is
