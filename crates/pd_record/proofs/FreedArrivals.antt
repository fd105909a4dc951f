-- The packets that nobody has taken change nothing of an arrival.
use Rattle.std.proofs.Common.{ℕ, ◌&&◌, ◌++◌, Option, None, Some, List, Ok, Err, refl}
use Rattle.pd_seg.specs.declared.segments.Segment.{Segment}
use Rattle.pd_seg.specs.declared.segments.Sent.{Sent}
use Rattle.pd_seg.specs.declared.send_rule.SendRule.{SendRule}
use Rattle.pd_seg.specs.declared.send_rule.SendRule.TheVariants.{SynAck, Ack, Rst}
use Rattle.pd_host.specs.Arrivals.{check_outcome, goes_on, finished_on, finished_by, arrived_on, arrived, failed_check_of, reset_of, with_peer_fin, with_connection}
use Rattle.pd_host.specs.Connection.{ConnectionView}
use Rattle.pd_host.specs.Handshake.{is_supported_syn_while_listening, connection_begun, answered_syn, syn_settings, established_by, establishment_settings}
use Rattle.pd_host.specs.Packets.{ack_of, refusal_of, syn_ack_of}
use Rattle.pd_host.specs.OutboxLimit.{has_place}
use Rattle.pd_host.specs.Host.{beside, put_out}
use Rattle.pd_host.specs.Sending.{with_begun_connection}
use Rattle.pd_host.specs.declared.endpoint.Endpoint.{Endpoint}
use Rattle.pd_host.specs.declared.halts.Halt.TheVariants.{Unsupported}
use Rattle.pd_host.specs.declared.connection.segment_check.SegmentCheck.{SegmentCheck}
use Rattle.pd_host.specs.declared.connection.segment_check.SegmentCheck.TheVariants.{NotRun, StrayRst, OutsideWindow, ExactRst, ChallengedRst, WithoutAck, FirstAck, RefusedAck, EarlyAck, OldAck}
use Rattle.pd_host.specs.declared.endpoint.SenderState.{SenderState}
use Rattle.pd_record.proofs.Freed.{CameBy, either_by, then_by, in_front, in_front_on, put_out_freed, room_freed, taken_freed}

-- a segment that is put out in answer
answered_freed : (w : List Sent) (now : ℕ) (rule : SendRule) (segment : Segment) (s : SenderState) (e : Endpoint)
    → CameBy (in_front w) (beside (in_front w s) (put_out now rule segment (in_front_on w e))) (beside s (put_out now rule segment e))
answered_freed w now rule segment s e =
    let packet : Sent = record { segment = segment; at = now; rule = rule } in
    put_out_freed w (has_place (w ++ e.outbox)) (has_place e.outbox) packet s e (room_freed w e.outbox)

ruled_freed : (w : List Sent) (r : Option SegmentCheck) (now : ℕ) (segment : Segment) (c : ConnectionView) (s : SenderState)
    → CameBy (in_front w) (check_outcome now segment c (in_front w s) r) (check_outcome now segment c s r)
ruled_freed w (Some NotRun) now segment c s = tt
ruled_freed w (Some StrayRst) now segment c s = (s, refl, refl)
ruled_freed w (Some OutsideWindow) now segment c s = answered_freed w now Ack (ack_of c) s s.endpoint
ruled_freed w (Some ExactRst) now segment c s = (with_begun_connection (reset_of c) s, refl, refl)
ruled_freed w (Some ChallengedRst) now segment c s = answered_freed w now Ack (ack_of c) s s.endpoint
ruled_freed w (Some WithoutAck) now segment c s = (s, refl, refl)
ruled_freed w (Some FirstAck) now segment c s =
    let left : SenderState = with_begun_connection (established_by now s.settings segment c) s in
    (record left { consulted_settings = establishment_settings s.consulted_settings }, refl, refl)
ruled_freed w (Some RefusedAck) now segment c s = answered_freed w now Rst (refusal_of segment.ack) s s.endpoint
ruled_freed w (Some EarlyAck) now segment c s = answered_freed w now Ack (ack_of c) s s.endpoint
ruled_freed w (Some OldAck) now segment c s = (s, refl, refl)
ruled_freed w None now segment c s = taken_freed w now segment c s c.established

finished_on_freed : (w : List Sent) (now : ℕ) (o : Option ConnectionView) (s : SenderState) → CameBy (in_front w) (finished_on now (in_front w s) o) (finished_on now s o)
finished_on_freed w now None s = (s, refl, refl)
finished_on_freed w now (Some c) s = answered_freed w now Ack (ack_of (with_peer_fin c)) s (with_connection (with_peer_fin c) s.endpoint)

finished_freed : (w : List Sent) (now : ℕ) (segment : Segment) (r : Option SegmentCheck) (s : SenderState)
    → CameBy (in_front w) (finished_by now segment r (in_front w s)) (finished_by now segment r s)
finished_freed w now segment r s =
    either_by (in_front w) (goes_on r && segment.flags.fin) (finished_on now (in_front w s) s.endpoint.connection) (Ok (in_front w s))
    (finished_on now s s.endpoint.connection) (Ok s) (finished_on_freed w now s.endpoint.connection s) (s, refl, refl)

on_connection_freed : (w : List Sent) (o : Option ConnectionView) (segment : Segment) (now : ℕ) (s : SenderState)
    → CameBy (in_front w) (arrived_on now segment (in_front w s) o) (arrived_on now segment s o)
on_connection_freed w None segment now s =
    let begun : ConnectionView = connection_begun now s.settings segment in
    either_by (in_front w) (is_supported_syn_while_listening s.endpoint.listener segment) (answered_syn now begun (in_front w s)) (Err Unsupported) (answered_syn now begun s) (Err Unsupported)
    (answered_freed w now SynAck (syn_ack_of begun) (record s { consulted_settings = syn_settings s.consulted_settings }) (record s.endpoint { connection = Some begun })) tt
on_connection_freed w (Some c) segment now s =
    let r : Option SegmentCheck = failed_check_of c segment in
    then_by (in_front w) (in_front w) (finished_by now segment r) (check_outcome now segment c (in_front w s) r) (check_outcome now segment c s r)
    (ruled_freed w r now segment c s) (λ t. finished_freed w now segment r t)

pub arrived_freed : (w : List Sent) (segment : Segment) (now : ℕ) (s : SenderState) → CameBy (in_front w) (arrived segment now (in_front w s)) (arrived segment now s)
arrived_freed w segment now s = on_connection_freed w s.endpoint.connection segment now s
