-- The packets that an arrival puts out follow those that nobody has taken.
use Rattle.std.proofs.Common.{◌≡◌, ℕ, Bool, true, false, if◌then◌else◌, nat_lt, length, List, [], ◌∷◌, ◌++◌, Option, None, Some, Ok, Err, refl, ap, sym, ◌∙◌, append_assoc, append-nil}
use Rattle.pd_seg.specs.declared.segments.Segment.{Segment}
use Rattle.pd_seg.specs.declared.segments.Sent.{Sent}
use Rattle.pd_seg.specs.declared.send_rule.SendRule.{SendRule}
use Rattle.pd_seg.specs.declared.send_rule.SendRule.TheVariants.{SynAck, Ack, Rst}
use Rattle.pd_host.specs.Arrivals.{check_outcome, arrived_on, arrived, failed_check_of, reset_of, with_peer_fin}
use Rattle.pd_host.specs.AckEffects.{taking, ack_taken}
use Rattle.pd_host.specs.Connection.{ConnectionView}
use Rattle.pd_host.specs.Handshake.{is_supported_syn_while_listening, connection_begun, answered_syn, syn_settings, established_by, establishment_settings}
use Rattle.pd_host.specs.InputLaws.{IsAfter, PutsOutAfter}
use Rattle.pd_host.specs.Packets.{ack_of, refusal_of, syn_ack_of}
use Rattle.pd_host.specs.Host.{beside, with_outbox}
use Rattle.pd_host.specs.Sending.{with_begun_connection}
use Rattle.pd_host.specs.declared.endpoint.Endpoint.{Endpoint}
use Rattle.pd_host.specs.declared.halts.Halt.TheVariants.{Limit, Unsupported}
use Rattle.pd_host.specs.declared.connection.segment_check.SegmentCheck.{SegmentCheck}
use Rattle.pd_host.specs.declared.connection.segment_check.SegmentCheck.TheVariants.{NotRun, StrayRst, OutsideWindow, ExactRst, ChallengedRst, WithoutAck, FirstAck, RefusedAck, EarlyAck, OldAck}
use Rattle.pd_host.specs.declared.endpoint.SenderState.{SenderState}
use Rattle.pd_host.proofs.Finishes.{after_fin, passed_leaves}
use Rattle.pd_host.proofs.Outcomes.{Leaves, came, leaves_too, either}
use Rattle.pd_host.proofs.SentOn.{IsSentOn, all_of_both}
use Rattle.pd_host.proofs.Taken.{taken_sends}

-- nothing was put out
pub none_after : (now : ℕ) (s t : SenderState) → t.endpoint.outbox ≡ s.endpoint.outbox → IsAfter now s t
none_after now s t same = ([], tt, sym (append-nil t.endpoint.outbox) ∙ ap (λ (l : List Sent). l ++ []) same)

-- one packet was
one_after : (b : Bool) (now : ℕ) (rule : SendRule) (segment : Segment) (u s : SenderState) (e : Endpoint) → e.outbox ≡ s.endpoint.outbox
    → Leaves (IsAfter now s) (beside u (with_outbox e (if b then Ok (e.outbox ++ record { segment = segment; at = now; rule = rule } ∷ []) else Err Limit)))
one_after true now rule segment u s e same =
    let packet : Sent = record { segment = segment; at = now; rule = rule } in
    (packet ∷ [], (refl, tt), ap (λ (l : List Sent). l ++ packet ∷ []) same)
one_after false now rule segment u s e same = tt

answered : (now : ℕ) (rule : SendRule) (segment : Segment) (s : SenderState)
    → Leaves (IsAfter now s) (beside s (with_outbox s.endpoint (if nat_lt (length s.endpoint.outbox) 1024 then Ok (s.endpoint.outbox ++ record { segment = segment; at = now; rule = rule } ∷ []) else Err Limit)))
answered now rule segment s = one_after (nat_lt (length s.endpoint.outbox) 1024) now rule segment s s s.endpoint refl

by_ruling : (r : Option SegmentCheck) (segment : Segment) (now : ℕ) (s : SenderState) (c : ConnectionView) → Leaves (IsAfter now s) (check_outcome now segment c s r)
by_ruling (Some NotRun) segment now s c = tt
by_ruling (Some StrayRst) segment now s c = none_after now s s refl
by_ruling (Some OutsideWindow) segment now s c = answered now Ack (ack_of c) s
by_ruling (Some ExactRst) segment now s c = none_after now s (with_begun_connection (reset_of c) s) refl
by_ruling (Some ChallengedRst) segment now s c = answered now Ack (ack_of c) s
by_ruling (Some WithoutAck) segment now s c = none_after now s s refl
by_ruling (Some FirstAck) segment now s c =
    let left : SenderState = with_begun_connection (established_by now s.settings segment c) s in
    none_after now s (record left { consulted_settings = establishment_settings s.consulted_settings }) refl
by_ruling (Some RefusedAck) segment now s c = answered now Rst (refusal_of segment.ack) s
by_ruling (Some EarlyAck) segment now s c = answered now Ack (ack_of c) s
by_ruling (Some OldAck) segment now s c = none_after now s s refl
by_ruling None segment now s c =
    let left : SenderState = with_begun_connection (taking now segment c c.established).0 s in
    leaves_too (IsSentOn now left) (IsAfter now s) (ack_taken now segment c s c.established)
    (λ t h. (h.packets, h.moments, h.outbox)) (taken_sends now segment c s c.established)

-- an ACK of the peer's FIN follows them
fin_after : (now : ℕ) (s u : SenderState) (c : ConnectionView) → IsAfter now s u → IsAfter now s (after_fin now c u)
fin_after now s u c h =
    let packet : Sent = record { segment = ack_of (with_peer_fin c); at = now; rule = Ack } in (
      h.0 ++ packet ∷ [],
      all_of_both now h.0 (packet ∷ []) h.1 (refl, tt),
      ap (λ (l : List Sent). l ++ packet ∷ []) h.2 ∙ append_assoc s.endpoint.outbox h.0 (packet ∷ []),
    )

opening : (now : ℕ) (c : ConnectionView) (s : SenderState) → Leaves (IsAfter now s) (answered_syn now c s)
opening now c s =
    one_after (nat_lt (length s.endpoint.outbox) 1024) now SynAck (syn_ack_of c) (record s { consulted_settings = syn_settings s.consulted_settings }) s
    (record s.endpoint { connection = Some c }) refl

on_connection : (o : Option ConnectionView) (segment : Segment) (now : ℕ) (s : SenderState) → Leaves (IsAfter now s) (arrived_on now segment s o)
on_connection None segment now s =
    either (IsAfter now s) (is_supported_syn_while_listening s.endpoint.listener segment) (answered_syn now (connection_begun now s.settings segment) s) (Err Unsupported)
    (opening now (connection_begun now s.settings segment) s) tt
on_connection (Some c) segment now s =
    passed_leaves (IsAfter now s) now segment c s (failed_check_of c segment) (λ u d e k. fin_after now s u d k)
    (by_ruling (failed_check_of c segment) segment now s c)

pub puts_out_after : PutsOutAfter
puts_out_after segment now s t h = came (IsAfter now s) (arrived segment now s) t h (on_connection s.endpoint.connection segment now s)
