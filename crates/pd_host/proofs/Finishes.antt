-- The properties of an arrival after the peer's FIN.
use Rattle.std.proofs.Common.{◌≡◌, ℕ, ◌&&◌, nat_lt, length, Bool, true, false, if◌then◌else◌, [], ◌∷◌, ◌++◌, Option, None, Some, Result, Ok, Err, refl}
use Rattle.pd_seg.specs.declared.segments.Segment.{Segment}
use Rattle.pd_seg.specs.declared.send_rule.SendRule.TheVariants.{Ack}
use Rattle.pd_host.specs.Arrivals.{check_outcome, goes_on, with_connection, with_peer_fin, finished_on, finished_by, passed_on}
use Rattle.pd_host.specs.Connection.{ConnectionView}
use Rattle.pd_host.specs.Packets.{ack_of}
use Rattle.pd_host.specs.Host.{beside, with_outbox}
use Rattle.pd_host.specs.Sending.{with_begun_connection, with_packet_sent}
use Rattle.pd_host.specs.declared.halts.Halt.{Halt}
use Rattle.pd_host.specs.declared.halts.Halt.TheVariants.{Limit}
use Rattle.pd_host.specs.declared.connection.segment_check.SegmentCheck.{SegmentCheck}
use Rattle.pd_host.specs.declared.endpoint.SenderState.{SenderState}
use Rattle.pd_host.proofs.AckedBelow.{second_of_two}
use Rattle.pd_host.proofs.Outcomes.{Leaves, either, then_leaves}

-- the state after the FIN: the connection has taken it, and an ACK follows the packets
abbrev pub after_fin : ℕ → ConnectionView → SenderState → SenderState
after_fin now c s = with_packet_sent now Ack (ack_of (with_peer_fin c)) (with_begun_connection (with_peer_fin c) s)

one_put : (P : SenderState → Type 0) (b : Bool) (now : ℕ) (d : ConnectionView) (s : SenderState) → P (with_packet_sent now Ack (ack_of d) (with_begun_connection d s))
    → Leaves P (beside s (with_outbox (with_connection d s.endpoint) (if b then Ok (s.endpoint.outbox ++ record { segment = ack_of d; at = now; rule = Ack } ∷ []) else Err Limit)))
one_put P true now d s h = h
one_put P false now d s h = tt

finished_on_leaves : (P : SenderState → Type 0) (now : ℕ) (s : SenderState) (o : Option ConnectionView) → s.endpoint.connection ≡ o → P s
    → ((c : ConnectionView) → s.endpoint.connection ≡ Some c → P (after_fin now c s))
    → Leaves P (finished_on now s o)
finished_on_leaves P now s None e h step = h
finished_on_leaves P now s (Some c) e h step = one_put P (nat_lt (length s.endpoint.outbox) 1024) now (with_peer_fin c) s (step c e)

pub finished_leaves : (P : SenderState → Type 0) (now : ℕ) (segment : Segment) (r : Option SegmentCheck) (s : SenderState) → P s
    → ((c : ConnectionView) → s.endpoint.connection ≡ Some c → P (after_fin now c s))
    → Leaves P (finished_by now segment r s)
finished_leaves P now segment r s h step =
    either P (goes_on r && segment.flags.fin) (finished_on now s s.endpoint.connection) (Ok s)
    (finished_on_leaves P now s s.endpoint.connection refl h step) h

tested : (P : SenderState → Type 0) (b : Bool) (x y : Result SenderState Halt) → (b ≡ true → Leaves P x) → Leaves P y → Leaves P (if b then x else y)
tested P true x y first second = first refl
tested P false x y first second = second

-- the same where the FIN is one
pub finished_where : (P : SenderState → Type 0) (now : ℕ) (segment : Segment) (r : Option SegmentCheck) (s : SenderState) → P s
    → ((c : ConnectionView) → s.endpoint.connection ≡ Some c → segment.flags.fin ≡ true → P (after_fin now c s))
    → Leaves P (finished_by now segment r s)
finished_where P now segment r s h step =
    tested P (goes_on r && segment.flags.fin) (finished_on now s s.endpoint.connection) (Ok s)
    (λ e. finished_on_leaves P now s s.endpoint.connection refl h (λ c is. step c is (second_of_two (goes_on r) segment.flags.fin e))) h

-- what holds after the ruling, and after a FIN where it held before it, holds after the arrival
pub passed_leaves : (P : SenderState → Type 0) (now : ℕ) (segment : Segment) (c : ConnectionView) (s : SenderState) (r : Option SegmentCheck)
    → ((u : SenderState) (d : ConnectionView) → u.endpoint.connection ≡ Some d → P u → P (after_fin now d u))
    → Leaves P (check_outcome now segment c s r)
    → Leaves P (passed_on now segment c s r)
passed_leaves P now segment c s r step h =
    then_leaves P P (finished_by now segment r) (check_outcome now segment c s r) h
    (λ u k. finished_leaves P now segment r u k (λ d e. step u d e k))
