-- The facts that are known where the check of the handshake rules that an ACK is the first.
use Rattle.std.proofs.Common.{◌≡◌, refl, ℕ, ◌≤◌, ◌&&◌, Bool, true, false, if◌then◌else◌, nat_lt, nat_le, ◌∷◌, [], Option, None, Some, arith}
use Rattle.std.specs.Prelude.{is_some, IfNone}
use Rattle.std.proofs.lemmas.Bool.Decides.{nat_tests}
use Rattle.pd_seg.specs.declared.segments.Segment.{Segment}
use Rattle.pd_host.specs.Arrivals.{first_failed_check, failed_check_of, is_in_window}
use Rattle.pd_host.specs.Connection.{ConnectionView}
use Rattle.pd_host.specs.declared.connection.segment_check.SegmentCheck.TheVariants.{NotRun, StrayRst, OutsideWindow, ExactRst, ChallengedRst, WithoutAck, FirstAck, RefusedAck, EarlyAck, OldAck}

-- the checks that rule so
handshake_rules : (bad inside rst here flag shaken sent above below : Bool)
    → first_failed_check (
    (if bad then Some NotRun else None)
    ∷ (if inside then None else Some (if rst then StrayRst else OutsideWindow))
    ∷ (if rst then Some (if here then ExactRst else ChallengedRst) else None)
    ∷ (if flag then None else Some WithoutAck)
    ∷ (if shaken then None else Some (if sent then FirstAck else RefusedAck))
    ∷ (if above then Some EarlyAck else if below then Some OldAck else None)
    ∷ []) ≡ Some FirstAck
    → (shaken ≡ false) × (sent ≡ true)
handshake_rules true inside rst here flag shaken sent above below h = absurd cc
handshake_rules false false true here flag shaken sent above below h = absurd cc
handshake_rules false false false here flag shaken sent above below h = absurd cc
handshake_rules false true true true flag shaken sent above below h = absurd cc
handshake_rules false true true false flag shaken sent above below h = absurd cc
handshake_rules false true false here false shaken sent above below h = absurd cc
handshake_rules false true false here true false true above below h = (refl, refl)
handshake_rules false true false here true false false above below h = absurd cc
handshake_rules false true false here true true sent true below h = absurd cc
handshake_rules false true false here true true sent false true h = absurd cc
handshake_rules false true false here true true sent false false h = absurd cc

of_none : {A P : Type 0} (o : Option A) → is_some o ≡ false → IfNone o P → P
of_none None e h = h
of_none (Some x) e h = absurd cc

above_one : (una ack top : ℕ) → (nat_lt una ack && nat_le ack top) ≡ true → 1 ≤ top
above_one una ack top h = grind (arith, nat_tests)

-- the SYN alone is acknowledged, if it is, and was sent
pub first_ack : (c : ConnectionView) (segment : Segment) → IfNone c.established (c.board.una ≤ 1) → failed_check_of c segment ≡ Some FirstAck
    → (c.board.una ≤ 1) × (1 ≤ c.board.top)
first_ack c segment known h =
    let r = handshake_rules _ (is_in_window c segment) segment.flags.rst _ segment.flags.ack (is_some c.established)
    (nat_lt c.board.una segment.ack && nat_le segment.ack c.board.top) _ _ h in
    (of_none c.established r.0 known, above_one c.board.una segment.ack c.board.top r.1)
