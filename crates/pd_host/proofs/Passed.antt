-- The facts that are known of a segment by the check that rules, or by none.
use Rattle.std.proofs.Common.{◌≡◌, refl, ◌≤◌, ◌&&◌, ◌||◌, Bool, true, false, if◌then◌else◌, nat_lt, nat_le, ◌∷◌, [], Option, None, Some}
use Rattle.std.specs.Prelude.{is_some}
use Rattle.pd_seg.specs.declared.segments.Segment.{Segment}
use Rattle.pd_host.specs.Arrivals.{first_failed_check, failed_check_of, is_in_window, has_in_window_fin_out_of_order}
use Rattle.pd_host.specs.ConnStates.{state_after_handshake, state_of, is_closed}
use Rattle.pd_host.specs.Connection.{ConnectionView}
use Rattle.pd_host.specs.Handshake.{length_of}
use Rattle.pd_host.specs.declared.connection.states.ConnState.{ConnState}
use Rattle.pd_host.specs.declared.connection.states.ConnState.TheVariants.{Closed}
use Rattle.pd_host.specs.declared.connection.segment_check.SegmentCheck.{SegmentCheck}
use Rattle.pd_host.specs.declared.connection.segment_check.SegmentCheck.TheVariants.{NotRun, StrayRst, OutsideWindow, ExactRst, ChallengedRst, WithoutAck, FirstAck, RefusedAck, EarlyAck, OldAck}
use Rattle.pd_host.proofs.Kept.{nothing_found}
use Rattle.pd_host.proofs.AckedBelow.{ge}

abbrev pub checks : (bad inside rst here flag shaken sent above below : Bool) → Option SegmentCheck
checks bad inside rst here flag shaken sent above below = first_failed_check (
    (if bad then Some NotRun else None)
    ∷ (if inside then None else Some (if rst then StrayRst else OutsideWindow))
    ∷ (if rst then Some (if here then ExactRst else ChallengedRst) else None)
    ∷ (if flag then None else Some WithoutAck)
    ∷ (if shaken then None else Some (if sent then FirstAck else RefusedAck))
    ∷ (if above then Some EarlyAck else if below then Some OldAck else None)
    ∷ [])

none_rules : (bad inside rst here flag shaken sent above below : Bool) → checks bad inside rst here flag shaken sent above below ≡ None
    → (bad ≡ false) × (above ≡ false) × (below ≡ false)
none_rules true inside rst here flag shaken sent above below h = absurd cc
none_rules false false true here flag shaken sent above below h = absurd cc
none_rules false false false here flag shaken sent above below h = absurd cc
none_rules false true true true flag shaken sent above below h = absurd cc
none_rules false true true false flag shaken sent above below h = absurd cc
none_rules false true false here false shaken sent above below h = absurd cc
none_rules false true false here true false true above below h = absurd cc
none_rules false true false here true false false above below h = absurd cc
none_rules false true false here true true sent true below h = absurd cc
none_rules false true false here true true sent false true h = absurd cc
none_rules false true false here true true sent false false h = (refl, refl, refl)

shakes : (bad inside rst here flag shaken sent above below : Bool) → checks bad inside rst here flag shaken sent above below ≡ Some FirstAck
    → (bad ≡ false) × (shaken ≡ false)
shakes true inside rst here flag shaken sent above below h = absurd cc
shakes false false true here flag shaken sent above below h = absurd cc
shakes false false false here flag shaken sent above below h = absurd cc
shakes false true true true flag shaken sent above below h = absurd cc
shakes false true true false flag shaken sent above below h = absurd cc
shakes false true false here false shaken sent above below h = absurd cc
shakes false true false here true false sent above below h = (refl, refl)
shakes false true false here true true sent true below h = absurd cc
shakes false true false here true true sent false true h = absurd cc
shakes false true false here true true sent false false h = absurd cc

last_of_four : (a b c d : Bool) → (a || (b || (c || d))) ≡ false → d ≡ false
last_of_four false false false d h = h
last_of_four true b c d h = absurd cc
last_of_four false true c d h = absurd cc
last_of_four false false true d h = absurd cc

-- a connection that isn't closed wasn't reset

not_first : (is_reset : Bool) (state : ConnState) → is_closed (if is_reset then Closed else state) ≡ false → is_reset ≡ false
not_first true state h = absurd cc
not_first false state h = refl

pub open_live : (c : ConnectionView) → is_closed (state_of c) ≡ false → c.is_reset ≡ false
open_live c h = not_first c.is_reset (state_after_handshake c c.established) h

-- a segment that passes comes before a reset, and acknowledges what was sent
pub record Passes (c : ConnectionView) (segment : Segment) : Type 0 where
  pub live : c.is_reset ≡ false
  pub from : c.board.una ≤ segment.ack
  pub to : segment.ack ≤ c.board.top

pub passes : (c : ConnectionView) (segment : Segment) → failed_check_of c segment ≡ None → Passes c segment
passes c segment h =
    let k = none_rules (nat_lt 0 (length_of segment) || (segment.flags.syn || (has_in_window_fin_out_of_order c segment || is_closed (state_of c)))) (is_in_window c segment) segment.flags.rst _ segment.flags.ack
    (is_some c.established) (nat_lt c.board.una segment.ack && nat_le segment.ack c.board.top)
    (nat_lt c.board.top segment.ack) (nat_lt segment.ack c.board.una) h in
    record {
      live = open_live c (last_of_four (nat_lt 0 (length_of segment)) segment.flags.syn (has_in_window_fin_out_of_order c segment) (is_closed (state_of c)) k.0);
      from = ge segment.ack c.board.una k.2;
      to = ge c.board.top segment.ack k.1;
    }

-- the first ACK comes before a reset, in the handshake
pub first_comes : (c : ConnectionView) (segment : Segment) → failed_check_of c segment ≡ Some FirstAck → (c.is_reset ≡ false) × (c.established ≡ None)
first_comes c segment h =
    let k = shakes (nat_lt 0 (length_of segment) || (segment.flags.syn || (has_in_window_fin_out_of_order c segment || is_closed (state_of c)))) (is_in_window c segment) segment.flags.rst _ segment.flags.ack
    (is_some c.established) (nat_lt c.board.una segment.ack && nat_le segment.ack c.board.top) _ _ h in
    (open_live c (last_of_four (nat_lt 0 (length_of segment)) segment.flags.syn (has_in_window_fin_out_of_order c segment) (is_closed (state_of c)) k.0), nothing_found c.established k.1)
