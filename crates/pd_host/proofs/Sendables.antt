-- The segment that each rule finds, on a board in order.
use Rattle.std.proofs.Common.{◌≡◌, ℕ, ◌+◌, ◌-◌, ◌<◌, ◌≤◌, ◌&&◌, max, min, nat_lt, nat_le, Bool, true, false, if◌then◌else◌, Option, Some, None, refl, arith}
use Rattle.std.specs.Prelude.{option_map}
use Rattle.pd_seg.specs.declared.sack_spans.Span.{Span}
use Rattle.pd_board.specs.Retransmit.{run_at, next_lost, find_unsacked_octet_by_nextseg_rule_3, rescue, segment_to}
use Rattle.pd_board.specs.Loss.{is_unsacked}
use Rattle.pd_board.specs.Octets.{contains, greatest_where, after}
use Rattle.pd_board.specs.Board.{BoardView}
use Rattle.pd_recover.specs.declared.next_segment.NextSegment.{NextSegment}
use Rattle.pd_recover.specs.declared.next_segment.NextSegment.TheVariants.{Lost, New, Hole, Rescue}
use Rattle.pd_recover.specs.NextSeg.{lost_run, board_new_segment_at_top_if_whole_in_rwnd, hole_run, rescue_run, next_send, step_c_segment, limited_transmit_segment, has_room_for_segment}
use Rattle.pd_recover.specs.Cong.{CongView}
use Rattle.pd_recover.proofs.Chosen.{AllOf, one_of, either_of, map_of, allowed_of}
use Rattle.pd_recover.proofs.Found.{least, greatest}
use Rattle.pd_host.specs.AckEffects.{next_by}
use Rattle.pd_host.specs.Connection.{ConnectionView}
use Rattle.pd_host.specs.Invariants.{IsOrdered}
use Rattle.pd_host.specs.Sending.{retransmit_segment_at_next_if_in_windows, next_new_segment, may_leave_by_sws_and_nagle, unsent_octets_in_usable_window, una_plus_smaller_window}
use Rattle.pd_host.specs.Sending as sending
use Rattle.pd_host.specs.declared.established.Established.{Established}
use Rattle.pd_host.specs.declared.connection.ack_effects.WindowFill.{WindowFill}
use Rattle.pd_host.specs.declared.connection.ack_effects.WindowFill.TheVariants.{NextSeg, NewData}
use Rattle.pd_host.proofs.Runs.{run_within}
use Rattle.pd_host.proofs.AckedBelow.{first_of_two, lt, ge}

-- octets that were sent and aren't acknowledged
pub record IsAgain (s : BoardView) (segment : Span) : Type 0 where
  pub start : segment.start < s.top
  pub end : segment.end ≤ s.top
  pub outstanding : s.una < s.top

-- octets that are queued and weren't sent
pub record IsNew (s : BoardView) (segment : Span) : Type 0 where
  pub start : segment.start ≡ s.top
  pub some : segment.start < segment.end
  pub end : segment.end ≤ s.end

-- the sending place moves to the end of a segment
pub record CanLeave (s : BoardView) (segment : Span) : Type 0 where
  pub from : s.una ≤ segment.end
  pub to : segment.end ≤ s.end
  pub outstanding : s.una < max s.top segment.end
  pub some : s.top ≤ segment.start → segment.start < segment.end

pub new_leaves : (s : BoardView) (segment : Span) → IsOrdered s → IsNew s segment → CanLeave s segment
new_leaves s segment h n = record {
  from = omega (arith, h.una_next, h.next_top, n.start, n.some);
  to = n.end;
  outstanding = omega (arith, h.una_next, h.next_top, n.start, n.some);
  some = λ _. n.some;
}

-- loss recovery

abbrev pub IsNext : BoardView → NextSegment → Type 0
IsNext s (Lost segment) = IsAgain s segment
IsNext s (New segment) = IsNew s segment
IsNext s (Hole segment) = IsAgain s segment
IsNext s (Rescue segment) = IsAgain s segment

run_again : (s : BoardView) (x : ℕ) → s.una ≤ x → x < s.top → IsAgain s (run_at x s)
run_again s x from to = record {
  start = to;
  end = (run_within x s (omega (arith, to))).1;
  outstanding = omega (arith, from, to);
}

pub data_new : (rwnd : ℕ) (s : BoardView) → AllOf (IsNew s) (board_new_segment_at_top_if_whole_in_rwnd rwnd s)
data_new rwnd s =
    allowed_of (IsNew s) _ _ (λ passed.
    let some : s.top < s.top + min s.smss (s.end - s.top) = lt _ _ (first_of_two _ _ passed) in
    one_of (IsNew s) _ (record { start = refl; some = some; end = omega (arith, some) }))

after_below : (s : BoardView) (e : ℕ) (o : Option ℕ) → greatest_where (contains s.sacked) s.una e ≡ o → after o ≤ e
after_below s e None is = omega arith
after_below s e (Some g) is = let h = greatest (contains s.sacked) s.una e g is in omega (arith, h.to)

rescue_again : (s : BoardView) → 0 < s.smss → AllOf (IsAgain s) (rescue s)
rescue_again s some =
    map_of (IsAgain s) (segment_to s) (greatest_where (λ x. is_unsacked x s) s.una s.top) (λ e f.
    let h = greatest (λ x. is_unsacked x s) s.una s.top e f in
    record {
      start = omega (arith, h.from, h.to, some, after_below s e (greatest_where (contains s.sacked) s.una e) refl);
      end = omega (arith, h.to);
      outstanding = omega (arith, h.from, h.to);
    })

pub next_fits : (rwnd : ℕ) (s : BoardView) (w : CongView) → IsOrdered s → AllOf (IsNext s) (next_send rwnd s w)
next_fits rwnd s w known =
    either_of (IsNext s) (lost_run s w) _ (map_of (IsNext s) (λ x. Lost (run_at x s)) (next_lost w.high_rxt s) (λ x e. let h = least _ s.una s.top x e in run_again s x h.from h.to))
    (either_of (IsNext s) (option_map (λ segment. New segment) (board_new_segment_at_top_if_whole_in_rwnd rwnd s)) _ (map_of (IsNext s) (λ segment. New segment) (board_new_segment_at_top_if_whole_in_rwnd rwnd s) (data_new rwnd s))
    (either_of (IsNext s) (hole_run s w) (rescue_run s w) (map_of (IsNext s) (λ x. Hole (run_at x s)) (find_unsacked_octet_by_nextseg_rule_3 w.high_rxt s) (λ x e. let h = least _ s.una s.top x e in run_again s x h.from h.to))
    (allowed_of (IsNext s) _ _ (λ _. map_of (IsNext s) (λ segment. Rescue segment) (rescue s) (rescue_again s (omega (arith, known.smss_low)))))))

step_c_fits : (rwnd pipe : ℕ) (s : BoardView) (w : CongView) → IsOrdered s → AllOf (IsNext s) (step_c_segment rwnd pipe s w)
step_c_fits rwnd pipe s w known = allowed_of (IsNext s) (has_room_for_segment pipe s w) _ (λ _. next_fits rwnd s w known)

limited_new : (rwnd pipe : ℕ) (s : BoardView) (w : CongView) → AllOf (IsNew s) (limited_transmit_segment rwnd pipe s w)
limited_new rwnd pipe s w = allowed_of (IsNew s) (has_room_for_segment pipe s w) _ (λ _. data_new rwnd s)

pub filling_fits : (filling : WindowFill) (pipe : ℕ) (c : ConnectionView) (e : Established) → IsOrdered c.board → AllOf (IsNext c.board) (next_by filling pipe c e)
filling_fits NextSeg pipe c e known = step_c_fits e.rwnd pipe c.board e.congestion known
filling_fits NewData pipe c e known =
    map_of (IsNext c.board) (λ segment. New segment) (limited_transmit_segment e.rwnd pipe c.board e.congestion) (limited_new e.rwnd pipe c.board e.congestion)

-- ordinary sending

again_leaves : (c : ConnectionView) (e : Established) → IsOrdered c.board → c.board.next < c.board.top → AllOf (CanLeave c.board) (retransmit_segment_at_next_if_in_windows c e)
again_leaves c e h below =
    let run = run_within c.board.next c.board h.next_top in
    allowed_of (CanLeave c.board) (nat_le (run_at c.board.next c.board).end (una_plus_smaller_window c e)) _ (λ _. one_of (CanLeave c.board) _ (record {
      from = omega (arith, run.0, h.una_next);
      to = omega (arith, run.1, h.top_end);
      outstanding = omega (arith, h.una_next, below);
      some = λ no. absurd (omega (arith, no, below));
    }))

new_can_leave : (c : ConnectionView) (e : Established) → IsOrdered c.board → c.board.top ≤ c.board.next → AllOf (CanLeave c.board) (next_new_segment c e)
new_can_leave c e h above =
    allowed_of (CanLeave c.board) (nat_lt 0 (unsent_octets_in_usable_window c e) && may_leave_by_sws_and_nagle c e) _ (λ passed.
    let some : 0 < unsent_octets_in_usable_window c e = lt _ _ (first_of_two _ _ passed) in
    one_of (CanLeave c.board) _ (record {
      from = omega (arith, h.una_next);
      to = omega (arith, h.next_top, h.top_end);
      outstanding = omega (arith, h.una_next, above, some, h.smss_low);
      some = λ _. omega (arith, some, h.smss_low);
    }))

pub ordinary_leaves : (c : ConnectionView) (e : Established) → IsOrdered c.board → AllOf (CanLeave c.board) (sending.ordinary_segment c e)
ordinary_leaves c e h = by_place (nat_lt c.board.next c.board.top) refl
  where
    by_place : (b : Bool) → nat_lt c.board.next c.board.top ≡ b → AllOf (CanLeave c.board) (if b then retransmit_segment_at_next_if_in_windows c e else next_new_segment c e)
    by_place true t = again_leaves c e h (lt _ _ t)
    by_place false t = new_can_leave c e h (ge _ _ t)
