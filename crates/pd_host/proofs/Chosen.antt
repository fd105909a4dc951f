-- Which segments are chosen, and where they lie.
use Rattle.std.proofs.Common.{◌≡◌, ℕ, ◌+◌, ◌-◌, ◌<◌, ◌≤◌, ◌&&◌, min, nat_lt, nat_le, Bool, true, false, if◌then◌else◌, Option, None, Some, refl, sym, subst, arith}
use Rattle.std.specs.Prelude.{unwrap_or, option_map}
use Rattle.std.proofs.lemmas.Bool.Decides.{nat_tests}
use Rattle.pd_board.specs.Retransmit.{run_at, most_from, next_lost, find_unsacked_octet_by_nextseg_rule_3, rescue, segment_to}
use Rattle.pd_board.specs.Loss.{is_unsacked}
use Rattle.pd_board.specs.Octets.{contains, least_where, greatest_where}
use Rattle.pd_board.specs.Board.{BoardView, IsBoardView}
use Rattle.pd_recover.specs.Acks.{new_segment_at_top_if_whole_in_rwnd as new_octets}
use Rattle.pd_recover.specs.NextSeg.{segment_of, has_room_for_segment, lost_run, board_new_segment_at_top_if_whole_in_rwnd, hole_run, rescue_run, next_send as next_seg, step_c_segment, limited_transmit_segment}
use Rattle.pd_recover.specs.Cong.{CongView}
use Rattle.pd_recover.specs.Laws.{IsSpared, SparesSacked}
use Rattle.pd_recover.specs.declared.next_segment.NextSegment.{NextSegment}
use Rattle.pd_recover.specs.declared.next_segment.NextSegment.TheVariants.{Lost, New, Hole, Rescue}
use Rattle.pd_recover.proofs.Chosen.{AllOf, one_of, either_of, map_of, allowed_of}
use Rattle.pd_recover.proofs.Found.{least, greatest}
use Rattle.pd_seg.specs.declared.sack_spans.Span.{Span}
use Rattle.pd_host.specs.AckEffects.{next_by}
use Rattle.pd_host.specs.Connection.{ConnectionView}
use Rattle.pd_host.specs.Sending.{una_plus_smaller_window, usable_window, unsent_octets, unsent_octets_in_usable_window, unsent_segment, may_leave_by_sws_and_nagle, next_new_segment, retransmit_segment_at_next_if_in_windows, ordinary_segment}
use Rattle.pd_host.specs.SendingLaws.{IsInPeersWindow}
use Rattle.pd_host.specs.declared.established.Established.{Established}
use Rattle.pd_host.specs.declared.connection.ack_effects.WindowFill.{WindowFill}
use Rattle.pd_host.specs.declared.connection.ack_effects.WindowFill.TheVariants.{NextSeg, NewData}

-- tests

pub first_of_two : (a b : Bool) → (a && b) ≡ true → a ≡ true
first_of_two true b h = refl
first_of_two false b h = h

pub second_of_two : (a b : Bool) → (a && b) ≡ true → b ≡ true
second_of_two true b h = h
second_of_two false b h = absurd (clash h)
  where
    clash : false ≡ true → ⊥
    clash e = cc

pub is_above : (a b : ℕ) → nat_lt a b ≡ true → a < b
is_above a b e = grind (arith, nat_tests)

at_most : (a b : ℕ) → nat_lt a b ≡ false → b ≤ a
at_most a b e = grind (arith, nat_tests)

pub is_within : (a b : ℕ) → nat_le a b ≡ true → a ≤ b
is_within a b e = grind (arith, nat_tests)

branch_of : {X : Type 0} (P : X → Type 0) (b : Bool) (o p : Option X) → (b ≡ true → AllOf P o) → (b ≡ false → AllOf P p) → AllOf P (if b then o else p)
branch_of P true o p first second = first refl
branch_of P false o p first second = second refl

-- Where what is sent again ends

pub run_end : (s : BoardView) (x : ℕ) → (run_at x s).end ≤ s.top
run_end s x = by (least_where (contains s.sacked) x (most_from x s)) refl
  where
    by : (o : Option ℕ) → least_where (contains s.sacked) x (most_from x s) ≡ o → unwrap_or o (most_from x s) ≤ s.top
    by None e = omega arith
    by (Some r) e = let h = least (contains s.sacked) x (most_from x s) r e in omega (arith, h.to)

rescue_end : (s : BoardView) → AllOf (λ (segment : Span). segment.end ≤ s.top) (rescue s)
rescue_end s =
    map_of (λ (segment : Span). segment.end ≤ s.top) (segment_to s) (greatest_where (λ x. is_unsacked x s) s.una s.top) (λ x e.
    let h = greatest (λ y. is_unsacked y s) s.una s.top x e in omega (arith, h.to))

-- what ends among octets that were sent has no others
sent_before : (s : BoardView) (rwnd : ℕ) (segment : Span) → segment.end ≤ s.top → IsInPeersWindow s rwnd segment
sent_before s rwnd segment le new = absurd (omega (arith, le, new))

-- Ordinary sending

-- the new segment that the windows let leave
new_end : (next left edge smss : ℕ) → 0 < min left (edge - next) → next + min (min left (edge - next)) smss ≤ edge
new_end next left edge smss some = omega (arith, some)

new_within : (c : ConnectionView) (e : Established) → AllOf (λ (segment : Span). (segment.start ≡ c.board.next) × (segment.end ≤ una_plus_smaller_window c e)) (next_new_segment c e)
new_within c e =
    let P : Span → Type 0 = λ segment. (segment.start ≡ c.board.next) × (segment.end ≤ una_plus_smaller_window c e) in
    allowed_of P (nat_lt 0 (unsent_octets_in_usable_window c e) && may_leave_by_sws_and_nagle c e) (Some (unsent_segment c e)) (λ t.
    one_of P (unsent_segment c e)
    (refl, new_end c.board.next (unsent_octets c) (una_plus_smaller_window c e) c.board.smss (is_above 0 (unsent_octets_in_usable_window c e) (first_of_two (nat_lt 0 (unsent_octets_in_usable_window c e)) (may_leave_by_sws_and_nagle c e) t))))

again_within : (c : ConnectionView) (e : Established) → AllOf (λ (segment : Span). (segment ≡ run_at c.board.next c.board) × (segment.end ≤ una_plus_smaller_window c e)) (retransmit_segment_at_next_if_in_windows c e)
again_within c e =
    let P : Span → Type 0 = λ segment. (segment ≡ run_at c.board.next c.board) × (segment.end ≤ una_plus_smaller_window c e) in
    let segment : Span = run_at c.board.next c.board in
    allowed_of P (nat_le segment.end (una_plus_smaller_window c e)) (Some segment) (λ t. one_of P segment (refl, is_within segment.end (una_plus_smaller_window c e) t))

-- nothing is chosen beyond the windows
pub chosen_within : (c : ConnectionView) (e : Established) → AllOf (λ (segment : Span). segment.end ≤ una_plus_smaller_window c e) (ordinary_segment c e)
chosen_within c e =
    branch_of (λ (segment : Span). segment.end ≤ una_plus_smaller_window c e) (nat_lt c.board.next c.board.top) (retransmit_segment_at_next_if_in_windows c e) (next_new_segment c e)
    (λ _ segment h. (again_within c e segment h).1) (λ _ segment h. (new_within c e segment h).1)

edge_within : (una cwnd rwnd : ℕ) → (una + min cwnd rwnd ≤ una + cwnd) × (una + min cwnd rwnd ≤ una + rwnd)
edge_within una cwnd rwnd = (omega arith, omega arith)

within_rwnd : (c : ConnectionView) (e : Established) → una_plus_smaller_window c e ≤ c.board.una + e.rwnd
within_rwnd c e = (edge_within c.board.una e.congestion.cwnd e.rwnd).1

le_both : (a b d : ℕ) → a ≤ b → b ≤ d → a ≤ d
le_both a b d h k = omega (arith, h, k)

pub in_window : (c : ConnectionView) (e : Established) (segment : Span) → segment.end ≤ una_plus_smaller_window c e → segment.end ≤ c.board.una + e.congestion.cwnd
in_window c e segment h =
    le_both segment.end (una_plus_smaller_window c e) (c.board.una + e.congestion.cwnd) h (edge_within c.board.una e.congestion.cwnd e.rwnd).0

pub ordinary_end : (c : ConnectionView) (e : Established) → AllOf (λ (segment : Span). segment.end ≤ c.board.una + e.rwnd) (ordinary_segment c e)
ordinary_end c e segment h =
    le_both segment.end (una_plus_smaller_window c e) (c.board.una + e.rwnd) (chosen_within c e segment h) (within_rwnd c e)

same_place : (a next top : ℕ) → a ≡ next → next ≤ top → top ≤ next → a ≡ top
same_place a next top e le ge = omega (arith, e, le, ge)

pub ordinary_flow : (c : ConnectionView) (e : Established) → c.board.next ≤ c.board.top → AllOf (IsInPeersWindow c.board e.rwnd) (ordinary_segment c e)
ordinary_flow c e order =
    branch_of (IsInPeersWindow c.board e.rwnd) (nat_lt c.board.next c.board.top) (retransmit_segment_at_next_if_in_windows c e) (next_new_segment c e)
    (λ _ segment h. sent_before c.board e.rwnd segment
    (subst (λ (x : Span). x.end ≤ c.board.top) (sym (again_within c e segment h).0) (run_end c.board c.board.next)))
    (λ t segment h _.
    let w = new_within c e segment h in (
      same_place segment.start c.board.next c.board.top w.0 order (at_most c.board.next c.board.top t),
      le_both segment.end (una_plus_smaller_window c e) (c.board.una + e.rwnd) w.1 (within_rwnd c e),
    ))

-- octets that weren't sent are queued
abbrev IsQueuedIfNew : BoardView → Span → Type 0
IsQueuedIfNew s segment = s.top ≤ segment.start → segment.start < segment.end → segment.end ≤ s.end

none_new : (start end top last : ℕ) → end ≤ top → top ≤ start → start < end → end ≤ last
none_new start end top last below above some = absurd (omega (arith, below, above, some))

unsent_end : (next end usable_window smss : ℕ) → next < next + min (min (end - next) usable_window) smss → next + min (min (end - next) usable_window) smss ≤ end
unsent_end next end usable_window smss some = omega (arith, some)

pub ordinary_queued : (c : ConnectionView) (e : Established) → AllOf (IsQueuedIfNew c.board) (ordinary_segment c e)
ordinary_queued c e =
    branch_of (IsQueuedIfNew c.board) (nat_lt c.board.next c.board.top) (retransmit_segment_at_next_if_in_windows c e) (next_new_segment c e)
    (λ _ segment h above some.
    none_new segment.start segment.end c.board.top c.board.end
    (subst (λ (x : Span). x.end ≤ c.board.top) (sym (again_within c e segment h).0) (run_end c.board c.board.next)) above some)
    (λ _.
    allowed_of (IsQueuedIfNew c.board) (nat_lt 0 (unsent_octets_in_usable_window c e) && may_leave_by_sws_and_nagle c e) (Some (unsent_segment c e)) (λ _.
    one_of (IsQueuedIfNew c.board) (unsent_segment c e) (λ _ some. unsent_end c.board.next c.board.end (usable_window c e) c.board.smss some)))

-- Loss recovery

queued_end : (top end smss : ℕ) → top < top + min smss (end - top) → top + min smss (end - top) ≤ end
queued_end top end smss some = omega (arith, some)

-- new octets begin at top, lie in the peer's window, and are queued
pub new_octets_flow : (smss una top end rwnd : ℕ) → AllOf (λ (segment : Span). (segment.start ≡ top) × (segment.end ≤ una + rwnd) × (segment.end ≤ end)) (new_octets smss una top end rwnd)
new_octets_flow smss una top end rwnd =
    let P : Span → Type 0 = λ segment. (segment.start ≡ top) × (segment.end ≤ una + rwnd) × (segment.end ≤ end) in
    let to : ℕ = top + min smss (end - top) in
    let segment : Span = record { start = top; end = to } in
    allowed_of P (nat_lt top to && nat_le to (una + rwnd)) (Some segment) (λ t.
    one_of P segment (
      refl,
      is_within to (una + rwnd) (second_of_two (nat_lt top to) (nat_le to (una + rwnd)) t),
      queued_end top end smss (is_above top to (first_of_two (nat_lt top to) (nat_le to (una + rwnd)) t)),
    ))

data_flow : (rwnd : ℕ) (s : BoardView) → AllOf (λ (segment : Span). (segment.start ≡ s.top) × (segment.end ≤ s.una + rwnd) × (segment.end ≤ s.end)) (board_new_segment_at_top_if_whole_in_rwnd rwnd s)
data_flow rwnd s = new_octets_flow s.smss s.una s.top s.end rwnd

-- where a segment stands that NextSeg gives: new octets at top, in the peer's window and queued, and others among those that
-- were sent
abbrev pub Stands : ℕ → BoardView → NextSegment → Type 0
Stands rwnd s (New segment) = (segment.start ≡ s.top) × (segment.end ≤ s.una + rwnd) × (segment.end ≤ s.end)
Stands rwnd s (Lost segment) = segment.end ≤ s.top
Stands rwnd s (Hole segment) = segment.end ≤ s.top
Stands rwnd s (Rescue segment) = segment.end ≤ s.top

recovery_stands : (rwnd : ℕ) (s : BoardView) (w : CongView) → AllOf (Stands rwnd s) (next_seg rwnd s w)
recovery_stands rwnd s w =
    let P : NextSegment → Type 0 = Stands rwnd s in
    either_of P (lost_run s w) _ (map_of P (λ x. Lost (run_at x s)) (next_lost w.high_rxt s) (λ x e. run_end s x))
    (either_of P (option_map (λ segment. New segment) (board_new_segment_at_top_if_whole_in_rwnd rwnd s)) _
    (map_of P (λ segment. New segment) (board_new_segment_at_top_if_whole_in_rwnd rwnd s) (data_flow rwnd s))
    (either_of P (hole_run s w) (rescue_run s w)
    (map_of P (λ x. Hole (run_at x s)) (find_unsacked_octet_by_nextseg_rule_3 w.high_rxt s) (λ x e. run_end s x))
    (allowed_of P _ _ (λ _. map_of P (λ segment. Rescue segment) (rescue s) (rescue_end s)))))

step_c_stands : (rwnd pipe : ℕ) (s : BoardView) (w : CongView) → AllOf (Stands rwnd s) (step_c_segment rwnd pipe s w)
step_c_stands rwnd pipe s w = allowed_of (Stands rwnd s) (has_room_for_segment pipe s w) (next_seg rwnd s w) (λ _. recovery_stands rwnd s w)

stands_in_window : (rwnd : ℕ) (s : BoardView) (sent : NextSegment) → Stands rwnd s sent → IsInPeersWindow s rwnd (segment_of sent)
stands_in_window rwnd s (New segment) h = λ _. (h.0, h.1)
stands_in_window rwnd s (Lost segment) h = sent_before s rwnd segment h
stands_in_window rwnd s (Hole segment) h = sent_before s rwnd segment h
stands_in_window rwnd s (Rescue segment) h = sent_before s rwnd segment h

limited_stands : (rwnd pipe : ℕ) (s : BoardView) (w : CongView) → AllOf (λ segment. Stands rwnd s (New segment)) (limited_transmit_segment rwnd pipe s w)
limited_stands rwnd pipe s w =
    allowed_of (λ segment. Stands rwnd s (New segment)) (has_room_for_segment pipe s w) (board_new_segment_at_top_if_whole_in_rwnd rwnd s) (λ _. data_flow rwnd s)

-- so stands what step C and limited transmit send
pub filling_stands : (filling : WindowFill) (pipe : ℕ) (c : ConnectionView) (e : Established) → AllOf (Stands e.rwnd c.board) (next_by filling pipe c e)
filling_stands NextSeg pipe c e = step_c_stands e.rwnd pipe c.board e.congestion
filling_stands NewData pipe c e =
    map_of (Stands e.rwnd c.board) (λ segment. New segment) (limited_transmit_segment e.rwnd pipe c.board e.congestion) (limited_stands e.rwnd pipe c.board e.congestion)

pub filling_flow : (filling : WindowFill) (pipe : ℕ) (c : ConnectionView) (e : Established)
    → AllOf (λ sent. IsInPeersWindow c.board e.rwnd (segment_of sent)) (next_by filling pipe c e)
filling_flow filling pipe c e sent h = stands_in_window e.rwnd c.board sent (filling_stands filling pipe c e sent h)

-- they have room for a full segment
pub filling_room : (filling : WindowFill) (pipe : ℕ) (c : ConnectionView) (e : Established)
    → AllOf (λ _. c.board.smss ≤ e.congestion.cwnd - pipe) (next_by filling pipe c e)
filling_room NextSeg pipe c e =
    allowed_of (λ _. c.board.smss ≤ e.congestion.cwnd - pipe) (has_room_for_segment pipe c.board e.congestion) (next_seg e.rwnd c.board e.congestion)
    (λ t _ _. is_within c.board.smss (e.congestion.cwnd - pipe) t)
filling_room NewData pipe c e =
    map_of (λ _. c.board.smss ≤ e.congestion.cwnd - pipe) (λ segment. New segment) (limited_transmit_segment e.rwnd pipe c.board e.congestion)
    (allowed_of (λ _. c.board.smss ≤ e.congestion.cwnd - pipe) (has_room_for_segment pipe c.board e.congestion) (board_new_segment_at_top_if_whole_in_rwnd e.rwnd c.board)
    (λ t _ _. is_within c.board.smss (e.congestion.cwnd - pipe) t))

-- Octets that are SACKed

sure : (b : Bool) → (b ≡ true → ⊥) → b ≡ false
sure true h = absurd (h refl)
sure false h = refl

too_high : (x start top : ℕ) → top ≤ start → start ≤ x → x < top → ⊥
too_high x start top h k l = omega (arith, h, k, l)

-- what lies above all that was sent isn't
above_spared : (s : BoardView) (segment : Span) → IsBoardView s → s.top ≤ segment.start → IsSpared s segment
above_spared s segment known above x from to =
    sure (contains s.sacked x) (λ t. too_high x segment.start s.top above from (known.sacked_sent x t).1)

pub ordinary_spared : SparesSacked → (c : ConnectionView) (e : Established) → IsBoardView c.board → AllOf (IsSpared c.board) (ordinary_segment c e)
ordinary_spared spares c e known =
    branch_of (IsSpared c.board) (nat_lt c.board.next c.board.top) (retransmit_segment_at_next_if_in_windows c e) (next_new_segment c e)
    (λ _ segment h. subst (IsSpared c.board) (sym (again_within c e segment h).0) (spares.again c.board c.board.next))
    (λ t segment h. above_spared c.board segment known
    (subst (λ (n : ℕ). c.board.top ≤ n) (sym (new_within c e segment h).0) (at_most c.board.next c.board.top t)))

step_c_spared : SparesSacked → (rwnd pipe : ℕ) (s : BoardView) (w : CongView) → IsBoardView s
    → AllOf (λ sent. IsSpared s (segment_of sent)) (step_c_segment rwnd pipe s w)
step_c_spared spares rwnd pipe s w known =
    allowed_of (λ sent. IsSpared s (segment_of sent)) (has_room_for_segment pipe s w) (next_seg rwnd s w) (λ _. spares.chosen rwnd s w known)

at_top : (start top : ℕ) → start ≡ top → top ≤ start
at_top start top e = omega (arith, e)

limited_spared : (rwnd pipe : ℕ) (s : BoardView) (w : CongView) → IsBoardView s → AllOf (IsSpared s) (limited_transmit_segment rwnd pipe s w)
limited_spared rwnd pipe s w known =
    allowed_of (IsSpared s) (has_room_for_segment pipe s w) (board_new_segment_at_top_if_whole_in_rwnd rwnd s)
    (λ _ segment e. above_spared s segment known (at_top segment.start s.top (data_flow rwnd s segment e).0))

pub filling_spared : SparesSacked → (filling : WindowFill) (pipe : ℕ) (c : ConnectionView) (e : Established) → IsBoardView c.board
    → AllOf (λ sent. IsSpared c.board (segment_of sent)) (next_by filling pipe c e)
filling_spared spares NextSeg pipe c e known = step_c_spared spares e.rwnd pipe c.board e.congestion known
filling_spared spares NewData pipe c e known =
    map_of (λ sent. IsSpared c.board (segment_of sent)) (λ segment. New segment) (limited_transmit_segment e.rwnd pipe c.board e.congestion)
    (limited_spared e.rwnd pipe c.board e.congestion known)
