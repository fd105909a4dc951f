-- Where no reason holds a segment back, ordinary sending finds one.
use Rattle.std.proofs.Common.{◌≡◌, ℕ, ◌+◌, ◌-◌, ◌≤◌, nat_lt, nat_le, min, not, Bool, true, false, ◌&&◌, ◌||◌, if◌then◌else◌, Some, None, is_some, refl, sym, ap, ◌∙◌, arith}
use Rattle.std.proofs.lemmas.Bool.Decides.{nat_tests}
use Rattle.pd_seg.specs.declared.sack_spans.Span.{Span}
use Rattle.pd_board.specs.Retransmit.{run_at}
use Rattle.pd_host.specs.Connection.{ConnectionView}
use Rattle.pd_host.specs.SendBlockers.{may_leave_by_sws_ignoring_nagle, new_segment_send_blocker, is_open, SendsWhereNothingBlocks}
use Rattle.pd_host.specs.Sending.{una_plus_smaller_window, unsent_octets_in_usable_window, unsent_segment, can_send_full_segment, is_unsent_within_usable_window, can_send_half_max_window, is_partial_held_by_nagle_unless_fin, may_leave_by_sws_and_nagle, next_new_segment, retransmit_segment_at_next_if_in_windows}
use Rattle.pd_host.specs.declared.established.Established.{Established}
use Rattle.pd_host.specs.declared.connection.introspection.SendBlocker.TheVariants.{AllSent, PeerWindow, CongestionWindow, PartOfSegment, Nagle, Open}
use Rattle.pd_host.proofs.Runs.{run_within}

-- the reasons by their tests
opens : (sent peer window again enough leaves : Bool)
    → is_open (if sent then AllSent else (if peer then PeerWindow else (if window then CongestionWindow else (if again then Open else (if not enough then PartOfSegment else (if leaves then Open else Nagle))))))
    ≡ (not sent && (not peer && (not window && (again || (enough && leaves)))))
opens true peer window again enough leaves = refl
opens false true window again enough leaves = refl
opens false false true again enough leaves = refl
opens false false false true enough leaves = refl
opens false false false false false leaves = refl
opens false false false false true true = refl
opens false false false false true false = refl

found_where : {A : Type 0} (b : Bool) (x : A) → is_some (if b then Some x else None) ≡ b
found_where true x = refl
found_where false x = refl

-- octets that were sent before
all_within : (una rwnd cwnd next top end last : ℕ) (rest : Bool) → nat_lt next top ≡ true → top ≤ end → 1 ≤ last
    → (not (nat_le end next) && (not (nat_le (una + rwnd) (last - 1)) && (not (nat_le (una + cwnd) (last - 1)) && (true || rest)))) ≡ nat_le last (una + min cwnd rwnd)
all_within una rwnd cwnd next top end last rest before queued some = grind (arith, nat_tests)

-- new octets
some_within : (una rwnd cwnd next end : ℕ)
    → (not (nat_le end next) && (not (nat_le (una + rwnd) next) && not (nat_le (una + cwnd) next))) ≡ nat_lt 0 (min (end - next) (una + min cwnd rwnd - next))
some_within una rwnd cwnd next end = grind (arith, nat_tests)

-- what leaves is enough
joined : (sent peer window enough all held : Bool)
    → (sent && (peer && (window && (false || ((enough || all) && (enough || (all && not held)))))))
    ≡ ((sent && (peer && window)) && (enough || (all && not held)))
joined false peer window enough all held = refl
joined true false window enough all held = refl
joined true true false enough all held = refl
joined true true true true all held = refl
joined true true true false true true = refl
joined true true true false true false = refl
joined true true true false false held = refl

abbrev Claim : ConnectionView → Established → Bool → Type 0
Claim c e again =
    let last_octet_needed_in_windows : ℕ = if again then (run_at c.board.next c.board).end - 1 else c.board.next in
    is_open (if nat_le c.board.end c.board.next then AllSent else (if nat_le (c.board.una + e.rwnd) last_octet_needed_in_windows then PeerWindow else (if nat_le (c.board.una + e.congestion.cwnd) last_octet_needed_in_windows then CongestionWindow else (if again then Open else new_segment_send_blocker c e))))
    ≡ is_some (if again then retransmit_segment_at_next_if_in_windows c e else next_new_segment c e)

by : (c : ConnectionView) (e : Established) → 1 ≤ c.board.next → c.board.next ≤ c.board.top → c.board.top ≤ c.board.end
    → (again : Bool) → nat_lt c.board.next c.board.top ≡ again → Claim c e again
by c e some sent queued true before =
    let segment : Span = run_at c.board.next c.board in
    let within = run_within c.board.next c.board sent in
    opens (nat_le c.board.end c.board.next) (nat_le (c.board.una + e.rwnd) (segment.end - 1)) (nat_le (c.board.una + e.congestion.cwnd) (segment.end - 1)) true (may_leave_by_sws_ignoring_nagle c e) (may_leave_by_sws_and_nagle c e)
    ∙ (all_within c.board.una e.rwnd e.congestion.cwnd c.board.next c.board.top c.board.end segment.end (may_leave_by_sws_ignoring_nagle c e && may_leave_by_sws_and_nagle c e) before queued (omega (arith, some, within.0))
    ∙ sym (found_where (nat_le segment.end (una_plus_smaller_window c e)) segment))
by c e some sent queued false before =
    opens (nat_le c.board.end c.board.next) (nat_le (c.board.una + e.rwnd) c.board.next) (nat_le (c.board.una + e.congestion.cwnd) c.board.next) false (may_leave_by_sws_ignoring_nagle c e) (may_leave_by_sws_and_nagle c e)
    ∙ (joined (not (nat_le c.board.end c.board.next)) (not (nat_le (c.board.una + e.rwnd) c.board.next)) (not (nat_le (c.board.una + e.congestion.cwnd) c.board.next)) (can_send_full_segment c e) (is_unsent_within_usable_window c e || can_send_half_max_window c e) (is_partial_held_by_nagle_unless_fin c e)
    ∙ (ap (λ b. b && may_leave_by_sws_and_nagle c e) (some_within c.board.una e.rwnd e.congestion.cwnd c.board.next c.board.end)
    ∙ sym (found_where (nat_lt 0 (unsent_octets_in_usable_window c e) && may_leave_by_sws_and_nagle c e) (unsent_segment c e))))

pub open_holds_send : SendsWhereNothingBlocks
open_holds_send c e some sent queued = by c e some sent queued (nat_lt c.board.next c.board.top) refl
