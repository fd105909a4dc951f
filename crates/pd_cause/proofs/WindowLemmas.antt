-- Where the reason that no packet was sent names a window, which octets lie beyond it, and which within.
use Rattle.std.proofs.Common.{◌≡◌, ◌≢◌, ℕ, ◌+◌, ◌<◌, ◌≤◌, ◌==◌, nat_lt, nat_le, min, not, Bool, true, false, ◌&&◌, ◌||◌, if◌then◌else◌, Option, Some, None, refl, subst, arith}
use Rattle.std.specs.Prelude.{⊤}
use Rattle.std.proofs.lemmas.Bool.Decides.{nat_tests}
use Rattle.pd_script.specs.declared.script_events.Action.{Action}
use Rattle.pd_host.specs.Connection.{ConnectionView}
use Rattle.pd_host.specs.SendBlockers.{last_octet_needed_in_windows, may_leave_by_sws_ignoring_nagle, new_segment_send_blocker, ordinary_send_blocker, blocker_in_recovery, established_send_blocker, blocker_by, blocker_on, blocker_in}
use Rattle.pd_host.specs.Sending.{usable_window, unsent_octets, can_send_full_segment, is_unsent_within_usable_window, can_send_half_max_window, may_leave_by_sws_and_nagle, with_next_past_sacked}
use Rattle.pd_host.specs.declared.established.Established.{Established}
use Rattle.pd_host.specs.declared.connection.introspection.SendBlocker.{SendBlocker}
use Rattle.pd_host.specs.declared.connection.introspection.SendBlocker.TheVariants.{Reset, NotEstablished, Acknowledged, PipeFull, NothingNext, Recovering, AllSent, PeerWindow, CongestionWindow, PartOfSegment, Nagle, Open}
use Rattle.pd_cause.specs.SenderSnapshots.{expects_no_sequence_space, reason_of}
use Rattle.pd_cause.specs.Windows.{IsWithin, HoldsByPeer, HoldsByCongestion, LeavesPart, NamedWindowsHold}
use Rattle.pd_cause.specs.declared.causes.not_sent_reason.NotSentReason.TheVariants.{NoOctets, Held}

-- the claim of a reason on a connection, where it names a window
abbrev Says : ConnectionView → Established → SendBlocker → Type 0
Says c e PeerWindow = HoldsByPeer c e
Says c e CongestionWindow = HoldsByCongestion c e
Says c e PartOfSegment = LeavesPart c e
Says c e _ = ⊤

-- a property of both branches is one of the choice
chosen : (P : SendBlocker → Type 0) (b : Bool) (x y : SendBlocker) → (b ≡ true → P x) → (b ≡ false → P y) → P (if b then x else y)
chosen P true x y then_x else_y = then_x refl
chosen P false x y then_x else_y = else_y refl

second : (b : Bool) (x y : ℕ) → b ≡ false → (if b then x else y) ≡ y
second true x y h = absurd cc
second false x y h = refl

neither : (a b c : Bool) → not (a || (b || c)) ≡ true → (a ≡ false) × (b ≡ false)
neither false false c h = (refl, refl)
neither false true c h = absurd cc
neither true b c h = absurd cc

beyond : (una window octet : ℕ) → nat_le (una + window) octet ≡ true → una + window ≤ octet
beyond una window octet h = grind (arith, nat_tests)

within : (una window octet : ℕ) → nat_le (una + window) octet ≡ false → octet < una + window
within una window octet h = grind (arith, nat_tests)

-- a segment isn't full, and not all that is queued can leave: the windows let fewer octets leave than both
fewer : (d u smss : ℕ) → nat_le smss (min d u) ≡ false → nat_le d u ≡ false → u < min d smss
fewer d u smss full all = grind (arith, nat_tests)

module _ (c : ConnectionView) (e : Established) where
  -- new octets begin at the sending place
  first_new : nat_lt c.board.next c.board.top ≡ false → last_octet_needed_in_windows c ≡ c.board.next
  first_new new = second (nat_lt c.board.next c.board.top) _ c.board.next new

  of_new : nat_le (c.board.una + e.rwnd) (last_octet_needed_in_windows c) ≡ false → nat_le (c.board.una + e.congestion.cwnd) (last_octet_needed_in_windows c) ≡ false
      → nat_lt c.board.next c.board.top ≡ false → Says c e (new_segment_send_blocker c e)
  of_new peer window new =
      chosen (Says c e) (not (may_leave_by_sws_ignoring_nagle c e)) PartOfSegment (if may_leave_by_sws_and_nagle c e then Open else Nagle) (λ few. part few)
      (λ _. chosen (Says c e) (may_leave_by_sws_and_nagle c e) Open Nagle (λ _. tt) (λ _. tt))
    where
      part : not (may_leave_by_sws_ignoring_nagle c e) ≡ true → LeavesPart c e
      part few =
          let tests = neither (can_send_full_segment c e) (is_unsent_within_usable_window c e) (can_send_half_max_window c e) few in (
            subst (λ (octet : ℕ). IsWithin c e.rwnd octet) (first_new new) (within c.board.una e.rwnd (last_octet_needed_in_windows c) peer),
            subst (λ (octet : ℕ). IsWithin c e.congestion.cwnd octet) (first_new new) (within c.board.una e.congestion.cwnd (last_octet_needed_in_windows c) window),
            fewer (unsent_octets c) (usable_window c e) c.board.smss tests.0 tests.1,
          )

  outside : Says c e (ordinary_send_blocker c e)
  outside =
      chosen (Says c e) (nat_le c.board.end c.board.next) AllSent _ (λ _. tt)
      (λ _. chosen (Says c e) (nat_le (c.board.una + e.rwnd) (last_octet_needed_in_windows c)) PeerWindow _ (λ peer. beyond c.board.una e.rwnd (last_octet_needed_in_windows c) peer)
      (λ peer. chosen (Says c e) (nat_le (c.board.una + e.congestion.cwnd) (last_octet_needed_in_windows c)) CongestionWindow _
      (λ window. (within c.board.una e.rwnd (last_octet_needed_in_windows c) peer, beyond c.board.una e.congestion.cwnd (last_octet_needed_in_windows c) window))
      (λ window. chosen (Says c e) (nat_lt c.board.next c.board.top) Open (new_segment_send_blocker c e) (λ _. tt) (λ new. of_new peer window new))))

  recovering : Says c e (blocker_in_recovery c e)
  recovering = one_of_three _ _
    where
      one_of_three : (room next : Bool) → Says c e (if not room then PipeFull else (if next then Recovering else NothingNext))
      one_of_three false next = tt
      one_of_three true false = tt
      one_of_three true true = tt

  since : Says c e (established_send_blocker c e)
  since =
      chosen (Says c e) (c.board.una == c.board.end) Acknowledged _ (λ _. tt)
      (λ _. chosen (Says c e) (c.sack && e.congestion.recovering) (blocker_in_recovery c e) (ordinary_send_blocker c e) (λ _. recovering) (λ _. outside))

-- The same of the sender

told_is : (b : Bool) (h send_blocker : SendBlocker) → (if b then NoOctets else Held h) ≡ Held send_blocker → h ≡ send_blocker
told_is true h send_blocker e = absurd cc
told_is false h send_blocker e = cc

-- the reason that is reported is what holds the sender back
reason_is : (expected : Action) (h send_blocker : SendBlocker) → reason_of expected h ≡ Held send_blocker → h ≡ send_blocker
reason_is expected Reset send_blocker e = cc
reason_is expected NotEstablished send_blocker e = cc
reason_is expected Acknowledged send_blocker e = told_is (expects_no_sequence_space expected) Acknowledged send_blocker e
reason_is expected PipeFull send_blocker e = told_is (expects_no_sequence_space expected) PipeFull send_blocker e
reason_is expected NothingNext send_blocker e = told_is (expects_no_sequence_space expected) NothingNext send_blocker e
reason_is expected Recovering send_blocker e = told_is (expects_no_sequence_space expected) Recovering send_blocker e
reason_is expected AllSent send_blocker e = told_is (expects_no_sequence_space expected) AllSent send_blocker e
reason_is expected PeerWindow send_blocker e = told_is (expects_no_sequence_space expected) PeerWindow send_blocker e
reason_is expected CongestionWindow send_blocker e = told_is (expects_no_sequence_space expected) CongestionWindow send_blocker e
reason_is expected PartOfSegment send_blocker e = told_is (expects_no_sequence_space expected) PartOfSegment send_blocker e
reason_is expected Nagle send_blocker e = told_is (expects_no_sequence_space expected) Nagle send_blocker e
reason_is expected Open send_blocker e = told_is (expects_no_sequence_space expected) Open send_blocker e

unreset : (b : Bool) (x send_blocker : SendBlocker) → Reset ≢ send_blocker → (if b then Reset else x) ≡ send_blocker → x ≡ send_blocker
unreset true x send_blocker is_reset h = absurd (is_reset h)
unreset false x send_blocker is_reset h = h

established : (c : ConnectionView) (o : Option Established) (send_blocker : SendBlocker) → NotEstablished ≢ send_blocker → blocker_by c o ≡ send_blocker
    → (e : Established) × (o ≡ Some e) × Says c e send_blocker
established c None send_blocker out h = absurd (out h)
established c (Some e) send_blocker out h = (e, refl, subst (λ (x : SendBlocker). Says c e x) h (since c e))

begun : (connection : Option ConnectionView) (send_blocker : SendBlocker) → Reset ≢ send_blocker → NotEstablished ≢ send_blocker → blocker_on connection ≡ send_blocker
    → (c : ConnectionView) × (e : Established) × (connection ≡ Some c) × (c.established ≡ Some e) × Says (with_next_past_sacked c) e send_blocker
begun None send_blocker is_reset out h = absurd (out h)
begun (Some c) send_blocker is_reset out h =
    let goes_on : blocker_by (with_next_past_sacked c) c.established ≡ send_blocker = unreset c.is_reset (blocker_by (with_next_past_sacked c) c.established) send_blocker is_reset h in
    let found = established (with_next_past_sacked c) c.established send_blocker out goes_on in
    (c, found.0, refl, found.1, found.2)

pub named_windows_hold_so : NamedWindowsHold
named_windows_hold_so = record {
  peer = λ expected s h. begun s.endpoint.connection PeerWindow (λ r. cc) (λ n. cc) (reason_is expected (blocker_in s) PeerWindow h);
  congestion = λ expected s h.
      begun s.endpoint.connection CongestionWindow (λ r. cc) (λ n. cc) (reason_is expected (blocker_in s) CongestionWindow h);
  part = λ expected s h. begun s.endpoint.connection PartOfSegment (λ r. cc) (λ n. cc) (reason_is expected (blocker_in s) PartOfSegment h);
}
