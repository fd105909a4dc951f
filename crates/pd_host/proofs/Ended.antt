-- The connections that an RST ends, and the range in which the numbers stay.
use Rattle.std.proofs.Common.{◌≡◌, ℕ, zero, suc, ◌&&◌, ◌||◌, nat_lt, not, List, [], ◌∷◌, Bool, true, false, if◌then◌else◌, Option, Some, None, Ok, Err, refl, sym, ap, subst, ◌∙◌, arith}
use Rattle.std.specs.Prelude.{is_some, IfSome}
use Rattle.pd_settings.specs.declared.settings.Settings.{Settings}
use Rattle.pd_seg.specs.declared.segments.Segment.{Segment}
use Rattle.pd_seg.specs.declared.segments.Sent.{Sent}
use Rattle.pd_host.specs.Arrivals.{has_in_window_fin_out_of_order, failed_check_if_outside_receive_window, exact_or_challenged_check_if_rst, failed_check_if_ack_flag_missing, first_or_refused_ack_check_in_handshake, failed_check_if_ack_above_top_or_below_una, first_failed_check, failed_check_of, passed_on, arrived_on}
use Rattle.pd_host.specs.Calls.{with_stream, with_fin}
use Rattle.pd_host.specs.ConnStates.{state_after_handshake, state_of, is_closed}
use Rattle.pd_host.specs.Connection.{ConnectionView}
use Rattle.pd_host.specs.Expiries.{due_by, deadline_of, expired}
use Rattle.pd_host.specs.Handshake.{length_of}
use Rattle.pd_host.specs.Invariants.{IsReached, BoardsAreLawful, CallsStayInRange, EndsForGood}
use Rattle.pd_host.specs.Sending.{repeated, on_found, places_left}
use Rattle.pd_host.specs.declared.connection.states.ConnState.{ConnState}
use Rattle.pd_host.specs.declared.connection.states.ConnState.TheVariants.{Closed}
use Rattle.pd_host.specs.declared.halts.Halt.TheVariants.{Limit}
use Rattle.pd_host.specs.declared.connection.segment_check.SegmentCheck.{SegmentCheck}
use Rattle.pd_host.specs.declared.connection.segment_check.SegmentCheck.TheVariants.{NotRun}
use Rattle.pd_host.specs.declared.descriptors.StreamState.TheVariants as stream_state
use Rattle.pd_host.proofs.CallsKept.{called_where}
use Rattle.pd_host.proofs.Growth.{calls_queue_what_they_ask}
use Rattle.pd_host.proofs.Kept.{by_test, nothing_found}
use Rattle.pd_host.proofs.Moments.{anything}
use Rattle.pd_host.proofs.Queued.{clash}
use Rattle.pd_host.proofs.Reached.{at_some}
use Rattle.pd_host.proofs.Rules.{deadline_on, Holds, KeptByCalls}

pub boards_are_lawful : BoardsAreLawful
boards_are_lawful now s c h is low =
    let k : IsReached s.settings now c = at_some (IsReached s.settings now) s.endpoint.connection c is h.connection in
    record {
      smss_low = k.board.smss_low;
      smss_high = k.board.smss_high;
      una_next = k.board.una_next;
      next_top = k.board.next_top;
      top_end = k.board.top_end;
      end_low = low;
      sacked_ascending = k.board.sacked_ascending;
      sacked_sent = k.board.sacked_sent;
    }

-- The range of the numbers

pub calls_stay_in_range : CallsStayInRange
calls_stay_in_range call now s t answer room came =
    omega (arith, room, calls_queue_what_they_ask call now s t answer came)

-- After an RST

not_run : (a b c closed : Bool) (checks : List (Option SegmentCheck)) → closed ≡ true
    → first_failed_check ((if a || (b || (c || closed)) then Some NotRun else None) ∷ checks) ≡ Some NotRun
not_run true b c closed checks e = refl
not_run false true c closed checks e = refl
not_run false false true closed checks e = refl
not_run false false false true checks e = refl
not_run false false false false checks e = absurd cc

reset_closes : (is_reset : Bool) (state : ConnState) → is_reset ≡ true → is_closed (if is_reset then Closed else state) ≡ true
reset_closes true state e = refl
reset_closes false state e = absurd cc

reset_rules : (c : ConnectionView) (segment : Segment) → c.is_reset ≡ true → failed_check_of c segment ≡ Some NotRun
reset_rules c segment e =
    not_run (nat_lt 0 (length_of segment)) segment.flags.syn (has_in_window_fin_out_of_order c segment) (is_closed (state_of c))
    (failed_check_if_outside_receive_window c segment ∷ exact_or_challenged_check_if_rst c segment ∷ failed_check_if_ack_flag_missing segment ∷ first_or_refused_ack_check_in_handshake c segment ∷ failed_check_if_ack_above_top_or_below_una c segment ∷ [])
    (reset_closes c.is_reset (state_after_handshake c c.established) e)

off : (x is_reset : Bool) → is_reset ≡ true → (x && not is_reset) ≡ false
off true true e = refl
off false true e = refl
off x false e = absurd cc

nothing_due : (until : ℕ) (o : Option ConnectionView) (c : ConnectionView) → o ≡ Some c → c.timer.deadline ≡ None → due_by until (deadline_on o) ≡ None
nothing_due until o c is e = ap (λ x. due_by until (deadline_on x)) is ∙ ap (due_by until) e

rests : {S X : Type 0} (find : S → Option X) (act : X → S → S) (n : ℕ) (s : S) → find s ≡ None → repeated find act n s ≡ Ok s
rests find act zero s e = ap (λ o. if is_some o then Err Limit else Ok s) e
rests find act (suc n) s e = ap (on_found (repeated find act n) act s) e

-- a connection that was reset sends nothing
module _ (now : ℕ) where
  resets : (b : Settings) → KeptByCalls now b (λ _. Unit {0}) (λ c. c.is_reset ≡ true) (λ _. ⊥)
  resets b = record {
    sending = record { ready = λ c never. never; sent = λ c segment never e. never };
    sent = λ c never. absurd never;
    accepted = λ c h e. h;
    nagle = λ on c h. h;
    queued = λ n c q h unclosed still. clash c.is_reset h still;
    finished = λ c q h unclosed still. clash c.is_reset h still;
    abandoned = λ c h unclosed was.
        by_test (λ (d : ConnectionView). (with_stream stream_state.Closed d).is_reset ≡ true) c.is_reset c (with_fin c) (λ _. h) (λ _. h);
  }

  reset_of_some : (o : Option ConnectionView) (c : ConnectionView) → o ≡ Some c → c.is_reset ≡ true → IfSome o (λ x. x.is_reset ≡ true)
  reset_of_some o c is e = subst (λ x. IfSome x (λ y. y.is_reset ≡ true)) (sym is) e

pub ends_for_good : EndsForGood
ends_for_good = record {
  arrivals = λ segment now s c is e.
      ap (arrived_on now segment s) is ∙ ap (passed_on now segment c s) (reset_rules c segment e);
  expiries = λ now until s c h is e.
      let k : IsReached s.settings now c = at_some (IsReached s.settings now) s.endpoint.connection c is h.connection in
      let none : c.timer.deadline ≡ None = nothing_found c.timer.deadline (k.runs ∙ off (nat_lt c.board.una c.board.top) c.is_reset e) in
      rests (λ t. due_by until (deadline_of t)) (λ at t. expired at t.endpoint.connection t) (places_left s) s
      (nothing_due until s.endpoint.connection c is none);
  calls = λ call now s t answer c d is after e came.
      let O : List Sent → Type 0 = λ packets. packets ≡ s.endpoint.outbox in
      let C : Settings → ConnectionView → Type 0 = λ b x. x.is_reset ≡ true in
      let k : Holds O C t =
      called_where now O C (λ b x. ⊥) (λ _. Unit {0}) (λ b x never. absurd never) (resets now) call s t answer (anything s.endpoint.connection)
      (record { packets = refl; connection = reset_of_some now s.endpoint.connection c is e }) came in
      (at_some (λ (x : ConnectionView). x.is_reset ≡ true) t.endpoint.connection d after k.connection, k.packets);
}
