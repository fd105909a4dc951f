-- The invariant of a connection that the rules reach, through expiries and time that passes.
use Rattle.std.proofs.Common.{◌≡◌, ℕ, ◌<◌, ◌≤◌, ◌&&◌, max, nat_lt, not, Bool, true, false, Option, Some, refl, sym, ap, subst, ◌∙◌, arith}
use Rattle.std.specs.Prelude.{is_some}
use Rattle.std.proofs.lemmas.Option.{IfSome_then}
use Rattle.std.proofs.lemmas.Bool.Decides.{nat_tests}
use Rattle.pd_settings.specs.declared.settings.Settings.{Settings}
use Rattle.pd_board.specs.Board.{with_none_sacked}
use Rattle.pd_recover.specs.Laws.{StaysWithin}
use Rattle.pd_host.specs.Connection.{ConnectionView}
use Rattle.pd_host.specs.Expiries.{resent_by, first_again, expired_by}
use Rattle.pd_host.specs.Invariants.{IsEnding, IsOfPhase, IsInBounds, IsTimed, IsReached}
use Rattle.pd_host.specs.declared.established.Established.{Established}
use Rattle.pd_host.specs.declared.connection.rtt_segment.RttSegment.{RttSegment}
use Rattle.pd_host.proofs.Acked.{few}
use Rattle.pd_host.proofs.Boards.{unmarked_ordered, sent_ordered}
use Rattle.pd_host.proofs.Reached.{at_some, outstanding}
use Rattle.pd_host.proofs.Runs.{run_within}

-- where the timer runs, octets are outstanding, and no RST came

was_out : (una top : ℕ) (is_reset : Bool) → true ≡ (nat_lt una top && not is_reset) → (una < top) × (is_reset ≡ false)
was_out una top true e = absurd (elsewhere (nat_lt una top) e)
  where
    elsewhere : (x : Bool) → true ≡ (x && false) → ⊥
    elsewhere true e = cc
    elsewhere false e = cc
was_out una top false e = (grind (arith, nat_tests), refl)

module _ (b : Settings) where
  running : (now at : ℕ) (c : ConnectionView) → IsReached b now c → c.timer.deadline ≡ Some at → true ≡ (nat_lt c.board.una c.board.top && not c.is_reset)
  running now at c h e = sym (ap (λ (o : Option ℕ). is_some o) e) ∙ h.runs

  -- the SYN/ACK is sent again
  pub resent_reached : (now at : ℕ) (c : ConnectionView) → IsReached b now c → c.timer.deadline ≡ Some at → IsReached b at (resent_by at c)
  resent_reached now at c h e = record {
    agreed = h.agreed;
    board = h.board;
    room = h.room;
    phase = h.phase;
    fin = h.fin;
    bounds = h.bounds;
    runs = running now at c h e;
    rtt_segment = tt;
  }

  -- the segment at una is sent again
  pub expired_reached : (windows : StaysWithin) (now at : ℕ) (c : ConnectionView) (e : Established) → IsReached b now c → c.timer.deadline ≡ Some at
      → c.established ≡ Some e → IsReached b at (expired_by at e c)
  expired_reached windows now at c e h d is =
      let out = was_out c.board.una c.board.top c.is_reset (running now at c h d) in
      let run = run_within c.board.una (with_none_sacked c.board) (omega (arith, out.0)) in
      let k : IsInBounds b c.board.smss c.board.top c.max_window e = at_some (IsInBounds b c.board.smss c.board.top c.max_window) c.established e is h.bounds in
      record {
        agreed = h.agreed;
        board = sent_ordered (first_again c).end (with_none_sacked c.board) run.0 (omega (arith, run.1, h.board.top_end)) (unmarked_ordered c.board h.board);
        room = h.room;
        phase = subst (λ o. IsOfPhase o c.board.una c.board.top c.board.end) is h.phase;
        fin = subst (λ (o : Option Established). IsEnding c.fin o) is h.fin;
        bounds = record {
          windows = windows.expiry b.initial_ssthresh c.board.smss c.board.una c.board.top e.congestion h.board.smss_high (few b now c h) k.windows;
          max_window = k.max_window;
          recovery_point = omega arith;
          high_rxt = omega (arith, k.high_rxt);
          rescue_rxt = omega (arith, k.rescue_rxt);
        };
        runs = sym (outstanding c.board.una (max c.board.top (first_again c).end) c.is_reset (omega (arith, out.0)) out.1);
        rtt_segment = tt;
      }

  -- time passes
  later_timed : (now until una top : ℕ) (t : RttSegment) → now ≤ until → IsTimed now una top t → IsTimed until una top t
  later_timed now until una top t le h = record { some = h.some; waited = h.waited; sent = h.sent; past = omega (arith, h.past, le) }

  pub later_reached : (now until : ℕ) (c : ConnectionView) → now ≤ until → IsReached b now c → IsReached b until c
  later_reached now until c le h = record {
    agreed = h.agreed;
    board = h.board;
    room = h.room;
    phase = h.phase;
    fin = h.fin;
    bounds = h.bounds;
    runs = h.runs;
    rtt_segment = IfSome_then c.rtt_segment h.rtt_segment (λ t k. later_timed now until c.board.una c.board.top t le k);
  }
