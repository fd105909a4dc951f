-- The invariant of a connection that the rules reach, through sending and congestion control.
use Rattle.std.proofs.Common.{◌≡◌, ℕ, ◌<◌, ◌≤◌, ◌&&◌, max, nat_lt, nat_le, not, Bool, true, false, Option, Some, None, refl, sym, subst, ◌∙◌, arith}
use Rattle.std.specs.Prelude.{is_some, IfSome}
use Rattle.std.proofs.lemmas.Option.{IfSome_then}
use Rattle.std.proofs.lemmas.Bool.Decides.{nat_tests}
use Rattle.pd_settings.specs.declared.settings.Settings.{Settings}
use Rattle.pd_seg.specs.declared.sack_spans.Span.{Span}
use Rattle.pd_timer.specs.Rto.{RtoView, started, restarted}
use Rattle.pd_recover.specs.NextSeg.{segment_of}
use Rattle.pd_recover.proofs.Windows.{restarted-within}
use Rattle.pd_recover.specs.Cong.{CongView, is_prr_recovering, entered_to, restarted as window_restarted}
use Rattle.pd_recover.specs.Laws.{IsWithin}
use Rattle.pd_recover.specs.declared.next_segment.NextSegment.{NextSegment}
use Rattle.pd_recover.specs.declared.next_segment.NextSegment.TheVariants.{Lost, New, Hole, Rescue}
use Rattle.pd_host.specs.AckEffects.{sent_as, fill_noted_by, fill_noted_on, entered_on}
use Rattle.pd_host.specs.Connection.{ConnectionView}
use Rattle.pd_host.specs.Invariants.{IsEnding, IsOfPhase, IsInBounds, IsTimed, IsReached}
use Rattle.pd_host.specs.Sending.{is_all_acked_and_idle_over_rto, restarted_in, restarted_if_idle, with_next_past_sacked, sent_on}
use Rattle.pd_host.specs.RttSegment.{overlaps, rtt_segment_by_karn_after_sending, timing_started}
use Rattle.pd_host.specs.declared.established.Established.{Established}
use Rattle.pd_host.specs.declared.connection.ack_effects.WindowFill.{WindowFill}
use Rattle.pd_host.specs.declared.connection.ack_effects.WindowFill.TheVariants.{NextSeg, NewData}
use Rattle.pd_host.specs.declared.connection.rtt_segment.RttSegment.{RttSegment}
use Rattle.pd_host.proofs.Boards.{sent_ordered, skipped_ordered}
use Rattle.pd_host.proofs.Kept.{by_test}
use Rattle.pd_host.proofs.Rules.{found_on, next_on, KeptBySending, first_run}
use Rattle.pd_host.proofs.Runs.{run_within}
use Rattle.pd_host.proofs.Sendables.{CanLeave, IsNext, new_leaves, filling_fits, ordinary_leaves}
use Rattle.pd_host.proofs.AckedBelow.{IsBelow, lt, le}

-- a connection that wasn't reset, while data is sent on it
pub record IsLive (b : Settings) (now : ℕ) (c : ConnectionView) : Type 0 where
  pub reached : IsReached b now c
  pub live : c.is_reset ≡ false

-- what holds of what an option has
pub at_some : {X : Type 0} (P : X → Type 0) (o : Option X) (x : X) → o ≡ Some x → IfSome o P → P x
at_some P o x e h = subst (λ p. IfSome p P) e h

pub phase_of : (o : Option Established) (e : Established) (una top end top' end' : ℕ) → o ≡ Some e → IsOfPhase o una top end → IsOfPhase o una top' end'
phase_of None e una top end top' end' is h = absurd cc
phase_of (Some e') e una top end top' end' is h = h

pub widened : (b : Settings) (smss top max_window top' widest' : ℕ) (e : Established) → top ≤ top' → max_window ≤ widest'
    → IsInBounds b smss top max_window e → IsInBounds b smss top' widest' e
widened b smss top max_window top' widest' e t w h = record {
  windows = h.windows;
  max_window = omega (arith, h.max_window, w);
  recovery_point = omega (arith, h.recovery_point, t);
  high_rxt = omega (arith, h.high_rxt, t);
  rescue_rxt = omega (arith, h.rescue_rxt, t);
}

-- the timer

pub started_runs : (now : ℕ) (t : RtoView) → is_some (started now t).deadline ≡ true
started_runs now t = by_test (λ (u : RtoView). is_some u.deadline ≡ true) (is_some t.deadline) t (restarted now t) (λ e. e) (λ _. refl)

pub outstanding : (una top : ℕ) (is_reset : Bool) → una < top → is_reset ≡ false → (nat_lt una top && not is_reset) ≡ true
outstanding una top true u e = absurd cc
outstanding una top false u e = grind (arith, nat_tests)

timed_longer : (now una top top' : ℕ) (t : RttSegment) → top ≤ top' → IsTimed now una top t → IsTimed now una top' t
timed_longer now una top top' t le h = record { some = h.some; waited = h.waited; sent = omega (arith, h.sent, le); past = h.past }

-- a segment of new octets is timed, and none that was sent before
timed_then : (now una top top' : ℕ) (segment : Span) (o : Option RttSegment) → una ≤ top → top ≤ top'
    → (top ≤ segment.start → (segment.start < segment.end) × (segment.end ≤ top'))
    → IfSome o (IsTimed now una top) → IfSome (rtt_segment_by_karn_after_sending now segment top o) (IsTimed now una top')
timed_then now una top top' segment None u t some h =
    by_test (λ (o : Option RttSegment). IfSome o (IsTimed now una top')) (nat_le top segment.start) _ None
    (λ e. let from : top ≤ segment.start = le _ _ e in
    record { some = (some from).0; waited = omega (arith, u, from, (some from).0); sent = (some from).1; past = omega arith }) (λ _. tt)
timed_then now una top top' segment (Some old) u t some h =
    by_test (λ (o : Option RttSegment). IfSome o (IsTimed now una top')) (overlaps old.segment segment) None (Some old)
    (λ _. tt) (λ _. timed_longer now una top top' old t h)

module _ (b : Settings) (now : ℕ) where
  -- the sending place moves past SACKed octets
  pub ready_reached : (c : ConnectionView) → IsReached b now c → IsReached b now (with_next_past_sacked c)
  ready_reached c h = record {
    agreed = h.agreed;
    board = skipped_ordered c.board h.board;
    room = h.room;
    phase = h.phase;
    fin = h.fin;
    bounds = h.bounds;
    runs = h.runs;
    rtt_segment = h.rtt_segment;
  }

  -- octets are sent again, from below top
  pub clocked_live : (c : ConnectionView) (segment : Span) → IsLive b now c → c.board.una < c.board.top → segment.start < c.board.top
      → IsLive b now (timing_started now segment c)
  clocked_live c segment h out below = record {
    reached = record {
      agreed = h.reached.agreed;
      board = h.reached.board;
      room = h.reached.room;
      phase = h.reached.phase;
      fin = h.reached.fin;
      bounds = h.reached.bounds;
      runs = started_runs now c.timer ∙ sym (outstanding c.board.una c.board.top c.is_reset out h.live);
      rtt_segment = timed_then now c.board.una c.board.top c.board.top segment c.rtt_segment (omega (arith, out)) (omega arith) (λ no. absurd (omega (arith, no, below))) h.reached.rtt_segment;
    };
    live = h.live;
  }

  -- a segment leaves, and the sending place moves to its end
  pub sent_live : (c : ConnectionView) (e : Established) (segment : Span) → IsLive b now c → c.established ≡ Some e → CanLeave c.board segment
      → IsLive b now (sent_on now segment c)
  sent_live c e segment h is l = record {
    reached = record {
      agreed = h.reached.agreed;
      board = sent_ordered segment.end c.board l.from l.to h.reached.board;
      room = h.reached.room;
      phase = phase_of c.established e c.board.una c.board.top c.board.end (max c.board.top segment.end) c.board.end is h.reached.phase;
      fin = h.reached.fin;
      bounds = IfSome_then c.established h.reached.bounds (λ x k. widened b c.board.smss c.board.top c.max_window (max c.board.top segment.end) c.max_window x (omega arith) (omega arith) k);
      runs = started_runs now c.timer ∙ sym (outstanding c.board.una (max c.board.top segment.end) c.is_reset l.outstanding h.live);
      rtt_segment =
          timed_then now c.board.una c.board.top (max c.board.top segment.end) segment c.rtt_segment
          (omega (arith, h.reached.board.una_next, h.reached.board.next_top)) (omega arith)
          (λ from. (l.some from, omega arith)) h.reached.rtt_segment;
    };
    live = h.live;
  }

  -- what ordinary sending finds is found on an established connection
  found_leaves : (c : ConnectionView) (segment : Span) (o : Option Established) → IsLive b now c → c.established ≡ o → found_on c o ≡ Some segment
      → IsLive b now (sent_on now segment c)
  found_leaves c segment None h is e = absurd cc
  found_leaves c segment (Some est) h is e = sent_live c est segment h is (ordinary_leaves c est h.reached.board segment e)

  -- congestion control changes, within its bounds
  pub congestion_live : (c : ConnectionView) (e : Established) (w : CongView) → IsLive b now c → c.established ≡ Some e
      → IsWithin c.board.smss b.initial_ssthresh w → IsBelow c.board.top w
      → IsLive b now (record c { established = Some (record e { congestion = w }) })
  congestion_live c e w h is within below = record {
    reached = record {
      agreed = h.reached.agreed;
      board = h.reached.board;
      room = h.reached.room;
      phase = subst (λ o. IsOfPhase o c.board.una c.board.top c.board.end) is h.reached.phase;
      fin = subst (λ (o : Option Established). IsEnding c.fin o) is h.reached.fin;
      bounds = record {
        windows = within;
        max_window = (at_some (IsInBounds b c.board.smss c.board.top c.max_window) c.established e is h.reached.bounds).max_window;
        recovery_point = below.recovery_point;
        high_rxt = below.high_rxt;
        rescue_rxt = below.rescue_rxt;
      };
      runs = h.reached.runs;
      rtt_segment = h.reached.rtt_segment;
    };
    live = h.live;
  }

  -- the window and the threshold stay, and what loss recovery names was sent
  renumbered : (c : ConnectionView) (e : Established) (w : CongView) → IsLive b now c → c.established ≡ Some e
      → w.cwnd ≡ e.congestion.cwnd → w.ssthresh ≡ e.congestion.ssthresh → w.recovering ≡ e.congestion.recovering
      → w.recovery_algorithm ≡ e.congestion.recovery_algorithm → IsBelow c.board.top w
      → IsLive b now (record c { established = Some (record e { congestion = w }) })
  renumbered c e w h is cwnd ssthresh recovering recovery_algorithm below =
      let k : IsInBounds b c.board.smss c.board.top c.max_window e = at_some (IsInBounds b c.board.smss c.board.top c.max_window) c.established e is h.reached.bounds in
      congestion_live c e w h is (record {
        cwnd_from = λ calm. let low = k.windows.cwnd_from (sym (λ i. is_prr_recovering (recovering i) (recovery_algorithm i)) ∙ calm) in omega (arith, low, cwnd);
        cwnd_to = omega (arith, k.windows.cwnd_to, cwnd);
        ssthresh_from = omega (arith, k.windows.ssthresh_from, ssthresh);
        ssthresh_to = omega (arith, k.windows.ssthresh_to, ssthresh);
        recovering = λ r. let low = k.windows.recovering (sym recovering ∙ r) in omega (arith, low, ssthresh);
      }) below

  pub numbers : (c : ConnectionView) (e : Established) → IsLive b now c → c.established ≡ Some e → IsBelow c.board.top e.congestion
  numbers c e h is =
      let k : IsInBounds b c.board.smss c.board.top c.max_window e = at_some (IsInBounds b c.board.smss c.board.top c.max_window) c.established e is h.reached.bounds in
      record { recovery_point = k.recovery_point; high_rxt = k.high_rxt; rescue_rxt = k.rescue_rxt }

  -- sending begins, after an idle time or without one
  restarted_live : (smss : ℕ) (idle : Bool) (c : ConnectionView) (o : Option Established) → smss ≡ c.board.smss → IsLive b now c → c.established ≡ o
      → IsLive b now (record c { established = restarted_in smss idle o })
  restarted_live smss idle c None same h is = subst (λ (o : Option Established). IsLive b now (record c { established = o })) is h
  restarted_live smss idle c (Some e) same h is =
      let k : IsInBounds b c.board.smss c.board.top c.max_window e = at_some (IsInBounds b c.board.smss c.board.top c.max_window) c.established e is h.reached.bounds in
      let below = numbers c e h is in
      congestion_live c e (window_restarted smss idle e.congestion) h is
      (subst (λ (n : ℕ). IsWithin n b.initial_ssthresh (window_restarted smss idle e.congestion)) same
      (restarted-within b.initial_ssthresh smss idle e.congestion
      (subst (λ (n : ℕ). n ≤ 65495) (sym same) h.reached.board.smss_high)
      (subst (λ (n : ℕ). IsWithin n b.initial_ssthresh e.congestion) (sym same) k.windows)))
      (record { recovery_point = below.recovery_point; high_rxt = below.high_rxt; rescue_rxt = below.rescue_rxt })

  begun_live : (c : ConnectionView) → IsLive b now c → IsLive b now (restarted_if_idle now c)
  begun_live c h = restarted_live c.board.smss (is_all_acked_and_idle_over_rto now c) c c.established refl h refl

  pub sending_live : KeptBySending now (IsLive b now)
  sending_live = record {
    ready = λ c h.
        let k = begun_live c h in
        record { reached = ready_reached (restarted_if_idle now c) k.reached; live = k.live };
    sent = λ c segment h e.
        let k = found_leaves c segment c.established h refl e in
        record { reached = ready_reached (sent_on now segment c) k.reached; live = k.live };
  }

  -- what congestion control notes of a segment
  noted_numbers : (filling : WindowFill) (sent : NextSegment) (top : ℕ) (w : CongView) → IsBelow top w → (segment_of sent).end ≤ top
      → IsBelow top (fill_noted_by filling sent w)
  noted_numbers NewData sent top w k to = record { recovery_point = k.recovery_point; high_rxt = k.high_rxt; rescue_rxt = k.rescue_rxt }
  noted_numbers NextSeg (New segment) top w k to = record { recovery_point = k.recovery_point; high_rxt = k.high_rxt; rescue_rxt = k.rescue_rxt }
  noted_numbers NextSeg (Lost segment) top w k to = record { recovery_point = k.recovery_point; high_rxt = to; rescue_rxt = k.rescue_rxt }
  noted_numbers NextSeg (Hole segment) top w k to = record { recovery_point = k.recovery_point; high_rxt = to; rescue_rxt = k.rescue_rxt }
  noted_numbers NextSeg (Rescue segment) top w k to =
      record { recovery_point = k.recovery_point; high_rxt = k.high_rxt; rescue_rxt = k.recovery_point }

  noted_windows : (filling : WindowFill) (sent : NextSegment) (w : CongView)
      → ((fill_noted_by filling sent w).cwnd ≡ w.cwnd) × ((fill_noted_by filling sent w).ssthresh ≡ w.ssthresh)
      × ((fill_noted_by filling sent w).recovering ≡ w.recovering) × ((fill_noted_by filling sent w).recovery_algorithm ≡ w.recovery_algorithm)
  noted_windows NewData sent w = (refl, refl, refl, refl)
  noted_windows NextSeg (New segment) w = (refl, refl, refl, refl)
  noted_windows NextSeg (Lost segment) w = (refl, refl, refl, refl)
  noted_windows NextSeg (Hole segment) w = (refl, refl, refl, refl)
  noted_windows NextSeg (Rescue segment) w = (refl, refl, refl, refl)

  noted_too : (filling : WindowFill) (sent : NextSegment) (c : ConnectionView) (e : Established) → IsLive b now c → c.established ≡ Some e
      → (segment_of sent).end ≤ c.board.top → IsLive b now (fill_noted_on filling sent c (Some e))
  noted_too filling sent c e h is to =
      let same = noted_windows filling sent e.congestion in
      renumbered c e (fill_noted_by filling sent e.congestion) h is same.0 same.1 same.2 same.3
      (noted_numbers filling sent c.board.top e.congestion (numbers c e h is) to)

  -- one segment that fills the room of the window
  noted_live : (filling : WindowFill) (c : ConnectionView) (e : Established) (sent : NextSegment) → IsLive b now c → c.established ≡ Some e
      → IsNext c.board sent → IsLive b now (fill_noted_on filling sent (sent_as now sent c) (Some e))
  noted_live filling c e (New segment) h is fits =
      noted_too filling (New segment) (sent_on now segment c) e
      (sent_live c e segment h is (new_leaves c.board segment h.reached.board fits)) is (omega arith)
  noted_live filling c e (Lost segment) h is fits =
      noted_too filling (Lost segment) (timing_started now segment c) e (clocked_live c segment h fits.outstanding fits.start) is fits.end
  noted_live filling c e (Hole segment) h is fits =
      noted_too filling (Hole segment) (timing_started now segment c) e (clocked_live c segment h fits.outstanding fits.start) is fits.end
  noted_live filling c e (Rescue segment) h is fits =
      noted_too filling (Rescue segment) (timing_started now segment c) e (clocked_live c segment h fits.outstanding fits.start) is fits.end

  pub filling_live : (filling : WindowFill) (pipe : ℕ) (c : ConnectionView) (sent : NextSegment) (o : Option Established) → IsLive b now c
      → c.established ≡ o → next_on filling pipe c o ≡ Some sent → IsLive b now (fill_noted_on filling sent (sent_as now sent c) o)
  filling_live filling pipe c sent None h is e = absurd cc
  filling_live filling pipe c sent (Some est) h is e =
      noted_live filling c est sent h is (filling_fits filling pipe c est h.reached.board sent e)

  -- entry
  pub entered_live : (segment : Span) (c : ConnectionView) (o : Option Established) → IsLive b now c → c.established ≡ o → segment.end ≤ c.board.top
      → IsLive b now (entered_on segment c o)
  entered_live segment c None h is to = h
  entered_live segment c (Some est) h is to =
      let k = numbers c est h is in
      let w : CongView = entered_to segment est.congestion in
      let below : IsBelow c.board.top w = record { recovery_point = k.recovery_point; high_rxt = to; rescue_rxt = to } in
      let bounds : IsInBounds b c.board.smss c.board.top c.max_window est = at_some (IsInBounds b c.board.smss c.board.top c.max_window) c.established est is h.reached.bounds in
      congestion_live c est w h is
      (record {
        cwnd_from = bounds.windows.cwnd_from;
        cwnd_to = bounds.windows.cwnd_to;
        ssthresh_from = bounds.windows.ssthresh_from;
        ssthresh_to = bounds.windows.ssthresh_to;
        recovering = bounds.windows.recovering;
      })
      (record { recovery_point = below.recovery_point; high_rxt = below.high_rxt; rescue_rxt = below.rescue_rxt })

  first_to : (c : ConnectionView) → IsLive b now c → (first_run c).end ≤ c.board.top
  first_to c h = (run_within c.board.una c.board (omega (arith, h.reached.board.una_next, h.reached.board.next_top))).1

  pub entry_live : (c : ConnectionView) → IsLive b now c → nat_lt (first_run c).start (first_run c).end ≡ true
      → IsLive b now (entered_on (first_run c) (timing_started now (first_run c) c) c.established)
  entry_live c h e =
      let to = first_to c h in
      let some : c.board.una < (first_run c).end = lt _ _ e in
      entered_live (first_run c) (timing_started now (first_run c) c) c.established
      (clocked_live c (first_run c) h (omega (arith, to, some)) (omega (arith, to, some))) refl to

  pub entry_alone_live : (c : ConnectionView) → IsLive b now c → IsLive b now (entered_on (first_run c) c c.established)
  entry_alone_live c h = entered_live (first_run c) c c.established h refl (first_to c h)
