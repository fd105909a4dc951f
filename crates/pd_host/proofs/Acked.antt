-- The invariant of a connection that the rules reach, through an ACK.
use Rattle.std.proofs.Common.{◌≡◌, ℕ, ◌+◌, ◌-◌, ◌^◌, ◌<◌, ◌≤◌, ◌==◌, ◌&&◌, nat_lt, nat_le, not, Bool, true, false, if◌then◌else◌, Option, Some, None, refl, sym, subst, arith}
use Rattle.std.specs.Prelude.{is_some, IfSome}
use Rattle.std.proofs.lemmas.Option.{IfSome_then}
use Rattle.std.proofs.lemmas.Bool.Decides.{nat_tests}
use Rattle.pd_settings.specs.declared.settings.Settings.{Settings}
use Rattle.pd_seg.specs.declared.sack_spans.Span.{Span}
use Rattle.pd_seg.specs.declared.segments.Segment.{Segment}
use Rattle.pd_board.specs.Board.{BoardView, acknowledged}
use Rattle.pd_board.specs.Loss.{pipe}
use Rattle.pd_timer.specs.Rto.{RtoView, stopped, restarted, sampled}
use Rattle.pd_recover.specs.Acks.{IsNamed, acked}
use Rattle.pd_recover.specs.Cong.{CongView}
use Rattle.pd_recover.specs.Laws.{IsWithin, StaysWithin}
use Rattle.pd_recover.specs.declared.ack.Ack.{Ack}
use Rattle.pd_recover.specs.declared.ack.Delivery.{Delivery}
use Rattle.pd_recover.specs.declared.ack_action.AckAction.{AckAction}
use Rattle.pd_recover.specs.declared.ack_action.AckAction.TheVariants.{Ordinary, StepC, Entry, LimitedTransmit, NewSegment, FastRetransmit, Nothing}
use Rattle.pd_host.specs.AckEffects.{newly_acked, with_number, blocks_of, with_blocks_marked, blocks_marked, with_blocks, with_timing, can_update_window, with_new_window, with_ack, ack_of_segment, taking, delivery, cwnd_after, congestion_updated}
use Rattle.pd_host.specs.Arrivals.{failed_check_of}
use Rattle.pd_host.specs.Connection.{ConnectionView}
use Rattle.pd_host.specs.Handshake.{before_eol}
use Rattle.pd_host.specs.Invariants.{IsEnding, IsOrdered, IsOfPhase, IsInBounds, IsTimed, IsReached, fin_octets}
use Rattle.pd_host.specs.Sending.{sent_on}
use Rattle.pd_host.specs.RttSegment.{is_measured, timing_started, measured, with_timer_updated}
use Rattle.pd_host.specs.declared.established.Established.{Established}
use Rattle.pd_host.specs.declared.connection.rtt_segment.RttSegment.{RttSegment}
use Rattle.pd_recover.proofs.Windows.{with_prr_cwnd-within}
use Rattle.pd_host.proofs.Boards.{HasNumbersOf, acknowledged_ordered, blocks_keep}
use Rattle.pd_host.proofs.Kept.{by_test}
use Rattle.pd_host.proofs.Passed.{Passes, passes}
use Rattle.pd_host.proofs.Reached.{IsLive, at_some, clocked_live, sent_live, congestion_live, numbers}
use Rattle.pd_host.proofs.Sendables.{new_leaves}
use Rattle.pd_host.proofs.AckedBelow.{acked_leads, ge}

-- a board of these numbers
pub bounds_at : (b : Settings) (smss top smss' top' max_window : ℕ) (e : Established) → smss' ≡ smss → top' ≡ top
    → IsInBounds b smss top max_window e → IsInBounds b smss' top' max_window e
bounds_at b smss top smss' top' max_window e s t h =
    subst (λ x. IsInBounds b smss' x max_window e) (sym t) (subst (λ x. IsInBounds b x top max_window e) (sym s) h)

phase_up : (o : Option Established) (e : Established) (una una' top top' end end' : ℕ) → o ≡ Some e → una ≤ una'
    → IsOfPhase o una top end → IsOfPhase o una' top' end'
phase_up None e una una' top top' end end' is le h = absurd cc
phase_up (Some e') e una una' top top' end end' is le h = omega (arith, h, le)

-- the timer of an ACK of new octets
pub nothing_out : (una top : ℕ) (is_reset : Bool) → top ≤ una → false ≡ (nat_lt una top && not is_reset)
nothing_out una top is_reset le = grind (arith, nat_tests)

all_out : (una top : ℕ) (is_reset : Bool) → (una == top) ≡ true → false ≡ (nat_lt una top && not is_reset)
all_out una top is_reset e = let same : una ≡ top = grind (arith, nat_tests) in nothing_out una top is_reset (omega (arith, same))

some_out : (una top : ℕ) (is_reset : Bool) → (una == top) ≡ false → una ≤ top → is_reset ≡ false → true ≡ (nat_lt una top && not is_reset)
some_out una top true e le live = absurd cc
some_out una top false e le live = grind (arith, nat_tests)

not_measured : (una end : ℕ) → nat_le end una ≡ false → una < end
not_measured una end e = grind (arith, nat_tests)

none_new : (n una una' : ℕ) → nat_lt 0 n ≡ false → n ≡ una' - una → una ≤ una' → una' ≡ una
none_new n una una' e is le = let zero : n ≤ 0 = ge 0 n e in omega (arith, zero, is, le)

fin_small : (fin : Bool) → fin_octets fin ≤ 1
fin_small true = omega arith
fin_small false = omega arith

-- a connection with what it has since its establishment
abbrev whole : ConnectionView × Established → ConnectionView
whole p = record p.0 { established = Some p.1 }

module _ (b : Settings) (now : ℕ) where
  -- the board has moved up
  record IsUp (c : ConnectionView) (s : BoardView) : Type 0 where
    ordered : IsOrdered s
    smss : s.smss ≡ c.board.smss
    top : s.top ≡ c.board.top
    end : s.end ≡ c.board.end
    una : c.board.una ≤ s.una

  -- a live connection, and what it has since its establishment
  record IsOn (e : Established) (c : ConnectionView) : Type 0 where
    live : IsLive b now c
    is : c.established ≡ Some e

  rebuilt : (c : ConnectionView) (e : Established) (s : BoardView) (t : RtoView) (o : Option RttSegment) → IsLive b now c → c.established ≡ Some e → IsUp c s
      → is_some t.deadline ≡ (nat_lt s.una s.top && not c.is_reset) → IfSome o (IsTimed now s.una s.top)
      → IsOn e (record c { board = s; timer = t; rtt_segment = o })
  rebuilt c e s t o h is up runs rtt_segment = record {
    live = record {
      reached = record {
        agreed = record {
          mss = h.reached.agreed.mss;
          no_longer = omega (arith, h.reached.agreed.no_longer, up.smss);
          window = h.reached.agreed.window;
        };
        board = up.ordered;
        room = omega (arith, h.reached.room, up.end, up.una);
        phase = phase_up c.established e c.board.una s.una c.board.top s.top c.board.end s.end is up.una h.reached.phase;
        fin = h.reached.fin;
        bounds = IfSome_then c.established h.reached.bounds (λ x k. bounds_at b c.board.smss c.board.top s.smss s.top c.max_window x up.smss up.top k);
        runs = runs;
        rtt_segment = rtt_segment;
      };
      live = h.live;
    };
    is = is;
  }

  moved_on : (c : ConnectionView) (e : Established) (s : BoardView) (t : RtoView) (o : Option RttSegment) → IsLive b now c → c.established ≡ Some e → IsUp c s
      → IfSome o (IsTimed now s.una s.top) → IsOn e (with_timer_updated now (record c { board = s; timer = t; rtt_segment = o }))
  moved_on c e s t o h is up rtt_segment =
      rebuilt c e s (if s.una == s.top then stopped t else restarted now t) o h is up
      (by_test (λ (u : RtoView). is_some u.deadline ≡ (nat_lt s.una s.top && not c.is_reset)) (s.una == s.top) (stopped t) (restarted now t)
      (λ all. all_out s.una s.top c.is_reset all)
      (λ out. some_out s.una s.top c.is_reset out (omega (arith, up.ordered.una_next, up.ordered.next_top)) h.live)) rtt_segment

  -- what is still timed
  still_timed : (una una' top top' : ℕ) (o : Option RttSegment) (t : RttSegment) → o ≡ Some t → top' ≡ top → una' < t.segment.end
      → IfSome o (IsTimed now una top) → IfSome o (IsTimed now una' top')
  still_timed una una' top top' None t e same above h = absurd cc
  still_timed una una' top top' (Some x) t e same above h =
      let eq : x ≡ t = cc in
      record { some = h.some; waited = subst (λ (y : RttSegment). una' < y.segment.end) (sym eq) above; sent = omega (arith, h.sent, same); past = h.past }

  none_timed : (una una' top top' : ℕ) (o : Option RttSegment) → o ≡ None → IfSome o (IsTimed now una top) → IfSome o (IsTimed now una' top')
  none_timed una una' top top' None e h = tt
  none_timed una una' top top' (Some x) e h = absurd cc

  sampled_on : (c : ConnectionView) (e : Established) (s : BoardView) (granularity : ℕ) (o : Option RttSegment) → IsLive b now c → c.established ≡ Some e → IsUp c s
      → c.rtt_segment ≡ o → IsOn e (with_timer_updated now (measured now granularity s.una (record c { board = s }) o))
  sampled_on c e s granularity None h is up rtt_segment =
      moved_on c e s c.timer c.rtt_segment h is up (none_timed c.board.una s.una c.board.top s.top c.rtt_segment rtt_segment h.reached.rtt_segment)
  sampled_on c e s granularity (Some t) h is up rtt_segment =
      by_test (λ (d : ConnectionView). IsOn e (with_timer_updated now d)) (is_measured s.una t) _ (record c { board = s })
      (λ _. moved_on c e s (sampled (now - t.sent_at) granularity c.timer) None h is up tt)
      (λ waits. moved_on c e s c.timer c.rtt_segment h is up
      (still_timed c.board.una s.una c.board.top s.top c.rtt_segment t rtt_segment up.top (not_measured s.una t.segment.end waits) h.reached.rtt_segment))

  same_timed : (una una' top top' : ℕ) (o : Option RttSegment) → una' ≡ una → top' ≡ top → IfSome o (IsTimed now una top) → IfSome o (IsTimed now una' top')
  same_timed una una' top top' o u t h = subst (λ x. IfSome o (IsTimed now una' x)) (sym t) (subst (λ x. IfSome o (IsTimed now x top)) (sym u) h)

  same_runs : (una una' top top' : ℕ) (is_reset runs : Bool) → una' ≡ una → top' ≡ top → runs ≡ (nat_lt una top && not is_reset) → runs ≡ (nat_lt una' top' && not is_reset)
  same_runs una una' top top' is_reset runs u t h = subst (λ x. runs ≡ (nat_lt una' x && not is_reset)) (sym t) (subst (λ x. runs ≡ (nat_lt x top && not is_reset)) (sym u) h)

  timing_on : (c : ConnectionView) (e : Established) (s : BoardView) (granularity n : ℕ) → IsLive b now c → c.established ≡ Some e → IsUp c s
      → n ≡ s.una - c.board.una → IsOn e (with_timing now granularity n (record c { board = s }))
  timing_on c e s granularity n h is up count =
      by_test (IsOn e) (nat_lt 0 n) _ (record c { board = s })
      (λ _. sampled_on c e s granularity c.rtt_segment h is up refl)
      (λ none. let same : s.una ≡ c.board.una = none_new n c.board.una s.una none count up.una in
      rebuilt c e s c.timer c.rtt_segment h is up
      (same_runs c.board.una s.una c.board.top s.top c.is_reset (is_some c.timer.deadline) same up.top h.reached.runs)
      (same_timed c.board.una s.una c.board.top s.top c.rtt_segment same up.top h.reached.rtt_segment))

  -- the window
  window_live : (c : ConnectionView) (e : Established) (segment : Segment) → IsOn e c → IsLive b now (whole (with_new_window segment e c))
  window_live c e segment h =
      by_test (λ (p : ConnectionView × Established). IsLive b now (whole p)) (can_update_window e segment) _ (c, e)
      (λ _.
      let k : IsInBounds b c.board.smss c.board.top c.max_window e = at_some (IsInBounds b c.board.smss c.board.top c.max_window) c.established e h.is h.live.reached.bounds in
      record {
        reached = record {
          agreed = h.live.reached.agreed;
          board = h.live.reached.board;
          room = h.live.reached.room;
          phase = subst (λ o. IsOfPhase o c.board.una c.board.top c.board.end) h.is h.live.reached.phase;
          fin = subst (λ (o : Option Established). IsEnding c.fin o) h.is h.live.reached.fin;
          bounds = record {
            windows = k.windows;
            max_window = omega arith;
            recovery_point = k.recovery_point;
            high_rxt = k.high_rxt;
            rescue_rxt = k.rescue_rxt;
          };
          runs = h.live.reached.runs;
          rtt_segment = h.live.reached.rtt_segment;
        };
        live = h.live.live;
      })
      (λ _. subst (λ o. IsLive b now (record c { established = o })) h.is h.live)

  -- the number and the blocks
  scored_keeps : (segment : Segment) (c : ConnectionView) → IsOrdered c.board → HasNumbersOf c.board (blocks_marked segment c).0
  scored_keeps segment c h =
      let same : HasNumbersOf c.board c.board = record { smss = refl; una = refl; top = refl; end = refl; ordered = h } in
      by_test (λ (t : BoardView × Bool). HasNumbersOf c.board t.0) c.sack (with_blocks_marked (blocks_of (before_eol segment.options)) (c.board, false)) (c.board, false)
      (λ _. blocks_keep c.board (blocks_of (before_eol segment.options)) (c.board, false) same) (λ _. same)

  with_ack_live : (segment : Segment) (c : ConnectionView) (e : Established) → IsReached b now c → Passes c segment → c.established ≡ Some e
      → IsLive b now (whole (with_ack now segment e c).0)
  with_ack_live segment c e h passed is =
      let s : BoardView = (blocks_marked segment (with_number segment c)).0 in
      let k : HasNumbersOf (acknowledged segment.ack c.board) s =
      scored_keeps segment (with_number segment c) (acknowledged_ordered segment.ack c.board passed.from passed.to h.board) in
      let up : IsUp c s = record { ordered = k.ordered; smss = k.smss; top = k.top; end = k.end; una = omega (arith, k.una, passed.from) } in
      let count : newly_acked c segment ≡ s.una - c.board.una = omega (arith, k.una) in
      window_live (with_timing now e.granularity_us (newly_acked c segment) (with_blocks segment (with_number segment c))) e segment
      (timing_on c e s e.granularity_us (newly_acked c segment) (record { reached = h; live = passed.live }) is up count)

  pub few : (c : ConnectionView) → IsReached b now c → c.board.top - c.board.una ≤ 2 ^ 20 + 1
  few c h = omega (arith, h.room, h.board.top_end, b.sndbuf_in_range.1, fin_small c.fin)

  module _ (windows : StaysWithin) where
    sent_above : (c : ConnectionView) → IsReached b now c → c.board.una ≤ c.board.top
    sent_above c h = omega (arith, h.board.una_next, h.board.next_top)

    some_segment : (c : ConnectionView) → IsReached b now c → 0 < c.board.smss
    some_segment c h = omega (arith, h.board.smss_low)

    -- the window that an ACK in recovery sets
    window-within : (initial : ℕ) (next : AckAction) (c : ConnectionView) (w : CongView) → IsWithin c.board.smss initial w
        → IsWithin c.board.smss initial (record w { cwnd = cwnd_after next c w })
    window-within initial StepC c w h = with_prr_cwnd-within initial c.board.smss (pipe w.high_rxt c.board) w h
    window-within initial Ordinary c w h = h
    window-within initial Entry c w h = with_prr_cwnd-within initial c.board.smss (pipe w.high_rxt c.board) w h
    window-within initial LimitedTransmit c w h = h
    window-within initial (NewSegment segment) c w h = h
    window-within initial (FastRetransmit segment) c w h = h
    window-within initial Nothing c w h = h

    -- an answer to an ACK
    module _ (segment : Segment) (n : ℕ) (delivered : Delivery) (fresh : Bool) (rwnd : ℕ) (d : ConnectionView) (e : Established) (h : IsLive b now (whole (d, e))) where
      abbrev ack : Ack
      ack = ack_of_segment segment n delivered fresh rwnd e d

      answered_live : IsLive b now (congestion_updated d e ack).0
      answered_live =
          let c : ConnectionView = whole (d, e) in
          let step : CongView × AckAction = acked ack e.congestion in
          let below = (acked_leads ack (some_segment c h.reached) (sent_above c h.reached) e.congestion (numbers b now c e h refl)).below in
          congestion_live b now c e (record step.0 { cwnd = cwnd_after step.1 d step.0 }) h refl
          (window-within b.initial_ssthresh step.1 d step.0
          (windows.ack b.initial_ssthresh ack e.congestion h.reached.board.smss_high (few c h.reached) h.reached.bounds.windows))
          (record { recovery_point = below.recovery_point; high_rxt = below.high_rxt; rescue_rxt = below.rescue_rxt })

      named : IsNamed ack (congestion_updated d e ack).1
      named =
          let c : ConnectionView = whole (d, e) in
          (acked_leads ack (some_segment c h.reached) (sent_above c h.reached) e.congestion (numbers b now c e h refl)).named

      new_live : (new : Span) → (congestion_updated d e ack).1 ≡ NewSegment new → IsLive b now (sent_on now new (congestion_updated d e ack).0)
      new_live new x =
          let k : IsNamed ack (NewSegment new) = subst (IsNamed ack) x named in
          sent_live b now (congestion_updated d e ack).0 _ new answered_live refl
          (new_leaves d.board new h.reached.board (record { start = k.0; some = k.1; end = k.2 }))

      again_live : (first : Span) → (congestion_updated d e ack).1 ≡ FastRetransmit first → IsLive b now (timing_started now first (congestion_updated d e ack).0)
      again_live first x =
          let k : IsNamed ack (FastRetransmit first) = subst (IsNamed ack) x named in
          clocked_live b now (congestion_updated d e ack).0 first answered_live (omega (arith, k.0, k.1, k.2)) (omega (arith, k.1, k.2))

    -- a segment that passed all checks
    pub taking_live : (segment : Segment) (c : ConnectionView) (o : Option Established) → IsReached b now c → failed_check_of c segment ≡ None → c.established ≡ o
        → IsLive b now (taking now segment c o).0
    taking_live segment c None h passed is = record { reached = h; live = (passes c segment passed).live }
    taking_live segment c (Some e) h passed is =
        let after : (ConnectionView × Established) × Bool = with_ack now segment e c in
        answered_live segment (newly_acked c segment) (delivery (newly_acked c segment) c.board after.0.0.board) after.1 e.rwnd after.0.0 after.0.1
        (with_ack_live segment c e h (passes c segment passed) is)

    pub taking_new : (segment : Segment) (c : ConnectionView) (new : Span) (o : Option Established) → IsReached b now c → failed_check_of c segment ≡ None → c.established ≡ o
        → (taking now segment c o).1 ≡ NewSegment new → IsLive b now (sent_on now new (taking now segment c o).0)
    taking_new segment c new None h passed is x = absurd cc
    taking_new segment c new (Some e) h passed is x =
        let after : (ConnectionView × Established) × Bool = with_ack now segment e c in
        new_live segment (newly_acked c segment) (delivery (newly_acked c segment) c.board after.0.0.board) after.1 e.rwnd after.0.0 after.0.1
        (with_ack_live segment c e h (passes c segment passed) is) new x

    pub taking_again : (segment : Segment) (c : ConnectionView) (first : Span) (o : Option Established) → IsReached b now c → failed_check_of c segment ≡ None → c.established ≡ o
        → (taking now segment c o).1 ≡ FastRetransmit first → IsLive b now (timing_started now first (taking now segment c o).0)
    taking_again segment c first None h passed is x = absurd cc
    taking_again segment c first (Some e) h passed is x =
        let after : (ConnectionView × Established) × Bool = with_ack now segment e c in
        again_live segment (newly_acked c segment) (delivery (newly_acked c segment) c.board after.0.0.board) after.1 e.rwnd after.0.0 after.0.1
        (with_ack_live segment c e h (passes c segment passed) is) first x
