-- The invariant of a connection that the rules reach, through the handshake and a reset.
use Rattle.std.proofs.Common.{◌≡◌, ℕ, ◌-◌, ◌≤◌, ◌==◌, ◌&&◌, max, nat_lt, nat_le, not, Bool, true, false, if◌then◌else◌, Option, Some, None, refl, sym, ap, subst, ◌∙◌, arith}
use Rattle.std.specs.Prelude.{unwrap_or, IfSome}
use Rattle.std.proofs.lemmas.Bool.Decides.{nat_tests}
use Rattle.pd_settings.specs.declared.settings.Settings.{Settings}
use Rattle.pd_seg.specs.declared.segments.Segment.{Segment}
use Rattle.pd_board.specs.Board.{acknowledged}
use Rattle.pd_timer.specs.Rto.{RtoView, stopped, reinitialized, sampled}
use Rattle.pd_recover.specs.Laws.{StaysWithin}
use Rattle.pd_host.specs.Arrivals.{failed_check_of, reset_of}
use Rattle.pd_host.specs.Calls.{stream_in}
use Rattle.pd_host.specs.Connection.{ConnectionView}
use Rattle.pd_host.specs.Handshake.{is_listening, is_syn_alone, length_of, offered_mss, is_peer_mss_supported, is_supported_syn_while_listening, smss_of, syn_options_of, connection_begun, scaled_window_in, new_established_parts, established_by, syn_acked}
use Rattle.pd_host.specs.Invariants.{IsOfPhase, IsTimed, IsReached}
use Rattle.pd_host.specs.RttSegment.{is_measured, measured, with_handshake_timer_ended}
use Rattle.pd_host.specs.declared.descriptors.ListenState.{ListenState}
use Rattle.pd_host.specs.declared.connection.segment_check.SegmentCheck.TheVariants.{FirstAck}
use Rattle.pd_host.specs.declared.connection.rtt_segment.RttSegment.{RttSegment}
use Rattle.pd_host.proofs.Acked.{nothing_out}
use Rattle.pd_host.proofs.Boards.{opened_ordered, acknowledged_ordered}
use Rattle.pd_host.proofs.Kept.{by_test}
use Rattle.pd_host.proofs.Passed.{first_comes}
use Rattle.pd_host.proofs.AckedBelow.{second_of_two, le}

mss_low : (o : Option ℕ) → is_peer_mss_supported o ≡ true → 64 ≤ unwrap_or o 536
mss_low None e = omega arith
mss_low (Some octets) e = le 64 octets e

opening_mss : (listener : ListenState) (segment : Segment) → is_supported_syn_while_listening listener segment ≡ true → is_peer_mss_supported (offered_mss segment.options) ≡ true
opening_mss listener segment e =
    second_of_two (length_of segment == 0) _
    (second_of_two (segment.start == 0) _ (second_of_two (is_syn_alone segment.flags) _ (second_of_two (is_listening listener) _ e)))

never : (x : Bool) → false ≡ (x && not true)
never true = refl
never false = refl

sooner : (end : ℕ) (top : ℕ) → nat_le end 1 ≡ false → end ≤ top → top ≡ 1 → ⊥
sooner end top e u t = grind (arith, nat_tests)

module _ (b : Settings) (now : ℕ) where
  -- the SYN begins the connection
  pub begun_reached : (listener : ListenState) (segment : Segment) → is_supported_syn_while_listening listener segment ≡ true → IsReached b now (connection_begun now b segment)
  begun_reached listener segment e =
      let low : 64 ≤ unwrap_or (offered_mss segment.options) 536 = mss_low (offered_mss segment.options) (opening_mss listener segment e) in
      record {
        agreed = record { mss = refl; no_longer = omega arith; window = refl };
        board = opened_ordered (smss_of b (syn_options_of segment.options)) (omega (arith, low, b.mss_in_range.0)) (omega (arith, b.mss_in_range.1));
        room = omega (arith, b.sndbuf_in_range.0);
        phase = (refl, refl, refl);
        fin = (λ no. absurd cc, λ no. absurd cc);
        bounds = tt;
        runs = refl;
        rtt_segment = record { some = omega arith; waited = omega arith; sent = omega arith; past = omega arith };
      }

  -- an RST ends it
  pub reset_reached : (c : ConnectionView) → IsReached b now c → IsReached b now (reset_of c)
  reset_reached c h = record {
    agreed = h.agreed;
    board = h.board;
    room = h.room;
    phase = h.phase;
    fin = h.fin;
    bounds = h.bounds;
    runs = never (nat_lt c.board.una c.board.top);
    rtt_segment = tt;
  }

  module _ (windows : StaysWithin) where
    -- our SYN is acknowledged, and the timer stops
    settled : (segment : Segment) (c : ConnectionView) (t : RtoView) (o : Option RttSegment) → IsReached b now c → c.is_reset ≡ false → c.established ≡ None
        → IfSome o (IsTimed now 1 c.board.top)
        → IsReached b now (record c {
          board = acknowledged 1 c.board;
          timer = stopped t;
          rtt_segment = o;
          max_window = max c.max_window (scaled_window_in c segment);
          established = Some (new_established_parts b segment c);
        })
    settled segment c t o h live is rtt_segment =
        let k : (c.board.una ≡ 0) × (c.board.top ≡ 1) × (c.board.end ≡ 1) = subst (λ x. IsOfPhase x c.board.una c.board.top c.board.end) is h.phase in
        record {
          agreed = h.agreed;
          board = acknowledged_ordered 1 c.board (omega (arith, k.0)) (omega (arith, k.1)) h.board;
          room = omega (arith, k.2);
          phase = omega arith;
          fin = (λ queued. ap stream_in (sym is) ∙ h.fin.0 queued, λ no. absurd cc);
          bounds = record {
            windows = windows.first b c.board.smss c.syn_ack_resent h.board.smss_high;
            max_window = omega arith;
            recovery_point = omega arith;
            high_rxt = omega arith;
            rescue_rxt = omega arith;
          };
          runs = nothing_out 1 c.board.top c.is_reset (omega (arith, k.1));
          rtt_segment = rtt_segment;
        }

    -- the same connection after its sample
    abbrev finished : Segment → ConnectionView → ConnectionView → ConnectionView
    finished segment c d = record (with_handshake_timer_ended d) { max_window = max c.max_window (scaled_window_in c segment); established = Some (new_established_parts b segment c) }

    sampled_first : (segment : Segment) (c : ConnectionView) (o : Option RttSegment) → IsReached b now c → c.is_reset ≡ false → c.established ≡ None → c.rtt_segment ≡ o
        → IfSome o (IsTimed now c.board.una c.board.top)
        → IsReached b now (finished segment c (measured now b.granularity_us 1 (syn_acked c) o))
    sampled_first segment c None h live is rtt_segment k =
        settled segment c (if c.syn_ack_resent then reinitialized c.timer else c.timer) c.rtt_segment h live is (subst (λ x. IfSome x (IsTimed now 1 c.board.top)) (sym rtt_segment) tt)
    sampled_first segment c (Some t) h live is rtt_segment k =
        let p : (c.board.una ≡ 0) × (c.board.top ≡ 1) × (c.board.end ≡ 1) = subst (λ x. IsOfPhase x c.board.una c.board.top c.board.end) is h.phase in
        by_test (λ (d : ConnectionView). IsReached b now (finished segment c d)) (is_measured 1 t) _ (syn_acked c)
        (λ _. settled segment c
        (if c.syn_ack_resent then reinitialized (sampled (now - t.sent_at) b.granularity_us c.timer) else sampled (now - t.sent_at) b.granularity_us c.timer)
        None h live is tt)
        (λ waits. absurd (sooner t.segment.end c.board.top waits k.sent p.1))

    pub established_reached : (segment : Segment) (c : ConnectionView) → IsReached b now c → failed_check_of c segment ≡ Some FirstAck
        → IsReached b now (established_by now b segment c)
    established_reached segment c h failed_check =
        let k = first_comes c segment failed_check in
        sampled_first segment c c.rtt_segment h k.0 k.1 refl h.rtt_segment
