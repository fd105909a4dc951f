-- Recovery by PRR puts out sndcnt octets at most at each ACK, and at an entry the segment at una.
use Rattle.std.proofs.Common.{◌≡◌, ◌⊎◌, inl, inr, ℕ, ◌+◌, ◌-◌, ◌<◌, ◌≤◌, max, nat_lt, Bool, true, false, List, [], ◌∷◌, ◌++◌, Option, Some, None, Ok, refl, sym, subst, ap, ◌∙◌, append_assoc, append-nil, arith}
use Rattle.pd_seg.specs.declared.sack_spans.Span.{Span}
use Rattle.pd_seg.specs.declared.segments.Segment.{Segment}
use Rattle.pd_seg.specs.declared.segments.Sent.{Sent}
use Rattle.pd_seg.specs.declared.send_rule.SendRule.TheVariants.{SackFastRetransmit}
use Rattle.pd_board.specs.Board.{BoardView}
use Rattle.pd_board.specs.Retransmit.{run_at}
use Rattle.pd_board.specs.Loss.{pipe}
use Rattle.pd_board.proofs.Lost.{pipe_again}
use Rattle.pd_recover.specs.Acks.{acked}
use Rattle.pd_recover.specs.Cong.{CongView, is_prr_recovering, sndcnt}
use Rattle.pd_recover.specs.Laws.{forces, SendsInProportion, CountsRecovery, SparesSacked}
use Rattle.pd_recover.specs.declared.ack.Ack.{Ack}
use Rattle.pd_recover.specs.declared.ack_action.AckAction.{AckAction}
use Rattle.pd_recover.specs.declared.ack_action.AckAction.TheVariants.{StepC, Entry}
use Rattle.pd_host.specs.AckEffects.{cwnd_after, octets_of, pipe_of, filled, push_data_segment_to_outbox, entered_on, entry, after_ack_action, ack_of_segment, newly_acked, delivery, with_ack, taking, ack_taken}
use Rattle.pd_host.specs.Connection.{ConnectionView}
use Rattle.pd_host.specs.Packets.{data_of}
use Rattle.pd_host.specs.OutboxLimit.{has_place}
use Rattle.pd_host.specs.Sending.{value_on, with_begun_connection, with_segment}
use Rattle.pd_host.specs.SendingLaws.{end_with_fin, octets_in, cwnd_in, reducing_in, out_in, sndcnt_in, forces_in, LetsOut, RecoversInProportion}
use Rattle.pd_host.specs.RttSegment.{timing_started}
use Rattle.pd_host.specs.declared.established.Established.{Established}
use Rattle.pd_host.specs.declared.connection.ack_effects.WindowFill.TheVariants.{NextSeg}
use Rattle.pd_host.specs.declared.endpoint.SenderState.{SenderState}
use Rattle.pd_host.proofs.Chosen.{run_end}
use Rattle.pd_host.proofs.InWindow.{packet_ends}
use Rattle.pd_host.proofs.Outcomes.{Leaves, came, leaves_too, then_leaves, either}
use Rattle.pd_host.proofs.WindowRoom.{FillsOut, filled_out, fills_out, sent_out}

-- beside the pipe the window leaves sndcnt octets at most, where recovery goes on by PRR
abbrev IsPaced : Option ConnectionView → Type 0
IsPaced connection = reducing_in connection ≡ true → cwnd_in connection - pipe_of connection ≤ sndcnt_in connection

-- Sums

split_octets : (a b : List Sent) → octets_in (a ++ b) ≡ octets_in a + octets_in b
split_octets [] b = omega arith
split_octets (p ∷ a) b =
    let h : octets_in (a ++ b) ≡ octets_in a + octets_in b = split_octets a b in
    omega (arith, h)

within : (octets room most : ℕ) → octets ≤ room → room ≤ most → octets ≤ most
within octets room most a b = omega (arith, a, b)

grown : (after before room most : ℕ) → after ≤ before + room → room ≤ most → after ≤ before + most
grown after before room most a b = omega (arith, a, b)

-- the first segment and those after it, where the pipe has grown by the first
first_and_more : (one more first pipe window pipe' window' sndcnt : ℕ) → one ≤ first → more ≤ window' - pipe' → pipe + first ≤ pipe'
    → window' ≡ window → window - pipe ≤ sndcnt → one + more ≤ max sndcnt first
first_and_more one more first pipe window pipe' window' sndcnt a b c e d = omega (arith, a, b, c, e, d)

first_and_more_out : (after between before first pipe window pipe' window' sndcnt : ℕ) → between ≤ before + first → after ≤ between + (window' - pipe')
    → pipe + first ≤ pipe' → window' ≡ window → window - pipe ≤ sndcnt → after ≤ before + max sndcnt first
first_and_more_out after between before first pipe window pipe' window' sndcnt a b c e d = omega (arith, a, b, c, e, d)

one_packet : (end start last : ℕ) → end ≤ last → end - start + 0 ≤ last - start
one_packet end start last h = omega (arith, h)

-- The segment that an entry sends

-- it was put out, where it has octets, and counts as sent and as on the way
record IsEntered (first : ℕ) (s u : SenderState) : Type 0 where
  packets : List Sent
  octets : octets_in packets ≤ first
  out : out_in u.endpoint.connection ≤ out_in s.endpoint.connection + first
  pipe : pipe_of s.endpoint.connection + first ≤ pipe_of u.endpoint.connection
  window : cwnd_in u.endpoint.connection ≡ cwnd_in s.endpoint.connection
  outbox : u.endpoint.outbox ≡ s.endpoint.outbox ++ packets

-- the same of the connection alone
record IsAfter (first : ℕ) (c d : ConnectionView) : Type 0 where
  out : out_in (Some d) ≤ out_in (Some c) + first
  pipe : pipe_of (Some c) + first ≤ pipe_of (Some d)
  window : cwnd_in (Some d) ≡ cwnd_in (Some c)

module _ (spares : SparesSacked) (now : ℕ) (c : ConnectionView) (e : Established) (is : c.established ≡ Some e)
    (begins : e.congestion.high_rxt ≡ c.board.una) where
  abbrev first : Span
  first = run_at c.board.una c.board

  more_on_the_way : pipe c.board.una c.board + octets_of first ≤ pipe first.end c.board
  more_on_the_way = pipe_again c.board first.end (λ y l u. spares.again c.board c.board.una y l u) (run_end c.board c.board.una)

  entered_after : (x : ConnectionView) → x.board ≡ c.board → IsAfter (octets_of first) c (entered_on first x (Some e))
  entered_after x same =
      let before : out_in (Some c) ≡ e.congestion.prr.prr_out = ap (value_on 0 (λ _ y. y.congestion.prr.prr_out) c) is in
      let counted = sent_out e.congestion.recovery_algorithm (octets_of first) e.congestion.prr in
      let on_the_way : pipe_of (Some c) ≡ pipe c.board.una c.board =
      ap (value_on 0 (λ d y. pipe y.congestion.high_rxt d.board) c) is ∙ ap (λ (n : ℕ). pipe n c.board) begins in
      let then : pipe_of (Some (entered_on first x (Some e))) ≡ pipe first.end c.board = ap (pipe first.end) same in
      let k = more_on_the_way in
      record {
        out = omega (arith, before, counted);
        pipe = omega (arith, on_the_way, then, k);
        window = sym (ap (value_on 0 (λ _ y. y.congestion.cwnd) c) is);
      }

  after : (x : ConnectionView) → x.board ≡ c.board → IsAfter (octets_of first) c (entered_on first x c.established)
  after x same = subst (λ (o : Option Established). IsAfter (octets_of first) c (entered_on first x o)) (sym is) (entered_after x same)

  entry_enters : (s : SenderState) → s.endpoint.connection ≡ Some c → Leaves (IsEntered (octets_of first) s) (entry now c s)
  entry_enters s has =
      either (IsEntered (octets_of first) s) (nat_lt first.start first.end) _ _
      (either (IsEntered (octets_of first) s) (has_place s.endpoint.outbox) _ _ (put (after (timing_started now first c) refl)) tt)
      (moved (after c refl))
    where
      packet : Sent
      packet = record { segment = data_of c first; at = now; rule = SackFastRetransmit }

      out_from : (d : ConnectionView) → out_in (Some d) ≤ out_in (Some c) + octets_of first → out_in (Some d) ≤ out_in s.endpoint.connection + octets_of first
      out_from d h = subst (λ (o : Option ConnectionView). out_in (Some d) ≤ out_in o + octets_of first) (sym has) h

      pipe_from : (d : ConnectionView) → pipe_of (Some c) + octets_of first ≤ pipe_of (Some d) → pipe_of s.endpoint.connection + octets_of first ≤ pipe_of (Some d)
      pipe_from d h = subst (λ (o : Option ConnectionView). pipe_of o + octets_of first ≤ pipe_of (Some d)) (sym has) h

      put : IsAfter (octets_of first) c (entered_on first (timing_started now first c) c.established)
          → Leaves (IsEntered (octets_of first) s) (Ok (with_segment now SackFastRetransmit first c (entered_on first (timing_started now first c) c.established) s))
      put h = record {
        packets = packet ∷ [];
        octets = one_packet (end_with_fin packet.segment) first.start first.end (packet_ends c first);
        out = out_from (entered_on first (timing_started now first c) c.established) h.out;
        pipe = pipe_from (entered_on first (timing_started now first c) c.established) h.pipe;
        window = h.window ∙ sym (ap cwnd_in has);
        outbox = refl;
      }

      moved : IsAfter (octets_of first) c (entered_on first c c.established)
          → Leaves (IsEntered (octets_of first) s) (Ok (with_begun_connection (entered_on first c c.established) s))
      moved h = record {
        packets = [];
        octets = omega arith;
        out = out_from (entered_on first c c.established) h.out;
        pipe = pipe_from (entered_on first c c.established) h.pipe;
        window = h.window ∙ sym (ap cwnd_in has);
        outbox = sym (append-nil s.endpoint.outbox);
      }

-- The window is set before anything is sent

module _ (laws : SendsInProportion) where
  paced_by : (next : AckAction) (c : ConnectionView) (w : CongView) → (next ≡ StepC) ⊎ (next ≡ Entry) → is_prr_recovering w.recovering w.recovery_algorithm ≡ true
      → cwnd_after next c w - pipe w.high_rxt c.board ≤ sndcnt c.board.smss (pipe w.high_rxt c.board) w
  paced_by next c w (inl step) prr_recovering =
      subst (λ (n : AckAction). cwnd_after n c w - pipe w.high_rxt c.board ≤ sndcnt c.board.smss (pipe w.high_rxt c.board) w) (sym step)
      (laws.window c.board.smss (pipe w.high_rxt c.board) w prr_recovering)
  paced_by next c w (inr step) prr_recovering =
      subst (λ (n : AckAction). cwnd_after n c w - pipe w.high_rxt c.board ≤ sndcnt c.board.smss (pipe w.high_rxt c.board) w) (sym step)
      (laws.window c.board.smss (pipe w.high_rxt c.board) w prr_recovering)

  taking_paced : (now : ℕ) (segment : Segment) (c : ConnectionView) (o : Option Established)
      → ((taking now segment c o).1 ≡ StepC) ⊎ ((taking now segment c o).1 ≡ Entry) → IsPaced (Some (taking now segment c o).0)
  taking_paced now segment c None (inl step) = absurd cc
  taking_paced now segment c None (inr step) = absurd cc
  taking_paced now segment c (Some e) step =
      let after : (ConnectionView × Established) × Bool = with_ack now segment e c in
      let n : ℕ = newly_acked c segment in
      let ack : Ack = ack_of_segment segment n (delivery n c.board after.0.0.board) after.1 e.rwnd after.0.1 after.0.0 in
      let response : CongView × AckAction = acked ack after.0.1.congestion in
      paced_by response.1 after.0.0 response.0 step

  after_ack : (now : ℕ) (segment : Segment) (c : ConnectionView) (s t : SenderState) (o : Option Established)
      → (taking now segment c o).1 ≡ StepC → reducing_in (Some (taking now segment c o).0) ≡ true
      → ack_taken now segment c s o ≡ Ok t → LetsOut (sndcnt_in (Some (taking now segment c o).0)) (with_begun_connection (taking now segment c o).0 s) t
  after_ack now segment c s t o step prr_recovering h =
      let d : ConnectionView = (taking now segment c o).0 in
      let u : SenderState = with_begun_connection d s in
      let f = filled_out now NextSeg u t (sym (ap (after_ack_action now d u) step) ∙ h) in
      let with_prr_cwnd : cwnd_in (Some d) - pipe_of (Some d) ≤ sndcnt_in (Some d) = taking_paced now segment c o (inl step) prr_recovering in
      (f.0, within _ _ _ f.1 with_prr_cwnd, grown _ _ _ _ f.2 with_prr_cwnd, f.3)

  -- the segment at una, and step C after it
  entry_lets_out : (spares : SparesSacked) (now : ℕ) (c : ConnectionView) (e : Established) (s t : SenderState) → c.established ≡ Some e
      → e.congestion.high_rxt ≡ c.board.una → s.endpoint.connection ≡ Some c
      → cwnd_in (Some c) - pipe_of (Some c) ≤ sndcnt_in (Some c) → after_ack_action now c s Entry ≡ Ok t
      → LetsOut (max (sndcnt_in (Some c)) (octets_of (run_at c.board.una c.board))) s t
  entry_lets_out spares now c e s t is begins has with_prr_cwnd h =
      let first : ℕ = octets_of (run_at c.board.una c.board) in
      let most : ℕ = max (sndcnt_in (Some c)) first in
      came (LetsOut most s) (after_ack_action now c s Entry) t h
      (then_leaves (IsEntered first s) (LetsOut most s) (filled now NextSeg) (entry now c s) (entry_enters spares now c e is begins s has)
      (λ u k. leaves_too (FillsOut u) (LetsOut most s) (filled now NextSeg u) (λ v f. (
        k.packets ++ f.0,
        subst (λ (n : ℕ). n ≤ most) (sym (split_octets k.packets f.0))
            (first_and_more (octets_in k.packets) (octets_in f.0) first (pipe_of s.endpoint.connection) (cwnd_in s.endpoint.connection)
            (pipe_of u.endpoint.connection) (cwnd_in u.endpoint.connection) (sndcnt_in (Some c)) k.octets f.1 k.pipe k.window there),
        first_and_more_out (out_in v.endpoint.connection) (out_in u.endpoint.connection) (out_in s.endpoint.connection) first (pipe_of s.endpoint.connection)
            (cwnd_in s.endpoint.connection) (pipe_of u.endpoint.connection) (cwnd_in u.endpoint.connection) (sndcnt_in (Some c)) k.out f.2 k.pipe k.window there,
        f.3 ∙ ap (λ (l : List Sent). l ++ f.0) k.outbox ∙ append_assoc s.endpoint.outbox k.packets f.0,
      )) (fills_out now NextSeg u)))
    where
      there : cwnd_in s.endpoint.connection - pipe_of s.endpoint.connection ≤ sndcnt_in (Some c)
      there = subst (λ (o : Option ConnectionView). cwnd_in o - pipe_of o ≤ sndcnt_in (Some c)) (sym has) with_prr_cwnd

  module _ (counts : CountsRecovery) (spares : SparesSacked) where
    after_entry : (now : ℕ) (segment : Segment) (c : ConnectionView) (s t : SenderState) (o : Option Established)
        → (taking now segment c o).1 ≡ Entry → reducing_in (Some (taking now segment c o).0) ≡ true
        → ack_taken now segment c s o ≡ Ok t
        → LetsOut (max (sndcnt_in (Some (taking now segment c o).0)) (octets_of (run_at (taking now segment c o).0.board.una (taking now segment c o).0.board)))
        (with_begun_connection (taking now segment c o).0 s) t
    after_entry now segment c s t None step prr_recovering h = absurd cc
    after_entry now segment c s t (Some e) step prr_recovering h =
        let after : (ConnectionView × Established) × Bool = with_ack now segment e c in
        let n : ℕ = newly_acked c segment in
        let ack : Ack = ack_of_segment segment n (delivery n c.board after.0.0.board) after.1 e.rwnd after.0.1 after.0.0 in
        let response : CongView × AckAction = acked ack after.0.1.congestion in
        let left : Established = record after.0.1 { congestion = record response.0 { cwnd = cwnd_after response.1 after.0.0 response.0 } } in
        let d : ConnectionView = (taking now segment c (Some e)).0 in
        entry_lets_out spares now d left (with_begun_connection d s) t refl (counts.again ack after.0.1.congestion step) refl
        (taking_paced now segment c (Some e) (inr step) prr_recovering) (sym (ap (after_ack_action now d (with_begun_connection d s)) step) ∙ h)

    pub recovers_in_proportion : RecoversInProportion
    recovers_in_proportion = record {
      acks = λ now segment c s t o step prr_recovering h. after_ack now segment c s t o step prr_recovering h;
      entries = λ now segment c s t o step prr_recovering h. after_entry now segment c s t o step prr_recovering h;
      proportional = λ most s t c e has is out few none above.
          let here : out_in s.endpoint.connection ≡ e.congestion.prr.prr_out = out_of s c e has is in
          let sends : sndcnt_in s.endpoint.connection ≡ sndcnt c.board.smss (pipe e.congestion.high_rxt c.board) e.congestion = sndcnt_of s c e has is in
          let k = laws.proportional c.board.smss (pipe e.congestion.high_rxt c.board) e.congestion (free_of s c e has is none) above in
          omega (arith, out.2, few, here, sends, k);
      target = λ most s t c e has is out few none low.
          let sends : sndcnt_in s.endpoint.connection ≡ sndcnt c.board.smss (pipe e.congestion.high_rxt c.board) e.congestion = sndcnt_of s c e has is in
          let k = laws.target c.board.smss (pipe e.congestion.high_rxt c.board) e.congestion (free_of s c e has is none) low in
          omega (arith, out.1, few, sends, k);
      conservative = λ most s t c e has is out few none low failed.
          let here : out_in s.endpoint.connection ≡ e.congestion.prr.prr_out = out_of s c e has is in
          let sends : sndcnt_in s.endpoint.connection ≡ sndcnt c.board.smss (pipe e.congestion.high_rxt c.board) e.congestion = sndcnt_of s c e has is in
          let k = laws.conservative c.board.smss (pipe e.congestion.high_rxt c.board) e.congestion (free_of s c e has is none) low failed in
          omega (arith, out.2, few, here, sends, k);
    }
      where
        out_on : (c : ConnectionView) (o : Option Established) → ℕ
        out_on c o = out_in (Some (record c { established = o }))

        sndcnt_on : (c : ConnectionView) (o : Option Established) → ℕ
        sndcnt_on c o = sndcnt_in (Some (record c { established = o }))

        forces_on : (c : ConnectionView) (o : Option Established) → Bool
        forces_on c o = forces_in (Some (record c { established = o }))

        out_of : (s : SenderState) (c : ConnectionView) (e : Established) → s.endpoint.connection ≡ Some c → c.established ≡ Some e
            → out_in s.endpoint.connection ≡ e.congestion.prr.prr_out
        out_of s c e has is = ap out_in has ∙ ap (out_on c) is

        sndcnt_of : (s : SenderState) (c : ConnectionView) (e : Established) → s.endpoint.connection ≡ Some c → c.established ≡ Some e
            → sndcnt_in s.endpoint.connection ≡ sndcnt c.board.smss (pipe e.congestion.high_rxt c.board) e.congestion
        sndcnt_of s c e has is = ap sndcnt_in has ∙ ap (sndcnt_on c) is

        free_of : (s : SenderState) (c : ConnectionView) (e : Established) → s.endpoint.connection ≡ Some c → c.established ≡ Some e
            → forces_in s.endpoint.connection ≡ false → forces c.board.smss (pipe e.congestion.high_rxt c.board) e.congestion ≡ false
        free_of s c e has is none = sym (ap (forces_on c) is) ∙ sym (ap forces_in has) ∙ none
