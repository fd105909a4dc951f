-- One more packet is met.
use Rattle.std.proofs.Common.{◌≡◌, ◌<◌, ◌^◌, ℕ, ◌+◌, ◌∷◌, List, drop, slice_get, option_copied, true, is_none, Some, refl, sym, ap, subst, ◌∙◌, arith}
use Rattle.std.proofs.lemmas.List.{drop_more}
use Rattle.std.proofs.lemmas.Option.{slice_get_within, get_or_from_slice_get}
use Rattle.pd_seg.specs.declared.segments.Sent.{Sent}
use Rattle.pd_host.specs.Host.{HostView}
use Rattle.pd_match.specs.Packets.{mismatch}
use Rattle.pd_run.specs.Laws.{unmatched}
use Rattle.pd_run.specs.Step.{tolerance_of}
use Rattle.pd_run.specs.Times.{time_range_of}
use Rattle.pd_cause.proofs.UnexpectedLemmas.{Left, early_at, found_after, one_before}
use Rattle.pd_cause.proofs.causes.unmatched.count_unmatched_before_match_if_any.Goals as goal

-- the packet at a place, and those after it
split_at : (n : ℕ) (xs : List Sent) (sent : Sent) → slice_get xs n ≡ Some sent → drop n xs ≡ sent ∷ drop (n + 1) xs
split_at n xs sent got =
    drop_more xs n sent (slice_get_within xs n sent got)
    ∙ ap (λ (x : Sent). x ∷ drop (n + 1) xs) (get_or_from_slice_get xs n sent sent got)

pub returns-then-is_expected_packet : goal.returns-then-is_expected_packet
returns-then-is_expected_packet c = λ early short.
    let sent : Sent = c.in-Some.sent.now in
    let packets : List Sent = unmatched c.args.run.now in
    let outbox : c.outbox-outbox.result.now ≡ packets = c.outbox-outbox.ensures ∙ ap (λ (h : HostView). h.state.endpoint.outbox) c.host.ensures in
    let got : slice_get packets c.loop-count.count ≡ Some sent =
    subst (λ (l : List Sent). slice_get l c.loop-count.count ≡ Some sent) outbox (sym c.get.ensures ∙ ap option_copied c.in-Some.is) in
    let is_expected_packet : is_none (mismatch c.args.packet.now (time_range_of c.loop-count.base c.args.time) sent (tolerance_of c.args.run.now)) ≡ true =
    ap (λ (t : ℕ). is_none (mismatch c.args.packet.now (time_range_of c.loop-count.base c.args.time) sent t)) (sym c.tolerance.ensures)
    ∙ (sym (c.is_expected_packet.ensures (c.loop-count.invariant.early early) short) ∙ c.if-is_expected_packet.true) in
    sym (found_after c.args.packet.now c.args.time (tolerance_of c.args.run.now) c.args.run.now.base c.loop-count.base c.loop-count.count packets
    (drop (c.loop-count.count + 1) packets) sent (split_at c.loop-count.count packets sent got) is_expected_packet (c.loop-count.invariant.left early short))

pub loop-count-preserved : goal.loop-count-preserved
loop-count-preserved c =
    let sent : Sent = c.in-Some.sent.now in
    let packets : List Sent = unmatched c.args.run.now in
    let outbox : c.outbox-outbox.result.now ≡ packets = c.outbox-outbox.ensures ∙ ap (λ (h : HostView). h.state.endpoint.outbox) c.host.ensures in
    let got : slice_get packets c.loop-count.count ≡ Some sent =
    subst (λ (l : List Sent). slice_get l c.loop-count.count ≡ Some sent) outbox (sym c.get.ensures ∙ ap option_copied c.in-Some.is) in
    record {
      early = λ early.
          let before : c.loop-count.base < 2 ^ 61 = c.loop-count.invariant.early early in
          let at : sent.at < 2 ^ 61 = early_at c.loop-count.count packets sent early.1 got in
          omega (arith, before, at, c.max-base.ensures);
      left = λ early short.
          let other = ap (λ (t : ℕ). is_none (mismatch c.args.packet.now (time_range_of c.loop-count.base c.args.time) sent t)) (sym c.tolerance.ensures)
          ∙ (sym (c.is_expected_packet.ensures (c.loop-count.invariant.early early) short) ∙ c.if-is_expected_packet.false) in
          subst (λ (base : ℕ). Left c.args.packet.now c.args.time (tolerance_of c.args.run.now) c.args.run.now.base base (c.loop-count.count + 1) packets) (sym c.max-base.ensures)
          (one_before c.args.packet.now c.args.time (tolerance_of c.args.run.now) c.args.run.now.base c.loop-count.base c.loop-count.count packets
          (drop (c.loop-count.count + 1) packets) sent (split_at c.loop-count.count packets sent got) refl other (c.loop-count.invariant.left early short));
    }
