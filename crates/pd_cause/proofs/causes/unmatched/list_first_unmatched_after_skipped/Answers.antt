-- One more packet is listed, and ten in the end.
use Rattle.std.proofs.Common.{◌≡◌, ℕ, ◌+◌, ◌-◌, List, length, take, drop, slice_get, option_copied, Some, subst, sym, ap, ◌∙◌, arith}
use Rattle.pd_seg.specs.declared.segments.Sent.{Sent}
use Rattle.pd_host.specs.Host.{HostView}
use Rattle.pd_run.specs.Laws.{unmatched}
use Rattle.pd_cause.specs.AlignedPackets.{sent_text}
use Rattle.pd_cause.proofs.LeftoverLemmas.{texts, listed, one_more, beyond_ten}
use Rattle.pd_cause.proofs.causes.unmatched.list_first_unmatched_after_skipped.Goals as goal

pub loop-count-preserved : goal.loop-count-preserved
loop-count-preserved c =
    let sent : Sent = c.in-Some.sent.now in
    let outbox : c.outbox-outbox.result.now ≡ unmatched c.args.run.now = c.outbox-outbox.ensures ∙ ap (λ (h : HostView). h.state.endpoint.outbox) c.host.ensures in
    let got : slice_get (unmatched c.args.run.now) (c.args.skipped + c.loop-count.count) ≡ Some sent =
    subst (λ (l : List Sent). slice_get l (c.args.skipped + c.loop-count.count) ≡ Some sent) outbox (sym c.get.ensures ∙ ap option_copied c.in-Some.is) in
    let text : c.in_ok-render_sent_event_with_moment_comment-in-Some.field-0.items ≡ sent_text c.args.run.now.base sent =
    c.in_ok-render_sent_event_with_moment_comment-in-Some.ensures ∙ ap (λ (b : ℕ). sent_text b sent) c.base.ensures in
    record {
      listed = one_more c.args.run.now.base c.args.skipped c.loop-count.count (unmatched c.args.run.now) sent c.loop-count.packets.items c.push.new.self.items c.in_ok-render_sent_event_with_moment_comment-in-Some.field-0 got c.loop-count.invariant.listed text c.in_ok-push-in-Some.ensures.items;
    }

pub returns : goal.returns
returns c =
    let outbox : c.outbox-outbox.result.now ≡ unmatched c.args.run.now = c.outbox-outbox.ensures ∙ ap (λ (h : HostView). h.state.endpoint.outbox) c.host.ensures in
    let ten : c.loop-count.count ≡ 10 = omega (arith, c.loop-count-test.false, c.loop-count.auto.count-end) in
    let counted : c.len.result ≡ length (unmatched c.args.run.now) = c.len.ensures ∙ ap (λ (l : List Sent). length l) outbox in (
      subst (λ (n : ℕ). listed c.loop-count.packets.items ≡ texts c.args.run.now.base (take n (drop c.args.skipped (unmatched c.args.run.now)))) ten c.loop-count.invariant.listed,
      c.saturating_sub-more.ensures ∙ (ap (λ (n : ℕ). n - (c.args.skipped + 10)) counted ∙ beyond_ten c.args.skipped (unmatched c.args.run.now)),
    )
