-- Which segment's round trip is measured.
use Rattle.std.proofs.Common.{◌≡◌, ℕ, ◌≤◌, nat_le, Bool, true, false, if◌then◌else◌, Option, None, Some, refl, sym, ap, ◌∙◌, arith}
use Rattle.std.proofs.lemmas.Bool.Decides.{nat_tests}
use Rattle.pd_seg.specs.declared.sack_spans.Span.{Span}
use Rattle.pd_host.specs.Connection.{ConnectionView}
use Rattle.pd_host.specs.Expiries.{connection_expired}
use Rattle.pd_host.specs.SendingLaws.{TimesOnce}
use Rattle.pd_host.specs.RttSegment.{rtt_segment_by_karn_after_sending}
use Rattle.pd_host.specs.declared.established.Established.{Established}
use Rattle.pd_host.specs.declared.connection.rtt_segment.RttSegment.{RttSegment}

-- what is left of a timing
abbrev left : RttSegment → Bool → Option RttSegment
left t lost = if lost then None else Some t

within : (a b : ℕ) → nat_le a b ≡ true → a ≤ b
within a b e = grind (arith, nat_tests)

new_so : (b : Bool) (now : ℕ) (segment : Span) (top : ℕ) (t : RttSegment) → nat_le top segment.start ≡ b
    → (if b then Some (record { segment = segment; sent_at = now }) else None) ≡ Some t
    → (t.segment ≡ segment) × (t.sent_at ≡ now) × (top ≤ segment.start)
new_so true now segment top t e h =
    let timing : RttSegment = record { segment = segment; sent_at = now } in
    let same : t ≡ timing = cc in
    (ap (λ (x : RttSegment). x.segment) same, ap (λ (x : RttSegment). x.sent_at) same, within top segment.start e)
new_so false now segment top t e h = absurd cc

expiry : (at : ℕ) (c : ConnectionView) (o : Option Established) → (connection_expired at c o).rtt_segment ≡ None
expiry at c None = refl
expiry at c (Some e) = refl

pub times_once : TimesOnce
times_once = record {
  given_up = λ now segment c t has over. ap (rtt_segment_by_karn_after_sending now segment c.board.top) has ∙ ap (left t) over;
  kept = λ now segment c t has over. ap (rtt_segment_by_karn_after_sending now segment c.board.top) has ∙ ap (left t) over;
  begun = λ now segment c t none h.
      new_so (nat_le c.board.top segment.start) now segment c.board.top t refl (sym (ap (rtt_segment_by_karn_after_sending now segment c.board.top) none) ∙ h);
  expiry = λ at c. expiry at c c.established;
}
