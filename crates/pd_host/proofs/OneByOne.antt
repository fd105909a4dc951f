-- Each segment that is found, and each expiry that is due, puts out one packet.
use Rattle.std.proofs.Common.{◌≡◌, ℕ, Option, None, Some, refl}
use Rattle.pd_recover.specs.NextSeg.{segment_of}
use Rattle.pd_recover.specs.declared.next_segment.NextSegment.{NextSegment}
use Rattle.pd_seg.specs.declared.sack_spans.Span.{Span}
use Rattle.pd_seg.specs.declared.segments.Sent.{Sent}
use Rattle.pd_host.specs.AckEffects.{OnTheWay, fill_rule, next_fill, one_filled}
use Rattle.pd_host.specs.Connection.{ConnectionView}
use Rattle.pd_host.specs.Expiries.{due_by, segment_again, expiry_rule, expired}
use Rattle.pd_host.specs.Packets.{data_of}
use Rattle.pd_host.specs.Sending.{found, ordinary_rule, sent_ordinarily}
use Rattle.pd_host.specs.SendingLaws.{PutsOutOne, SendsOneByOne}
use Rattle.pd_host.specs.declared.connection.ack_effects.WindowFill.{WindowFill}
use Rattle.pd_host.specs.declared.endpoint.SenderState.{SenderState}
use Rattle.pd_host.proofs.Rules.{deadline_on}

ordinary_one : (now : ℕ) (segment : Span) (s : SenderState) (o : Option ConnectionView) → found o ≡ Some segment → PutsOutOne s (sent_ordinarily now segment o s)
ordinary_one now segment s None h = absurd cc
ordinary_one now segment s (Some c) h =
    let packet : Sent = record { segment = data_of c segment; at = now; rule = ordinary_rule c } in (packet, refl)

filling_one : (now : ℕ) (filling : WindowFill) (sent : NextSegment) (t : OnTheWay) (o : Option ConnectionView) → next_fill filling t.1 o ≡ Some sent
    → PutsOutOne t.0 (one_filled now filling sent o t).0
filling_one now filling sent t None h = absurd cc
filling_one now filling sent t (Some c) h =
    let packet : Sent = record { segment = data_of c (segment_of sent); at = now; rule = fill_rule filling sent } in (packet, refl)

expiry_one : (until at : ℕ) (s : SenderState) (o : Option ConnectionView) → due_by until (deadline_on o) ≡ Some at → PutsOutOne s (expired at o s)
expiry_one until at s None h = absurd cc
expiry_one until at s (Some c) h =
    let packet : Sent = record { segment = segment_again c c.established; at = at; rule = expiry_rule c.established } in (packet, refl)

pub sends_one_by_one : SendsOneByOne
sends_one_by_one = record {
  ordinary = λ now segment s h. ordinary_one now segment s s.endpoint.connection h;
  filling = λ now filling sent t h. filling_one now filling sent t t.0.endpoint.connection h;
  expiries = λ until at s h. expiry_one until at s s.endpoint.connection h;
}
