-- Sending doesn't depend on the settings that are held.
use Rattle.std.proofs.Common.{◌≡◌, ℕ, nat_lt, Option, None, Some, Result, Ok, Err, refl, ap, ◌∙◌}
use Rattle.pd_board.specs.Retransmit.{run_at}
use Rattle.pd_recover.specs.declared.ack_action.AckAction.{AckAction}
use Rattle.pd_recover.specs.declared.ack_action.AckAction.TheVariants.{Ordinary, StepC, Entry, LimitedTransmit, NewSegment, FastRetransmit, Nothing}
use Rattle.pd_recover.specs.declared.next_segment.NextSegment.{NextSegment}
use Rattle.pd_seg.specs.declared.sack_spans.Span.{Span}
use Rattle.pd_seg.specs.declared.segments.Segment.{Segment}
use Rattle.pd_seg.specs.declared.send_rule.SendRule.{SendRule}
use Rattle.pd_seg.specs.declared.send_rule.SendRule.TheVariants.{LimitedTransmit as LimitedBy3042, FastRetransmit as FastBy5681, SackFastRetransmit}
use Rattle.pd_settings.specs.declared.settings.Settings.{Settings}
use Rattle.pd_host.specs.AckEffects.{OnTheWay, one_filled, sender_of, pipe_of, filled, push_data_segment_to_outbox, entered_on, entry, after_ack_action, taking, ack_taken}
use Rattle.pd_host.specs.Connection.{ConnectionView}
use Rattle.pd_host.specs.InputLaws.{with_settings}
use Rattle.pd_host.specs.OutboxLimit.{has_place}
use Rattle.pd_host.specs.Host.{then_on}
use Rattle.pd_host.specs.Sending.{repeated, places_left, with_begun_connection, sent_on, with_segment, sent_ordinarily, ready, sent_until_done, ordinary}
use Rattle.pd_host.specs.RttSegment.{timing_started}
use Rattle.pd_host.specs.declared.established.Established.{Established}
use Rattle.pd_host.specs.declared.connection.ack_effects.WindowFill.{WindowFill}
use Rattle.pd_host.specs.declared.connection.ack_effects.WindowFill.TheVariants.{NextSeg, NewData}
use Rattle.pd_host.specs.declared.halts.Halt.{Halt}
use Rattle.pd_host.specs.declared.halts.Halt.TheVariants.{Limit}
use Rattle.pd_host.specs.declared.endpoint.SenderState.{SenderState}
use Rattle.pd_host.proofs.Outcomes.{mapped, alike, either_mapped, then_mapped}
use Rattle.pd_host.proofs.SentOn.{finds, sends, fill_finds, fill_sends}

-- what came, with other settings held
abbrev pub again : Settings → Result SenderState Halt → Result SenderState Halt
again settings r = mapped (with_settings settings) r

-- the same of a state of loss recovery
abbrev pub rebound_too : Settings → OnTheWay → OnTheWay
rebound_too settings t = (with_settings settings t.0, t.1)

ready_again : (b : Settings) (now : ℕ) (o : Option ConnectionView) (s : SenderState) → ready now o (with_settings b s) ≡ with_settings b (ready now o s)
ready_again b now None s = refl
ready_again b now (Some c) s = refl

sent_again : (b : Settings) (now : ℕ) (segment : Span) (o : Option ConnectionView) (s : SenderState)
    → sent_ordinarily now segment o (with_settings b s) ≡ with_settings b (sent_ordinarily now segment o s)
sent_again b now segment None s = refl
sent_again b now segment (Some c) s = refl

until_done_again : (b : Settings) (now : ℕ) (s : SenderState) → sent_until_done now (with_settings b s) ≡ again b (sent_until_done now s)
until_done_again b now s =
    alike (with_settings b) finds (sends now) (λ t. refl) (λ segment t. sent_again b now segment t.endpoint.connection t) (places_left s) s

pub ordinary_again : (b : Settings) (now : ℕ) (s : SenderState) → ordinary now (with_settings b s) ≡ again b (ordinary now s)
ordinary_again b now s =
    ap (sent_until_done now) (ready_again b now s.endpoint.connection s) ∙ until_done_again b now (ready now s.endpoint.connection s)

fill_again : (b : Settings) (now : ℕ) (filling : WindowFill) (sent : NextSegment) (o : Option ConnectionView) (t : OnTheWay)
    → one_filled now filling sent o (rebound_too b t) ≡ rebound_too b (one_filled now filling sent o t)
fill_again b now filling sent None t = refl
fill_again b now filling sent (Some c) t = refl

sender_again : (b : Settings) (r : Result OnTheWay Halt) → sender_of (mapped (rebound_too b) r) ≡ again b (sender_of r)
sender_again b (Ok t) = refl
sender_again b (Err halt) = refl

pub filled_again : (b : Settings) (now : ℕ) (filling : WindowFill) (s : SenderState) → filled now filling (with_settings b s) ≡ again b (filled now filling s)
filled_again b now filling s =
    let t : OnTheWay = (s, pipe_of s.endpoint.connection) in
    ap sender_of (alike (rebound_too b) (fill_finds filling) (fill_sends now filling) (λ u. refl) (λ sent u. fill_again b now filling sent u.0.endpoint.connection u) (places_left s) t)
    ∙ sender_again b (repeated (fill_finds filling) (fill_sends now filling) (places_left s) t)

put_again : (b : Settings) (now : ℕ) (rule : SendRule) (segment : Span) (before after : ConnectionView) (s : SenderState)
    → push_data_segment_to_outbox now rule segment before after (with_settings b s) ≡ again b (push_data_segment_to_outbox now rule segment before after s)
put_again b now rule segment before after s =
    either_mapped (with_settings b) (has_place s.endpoint.outbox) (Ok (with_segment now rule segment before after s)) (Err Limit)
    (Ok (with_segment now rule segment before after (with_settings b s))) (Err Limit) refl refl

entry_again : (b : Settings) (now : ℕ) (c : ConnectionView) (s : SenderState) → entry now c (with_settings b s) ≡ again b (entry now c s)
entry_again b now c s =
    let segment : Span = run_at c.board.una c.board in
    let sent : ConnectionView = entered_on segment (timing_started now segment c) c.established in
    let moved : ConnectionView = entered_on segment c c.established in
    either_mapped (with_settings b) (nat_lt segment.start segment.end) (push_data_segment_to_outbox now SackFastRetransmit segment c sent s) (Ok (with_begun_connection moved s))
    (push_data_segment_to_outbox now SackFastRetransmit segment c sent (with_settings b s)) (Ok (with_begun_connection moved (with_settings b s)))
    (put_again b now SackFastRetransmit segment c sent s) refl

led_to_again : (b : Settings) (now : ℕ) (c : ConnectionView) (s : SenderState) (next : AckAction) → after_ack_action now c (with_settings b s) next ≡ again b (after_ack_action now c s next)
led_to_again b now c s Ordinary = ordinary_again b now s
led_to_again b now c s StepC = filled_again b now NextSeg s
led_to_again b now c s Entry =
    ap (then_on (filled now NextSeg)) (entry_again b now c s) ∙ then_mapped (with_settings b) (with_settings b) (filled now NextSeg) (entry now c s) (filled_again b now NextSeg)
led_to_again b now c s LimitedTransmit = filled_again b now NewData s
led_to_again b now c s (NewSegment segment) = put_again b now LimitedBy3042 segment c (sent_on now segment c) s
led_to_again b now c s (FastRetransmit segment) =
    ap (then_on (ordinary now)) (put_again b now FastBy5681 segment c (timing_started now segment c) s)
    ∙ then_mapped (with_settings b) (with_settings b) (ordinary now) (push_data_segment_to_outbox now FastBy5681 segment c (timing_started now segment c) s) (ordinary_again b now)
led_to_again b now c s Nothing = refl

-- taking a segment consults no settings
pub taken_again : (b : Settings) (now : ℕ) (segment : Segment) (c : ConnectionView) (s : SenderState) (o : Option Established)
    → ack_taken now segment c (with_settings b s) o ≡ again b (ack_taken now segment c s o)
taken_again b now segment c s o =
    let t : ConnectionView × AckAction = taking now segment c o in
    led_to_again b now t.0 (with_begun_connection t.0 s) t.1
