-- One time of ordinary sending and one expiry, and what follows.
use Rattle.std.proofs.Common.{◌≡◌, ℕ, List, None, Some, Ok, sym, ap, ◌∙◌}
use Rattle.pd_seg.specs.declared.sack_spans.Span.{Span}
use Rattle.pd_seg.specs.declared.segments.Sent.{Sent}
use Rattle.pd_host.specs.Connection.{ConnectionView}
use Rattle.pd_host.specs.Expiries.{due_by, segment_again, expiry_rule, connection_expired, advanced}
use Rattle.pd_host.specs.Sending.{places_left, found, ordinary_rule, sent_until_done, with_next_past_sacked, sent_on, repeated}
use Rattle.pd_host.specs.Steps.{with_connection_and_packets}
use Rattle.pd_host.specs.declared.endpoint.SenderState.{SenderState}
use Rattle.pd_host.proofs.Advances.{expiry_finds, expiry_sends}
use Rattle.pd_host.proofs.Repeats.{repeated-none, repeated-more}
use Rattle.pd_host.specs.Host.{with_packet}
use Rattle.pd_host.specs.Packets.{data_of}
use Rattle.pd_host.proofs.PutOut.{put_ok, one_place_less}
use Rattle.pd_host.proofs.SentOn.{finds, sends}

-- Ordinary sending, one segment further
pub sending_goes : (now : ℕ) (s : SenderState) (c d : ConnectionView) (packets new : List Sent) (segment : Span) → found (Some c) ≡ Some segment
    → with_packet now (ordinary_rule c) (data_of c segment) packets ≡ Ok new
    → d ≡ with_next_past_sacked (sent_on now segment c)
    → sent_until_done now (with_connection_and_packets d new s) ≡ sent_until_done now (with_connection_and_packets c packets s)
sending_goes now s c d packets new segment is put left =
    let p = put_ok now (ordinary_rule c) (data_of c segment) packets new put in
    let t : SenderState = with_connection_and_packets c packets s in
    let after : SenderState = sends now segment t in
    let more : sent_until_done now t ≡ sent_until_done now after =
    ap (λ (k : ℕ). repeated finds (sends now) k t) (one_place_less now (ordinary_rule c) (data_of c segment) packets p.0)
    ∙ repeated-more finds (sends now) (places_left after) t segment is in
    ap (λ (x : ConnectionView). sent_until_done now (with_connection_and_packets x new s)) left
    ∙ ap (λ (x : List Sent). sent_until_done now (with_connection_and_packets (with_next_past_sacked (sent_on now segment c)) x s)) p.1
    ∙ sym more

pub sending_done : (now : ℕ) (s : SenderState) → finds s ≡ None → sent_until_done now s ≡ Ok s
sending_done now s none = repeated-none finds (sends now) (places_left s) s none

-- Expiries, one further

pub expiry_goes : (until at : ℕ) (s : SenderState) (c d : ConnectionView) (packets new : List Sent) → due_by until c.timer.deadline ≡ Some at
    → with_packet at (expiry_rule c.established) (segment_again c c.established) packets ≡ Ok new
    → d ≡ connection_expired at c c.established
    → advanced until (with_connection_and_packets d new s) ≡ advanced until (with_connection_and_packets c packets s)
expiry_goes until at s c d packets new due put left =
    let p = put_ok at (expiry_rule c.established) (segment_again c c.established) packets new put in
    let t : SenderState = with_connection_and_packets c packets s in
    let after : SenderState = expiry_sends at t in
    let more : advanced until t ≡ advanced until after =
    ap (λ (k : ℕ). repeated (expiry_finds until) expiry_sends k t) (one_place_less at (expiry_rule c.established) (segment_again c c.established) packets p.0)
    ∙ repeated-more (expiry_finds until) expiry_sends (places_left after) t at due in
    ap (λ (x : ConnectionView). advanced until (with_connection_and_packets x new s)) left
    ∙ ap (λ (x : List Sent). advanced until (with_connection_and_packets (connection_expired at c c.established) x s)) p.1
    ∙ sym more

pub expiries_done : (until : ℕ) (s : SenderState) → expiry_finds until s ≡ None → advanced until s ≡ Ok s
expiries_done until s none = repeated-none (expiry_finds until) expiry_sends (places_left s) s none
