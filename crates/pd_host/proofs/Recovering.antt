-- Step C and limited transmit, one segment further.
use Rattle.std.proofs.Common.{◌≡◌, ℕ, ◌+◌, ◌-◌, List, Option, Some, None, Result, Ok, sym, ap, ◌∙◌}
use Rattle.pd_seg.specs.declared.sack_spans.Span.{Span}
use Rattle.pd_seg.specs.declared.segments.Sent.{Sent}
use Rattle.pd_recover.specs.NextSeg.{segment_of}
use Rattle.pd_recover.specs.declared.next_segment.NextSegment.{NextSegment}
use Rattle.pd_host.specs.AckEffects.{fill_rule, OnTheWay, next_fill, sent_as, fill_noted_on, one_filled, sender_of, filled_from}
use Rattle.pd_host.specs.Connection.{ConnectionView}
use Rattle.pd_host.specs.Packets.{data_of}
use Rattle.pd_host.specs.Host.{with_packet}
use Rattle.pd_host.specs.Sending.{repeated, places_left}
use Rattle.pd_host.specs.declared.connection.ack_effects.WindowFill.{WindowFill}
use Rattle.pd_host.specs.declared.halts.Halt.{Halt}
use Rattle.pd_host.specs.declared.endpoint.SenderState.{SenderState}
use Rattle.pd_host.specs.Steps.{with_connection_and_packets}
use Rattle.pd_host.proofs.PutOut.{and_packet, put_ok, one_place_less}
use Rattle.pd_host.proofs.Repeats.{repeated-more, repeated-none}
use Rattle.pd_host.proofs.Rules.{next_on}

-- what is found and done
abbrev next : WindowFill → OnTheWay → Option NextSegment
next filling t = next_fill filling t.1 t.0.endpoint.connection

abbrev fill_window : ℕ → WindowFill → NextSegment → OnTheWay → OnTheWay
fill_window now filling sent t = one_filled now filling sent t.0.endpoint.connection t

-- the sender alone
abbrev pub sender_filled : ℕ → WindowFill → OnTheWay → Result SenderState Halt
sender_filled now filling t = sender_of (filled_from now filling t)

-- nothing more is found
pub filling_done : (now : ℕ) (filling : WindowFill) (t : OnTheWay) → next filling t ≡ None → sender_filled now filling t ≡ Ok t.0
filling_done now filling t none = ap sender_of (repeated-none (next filling) (fill_window now filling) (places_left t.0) t none)

-- one segment further
pub filling_goes : (now : ℕ) (filling : WindowFill) (s : SenderState) (c d : ConnectionView) (packets new : List Sent) (n m : ℕ) (sent : NextSegment) (segment : Span)
    → next_on filling n c c.established ≡ Some sent
    → segment ≡ segment_of sent
    → with_packet now (fill_rule filling sent) (data_of c segment) packets ≡ Ok new
    → d ≡ fill_noted_on filling sent (sent_as now sent c) c.established
    → m ≡ n + (segment.end - segment.start)
    → sender_filled now filling (with_connection_and_packets d new s, m) ≡ sender_filled now filling (with_connection_and_packets c packets s, n)
filling_goes now filling s c d packets new n m sent segment found same put left counted =
    let p = put_ok now (fill_rule filling sent) (data_of c segment) packets new put in
    let t : OnTheWay = (with_connection_and_packets c packets s, n) in
    let after : OnTheWay = fill_window now filling sent t in
    let more : sender_filled now filling t ≡ sender_filled now filling after =
    ap sender_of (ap (λ (k : ℕ). repeated (next filling) (fill_window now filling) k t) (one_place_less now (fill_rule filling sent) (data_of c (segment_of sent)) packets p.0) ∙ repeated-more (next filling) (fill_window now filling) (places_left after.0) t sent found) in
    ap (λ (x : ℕ). sender_filled now filling (with_connection_and_packets d new s, x)) counted
    ∙ ap (λ (x : ConnectionView). sender_filled now filling (with_connection_and_packets x new s, n + (segment.end - segment.start))) left
    ∙ ap (λ (x : List Sent). sender_filled now filling (with_connection_and_packets (fill_noted_on filling sent (sent_as now sent c) c.established) x s, n + (segment.end - segment.start))) p.1
    ∙ ap (λ (x : Span). sender_filled now filling (with_connection_and_packets (fill_noted_on filling sent (sent_as now sent c) c.established) (and_packet now (fill_rule filling sent) (data_of c x) packets) s, n + (x.end - x.start))) same
    ∙ sym more
