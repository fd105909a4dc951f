-- The state that all sending leaves as it is, and that its packets follow the others.
use Rattle.std.proofs.Common.{◌≡◌, ℕ, Bool, false, nat_lt, List, [], ◌∷◌, ◌++◌, Option, None, Some, Result, Ok, Err, refl, sym, ap, ◌∙◌, append_assoc, append-nil}
use Rattle.std.specs.List.{AllByRecursion}
use Rattle.pd_board.specs.Retransmit.{run_at}
use Rattle.pd_recover.specs.declared.ack_action.AckAction.{AckAction}
use Rattle.pd_recover.specs.declared.ack_action.AckAction.TheVariants.{Ordinary, StepC, Entry, LimitedTransmit, NewSegment, FastRetransmit, Nothing}
use Rattle.pd_recover.specs.declared.next_segment.NextSegment.{NextSegment}
use Rattle.pd_recover.specs.declared.next_segment.NextSegment.TheVariants.{Lost, New, Hole, Rescue}
use Rattle.pd_recover.specs.Prr.{no_prr}
use Rattle.pd_recover.specs.NextSeg.{segment_of}
use Rattle.pd_seg.specs.declared.sack_spans.Span.{Span}
use Rattle.pd_seg.specs.declared.segments.Sent.{Sent}
use Rattle.pd_seg.specs.declared.send_rule.SendRule.{SendRule}
use Rattle.pd_seg.specs.declared.send_rule.SendRule.TheVariants.{LimitedTransmit as LimitedBy3042, FastRetransmit as FastBy5681, SackFastRetransmit}
use Rattle.pd_timer.specs.Rto.{initial}
use Rattle.pd_host.specs.AckEffects.{OnTheWay, fill_rule, next_fill, sent_as, fill_noted_on, one_filled, sender_of, pipe_of, filled, push_data_segment_to_outbox, entered_on, entry, after_ack_action}
use Rattle.pd_host.specs.Connection.{ConnectionView}
use Rattle.pd_host.specs.Packets.{data_of}
use Rattle.pd_host.specs.OutboxLimit.{has_place}
use Rattle.pd_host.specs.Sending.{places_left, with_begun_connection, is_all_acked_and_idle_over_rto, restarted_in, restarted_if_idle, with_next_past_sacked, sent_on, with_segment, found, ordinary_rule, sent_ordinarily, ready, sent_until_done, ordinary}
use Rattle.pd_host.specs.RttSegment.{timing_started}
use Rattle.pd_host.specs.declared.established.Established.{Established}
use Rattle.pd_host.specs.declared.connection.ack_effects.WindowFill.{WindowFill}
use Rattle.pd_host.specs.declared.connection.ack_effects.WindowFill.TheVariants.{NextSeg, NewData}
use Rattle.pd_host.specs.declared.halts.Halt.{Halt}
use Rattle.pd_host.specs.declared.halts.Halt.TheVariants.{Limit}
use Rattle.pd_host.specs.declared.endpoint.SenderState.{SenderState}
use Rattle.pd_host.proofs.Outcomes.{Leaves, kept, either, then_leaves}

-- what sending moves, at rest
abbrev pub at_rest : Option Established → Option Established
at_rest None = None
at_rest (Some e) = Some (record e { congestion = record e.congestion { cwnd = 0; limited_octets = 0; high_rxt = 0; rescue_rxt = 0; follows_expiry = false; prr = no_prr } })

abbrev resting : ConnectionView → Option Established → ConnectionView
resting c e = record c {
  board = record c.board { next = 0; top = 0 };
  timer = initial 0 0;
  rtt_segment = None;
  last_sent = 0;
  established = at_rest e;
}

-- a connection without what sending moves
abbrev pub still : ConnectionView → ConnectionView
still c = resting c c.established

abbrev pub stills : Option ConnectionView → Option ConnectionView
stills None = None
stills (Some c) = Some (still c)

-- where sending begins, a restart leaves it
rested : (idle : Bool) (smss : ℕ) (o : Option Established) → at_rest (restarted_in smss idle o) ≡ at_rest o
rested idle smss None = refl
rested idle smss (Some e) = refl

pub begun_still : (now : ℕ) (c : ConnectionView) → still (with_next_past_sacked (restarted_if_idle now c)) ≡ still c
begun_still now c =
    ap (λ (o : Option Established). record (resting c None) { established = o }) (rested (is_all_acked_and_idle_over_rto now c) c.board.smss c.established)

-- something was sent at a moment: packets follow the others, and all else is as it was
pub record IsSentOn (now : ℕ) (s t : SenderState) : Type 0 where
  pub packets : List Sent
  pub moments : AllByRecursion (λ p. p.at ≡ now) packets
  pub outbox : t.endpoint.outbox ≡ s.endpoint.outbox ++ packets
  pub settings : t.settings ≡ s.settings
  pub consulted_settings : t.consulted_settings ≡ s.consulted_settings
  pub listener : t.endpoint.listener ≡ s.endpoint.listener
  pub connection : stills t.endpoint.connection ≡ stills s.endpoint.connection

pub all_of_both : (now : ℕ) (a b : List Sent) → AllByRecursion (λ p. p.at ≡ now) a → AllByRecursion (λ p. p.at ≡ now) b
    → AllByRecursion (λ p. p.at ≡ now) (a ++ b)
all_of_both now [] b first second = second
all_of_both now (p ∷ a) b first second = (first.0, all_of_both now a b first.1 second)

-- nothing was sent
pub nothing_sent : (now : ℕ) (s : SenderState) → IsSentOn now s s
nothing_sent now s = record {
  packets = [];
  moments = tt;
  outbox = sym (append-nil s.endpoint.outbox);
  settings = refl;
  consulted_settings = refl;
  listener = refl;
  connection = refl;
}

-- more is sent
pub then_more : (now : ℕ) (r s t : SenderState) → IsSentOn now r s → IsSentOn now s t → IsSentOn now r t
then_more now r s t a b = record {
  packets = a.packets ++ b.packets;
  moments = all_of_both now a.packets b.packets a.moments b.moments;
  outbox = b.outbox ∙ ap (λ l. l ++ b.packets) a.outbox ∙ append_assoc r.endpoint.outbox a.packets b.packets;
  settings = b.settings ∙ a.settings;
  consulted_settings = b.consulted_settings ∙ a.consulted_settings;
  listener = b.listener ∙ a.listener;
  connection = b.connection ∙ a.connection;
}

-- a segment
pub one_sent : (now : ℕ) (rule : SendRule) (segment : Span) (before c : ConnectionView) (s : SenderState) → stills (Some c) ≡ stills s.endpoint.connection
    → IsSentOn now s (with_segment now rule segment before c s)
one_sent now rule segment before c s same = record {
  packets = record { segment = data_of before segment; at = now; rule = rule } ∷ [];
  moments = (refl, tt);
  outbox = refl;
  settings = refl;
  consulted_settings = refl;
  listener = refl;
  connection = same;
}

-- nothing, but the connection has moved
pub only_moved : (now : ℕ) (c : ConnectionView) (s : SenderState) → stills (Some c) ≡ stills s.endpoint.connection → IsSentOn now s (with_begun_connection c s)
only_moved now c s same = record {
  packets = [];
  moments = tt;
  outbox = sym (append-nil s.endpoint.outbox);
  settings = refl;
  consulted_settings = refl;
  listener = refl;
  connection = same;
}

-- Ordinary sending

abbrev pub finds : SenderState → Option Span
finds t = found t.endpoint.connection

abbrev pub sends : ℕ → Span → SenderState → SenderState
sends now segment t = sent_ordinarily now segment t.endpoint.connection t

once : (now : ℕ) (segment : Span) (s : SenderState) (o : Option ConnectionView) → s.endpoint.connection ≡ o
    → IsSentOn now s (sent_ordinarily now segment o s)
once now segment s None e = nothing_sent now s
once now segment s (Some c) e = one_sent now (ordinary_rule c) segment c (with_next_past_sacked (sent_on now segment c)) s (sym (ap stills e))

made_ready : (now : ℕ) (s : SenderState) (o : Option ConnectionView) → s.endpoint.connection ≡ o → IsSentOn now s (ready now o s)
made_ready now s None e = nothing_sent now s
made_ready now s (Some c) e =
    only_moved now (with_next_past_sacked (restarted_if_idle now c)) s (ap (λ (d : ConnectionView). Some d) (begun_still now c) ∙ sym (ap stills e))

until_done : (now : ℕ) (r s : SenderState) → IsSentOn now r s → Leaves (IsSentOn now r) (sent_until_done now s)
until_done now r s h =
    kept (IsSentOn now r) finds (sends now)
    (λ segment t e so_far. then_more now r t (sends now segment t) so_far (once now segment t t.endpoint.connection refl))
    (places_left s) s h

pub ordinary_sends : (now : ℕ) (r s : SenderState) → IsSentOn now r s → Leaves (IsSentOn now r) (ordinary now s)
ordinary_sends now r s h =
    let t = ready now s.endpoint.connection s in
    until_done now r t (then_more now r s t h (made_ready now s s.endpoint.connection refl))

-- Step C and limited transmit

abbrev pub fill_finds : WindowFill → OnTheWay → Option NextSegment
fill_finds filling t = next_fill filling t.1 t.0.endpoint.connection

abbrev pub fill_sends : ℕ → WindowFill → NextSegment → OnTheWay → OnTheWay
fill_sends now filling sent t = one_filled now filling sent t.0.endpoint.connection t

sent_as_still : (now : ℕ) (sent : NextSegment) (c : ConnectionView) → still (sent_as now sent c) ≡ still c
sent_as_still now (Lost segment) c = refl
sent_as_still now (New segment) c = refl
sent_as_still now (Hole segment) c = refl
sent_as_still now (Rescue segment) c = refl

pub sent_as_established : (now : ℕ) (sent : NextSegment) (c : ConnectionView) → (sent_as now sent c).established ≡ c.established
sent_as_established now (Lost segment) c = refl
sent_as_established now (New segment) c = refl
sent_as_established now (Hole segment) c = refl
sent_as_established now (Rescue segment) c = refl

noted_still : (filling : WindowFill) (sent : NextSegment) (c : ConnectionView) (o : Option Established) → c.established ≡ o
    → still (fill_noted_on filling sent c o) ≡ still c
noted_still filling sent c None e = refl
noted_still NewData sent c (Some x) e = sym (ap (resting c) e)
noted_still NextSeg (Lost segment) c (Some x) e = sym (ap (resting c) e)
noted_still NextSeg (New segment) c (Some x) e = sym (ap (resting c) e)
noted_still NextSeg (Hole segment) c (Some x) e = sym (ap (resting c) e)
noted_still NextSeg (Rescue segment) c (Some x) e = sym (ap (resting c) e)

-- what they leave of the connection
pub fill_still : (now : ℕ) (filling : WindowFill) (sent : NextSegment) (c : ConnectionView)
    → still (fill_noted_on filling sent (sent_as now sent c) c.established) ≡ still c
fill_still now filling sent c =
    noted_still filling sent (sent_as now sent c) c.established (sent_as_established now sent c) ∙ sent_as_still now sent c

fill_once : (now : ℕ) (filling : WindowFill) (sent : NextSegment) (t : OnTheWay) (o : Option ConnectionView) → t.0.endpoint.connection ≡ o
    → IsSentOn now t.0 (one_filled now filling sent o t).0
fill_once now filling sent t None e = nothing_sent now t.0
fill_once now filling sent t (Some c) e =
    one_sent now (fill_rule filling sent) (segment_of sent) c (fill_noted_on filling sent (sent_as now sent c) c.established) t.0
    (ap (λ (d : ConnectionView). Some d) (fill_still now filling sent c) ∙ sym (ap stills e))

pub sender_leaves : (P : SenderState → Type 0) (r : Result OnTheWay Halt) → Leaves (λ t. P t.0) r → Leaves P (sender_of r)
sender_leaves P (Ok t) holds = holds
sender_leaves P (Err halt) holds = tt

pub filled_sends : (now : ℕ) (filling : WindowFill) (r s : SenderState) → IsSentOn now r s → Leaves (IsSentOn now r) (filled now filling s)
filled_sends now filling r s h =
    sender_leaves (IsSentOn now r) _
    (kept (λ t. IsSentOn now r t.0) (fill_finds filling) (fill_sends now filling)
    (λ sent t e so_far. then_more now r t.0 (fill_sends now filling sent t).0 so_far (fill_once now filling sent t t.0.endpoint.connection refl))
    (places_left s) (s, pipe_of s.endpoint.connection) h)

-- The sending that an ACK leads to

put_sends : (now : ℕ) (rule : SendRule) (segment : Span) (before c : ConnectionView) (s : SenderState) → stills (Some c) ≡ stills s.endpoint.connection
    → Leaves (IsSentOn now s) (push_data_segment_to_outbox now rule segment before c s)
put_sends now rule segment before c s same =
    either (IsSentOn now s) (has_place s.endpoint.outbox) (Ok (with_segment now rule segment before c s)) (Err Limit)
    (one_sent now rule segment before c s same) tt

pub entered_still : (segment : Span) (c : ConnectionView) (o : Option Established) → c.established ≡ o → still (entered_on segment c o) ≡ still c
entered_still segment c None e = refl
entered_still segment c (Some x) e = sym (ap (resting c) e)

entry_sends : (now : ℕ) (c : ConnectionView) (s : SenderState) → s.endpoint.connection ≡ Some c → Leaves (IsSentOn now s) (entry now c s)
entry_sends now c s e =
    let segment : Span = run_at c.board.una c.board in
    let sent : ConnectionView = entered_on segment (timing_started now segment c) c.established in
    let moved : ConnectionView = entered_on segment c c.established in
    either (IsSentOn now s) (nat_lt segment.start segment.end) (push_data_segment_to_outbox now SackFastRetransmit segment c sent s) (Ok (with_begun_connection moved s))
    (put_sends now SackFastRetransmit segment c sent s
    (ap (λ (d : ConnectionView). Some d) (entered_still segment (timing_started now segment c) c.established refl) ∙ sym (ap stills e)))
    (only_moved now moved s (ap (λ (d : ConnectionView). Some d) (entered_still segment c c.established refl) ∙ sym (ap stills e)))

pub led_to_sends : (now : ℕ) (c : ConnectionView) (s : SenderState) (next : AckAction) → s.endpoint.connection ≡ Some c
    → Leaves (IsSentOn now s) (after_ack_action now c s next)
led_to_sends now c s Ordinary e = ordinary_sends now s s (nothing_sent now s)
led_to_sends now c s StepC e = filled_sends now NextSeg s s (nothing_sent now s)
led_to_sends now c s Entry e =
    then_leaves (IsSentOn now s) (IsSentOn now s) (filled now NextSeg) (entry now c s) (entry_sends now c s e) (λ t h. filled_sends now NextSeg s t h)
led_to_sends now c s LimitedTransmit e = filled_sends now NewData s s (nothing_sent now s)
led_to_sends now c s (NewSegment segment) e = put_sends now LimitedBy3042 segment c (sent_on now segment c) s (sym (ap stills e))
led_to_sends now c s (FastRetransmit segment) e =
    then_leaves (IsSentOn now s) (IsSentOn now s) (ordinary now) (push_data_segment_to_outbox now FastBy5681 segment c (timing_started now segment c) s)
    (put_sends now FastBy5681 segment c (timing_started now segment c) s (sym (ap stills e))) (λ t h. ordinary_sends now s t h)
led_to_sends now c s Nothing e = nothing_sent now s
