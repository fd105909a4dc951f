-- A relation of states that each segment sent keeps holds of all that is sent.
use Rattle.std.proofs.Common.{◌≡◌, ℕ, ◌+◌, ◌<◌, ◌≤◌, max, nat_lt, Option, None, Some, Ok, Err, refl, sym, subst, ap, ◌∙◌, arith}
use Rattle.pd_board.specs.Retransmit.{run_at}
use Rattle.pd_recover.specs.NextSeg.{segment_of}
use Rattle.pd_recover.specs.declared.ack_action.AckAction.{AckAction}
use Rattle.pd_recover.specs.declared.ack_action.AckAction.TheVariants.{Ordinary, StepC, Entry, LimitedTransmit, NewSegment, FastRetransmit, Nothing}
use Rattle.pd_recover.specs.declared.next_segment.NextSegment.{NextSegment}
use Rattle.pd_recover.specs.declared.next_segment.NextSegment.TheVariants.{Lost, New, Hole, Rescue}
use Rattle.pd_seg.specs.declared.sack_spans.Span.{Span}
use Rattle.pd_seg.specs.declared.send_rule.SendRule.{SendRule}
use Rattle.pd_seg.specs.declared.send_rule.SendRule.TheVariants.{LimitedTransmit as LimitedBy3042, FastRetransmit as FastBy5681, SackFastRetransmit}
use Rattle.pd_host.specs.AckEffects.{OnTheWay, fill_rule, next_fill, sent_as, fill_noted_on, one_filled, pipe_of, filled, push_data_segment_to_outbox, entered_on, entry, after_ack_action}
use Rattle.pd_host.specs.Connection.{ConnectionView}
use Rattle.pd_host.specs.OutboxLimit.{has_place}
use Rattle.pd_host.specs.Sending.{value_on, places_left, with_begun_connection, restarted_if_idle, with_next_past_sacked, sent_on, with_segment, found, ordinary_rule, sent_ordinarily, ready, ordinary}
use Rattle.pd_host.specs.RttSegment.{timing_started, rtt_segment_by_karn_after_sending}
use Rattle.pd_host.specs.declared.established.Established.{Established}
use Rattle.pd_host.specs.declared.connection.ack_effects.WindowFill.{WindowFill}
use Rattle.pd_host.specs.declared.connection.ack_effects.WindowFill.TheVariants.{NextSeg, NewData}
use Rattle.pd_host.specs.declared.halts.Halt.TheVariants.{Limit}
use Rattle.pd_host.specs.declared.endpoint.SenderState.{SenderState}
use Rattle.pd_host.proofs.Chosen.{Stands, ordinary_end, ordinary_queued, filling_stands, run_end}
use Rattle.pd_host.proofs.Outcomes.{Leaves, kept, either, then_leaves}
use Rattle.pd_host.proofs.SentOn.{still, sender_leaves, finds, sends, fill_finds, fill_sends, fill_still, entered_still, begun_still}
use Rattle.pd_host.proofs.Rules.{found_on, next_on}

-- the number after the last octet that the peer's window takes
abbrev pub window_end : ConnectionView → Option Established → ℕ
window_end c o = value_on 0 (λ d e. d.board.una + e.rwnd) c o

-- a segment that the windows let leave is sent from a connection, which becomes another one
pub record IsSending (now : ℕ) (segment : Span) (c d : ConnectionView) : Type 0 where
  pub stays : still d ≡ still c
  pub rtt_segment : d.rtt_segment ≡ rtt_segment_by_karn_after_sending now segment c.board.top c.rtt_segment
  pub low : d.board.top ≤ max c.board.top segment.end
  pub high : c.board.top ≤ d.board.top
  pub within : segment.end ≤ d.board.top
  pub allowed : c.board.top < segment.end → segment.end ≤ window_end c c.established
  pub queued : c.board.top ≤ segment.start → segment.start < segment.end → segment.end ≤ c.board.end

-- a connection is left as it is, but for the sending place and what recovery has sent
pub record IsMoved (c d : ConnectionView) : Type 0 where
  pub stays : still d ≡ still c
  pub rtt_segment : d.rtt_segment ≡ c.rtt_segment
  pub top : d.board.top ≡ c.board.top

-- such a relation
pub record Goes (now : ℕ) (R : SenderState → SenderState → Type 0) : Type 0 where
  pub none : (s : SenderState) → R s s
  pub more : (r s t : SenderState) → R r s → R s t → R r t
  pub moved : (c d : ConnectionView) (s : SenderState) → s.endpoint.connection ≡ Some c → IsMoved c d → R s (with_begun_connection d s)
  pub sent :
      (rule : SendRule) (segment : Span) (c d : ConnectionView) (s : SenderState) → s.endpoint.connection ≡ Some c → IsSending now segment c d
      → R s (with_segment now rule segment c d s)

greater : (a b : ℕ) → (a ≤ max a b) × (b ≤ max a b)
greater a b = (omega arith, omega arith)

same : (a : ℕ) → a ≤ a
same a = omega arith

-- what ends among octets that were sent has no others
sent_before : (a b edge : ℕ) → a ≤ b → b < a → a ≤ edge
sent_before a b edge le lt = absurd (omega (arith, le, lt))

none_new : (start end top last : ℕ) → end ≤ top → top ≤ start → start < end → end ≤ last
none_new start end top last below above some = absurd (omega (arith, below, above, some))

-- One segment

-- new octets
new_octets : (now : ℕ) (segment : Span) (c d : ConnectionView) → still d ≡ still c
    → d.rtt_segment ≡ rtt_segment_by_karn_after_sending now segment c.board.top c.rtt_segment → d.board.top ≡ max c.board.top segment.end
    → (c.board.top < segment.end → segment.end ≤ window_end c c.established)
    → (c.board.top ≤ segment.start → segment.start < segment.end → segment.end ≤ c.board.end) → IsSending now segment c d
new_octets now segment c d stays rtt_segment top allowed queued = record {
  stays = stays;
  rtt_segment = rtt_segment;
  low = subst (λ (n : ℕ). n ≤ max c.board.top segment.end) (sym top) (same (max c.board.top segment.end));
  high = subst (λ (n : ℕ). c.board.top ≤ n) (sym top) (greater c.board.top segment.end).0;
  within = subst (λ (n : ℕ). segment.end ≤ n) (sym top) (greater c.board.top segment.end).1;
  allowed = allowed;
  queued = queued;
}

-- octets again
old_octets : (now : ℕ) (segment : Span) (c d : ConnectionView) → still d ≡ still c
    → d.rtt_segment ≡ rtt_segment_by_karn_after_sending now segment c.board.top c.rtt_segment → d.board.top ≡ c.board.top
    → segment.end ≤ c.board.top → IsSending now segment c d
old_octets now segment c d stays rtt_segment top below = record {
  stays = stays;
  rtt_segment = rtt_segment;
  low = subst (λ (n : ℕ). n ≤ max c.board.top segment.end) (sym top) (greater c.board.top segment.end).0;
  high = subst (λ (n : ℕ). c.board.top ≤ n) (sym top) (same c.board.top);
  within = subst (λ (n : ℕ). segment.end ≤ n) (sym top) below;
  allowed = sent_before segment.end c.board.top (window_end c c.established) below;
  queued = none_new segment.start segment.end c.board.top c.board.end below;
}

-- what ordinary sending finds ends in the peer's window
found_end : (c : ConnectionView) (o : Option Established) (segment : Span) → found_on c o ≡ Some segment → segment.end ≤ window_end c o
found_end c None segment h = absurd cc
found_end c (Some e) segment h = ordinary_end c e segment h

-- and among what is queued
found_queued : (c : ConnectionView) (o : Option Established) (segment : Span) → found_on c o ≡ Some segment
    → c.board.top ≤ segment.start → segment.start < segment.end → segment.end ≤ c.board.end
found_queued c None segment h = absurd cc
found_queued c (Some e) segment h = ordinary_queued c e segment h

ordinary_sending : (now : ℕ) (segment : Span) (c : ConnectionView) → found_on c c.established ≡ Some segment
    → IsSending now segment c (with_next_past_sacked (sent_on now segment c))
ordinary_sending now segment c h =
    new_octets now segment c (with_next_past_sacked (sent_on now segment c)) refl refl refl (λ _. found_end c c.established segment h)
    (found_queued c c.established segment h)

-- what is noted leaves the rest
abbrev bare : ConnectionView → ConnectionView
bare c = record c { established = None }

noted_bare : (filling : WindowFill) (sent : NextSegment) (c : ConnectionView) (o : Option Established) → bare (fill_noted_on filling sent c o) ≡ bare c
noted_bare filling sent c None = refl
noted_bare filling sent c (Some e) = refl

entered_bare : (segment : Span) (c : ConnectionView) (o : Option Established) → bare (entered_on segment c o) ≡ bare c
entered_bare segment c None = refl
entered_bare segment c (Some e) = refl

-- where what step C or limited transmit finds stands
abbrev StandsOn : ConnectionView → Option Established → NextSegment → Type 0
StandsOn c o (New segment) = (segment.end ≤ window_end c o) × (segment.end ≤ c.board.end)
StandsOn c o (Lost segment) = segment.end ≤ c.board.top
StandsOn c o (Hole segment) = segment.end ≤ c.board.top
StandsOn c o (Rescue segment) = segment.end ≤ c.board.top

on_board : (c : ConnectionView) (e : Established) (sent : NextSegment) → Stands e.rwnd c.board sent → StandsOn c (Some e) sent
on_board c e (New segment) h = (h.1, h.2)
on_board c e (Lost segment) h = h
on_board c e (Hole segment) h = h
on_board c e (Rescue segment) h = h

fill_stands : (filling : WindowFill) (n : ℕ) (c : ConnectionView) (o : Option Established) (sent : NextSegment) → next_on filling n c o ≡ Some sent
    → StandsOn c o sent
fill_stands filling n c None sent h = absurd cc
fill_stands filling n c (Some e) sent h = on_board c e sent (filling_stands filling n c e sent h)

-- what they make of the connection
abbrev fill_left : ℕ → WindowFill → NextSegment → ConnectionView → ConnectionView
fill_left now filling sent c = fill_noted_on filling sent (sent_as now sent c) c.established

fill_old : (now : ℕ) (filling : WindowFill) (sent : NextSegment) (c : ConnectionView) → sent_as now sent c ≡ timing_started now (segment_of sent) c
    → (segment_of sent).end ≤ c.board.top → IsSending now (segment_of sent) c (fill_left now filling sent c)
fill_old now filling sent c e below =
    let left : bare (fill_left now filling sent c) ≡ bare (timing_started now (segment_of sent) c) =
    noted_bare filling sent (sent_as now sent c) c.established ∙ ap bare e in
    old_octets now (segment_of sent) c (fill_left now filling sent c) (fill_still now filling sent c)
    (ap (λ (x : ConnectionView). x.rtt_segment) left) (ap (λ (x : ConnectionView). x.board.top) left) below

fill_sending : (now : ℕ) (filling : WindowFill) (sent : NextSegment) (c : ConnectionView) → StandsOn c c.established sent
    → IsSending now (segment_of sent) c (fill_left now filling sent c)
fill_sending now filling (New segment) c h =
    let left : bare (fill_left now filling (New segment) c) ≡ bare (sent_on now segment c) =
    noted_bare filling (New segment) (sent_on now segment c) c.established in
    new_octets now segment c (fill_left now filling (New segment) c) (fill_still now filling (New segment) c)
    (ap (λ (x : ConnectionView). x.rtt_segment) left) (ap (λ (x : ConnectionView). x.board.top) left) (λ _. h.0) (λ _ _. h.1)
fill_sending now filling (Lost segment) c h = fill_old now filling (Lost segment) c refl h
fill_sending now filling (Hole segment) c h = fill_old now filling (Hole segment) c refl h
fill_sending now filling (Rescue segment) c h = fill_old now filling (Rescue segment) c refl h

entry_sending : (now : ℕ) (segment : Span) (c : ConnectionView) → segment.end ≤ c.board.top
    → IsSending now segment c (entered_on segment (timing_started now segment c) c.established)
entry_sending now segment c below =
    let left : bare (entered_on segment (timing_started now segment c) c.established) ≡ bare (timing_started now segment c) =
    entered_bare segment (timing_started now segment c) c.established in
    old_octets now segment c (entered_on segment (timing_started now segment c) c.established)
    (entered_still segment (timing_started now segment c) c.established refl)
    (ap (λ (x : ConnectionView). x.rtt_segment) left) (ap (λ (x : ConnectionView). x.board.top) left) below

entry_moved : (segment : Span) (c : ConnectionView) → IsMoved c (entered_on segment c c.established)
entry_moved segment c = record {
  stays = entered_still segment c c.established refl;
  rtt_segment = ap (λ (x : ConnectionView). x.rtt_segment) (entered_bare segment c c.established);
  top = ap (λ (x : ConnectionView). x.board.top) (entered_bare segment c c.established);
}

-- All that an ACK or a call leads to

-- a segment that an ACK names is there
abbrev pub IsNamed : ConnectionView → AckAction → Type 0
IsNamed c (NewSegment segment) = (segment.end ≤ window_end c c.established) × (segment.end ≤ c.board.end)
IsNamed c (FastRetransmit segment) = segment.end ≤ c.board.top
IsNamed c _ = Unit {0}

module _ (now : ℕ) (R : SenderState → SenderState → Type 0) (rules : Goes now R) where
  once : (segment : Span) (s : SenderState) (o : Option ConnectionView) → s.endpoint.connection ≡ o → found o ≡ Some segment
      → R s (sent_ordinarily now segment o s)
  once segment s None e h = rules.none s
  once segment s (Some c) e h = rules.sent (ordinary_rule c) segment c (with_next_past_sacked (sent_on now segment c)) s e (ordinary_sending now segment c h)

  made_ready : (s : SenderState) (o : Option ConnectionView) → s.endpoint.connection ≡ o → R s (ready now o s)
  made_ready s None e = rules.none s
  made_ready s (Some c) e = rules.moved c (with_next_past_sacked (restarted_if_idle now c)) s e (record { stays = begun_still now c; rtt_segment = refl; top = refl })

  pub ordinary_goes : (r s : SenderState) → R r s → Leaves (R r) (ordinary now s)
  ordinary_goes r s h =
      let u : SenderState = ready now s.endpoint.connection s in
      kept (R r) finds (sends now)
      (λ segment t e so_far. rules.more r t (sends now segment t) so_far (once segment t t.endpoint.connection refl e))
      (places_left u) u (rules.more r s u h (made_ready s s.endpoint.connection refl))

  fill_once : (filling : WindowFill) (sent : NextSegment) (t : OnTheWay) (o : Option ConnectionView) → t.0.endpoint.connection ≡ o
      → next_fill filling t.1 o ≡ Some sent → R t.0 (one_filled now filling sent o t).0
  fill_once filling sent t None e h = rules.none t.0
  fill_once filling sent t (Some c) e h =
      rules.sent (fill_rule filling sent) (segment_of sent) c (fill_left now filling sent c) t.0 e
      (fill_sending now filling sent c (fill_stands filling t.1 c c.established sent h))

  pub filled_goes : (filling : WindowFill) (r s : SenderState) → R r s → Leaves (R r) (filled now filling s)
  filled_goes filling r s h =
      sender_leaves (R r) _
      (kept (λ t. R r t.0) (fill_finds filling) (fill_sends now filling)
      (λ sent t e so_far. rules.more r t.0 (fill_sends now filling sent t).0 so_far (fill_once filling sent t t.0.endpoint.connection refl e))
      (places_left s) (s, pipe_of s.endpoint.connection) h)

  put_goes : (rule : SendRule) (segment : Span) (c d : ConnectionView) (s : SenderState) → s.endpoint.connection ≡ Some c → IsSending now segment c d
      → Leaves (R s) (push_data_segment_to_outbox now rule segment c d s)
  put_goes rule segment c d s e h =
      either (R s) (has_place s.endpoint.outbox) (Ok (with_segment now rule segment c d s)) (Err Limit) (rules.sent rule segment c d s e h) tt

  entry_goes : (c : ConnectionView) (s : SenderState) → s.endpoint.connection ≡ Some c → Leaves (R s) (entry now c s)
  entry_goes c s e =
      let segment : Span = run_at c.board.una c.board in
      let sent : ConnectionView = entered_on segment (timing_started now segment c) c.established in
      let moved : ConnectionView = entered_on segment c c.established in
      either (R s) (nat_lt segment.start segment.end) (push_data_segment_to_outbox now SackFastRetransmit segment c sent s) (Ok (with_begun_connection moved s))
      (put_goes SackFastRetransmit segment c sent s e (entry_sending now segment c (run_end c.board c.board.una)))
      (rules.moved c moved s e (entry_moved segment c))

  pub led_to_goes : (c : ConnectionView) (s : SenderState) (next : AckAction) → s.endpoint.connection ≡ Some c → IsNamed c next → Leaves (R s) (after_ack_action now c s next)
  led_to_goes c s Ordinary e h = ordinary_goes s s (rules.none s)
  led_to_goes c s StepC e h = filled_goes NextSeg s s (rules.none s)
  led_to_goes c s Entry e h =
      then_leaves (R s) (R s) (filled now NextSeg) (entry now c s) (entry_goes c s e) (λ t so_far. filled_goes NextSeg s t so_far)
  led_to_goes c s LimitedTransmit e h = filled_goes NewData s s (rules.none s)
  led_to_goes c s (NewSegment segment) e h =
      put_goes LimitedBy3042 segment c (sent_on now segment c) s e (new_octets now segment c (sent_on now segment c) refl refl refl (λ _. h.0) (λ _ _. h.1))
  led_to_goes c s (FastRetransmit segment) e h =
      then_leaves (R s) (R s) (ordinary now) (push_data_segment_to_outbox now FastBy5681 segment c (timing_started now segment c) s)
      (put_goes FastBy5681 segment c (timing_started now segment c) s e (old_octets now segment c (timing_started now segment c) refl refl refl h))
      (λ t so_far. ordinary_goes s t so_far)
  led_to_goes c s Nothing e h = rules.none s
