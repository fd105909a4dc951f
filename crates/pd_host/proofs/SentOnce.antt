-- A round trip is measured only of octets that were sent once.
use Rattle.std.proofs.Common.{◌≡◌, ◌⊎◌, inl, inr, ℕ, ◌-◌, ◌<◌, ◌≤◌, ◌&&◌, max, nat_lt, nat_le, Bool, true, false, if◌then◌else◌, List, [], ◌∷◌, ◌++◌, Option, None, Some, Ok, Err, length, refl, sym, subst, ap, ◌∙◌, append_assoc, append-nil, arith}
use Rattle.std.specs.List.{AllByRecursion}
use Rattle.std.proofs.lemmas.Bool.Decides.{nat_tests}
use Rattle.pd_recover.specs.declared.ack_action.AckAction.{AckAction}
use Rattle.pd_script.specs.declared.calls.Call.{Call}
use Rattle.pd_seg.specs.declared.call_results.Answer.{Answer}
use Rattle.pd_seg.specs.declared.sack_spans.Span.{Span}
use Rattle.pd_seg.specs.declared.segments.Segment.{Segment}
use Rattle.pd_seg.specs.declared.segments.Sent.{Sent}
use Rattle.pd_seg.specs.declared.send_rule.SendRule.{SendRule}
use Rattle.pd_seg.specs.declared.send_rule.SendRule.TheVariants.{SynAck, Ack, Rst}
use Rattle.pd_timer.specs.Rto.{sampled}
use Rattle.pd_host.specs.AckEffects.{newly_acked, with_blocks, with_number, with_ack, with_timing, can_update_window, taking, ack_taken}
use Rattle.pd_host.specs.Arrivals.{check_outcome, arrived_on, arrived, failed_check_of, reset_of, with_peer_fin}
use Rattle.pd_host.specs.Calls.{called}
use Rattle.pd_host.specs.Connection.{ConnectionView}
use Rattle.pd_host.specs.Expiries.{segment_again, expiry_rule, connection_expired, expired, advanced}
use Rattle.pd_host.specs.Handshake.{is_supported_syn_while_listening, connection_begun, answered_syn, syn_settings, syn_octet, established_by, establishment_settings, syn_acked, scaled_window_in, with_window}
use Rattle.pd_host.specs.Packets.{data_of, ack_of, refusal_of, syn_ack_of}
use Rattle.pd_host.specs.Host.{beside, with_outbox}
use Rattle.pd_host.specs.Sending.{places_left, with_begun_connection, with_segment}
use Rattle.pd_host.specs.SendingLaws.{top_in, rtt_segment_in, end_with_flags, touches, AreApart, IsSentOnce, TimesNew, MeasuresWhatIsSentOnce}
use Rattle.pd_host.specs.RttSegment.{overlaps, rtt_segment_by_karn_after_sending, is_measured, measured, with_sample, with_timer_updated}
use Rattle.pd_host.specs.declared.established.Established.{Established}
use Rattle.pd_host.specs.declared.halts.Halt.TheVariants.{Limit, Unsupported}
use Rattle.pd_host.specs.declared.connection.segment_check.SegmentCheck.{SegmentCheck}
use Rattle.pd_host.specs.declared.connection.segment_check.SegmentCheck.TheVariants.{NotRun, StrayRst, OutsideWindow, ExactRst, ChallengedRst, WithoutAck, FirstAck, RefusedAck, EarlyAck, OldAck}
use Rattle.pd_host.specs.declared.endpoint.SenderState.{SenderState}
use Rattle.pd_host.specs.declared.connection.rtt_segment.RttSegment.{RttSegment}
use Rattle.pd_host.proofs.Advances.{expiry_finds, expiry_sends}
use Rattle.pd_host.proofs.CallsGo.{IsQuiet, called_goes}
use Rattle.pd_host.proofs.Finishes.{after_fin, passed_leaves}
use Rattle.pd_host.proofs.Goes.{IsSending, IsMoved, Goes, led_to_goes}
use Rattle.pd_host.proofs.InWindow.{packet_ends, packet_is, taking_named, taking_top}
use Rattle.pd_host.proofs.Outcomes.{Leaves, came, leaves_too, either, kept}

-- Tests

within : (a b : ℕ) → nat_le a b ≡ true → a ≤ b
within a b e = grind (arith, nat_tests)

lower : (x m n : ℕ) → x ≤ m → m ≤ n → x ≤ n
lower x m n h k = omega (arith, h, k)

-- what has no octets, or lies below another segment, has no octet of it
empty_apart : (n a b : ℕ) → (nat_lt n n && (nat_lt a n && nat_lt n b)) ≡ false
empty_apart n a b = let e : nat_lt n n ≡ false = grind (arith, nat_tests) in ap (λ (x : Bool). x && (nat_lt a n && nat_lt n b)) e

below_apart : (test : Bool) (start end a b : ℕ) → nat_lt start end ≡ test → (start < end → end ≤ a) → (test && (nat_lt a end && nat_lt start b)) ≡ false
below_apart false start end a b t h = refl
below_apart true start end a b t h =
    let lt : start < end = grind (arith, nat_tests, t) in
    let le : end ≤ a = h lt in
    let e : nat_lt a end ≡ false = grind (arith, nat_tests, le) in
    ap (λ (x : Bool). x && nat_lt start b) e

-- what ends at or below a segment's end has an octet only of what the segment has one of
narrow : (one two : Bool) (start end wide a b : ℕ) → nat_lt a wide ≡ one → nat_lt start b ≡ two → end ≤ wide → (one && two) ≡ false
    → (nat_lt start end && (nat_lt a end && nat_lt start b)) ≡ false
narrow true true start end wide a b e f le h = absurd cc
narrow true false start end wide a b e f le h =
    ap (λ (x : Bool). nat_lt start end && (nat_lt a end && x)) f ∙ neither (nat_lt start end) (nat_lt a end)
  where
    neither : (x y : Bool) → (x && (y && false)) ≡ false
    neither true true = refl
    neither true false = refl
    neither false y = refl
narrow false two start end wide a b e f le h =
    let out : nat_lt a end ≡ false = grind (arith, nat_tests, e, le) in
    ap (λ (x : Bool). nat_lt start end && (x && nat_lt start b)) out ∙ never (nat_lt start end)
  where
    never : (x : Bool) → (x && false) ≡ false
    never true = refl
    never false = refl

-- Packets

apart_both : (x : RttSegment) (a b : List Sent) → AreApart x a → AreApart x b → AreApart x (a ++ b)
apart_both x [] b first second = second
apart_both x (p ∷ a) b first second = (first.0, apart_both x a b first.1 second)

-- the octets of a packet lie below a number, if it has any
abbrev IsBelow : ℕ → Sent → Type 0
IsBelow edge p = p.segment.start < end_with_flags p.segment → end_with_flags p.segment ≤ edge

abbrev AllBelow : ℕ → List Sent → Type 0
AllBelow edge packets = AllByRecursion (IsBelow edge) packets

lifted : (m n : ℕ) → m ≤ n → (packets : List Sent) → AllBelow m packets → AllBelow n packets
lifted m n le [] h = tt
lifted m n le (p ∷ packets) h = (λ lt. lower (end_with_flags p.segment) m n (h.0 lt) le, lifted m n le packets h.1)

both_lists : (n : ℕ) (a b : List Sent) → AllBelow n a → AllBelow n b → AllBelow n (a ++ b)
both_lists n [] b first second = second
both_lists n (p ∷ a) b first second = (first.0, both_lists n a b first.1 second)

apart_below : (x : RttSegment) (packets : List Sent) → AllBelow x.segment.start packets → AreApart x packets
apart_below x [] h = tt
apart_below x (p ∷ packets) h = (
  below_apart (nat_lt p.segment.start (end_with_flags p.segment)) p.segment.start (end_with_flags p.segment) x.segment.start x.segment.end refl h.0,
  apart_below x packets h.1,
)

once_before : (top : ℕ) (x : RttSegment) (a b : List Sent) → AreApart x b → IsSentOnce top x a → IsSentOnce top x (a ++ b)
once_before top x a b apart h = record {
  above = h.above;
  before = h.before;
  packet = h.packet;
  after = h.after ++ b;
  order = ap (λ (l : List Sent). l ++ b) h.order ∙ append_assoc h.before (h.packet ∷ h.after) b;
  start = h.start;
  end = h.end;
  moment = h.moment;
  apart_before = h.apart_before;
  apart_after = apart_both x h.after b h.apart_after apart;
}

once_after : (top next : ℕ) (x : RttSegment) (a b : List Sent) → top ≤ next → AllBelow next a → IsSentOnce next x b → IsSentOnce top x (a ++ b)
once_after top next x a b le below h = record {
  above = lower top next x.segment.start le h.above;
  before = a ++ h.before;
  packet = h.packet;
  after = h.after;
  order = ap (λ (l : List Sent). a ++ l) h.order ∙ sym (append_assoc a h.before (h.packet ∷ h.after));
  start = h.start;
  end = h.end;
  moment = h.moment;
  apart_before = apart_both x a h.before (apart_below x a (lifted next x.segment.start h.above a below)) h.apart_before;
  apart_after = h.apart_after;
}

-- The relation

abbrev Origin : SenderState → RttSegment → List Sent → Type 0
Origin s x packets = ((rtt_segment_in s.endpoint.connection ≡ Some x) × AreApart x packets) ⊎ IsSentOnce (top_in s.endpoint.connection) x packets

record IsTimed (s t : SenderState) : Type 0 where
  pub packets : List Sent
  pub outbox : t.endpoint.outbox ≡ s.endpoint.outbox ++ packets
  pub high : top_in s.endpoint.connection ≤ top_in t.endpoint.connection
  pub below : AllBelow (top_in t.endpoint.connection) packets
  pub origin : (x : RttSegment) → rtt_segment_in t.endpoint.connection ≡ Some x → Origin s x packets

same : (n : ℕ) → n ≤ n
same n = omega arith

none_timed : (s : SenderState) → IsTimed s s
none_timed s = record {
  packets = [];
  outbox = sym (append-nil s.endpoint.outbox);
  high = same (top_in s.endpoint.connection);
  below = tt;
  origin = λ x h. inl (h, tt);
}

-- what was timed before the second part was timed before both, or was sent in the first
from_first : (r : SenderState) (x : RttSegment) (a b : List Sent) → AreApart x b → Origin r x a → Origin r x (a ++ b)
from_first r x a b apart (inl h) = inl (h.0, apart_both x a b h.1 apart)
from_first r x a b apart (inr h) = inr (once_before (top_in r.endpoint.connection) x a b apart h)

from_both : (r s : SenderState) (x : RttSegment) (a b : List Sent) → top_in r.endpoint.connection ≤ top_in s.endpoint.connection
    → AllBelow (top_in s.endpoint.connection) a
    → (rtt_segment_in s.endpoint.connection ≡ Some x → Origin r x a) → Origin s x b → Origin r x (a ++ b)
from_both r s x a b high below first (inl h) = from_first r x a b h.1 (first h.0)
from_both r s x a b high below first (inr h) = inr (once_after (top_in r.endpoint.connection) (top_in s.endpoint.connection) x a b high below h)

further : (r s t : SenderState) → IsTimed r s → IsTimed s t → IsTimed r t
further r s t a b = record {
  packets = a.packets ++ b.packets;
  outbox = b.outbox ∙ ap (λ l. l ++ b.packets) a.outbox ∙ append_assoc r.endpoint.outbox a.packets b.packets;
  high = lower (top_in r.endpoint.connection) (top_in s.endpoint.connection) (top_in t.endpoint.connection) a.high b.high;
  below = both_lists (top_in t.endpoint.connection) a.packets b.packets
      (lifted (top_in s.endpoint.connection) (top_in t.endpoint.connection) b.high a.packets a.below) b.below;
  origin = λ x h. from_both r s x a.packets b.packets a.high a.below (a.origin x) (b.origin x h);
}

moved : (c d : ConnectionView) (s : SenderState) → s.endpoint.connection ≡ Some c → IsMoved c d → IsTimed s (with_begun_connection d s)
moved c d s e h = record {
  packets = [];
  outbox = sym (append-nil s.endpoint.outbox);
  high = subst (λ (n : ℕ). top_in s.endpoint.connection ≤ n) (ap top_in e ∙ sym h.top) (same (top_in s.endpoint.connection));
  below = tt;
  origin = λ x k. inl (ap rtt_segment_in e ∙ sym h.rtt_segment ∙ k, tt);
}

-- One segment

nothing : (x : RttSegment) → None ≡ Some x → ⊥
nothing x e = cc

-- octets that weren't sent are queued
abbrev IsQueuedIfNew : ConnectionView → Span → Type 0
IsQueuedIfNew c segment = c.board.top ≤ segment.start → segment.start < segment.end → segment.end ≤ c.board.end

newly_timed : (b : Bool) (now : ℕ) (rule : SendRule) (segment : Span) (c : ConnectionView) (x : RttSegment) → IsQueuedIfNew c segment → nat_le c.board.top segment.start ≡ b
    → (if b then Some (record { segment = segment; sent_at = now }) else None) ≡ Some x
    → IsSentOnce c.board.top x (record { segment = data_of c segment; at = now; rule = rule } ∷ [])
newly_timed true now rule segment c x queued t h =
    let timing : RttSegment = record { segment = segment; sent_at = now } in
    let packet : Sent = record { segment = data_of c segment; at = now; rule = rule } in
    let is : timing ≡ x = cc in
    subst (λ (y : RttSegment). IsSentOnce c.board.top y (packet ∷ [])) is (record {
      above = within c.board.top segment.start t;
      before = [];
      packet = packet;
      after = [];
      order = refl;
      start = refl;
      end = λ some. packet_is c segment some (queued (within c.board.top segment.start t) some);
      moment = refl;
      apart_before = tt;
      apart_after = tt;
    })
newly_timed false now rule segment c x queued t h = absurd (nothing x h)

still_timed : (b : Bool) (now : ℕ) (rule : SendRule) (segment : Span) (c : ConnectionView) (t x : RttSegment) → overlaps t.segment segment ≡ b
    → (if b then None else Some t) ≡ Some x
    → (Some t ≡ Some x) × AreApart x (record { segment = data_of c segment; at = now; rule = rule } ∷ [])
still_timed true now rule segment c t x o h = absurd (nothing x h)
still_timed false now rule segment c t x o h =
    let packet : Sent = record { segment = data_of c segment; at = now; rule = rule } in
    let is : t ≡ x = cc in
    let apart : touches t packet ≡ false =
    narrow (nat_lt t.segment.start segment.end) (nat_lt segment.start t.segment.end) segment.start (end_with_flags packet.segment) segment.end t.segment.start t.segment.end
    refl refl (packet_ends c segment) o in
    (h, (subst (λ (y : RttSegment). touches y packet ≡ false) is apart, tt))

one_origin : (now : ℕ) (rule : SendRule) (segment : Span) (c : ConnectionView) (o : Option RttSegment) (x : RttSegment) → IsQueuedIfNew c segment → c.rtt_segment ≡ o
    → rtt_segment_by_karn_after_sending now segment c.board.top o ≡ Some x
    → ((c.rtt_segment ≡ Some x) × AreApart x (record { segment = data_of c segment; at = now; rule = rule } ∷ []))
    ⊎ IsSentOnce c.board.top x (record { segment = data_of c segment; at = now; rule = rule } ∷ [])
one_origin now rule segment c None x queued e h = inr (newly_timed (nat_le c.board.top segment.start) now rule segment c x queued refl h)
one_origin now rule segment c (Some t) x queued e h =
    let kept = still_timed (overlaps t.segment segment) now rule segment c t x refl h in
    inl (e ∙ kept.0, kept.1)

sent : (now : ℕ) (rule : SendRule) (segment : Span) (c d : ConnectionView) (s : SenderState) → s.endpoint.connection ≡ Some c → IsSending now segment c d
    → IsTimed s (with_segment now rule segment c d s)
sent now rule segment c d s e h =
    let packet : Sent = record { segment = data_of c segment; at = now; rule = rule } in
    record {
      packets = packet ∷ [];
      outbox = refl;
      high = subst (λ (o : Option ConnectionView). top_in o ≤ d.board.top) (sym e) h.high;
      below = (λ lt. lower (end_with_flags packet.segment) segment.end d.board.top (packet_ends c segment) h.within, tt);
      origin = λ x k.
          subst (λ (o : Option ConnectionView). ((rtt_segment_in o ≡ Some x) × AreApart x (packet ∷ [])) ⊎ IsSentOnce (top_in o) x (packet ∷ [])) (sym e)
          (one_origin now rule segment c c.rtt_segment x h.queued refl (sym h.rtt_segment ∙ k));
    }

timed_rules : (now : ℕ) → Goes now IsTimed
timed_rules now = record { none = none_timed; more = further; moved = moved; sent = sent now }

-- Calls

-- from a state with the same numbers and at most the same timing
from_like : (s u : SenderState) (x : RttSegment) (packets : List Sent) → (rtt_segment_in u.endpoint.connection ≡ Some x → rtt_segment_in s.endpoint.connection ≡ Some x)
    → top_in u.endpoint.connection ≡ top_in s.endpoint.connection → Origin u x packets → Origin s x packets
from_like s u x packets rtt_segment top (inl h) = inl (rtt_segment h.0, h.1)
from_like s u x packets rtt_segment top (inr h) = inr (subst (λ (n : ℕ). IsSentOnce n x packets) top h)

calls_time_new : (call : Call) (now : ℕ) (s t : SenderState) (a : Answer) → called call now s ≡ Ok (t, a) → TimesNew s t
calls_time_new call now s t a h =
    let went = called_goes now IsTimed (timed_rules now) call s t a h in
    let u : SenderState = went.0 in
    let quiet : IsQuiet s u = went.1 in
    let run : IsTimed u t = went.2 in (
      run.packets,
      run.outbox ∙ ap (λ (l : List Sent). l ++ run.packets) quiet.outbox,
      λ x k. from_like s u x run.packets (λ m. sym quiet.rtt_segment ∙ m) quiet.sent (run.origin x k),
    )

-- Arrivals

unchanged : (s t : SenderState) → t.endpoint.outbox ≡ s.endpoint.outbox
    → ((x : RttSegment) → rtt_segment_in t.endpoint.connection ≡ Some x → rtt_segment_in s.endpoint.connection ≡ Some x) → TimesNew s t
unchanged s t out rtt_segment =
    ([], sym (append-nil t.endpoint.outbox) ∙ ap (λ (l : List Sent). l ++ []) out, λ x h. inl (rtt_segment x h, tt))

-- a packet without octets more
one_more : (b : Bool) (now : ℕ) (rule : SendRule) (segment : Segment) (s : SenderState) → ((x : RttSegment) → touches x (record { segment = segment; at = now; rule = rule }) ≡ false)
    → Leaves (TimesNew s) (beside s (with_outbox s.endpoint (if b then Ok (s.endpoint.outbox ++ record { segment = segment; at = now; rule = rule } ∷ []) else Err Limit)))
one_more true now rule segment s apart =
    let packet : Sent = record { segment = segment; at = now; rule = rule } in
    (packet ∷ [], refl, λ x h. inl (h, (apart x, tt)))
one_more false now rule segment s apart = tt

answered_more : (now : ℕ) (rule : SendRule) (segment : Segment) (s : SenderState) → ((x : RttSegment) → touches x (record { segment = segment; at = now; rule = rule }) ≡ false)
    → Leaves (TimesNew s) (beside s (with_outbox s.endpoint (if nat_lt (length s.endpoint.outbox) 1024 then Ok (s.endpoint.outbox ++ record { segment = segment; at = now; rule = rule } ∷ []) else Err Limit)))
answered_more now rule segment s apart = one_more (nat_lt (length s.endpoint.outbox) 1024) now rule segment s apart

-- a measured segment isn't timed any more, and another one stays

measured_so : (b : Bool) (now granularity : ℕ) (c : ConnectionView) (t x : RttSegment)
    → (if b then record c { timer = sampled (now - t.sent_at) granularity c.timer; rtt_segment = None } else c).rtt_segment ≡ Some x → c.rtt_segment ≡ Some x
measured_so true now granularity c t x h = absurd (nothing x h)
measured_so false now granularity c t x h = h

measured_timed : (now granularity ack : ℕ) (c : ConnectionView) (o : Option RttSegment) (x : RttSegment)
    → (measured now granularity ack c o).rtt_segment ≡ Some x → c.rtt_segment ≡ Some x
measured_timed now granularity ack c None x h = h
measured_timed now granularity ack c (Some t) x h = measured_so (is_measured ack t) now granularity c t x h

moved_so : (b : Bool) (now granularity : ℕ) (c : ConnectionView) (x : RttSegment)
    → (if b then with_timer_updated now (with_sample now granularity c.board.una c) else c).rtt_segment ≡ Some x → c.rtt_segment ≡ Some x
moved_so true now granularity c x h = measured_timed now granularity c.board.una c c.rtt_segment x h
moved_so false now granularity c x h = h

window_so : (b : Bool) (segment : Segment) (e : Established) (c : ConnectionView) (x : RttSegment)
    → (if◌then◌else◌ {A = ConnectionView × Established} b (record c { max_window = max c.max_window (scaled_window_in c segment) }, with_window (scaled_window_in c segment) segment e) (c, e)).0.rtt_segment ≡ Some x
    → c.rtt_segment ≡ Some x
window_so true segment e c x h = h
window_so false segment e c x h = h

ack_timed : (now : ℕ) (segment : Segment) (e : Established) (c : ConnectionView) (x : RttSegment) → (with_ack now segment e c).0.0.rtt_segment ≡ Some x → c.rtt_segment ≡ Some x
ack_timed now segment e c x h =
    let told : ConnectionView = with_blocks segment (with_number segment c) in
    let n : ℕ = newly_acked c segment in
    moved_so (nat_lt 0 n) now e.granularity_us told x
    (window_so (can_update_window e segment) segment e (with_timing now e.granularity_us n told) x h)

taking_timed : (now : ℕ) (segment : Segment) (c : ConnectionView) (o : Option Established) (x : RttSegment) → (taking now segment c o).0.rtt_segment ≡ Some x → c.rtt_segment ≡ Some x
taking_timed now segment c None x h = h
taking_timed now segment c (Some e) x h = ack_timed now segment e c x h

taken_times_new : (now : ℕ) (segment : Segment) (c : ConnectionView) (s : SenderState) (o : Option Established) → s.endpoint.connection ≡ Some c
    → Leaves (TimesNew s) (ack_taken now segment c s o)
taken_times_new now segment c s o e =
    let step : ConnectionView × AckAction = taking now segment c o in
    let u : SenderState = with_begun_connection step.0 s in
    leaves_too (IsTimed u) (TimesNew s) (ack_taken now segment c s o)
    (λ t run. (
      run.packets,
      run.outbox,
      λ x k.
          from_like s u x run.packets (λ m. ap rtt_segment_in e ∙ taking_timed now segment c o x m) (taking_top now segment c o ∙ sym (ap top_in e)) (run.origin x k),
    ))
    (led_to_goes now IsTimed (timed_rules now) step.0 u step.1 refl (taking_named now segment c o))

by_ruling : (r : Option SegmentCheck) (segment : Segment) (now : ℕ) (s : SenderState) (c : ConnectionView) → s.endpoint.connection ≡ Some c
    → Leaves (TimesNew s) (check_outcome now segment c s r)
by_ruling (Some NotRun) segment now s c e = tt
by_ruling (Some StrayRst) segment now s c e = unchanged s s refl (λ x h. h)
by_ruling (Some OutsideWindow) segment now s c e = answered_more now Ack (ack_of c) s (λ x. empty_apart c.board.top x.segment.start x.segment.end)
by_ruling (Some ExactRst) segment now s c e = unchanged s (with_begun_connection (reset_of c) s) refl (λ x h. absurd (nothing x h))
by_ruling (Some ChallengedRst) segment now s c e = answered_more now Ack (ack_of c) s (λ x. empty_apart c.board.top x.segment.start x.segment.end)
by_ruling (Some WithoutAck) segment now s c e = unchanged s s refl (λ x h. h)
by_ruling (Some FirstAck) segment now s c e =
    let left : SenderState = with_begun_connection (established_by now s.settings segment c) s in
    unchanged s (record left { consulted_settings = establishment_settings s.consulted_settings }) refl
    (λ x h. ap rtt_segment_in e ∙ measured_timed now s.settings.granularity_us 1 (syn_acked c) (syn_acked c).rtt_segment x h)
by_ruling (Some RefusedAck) segment now s c e = answered_more now Rst (refusal_of segment.ack) s (λ x. empty_apart segment.ack x.segment.start x.segment.end)
by_ruling (Some EarlyAck) segment now s c e = answered_more now Ack (ack_of c) s (λ x. empty_apart c.board.top x.segment.start x.segment.end)
by_ruling (Some OldAck) segment now s c e = unchanged s s refl (λ x h. h)
by_ruling None segment now s c e = taken_times_new now segment c s c.established e

-- our SYN is timed from the moment that it is put out at
opened_so : (b : Bool) (now : ℕ) (c : ConnectionView) (s : SenderState) → s.endpoint.connection ≡ None
    → c.rtt_segment ≡ Some (record { segment = syn_octet; sent_at = now })
    → Leaves (TimesNew s) (beside (record s { consulted_settings = syn_settings s.consulted_settings }) (with_outbox (record s.endpoint { connection = Some c }) (if b then Ok (s.endpoint.outbox ++ record { segment = syn_ack_of c; at = now; rule = SynAck } ∷ []) else Err Limit)))
opened_so true now c s e rtt_segment =
    let packet : Sent = record { segment = syn_ack_of c; at = now; rule = SynAck } in
    let timing : RttSegment = record { segment = syn_octet; sent_at = now } in (
      packet ∷ [],
      refl,
      λ x h.
          let is : timing ≡ x = the_timing timing x (sym rtt_segment ∙ h) in
          inr (subst (λ (o : Option ConnectionView). IsSentOnce (top_in o) x (packet ∷ [])) (sym e)
          (subst (λ (y : RttSegment). IsSentOnce 0 y (packet ∷ [])) is (record {
            above = same 0;
            before = [];
            packet = packet;
            after = [];
            order = refl;
            start = refl;
            end = λ _. refl;
            moment = refl;
            apart_before = tt;
            apart_after = tt;
          }))),
    )
  where
    the_timing : (y z : RttSegment) → Some y ≡ Some z → y ≡ z
    the_timing y z h = cc
opened_so false now c s e rtt_segment = tt

-- the ACK of the peer's FIN has none of its octets
fin_times_new : (now : ℕ) (s u : SenderState) (c : ConnectionView) → u.endpoint.connection ≡ Some c → TimesNew s u → TimesNew s (after_fin now c u)
fin_times_new now s u c e h =
    let packet : Sent = record { segment = ack_of (with_peer_fin c); at = now; rule = Ack } in (
      h.0 ++ packet ∷ [],
      ap (λ (l : List Sent). l ++ packet ∷ []) h.1 ∙ append_assoc s.endpoint.outbox h.0 (packet ∷ []),
      λ x k. from_first s x h.0 (packet ∷ []) (empty_apart c.board.top x.segment.start x.segment.end, tt) (h.2 x (ap rtt_segment_in e ∙ k)),
    )

on_connection : (o : Option ConnectionView) (segment : Segment) (now : ℕ) (s : SenderState) → s.endpoint.connection ≡ o
    → Leaves (TimesNew s) (arrived_on now segment s o)
on_connection None segment now s e =
    let c : ConnectionView = connection_begun now s.settings segment in
    either (TimesNew s) (is_supported_syn_while_listening s.endpoint.listener segment) (answered_syn now c s) (Err Unsupported)
    (opened_so (nat_lt (length s.endpoint.outbox) 1024) now c s e refl) tt
on_connection (Some c) segment now s e =
    passed_leaves (TimesNew s) now segment c s (failed_check_of c segment) (λ u d is k. fin_times_new now s u d is k)
    (by_ruling (failed_check_of c segment) segment now s c e)

-- Expiries

-- once one was performed, nothing is timed
record IsGivenUp (s t : SenderState) : Type 0 where
  pub packets : List Sent
  pub outbox : t.endpoint.outbox ≡ s.endpoint.outbox ++ packets
  pub rtt_segment : (x : RttSegment) → rtt_segment_in t.endpoint.connection ≡ Some x → (rtt_segment_in s.endpoint.connection ≡ Some x) × (packets ≡ [])

expired_timed : (at : ℕ) (c : ConnectionView) (o : Option Established) → (connection_expired at c o).rtt_segment ≡ None
expired_timed at c None = refl
expired_timed at c (Some e) = refl

one_given_up : (at : ℕ) (s t : SenderState) (o : Option ConnectionView) → IsGivenUp s t → IsGivenUp s (expired at o t)
one_given_up at s t None h = h
one_given_up at s t (Some c) h =
    let packet : Sent = record { segment = segment_again c c.established; at = at; rule = expiry_rule c.established } in
    record {
      packets = h.packets ++ packet ∷ [];
      outbox = ap (λ (l : List Sent). l ++ packet ∷ []) h.outbox ∙ append_assoc s.endpoint.outbox h.packets (packet ∷ []);
      rtt_segment = λ x k. absurd (nothing x (sym (expired_timed at c c.established) ∙ k));
    }

expiries_time_new : (until : ℕ) (s t : SenderState) → advanced until s ≡ Ok t → TimesNew s t
expiries_time_new until s t h =
    let run : IsGivenUp s t =
    came (IsGivenUp s) (advanced until s) t h
    (kept (IsGivenUp s) (expiry_finds until) expiry_sends (λ at u e so_far. one_given_up at s u u.endpoint.connection so_far) (places_left s) s
    (record { packets = []; outbox = sym (append-nil s.endpoint.outbox); rtt_segment = λ x k. (k, refl) })) in (
      run.packets,
      run.outbox,
      λ x k.
          let stays = run.rtt_segment x k in
          inl (stays.0, subst (AreApart x) (sym stays.1) tt),
    )

pub measures_what_is_sent_once : MeasuresWhatIsSentOnce
measures_what_is_sent_once = record {
  arrivals = λ segment now s t h.
      came (TimesNew s) (arrived segment now s) t h (on_connection s.endpoint.connection segment now s refl);
  calls = calls_time_new;
  expiries = expiries_time_new;
}
