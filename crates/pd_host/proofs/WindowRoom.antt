-- Step C and limited transmit put out no more octets than the congestion window has room for.
use Rattle.std.proofs.Common.{◌≡◌, ℕ, ◌+◌, ◌-◌, ◌≤◌, ◌&&◌, ◌^◌, min, max, nat_lt, nat_le, if◌then◌else◌, List, [], ◌∷◌, ◌++◌, Option, None, Some, refl, sym, subst, ap, ◌∙◌, append_assoc, append-nil, arith}
use Rattle.std.specs.Prelude.{Ok, unwrap_or, option_map}
use Rattle.pd_board.specs.Retransmit.{run_at, most_from, next_lost, find_unsacked_octet_by_nextseg_rule_3, rescue, segment_to}
use Rattle.pd_board.specs.Loss.{is_unsacked}
use Rattle.pd_board.specs.Octets.{contains, least_where, greatest_where, after}
use Rattle.pd_board.specs.Board.{BoardView}
use Rattle.pd_recover.specs.NextSeg.{segment_of, has_room_for_segment, lost_run, board_new_segment_at_top_if_whole_in_rwnd, hole_run, rescue_run, next_send as next_seg, step_c_segment, limited_transmit_segment}
use Rattle.pd_recover.specs.Cong.{CongView}
use Rattle.pd_recover.specs.declared.next_segment.NextSegment.{NextSegment}
use Rattle.pd_recover.specs.declared.next_segment.NextSegment.TheVariants.{Lost, New, Hole, Rescue}
use Rattle.pd_settings.specs.declared.recovery_algorithm.RecoveryAlgorithm.{RecoveryAlgorithm}
use Rattle.pd_recover.specs.Prr.{uses_prr, with_sent}
use Rattle.pd_recover.specs.declared.prr.PrrState.{PrrState}
use Rattle.pd_recover.proofs.Cases.{either}
use Rattle.pd_recover.proofs.Chosen.{AllOf, one_of, either_of, map_of, allowed_of}
use Rattle.pd_recover.proofs.Found.{least}
use Rattle.pd_seg.specs.declared.sack_spans.Span.{Span}
use Rattle.pd_seg.specs.declared.segments.Sent.{Sent}
use Rattle.pd_seg.specs.declared.send_rule.SendRule.{SendRule}
use Rattle.pd_host.specs.AckEffects.{fill_rule, OnTheWay, octets_of, next_by, next_fill, sent_as, fill_noted_by, fill_noted_on, one_filled, pipe_of, filled}
use Rattle.pd_host.specs.Connection.{ConnectionView}
use Rattle.pd_host.specs.Packets.{data_of}
use Rattle.pd_host.specs.Sending.{value_on, places_left, with_segment}
use Rattle.pd_host.specs.SendingLaws.{end_with_fin, octets_in, cwnd_in, out_in, FillsWindow, KeepsToWindow}
use Rattle.pd_host.specs.declared.established.Established.{Established}
use Rattle.pd_host.specs.declared.connection.ack_effects.WindowFill.{WindowFill}
use Rattle.pd_host.specs.declared.connection.ack_effects.WindowFill.TheVariants.{NextSeg, NewData}
use Rattle.pd_host.specs.declared.endpoint.SenderState.{SenderState}
use Rattle.pd_host.proofs.Chosen.{is_within}
use Rattle.pd_host.proofs.InWindow.{packet_ends}
use Rattle.pd_host.proofs.Outcomes.{Leaves, came, leaves_too, kept}
use Rattle.pd_host.proofs.SentOn.{sender_leaves, fill_finds, fill_sends, sent_as_established}
use Rattle.pd_host.proofs.Rules.{next_on}

-- Segments of SMSS octets at most

abbrev IsShort : ℕ → Span → Type 0
IsShort smss segment = octets_of segment ≤ smss

run_short : (s : BoardView) (x : ℕ) → IsShort s.smss (run_at x s)
run_short s x = by (least_where (contains s.sacked) x (most_from x s)) refl
  where
    by : (o : Option ℕ) → least_where (contains s.sacked) x (most_from x s) ≡ o → unwrap_or o (most_from x s) - x ≤ s.smss
    by None e = omega arith
    by (Some r) e = let h = least (contains s.sacked) x (most_from x s) r e in omega (arith, h.to)

new_short : (top smss left : ℕ) → top + min smss left - top ≤ smss
new_short top smss left = omega arith

data_short : (rwnd : ℕ) (s : BoardView) → AllOf (IsShort s.smss) (board_new_segment_at_top_if_whole_in_rwnd rwnd s)
data_short rwnd s =
    let to : ℕ = s.top + min s.smss (s.end - s.top) in
    let segment : Span = record { start = s.top; end = to } in
    allowed_of (IsShort s.smss) (nat_lt s.top to && nat_le to (s.una + rwnd)) (Some segment)
    (λ _. one_of (IsShort s.smss) segment (new_short s.top s.smss (s.end - s.top)))

last_short : (una e smss n : ℕ) → e + 1 - max (max una (e + 1 - smss)) n ≤ smss
last_short una e smss n = omega arith

rescue_short : (s : BoardView) → AllOf (IsShort s.smss) (rescue s)
rescue_short s =
    map_of (IsShort s.smss) (segment_to s) (greatest_where (λ x. is_unsacked x s) s.una s.top)
    (λ e f. last_short s.una e s.smss (after (greatest_where (contains s.sacked) s.una e)))

next_short : (rwnd : ℕ) (s : BoardView) (w : CongView) → AllOf (λ sent. IsShort s.smss (segment_of sent)) (next_seg rwnd s w)
next_short rwnd s w =
    let P : NextSegment → Type 0 = λ sent. IsShort s.smss (segment_of sent) in
    either_of P (lost_run s w) _ (map_of P (λ x. Lost (run_at x s)) (next_lost w.high_rxt s) (λ x e. run_short s x))
    (either_of P (option_map (λ segment. New segment) (board_new_segment_at_top_if_whole_in_rwnd rwnd s)) _
    (map_of P (λ segment. New segment) (board_new_segment_at_top_if_whole_in_rwnd rwnd s) (data_short rwnd s))
    (either_of P (hole_run s w) (rescue_run s w)
    (map_of P (λ x. Hole (run_at x s)) (find_unsacked_octet_by_nextseg_rule_3 w.high_rxt s) (λ x e. run_short s x))
    (allowed_of P _ _ (λ _. map_of P (λ segment. Rescue segment) (rescue s) (rescue_short s)))))

-- cwnd of a connection
abbrev cwnd_on : ConnectionView → Option Established → ℕ
cwnd_on c o = value_on 0 (λ _ e. e.congestion.cwnd) c o

-- a segment has room between what is on the way and the window
abbrev HasRoom : ℕ → ℕ → Span → Type 0
HasRoom cwnd pipe segment = octets_of segment ≤ cwnd - pipe

fits : (octets smss room : ℕ) → octets ≤ smss → smss ≤ room → octets ≤ room
fits octets smss room h k = omega (arith, h, k)

c_room : (rwnd pipe : ℕ) (s : BoardView) (w : CongView) → AllOf (λ sent. HasRoom w.cwnd pipe (segment_of sent)) (step_c_segment rwnd pipe s w)
c_room rwnd pipe s w =
    allowed_of (λ sent. HasRoom w.cwnd pipe (segment_of sent)) (has_room_for_segment pipe s w) (next_seg rwnd s w)
    (λ t sent e. fits (octets_of (segment_of sent)) s.smss (w.cwnd - pipe) (next_short rwnd s w sent e) (is_within s.smss (w.cwnd - pipe) t))

limited_room : (rwnd pipe : ℕ) (s : BoardView) (w : CongView) → AllOf (HasRoom w.cwnd pipe) (limited_transmit_segment rwnd pipe s w)
limited_room rwnd pipe s w =
    allowed_of (HasRoom w.cwnd pipe) (has_room_for_segment pipe s w) (board_new_segment_at_top_if_whole_in_rwnd rwnd s)
    (λ t segment e. fits (octets_of segment) s.smss (w.cwnd - pipe) (data_short rwnd s segment e) (is_within s.smss (w.cwnd - pipe) t))

filling_room : (filling : WindowFill) (n : ℕ) (c : ConnectionView) (e : Established)
    → AllOf (λ sent. HasRoom e.congestion.cwnd n (segment_of sent)) (next_by filling n c e)
filling_room NextSeg n c e = c_room e.rwnd n c.board e.congestion
filling_room NewData n c e =
    map_of (λ sent. HasRoom e.congestion.cwnd n (segment_of sent)) (λ segment. New segment) (limited_transmit_segment e.rwnd n c.board e.congestion)
    (limited_room e.rwnd n c.board e.congestion)

room_on : (filling : WindowFill) (n : ℕ) (c : ConnectionView) (o : Option Established) (sent : NextSegment) → next_on filling n c o ≡ Some sent
    → HasRoom (cwnd_on c o) n (segment_of sent)
room_on filling n c None sent h = absurd cc
room_on filling n c (Some e) sent h = filling_room filling n c e sent h

-- All of them

-- packets were put out since the pipe was counted, and all that counts as on the way fits the window, if the pipe did
record IsFilling (pipe cwnd : ℕ) (s : SenderState) (t : OnTheWay) : Type 0 where
  pub packets : List Sent
  pub outbox : t.0.endpoint.outbox ≡ s.endpoint.outbox ++ packets
  pub counted : pipe + octets_in packets ≤ t.1
  pub full : t.1 ≤ max pipe cwnd
  pub window : cwnd_in t.0.endpoint.connection ≡ cwnd
  pub out : out_in t.0.endpoint.connection + pipe ≤ out_in s.endpoint.connection + t.1

one_more : (packets : List Sent) (p : Sent) → octets_in (packets ++ p ∷ []) ≡ octets_in packets + (end_with_fin p.segment - p.segment.start)
one_more [] p = omega arith
one_more (q ∷ packets) p =
    let h : octets_in (packets ++ p ∷ []) ≡ octets_in packets + (end_with_fin p.segment - p.segment.start) = one_more packets p in
    omega (arith, h)

counted_more : (pipe before last start end n whole : ℕ) → pipe + before ≤ n → last ≤ end → whole ≡ before + (last - start) → pipe + whole ≤ n + (end - start)
counted_more pipe before last start end n whole h k e = omega (arith, h, k, e)

out_more : (before after pipe first n octets : ℕ) → before + pipe ≤ first + n → after ≤ before + octets → after + pipe ≤ first + (n + octets)
out_more before after pipe first n octets h k = omega (arith, h, k)

fuller : (pipe cwnd n octets : ℕ) → n ≤ max pipe cwnd → octets ≤ cwnd - n → n + octets ≤ max pipe cwnd
fuller pipe cwnd n octets h k = omega (arith, h, k)

noted_window : (filling : WindowFill) (sent : NextSegment) (w : CongView) → (fill_noted_by filling sent w).cwnd ≡ w.cwnd
noted_window NewData sent w = refl
noted_window NextSeg (Lost segment) w = refl
noted_window NextSeg (New segment) w = refl
noted_window NextSeg (Hole segment) w = refl
noted_window NextSeg (Rescue segment) w = refl

-- prr_out grows by what is sent at most
pub sent_out : (recovery_algorithm : RecoveryAlgorithm) (octets : ℕ) (r : PrrState) → (if uses_prr recovery_algorithm then with_sent octets r else r).prr_out ≤ r.prr_out + octets
sent_out recovery_algorithm octets r = either (λ (q : PrrState). q.prr_out ≤ r.prr_out + octets) (uses_prr recovery_algorithm) (with_sent octets r) r (lesser r.prr_out octets) (grown r.prr_out octets)
  where
    lesser : (out n : ℕ) → min (out + n) (2 ^ 31) ≤ out + n
    lesser out n = omega arith

    grown : (out n : ℕ) → out ≤ out + n
    grown out n = omega arith

noted_out : (filling : WindowFill) (sent : NextSegment) (w : CongView)
    → (fill_noted_by filling sent w).prr.prr_out ≤ w.prr.prr_out + octets_of (segment_of sent)
noted_out NewData sent w = omega arith
noted_out NextSeg (Lost segment) w = sent_out w.recovery_algorithm (octets_of segment) w.prr
noted_out NextSeg (New segment) w = sent_out w.recovery_algorithm (octets_of segment) w.prr
noted_out NextSeg (Hole segment) w = sent_out w.recovery_algorithm (octets_of segment) w.prr
noted_out NextSeg (Rescue segment) w = sent_out w.recovery_algorithm (octets_of segment) w.prr

-- prr_out of a connection
abbrev out_on : ConnectionView → Option Established → ℕ
out_on c o = value_on 0 (λ _ e. e.congestion.prr.prr_out) c o

more_out : (now : ℕ) (filling : WindowFill) (sent : NextSegment) (c : ConnectionView) (o : Option Established) → c.established ≡ o
    → out_in (Some (fill_noted_on filling sent (sent_as now sent c) o)) ≤ out_on c o + octets_of (segment_of sent)
more_out now filling sent c None is = let none : out_in (Some (sent_as now sent c)) ≡ 0 = ap (out_on c) (sent_as_established now sent c ∙ is) in omega (arith, none)
more_out now filling sent c (Some e) is = noted_out filling sent e.congestion

same_window : (now : ℕ) (filling : WindowFill) (sent : NextSegment) (c : ConnectionView) (o : Option Established) → c.established ≡ o
    → cwnd_in (Some (fill_noted_on filling sent (sent_as now sent c) o)) ≡ cwnd_on c o
same_window now filling sent c None is = ap (cwnd_on c) (sent_as_established now sent c ∙ is)
same_window now filling sent c (Some e) is = noted_window filling sent e.congestion

one_filling : (pipe cwnd now : ℕ) (rule : SendRule) (s : SenderState) (t : OnTheWay) (segment : Span) (c d : ConnectionView) → t.0.endpoint.connection ≡ Some c
    → HasRoom (cwnd_in (Some c)) t.1 segment → cwnd_in (Some d) ≡ cwnd_in (Some c)
    → out_in (Some d) ≤ out_in (Some c) + octets_of segment → IsFilling pipe cwnd s t
    → IsFilling pipe cwnd s (with_segment now rule segment c d t.0, t.1 + octets_of segment)
one_filling pipe cwnd now rule s t segment c d e room stays grows h =
    let packet : Sent = record { segment = data_of c segment; at = now; rule = rule } in
    let here : cwnd_in (Some c) ≡ cwnd = sym (ap cwnd_in e) ∙ h.window in
    record {
      packets = h.packets ++ packet ∷ [];
      outbox = ap (λ (l : List Sent). l ++ packet ∷ []) h.outbox ∙ append_assoc s.endpoint.outbox h.packets (packet ∷ []);
      counted = counted_more pipe (octets_in h.packets) (end_with_fin packet.segment) segment.start segment.end t.1 (octets_in (h.packets ++ packet ∷ []))
          h.counted (packet_ends c segment) (one_more h.packets packet);
      full = fuller pipe cwnd t.1 (octets_of segment) h.full (subst (λ (n : ℕ). octets_of segment ≤ n - t.1) here room);
      window = stays ∙ here;
      out = out_more (out_in t.0.endpoint.connection) (out_in (Some d)) pipe (out_in s.endpoint.connection) t.1 (octets_of segment) h.out
          (subst (λ (n : ℕ). out_in (Some d) ≤ n + octets_of segment) (sym (ap out_in e)) grows);
    }

fill_once : (filling : WindowFill) (pipe cwnd now : ℕ) (s : SenderState) (t : OnTheWay) (sent : NextSegment) (o : Option ConnectionView)
    → t.0.endpoint.connection ≡ o → next_fill filling t.1 o ≡ Some sent → IsFilling pipe cwnd s t
    → IsFilling pipe cwnd s (one_filled now filling sent o t)
fill_once filling pipe cwnd now s t sent None e f h = h
fill_once filling pipe cwnd now s t sent (Some c) e f h =
    one_filling pipe cwnd now (fill_rule filling sent) s t (segment_of sent) c (fill_noted_on filling sent (sent_as now sent c) c.established) e
    (room_on filling t.1 c c.established sent f) (same_window now filling sent c c.established refl)
    (more_out now filling sent c c.established refl) h

most : (pipe cwnd : ℕ) → pipe ≤ max pipe cwnd
most pipe cwnd = omega arith

none_counted : (pipe : ℕ) → pipe + 0 ≤ pipe
none_counted pipe = omega arith

itself : (n : ℕ) → n ≤ n
itself n = omega arith

begun : (s : SenderState) → IsFilling (pipe_of s.endpoint.connection) (cwnd_in s.endpoint.connection) s (s, pipe_of s.endpoint.connection)
begun s = record {
  packets = [];
  outbox = sym (append-nil s.endpoint.outbox);
  counted = none_counted (pipe_of s.endpoint.connection);
  full = most (pipe_of s.endpoint.connection) (cwnd_in s.endpoint.connection);
  window = refl;
  out = itself (out_in s.endpoint.connection + pipe_of s.endpoint.connection);
}

room_left : (pipe octets n cwnd : ℕ) → pipe + octets ≤ n → n ≤ max pipe cwnd → octets ≤ cwnd - pipe
room_left pipe octets n cwnd h k = omega (arith, h, k)

end_reason : (s : SenderState) (t : OnTheWay) → IsFilling (pipe_of s.endpoint.connection) (cwnd_in s.endpoint.connection) s t → FillsWindow s t.0
end_reason s t h = (
  h.packets,
  room_left (pipe_of s.endpoint.connection) (octets_in h.packets) t.1 (cwnd_in s.endpoint.connection) h.counted h.full,
  h.outbox,
)

-- the same, and prr_out has grown by no more than the window had room for
abbrev pub FillsOut : SenderState → SenderState → Type 0
FillsOut s t =
    (packets : List Sent)
    × (octets_in packets ≤ cwnd_in s.endpoint.connection - pipe_of s.endpoint.connection)
    × (out_in t.endpoint.connection ≤ out_in s.endpoint.connection + (cwnd_in s.endpoint.connection - pipe_of s.endpoint.connection))
    × (t.endpoint.outbox ≡ s.endpoint.outbox ++ packets)

out_left : (after before pipe n cwnd : ℕ) → after + pipe ≤ before + n → n ≤ max pipe cwnd → after ≤ before + (cwnd - pipe)
out_left after before pipe n cwnd h k = omega (arith, h, k)

ended_out : (s : SenderState) (t : OnTheWay) → IsFilling (pipe_of s.endpoint.connection) (cwnd_in s.endpoint.connection) s t → FillsOut s t.0
ended_out s t h = (
  h.packets,
  room_left (pipe_of s.endpoint.connection) (octets_in h.packets) t.1 (cwnd_in s.endpoint.connection) h.counted h.full,
  out_left (out_in t.0.endpoint.connection) (out_in s.endpoint.connection) (pipe_of s.endpoint.connection) t.1 (cwnd_in s.endpoint.connection) h.out h.full,
  h.outbox,
)

pub fills_out : (now : ℕ) (filling : WindowFill) (s : SenderState) → Leaves (FillsOut s) (filled now filling s)
fills_out now filling s =
    let pipe : ℕ = pipe_of s.endpoint.connection in
    let cwnd : ℕ = cwnd_in s.endpoint.connection in
    sender_leaves (FillsOut s) _
    (leaves_too (IsFilling pipe cwnd s) (λ t. FillsOut s t.0) _ (ended_out s)
    (kept (IsFilling pipe cwnd s) (fill_finds filling) (fill_sends now filling)
    (λ sent t f h. fill_once filling pipe cwnd now s t sent t.0.endpoint.connection refl f h) (places_left s) (s, pipe) (begun s)))

pub filled_out : (now : ℕ) (filling : WindowFill) (s t : SenderState) → filled now filling s ≡ Ok t → FillsOut s t
filled_out now filling s t h = came (FillsOut s) (filled now filling s) t h (fills_out now filling s)

fills : (now : ℕ) (filling : WindowFill) (s : SenderState) → Leaves (FillsWindow s) (filled now filling s)
fills now filling s =
    let pipe : ℕ = pipe_of s.endpoint.connection in
    let cwnd : ℕ = cwnd_in s.endpoint.connection in
    sender_leaves (FillsWindow s) _
    (leaves_too (IsFilling pipe cwnd s) (λ t. FillsWindow s t.0) _ (end_reason s)
    (kept (IsFilling pipe cwnd s) (fill_finds filling) (fill_sends now filling)
    (λ sent t f h. fill_once filling pipe cwnd now s t sent t.0.endpoint.connection refl f h) (places_left s) (s, pipe) (begun s)))

pub keeps_to_window : KeepsToWindow
keeps_to_window now filling s t h = came (FillsWindow s) (filled now filling s) t h (fills now filling s)
