-- Each octet that is put out was sent before, or lies in the peer's window.
use Rattle.std.proofs.Common.{◌≡◌, ℕ, ◌+◌, ◌-◌, ◌<◌, ◌≤◌, ◌&&◌, min, max, nat_lt, nat_le, Bool, true, false, if◌then◌else◌, List, [], ◌∷◌, ◌++◌, Option, None, Some, Ok, Err, length, refl, sym, subst, ap, ◌∙◌, append_assoc, append-nil, arith}
use Rattle.std.specs.List.{AllByRecursion}
use Rattle.std.proofs.lemmas.Bool.Decides.{nat_tests}
use Rattle.pd_recover.specs.declared.ack.Ack.{Ack}
use Rattle.pd_recover.specs.declared.ack_action.AckAction.{AckAction}
use Rattle.pd_recover.specs.declared.ack_action.AckAction.TheVariants.{Ordinary, StepC, Entry, LimitedTransmit, NewSegment, FastRetransmit, Nothing}
use Rattle.pd_seg.specs.declared.call_results.Answer.{Answer}
use Rattle.pd_seg.specs.declared.sack_spans.Span.{Span}
use Rattle.pd_seg.specs.declared.segments.Segment.{Segment}
use Rattle.pd_seg.specs.declared.segments.Sent.{Sent}
use Rattle.pd_seg.specs.declared.send_rule.SendRule.{SendRule}
use Rattle.pd_seg.specs.declared.send_rule.SendRule.TheVariants.{SynAck, Ack as AckRule, Rst}
use Rattle.pd_host.specs.AckEffects.{newly_acked, ack_of_segment, with_ack, taking, ack_taken, delivery, congestion_updated}
use Rattle.std.specs.Prelude.{option_map}
use Rattle.pd_board.specs.Board.{with_none_sacked}
use Rattle.pd_script.specs.declared.calls.Call.{Call}
use Rattle.pd_host.specs.Calls.{called}
use Rattle.pd_host.specs.Arrivals.{check_outcome, arrived_on, arrived, failed_check_of, reset_of, with_peer_fin}
use Rattle.pd_host.specs.Connection.{ConnectionView, data_end}
use Rattle.pd_host.specs.Expiries.{first_again, segment_again, expiry_rule, connection_expired, expired, advanced}
use Rattle.pd_host.specs.Handshake.{is_supported_syn_while_listening, connection_begun, answered_syn, syn_settings, established_by, establishment_settings}
use Rattle.pd_host.specs.Packets.{data_of, covers_fin, ack_of, refusal_of, syn_ack_of}
use Rattle.pd_host.specs.Host.{beside, with_outbox}
use Rattle.pd_host.specs.Sending.{places_left, with_begun_connection, with_segment}
use Rattle.pd_host.specs.SendingLaws.{top_in, peer_window_edge, end_with_fin, LiesBelow, PutsOutInWindow, StaysInWindow}
use Rattle.pd_host.specs.declared.endpoint.Endpoint.{Endpoint}
use Rattle.pd_host.specs.declared.established.Established.{Established}
use Rattle.pd_host.specs.declared.halts.Halt.TheVariants.{Limit, Unsupported}
use Rattle.pd_host.specs.declared.established.PeerFin.TheVariants.{BeforeOurs, AfterOurs}
use Rattle.pd_host.specs.declared.connection.segment_check.SegmentCheck.{SegmentCheck}
use Rattle.pd_host.specs.declared.connection.segment_check.SegmentCheck.TheVariants.{NotRun, StrayRst, OutsideWindow, ExactRst, ChallengedRst, WithoutAck, FirstAck, RefusedAck, EarlyAck, OldAck}
use Rattle.pd_host.specs.declared.endpoint.SenderState.{SenderState}
use Rattle.pd_host.proofs.Advances.{expiry_finds, expiry_sends}
use Rattle.pd_host.proofs.CallsGo.{IsQuiet, called_goes}
use Rattle.pd_host.proofs.Chosen.{run_end}
use Rattle.pd_host.proofs.Duplicates.{IsAllowed, what_follows}
use Rattle.pd_host.proofs.Finishes.{after_fin, passed_leaves}
use Rattle.pd_host.proofs.Goes.{window_end, IsSending, IsMoved, Goes, IsNamed, led_to_goes}
use Rattle.pd_host.proofs.LastOctet.{fin_covered}
use Rattle.pd_host.proofs.Outcomes.{Leaves, came, leaves_too, either, kept}
use Rattle.pd_host.proofs.SentOn.{still, at_rest}
use Rattle.pd_host.proofs.Taken.{taking_keeps}

-- Numbers

lower : (x m n : ℕ) → x ≤ m → m ≤ n → x ≤ n
lower x m n h k = omega (arith, h, k)

greater : (a b : ℕ) → (a ≤ max a b) × (b ≤ max a b)
greater a b = (omega arith, omega arith)

both_below : (a b m : ℕ) → a ≤ m → b ≤ m → max a b ≤ m
both_below a b m h k = omega (arith, h, k)

below_self : (n : ℕ) → n < n → ⊥
below_self n h = omega (arith, h)

-- what ends at or below one number, and else below another one
either_bound : (b : Bool) (top x edge : ℕ) → nat_lt top x ≡ b → (top < x → x ≤ edge) → x ≤ max top edge
either_bound true top x edge t h =
    let lt : top < x = grind (arith, nat_tests, t) in
    let le : x ≤ edge = h lt in
    omega (arith, le)
either_bound false top x edge t h =
    let le : x ≤ top = grind (arith, nat_tests, t) in
    omega (arith, le)

-- A segment's octets

fin_end : (x end n : ℕ) → n < end → end ≤ x → min x (end - 1) + 1 ≤ x
fin_end x end n h k = omega (arith, h, k)

shorter : (a b : ℕ) → min a b ≤ a
shorter a b = omega arith

-- a segment of octets that are queued keeps them all in its packet
last_octet : (x end n : ℕ) → n < end → end ≤ x → x ≤ end → min x (end - 1) + 1 ≡ x
last_octet x end n h k l = omega (arith, h, k, l)

whole : (x end : ℕ) → x ≤ end → min x end ≡ x
whole x end h = omega (arith, h)

not_last : (fin : Bool) (start x end : ℕ) → (fin && (nat_lt start end && nat_le end x)) ≡ false → start < x → x ≤ end
    → min x (if fin then end - 1 else end) ≡ x
not_last true start x end e some h =
    let from : nat_lt start end ≡ true = grind (arith, nat_tests, some, h) in
    let to : nat_le end x ≡ false = subst (λ (b : Bool). (b && nat_le end x) ≡ false) from e in
    let below : x < end = grind (arith, nat_tests, to) in
    omega (arith, below)
not_last false start x end e some h = whole x end h

exact_end : (b : Bool) (c : ConnectionView) (segment : Span) → covers_fin c segment ≡ b → segment.start < segment.end → segment.end ≤ c.board.end
    → (if b then min segment.end (data_end c) + 1 else min segment.end (data_end c)) ≡ segment.end
exact_end true c segment e some h =
    let covered = fin_covered c segment e in
    let last : data_end c ≡ c.board.end - 1 = ap (λ (x : Bool). if x then c.board.end - 1 else c.board.end) covered.0 in
    subst (λ (n : ℕ). min segment.end n + 1 ≡ segment.end) (sym last) (last_octet segment.end c.board.end segment.start covered.1 covered.2 h)
exact_end false c segment e some h = not_last c.fin segment.start segment.end c.board.end e some h

pub packet_is : (c : ConnectionView) (segment : Span) → segment.start < segment.end → segment.end ≤ c.board.end
    → end_with_fin (data_of c segment) ≡ segment.end
packet_is c segment some h = exact_end (covers_fin c segment) c segment refl some h

data_ends : (b : Bool) (c : ConnectionView) (segment : Span) → covers_fin c segment ≡ b
    → (if b then min segment.end (data_end c) + 1 else min segment.end (data_end c)) ≤ segment.end
data_ends true c segment e =
    let h = fin_covered c segment e in
    let last : data_end c ≡ c.board.end - 1 = ap (λ (x : Bool). if x then c.board.end - 1 else c.board.end) h.0 in
    subst (λ (n : ℕ). min segment.end n + 1 ≤ segment.end) (sym last) (fin_end segment.end c.board.end segment.start h.1 h.2)
data_ends false c segment e = shorter segment.end (data_end c)

-- the octets of a packet of data are those of its segment
pub packet_ends : (c : ConnectionView) (segment : Span) → end_with_fin (data_of c segment) ≤ segment.end
packet_ends c segment = data_ends (covers_fin c segment) c segment refl

-- Packets

abbrev AllBelow : ℕ → List Sent → Type 0
AllBelow edge packets = AllByRecursion (LiesBelow edge) packets

pub lifted : (m n : ℕ) → m ≤ n → (packets : List Sent) → AllBelow m packets → AllBelow n packets
lifted m n le [] h = tt
lifted m n le (p ∷ packets) h = (λ lt. lower (end_with_fin p.segment) m n (h.0 lt) le, lifted m n le packets h.1)

pub both_lists : (n : ℕ) (a b : List Sent) → AllBelow n a → AllBelow n b → AllBelow n (a ++ b)
both_lists n [] b first second = second
both_lists n (p ∷ a) b first second = (first.0, both_lists n a b first.1 second)

-- The relation

abbrev edge : Option ConnectionView → ℕ
edge o = max (top_in o) (peer_window_edge o)

record IsIn (s t : SenderState) : Type 0 where
  pub packets : List Sent
  pub below : AllBelow (edge s.endpoint.connection) packets
  pub outbox : t.endpoint.outbox ≡ s.endpoint.outbox ++ packets
  pub reach : top_in t.endpoint.connection ≤ edge s.endpoint.connection
  pub window : peer_window_edge t.endpoint.connection ≡ peer_window_edge s.endpoint.connection

rest_window : (c : ConnectionView) (o : Option Established) → window_end (still c) (at_rest o) ≡ window_end c o
rest_window c None = refl
rest_window c (Some e) = refl

same_window : (c d : ConnectionView) → still d ≡ still c → peer_window_edge (Some d) ≡ peer_window_edge (Some c)
same_window c d h = sym (rest_window d d.established) ∙ ap (λ (x : ConnectionView). peer_window_edge (Some x)) h ∙ rest_window c c.established

none_in : (s : SenderState) → IsIn s s
none_in s = record {
  packets = [];
  below = tt;
  outbox = sym (append-nil s.endpoint.outbox);
  reach = (greater (top_in s.endpoint.connection) (peer_window_edge s.endpoint.connection)).0;
  window = refl;
}

further : (r s t : SenderState) → IsIn r s → IsIn s t → IsIn r t
further r s t a b =
    let m : ℕ = edge r.endpoint.connection in
    let least : peer_window_edge s.endpoint.connection ≤ m =
    subst (λ (n : ℕ). n ≤ m) (sym a.window) (greater (top_in r.endpoint.connection) (peer_window_edge r.endpoint.connection)).1 in
    let le : edge s.endpoint.connection ≤ m = both_below (top_in s.endpoint.connection) (peer_window_edge s.endpoint.connection) m a.reach least in
    record {
      packets = a.packets ++ b.packets;
      below = both_lists m a.packets b.packets a.below (lifted (edge s.endpoint.connection) m le b.packets b.below);
      outbox = b.outbox ∙ ap (λ l. l ++ b.packets) a.outbox ∙ append_assoc r.endpoint.outbox a.packets b.packets;
      reach = lower (top_in t.endpoint.connection) (edge s.endpoint.connection) m b.reach le;
      window = b.window ∙ a.window;
    }

moved : (c d : ConnectionView) (s : SenderState) → s.endpoint.connection ≡ Some c → IsMoved c d → IsIn s (with_begun_connection d s)
moved c d s e h =
    let top : top_in (Some d) ≡ top_in s.endpoint.connection = h.top ∙ sym (ap top_in e) in
    record {
      packets = [];
      below = tt;
      outbox = sym (append-nil s.endpoint.outbox);
      reach = subst (λ (n : ℕ). n ≤ edge s.endpoint.connection) (sym top) (greater (top_in s.endpoint.connection) (peer_window_edge s.endpoint.connection)).0;
      window = same_window c d h.stays ∙ sym (ap peer_window_edge e);
    }

sent : (now : ℕ) (rule : SendRule) (segment : Span) (c d : ConnectionView) (s : SenderState) → s.endpoint.connection ≡ Some c → IsSending now segment c d
    → IsIn s (with_segment now rule segment c d s)
sent now rule segment c d s e h =
    let packet : Sent = record { segment = data_of c segment; at = now; rule = rule } in
    let m : ℕ = edge (Some c) in
    let here : m ≡ edge s.endpoint.connection = sym (ap edge e) in
    let ends : segment.end ≤ m = either_bound (nat_lt c.board.top segment.end) c.board.top segment.end (window_end c c.established) refl h.allowed in
    let reach : d.board.top ≤ m =
    lower d.board.top (max c.board.top segment.end) m h.low
    (both_below c.board.top segment.end m (greater c.board.top (window_end c c.established)).0 ends) in
    record {
      packets = packet ∷ [];
      below = subst (λ (n : ℕ). AllBelow n (packet ∷ [])) here (λ lt. lower (end_with_fin packet.segment) segment.end m (packet_ends c segment) ends, tt);
      outbox = refl;
      reach = subst (λ (n : ℕ). d.board.top ≤ n) here reach;
      window = same_window c d h.stays ∙ sym (ap peer_window_edge e);
    }

in_rules : (now : ℕ) → Goes now IsIn
in_rules now = record { none = none_in; more = further; moved = moved; sent = sent now }

-- Calls

pub calls_in_window : (call : Call) (now : ℕ) (s t : SenderState) (a : Answer) → called call now s ≡ Ok (t, a) → PutsOutInWindow s t
calls_in_window call now s t a h =
    let went = called_goes now IsIn (in_rules now) call s t a h in
    let u : SenderState = went.0 in
    let quiet : IsQuiet s u = went.1 in
    let run : IsIn u t = went.2 in
    let same : edge u.endpoint.connection ≡ max (top_in s.endpoint.connection) (peer_window_edge t.endpoint.connection) =
    ap (λ (n : ℕ). max n (peer_window_edge u.endpoint.connection)) quiet.sent ∙ ap (λ (n : ℕ). max (top_in s.endpoint.connection) n) (sym run.window) in (
      run.packets,
      subst (λ (n : ℕ). AllBelow n run.packets) same run.below,
      run.outbox ∙ ap (λ (l : List Sent). l ++ run.packets) quiet.outbox,
    )

-- Arrivals

nothing_out : (s t : SenderState) → t.endpoint.outbox ≡ s.endpoint.outbox → PutsOutInWindow s t
nothing_out s t same = ([], tt, sym (append-nil t.endpoint.outbox) ∙ ap (λ (l : List Sent). l ++ []) same)

-- a packet without octets
one_out : (b : Bool) (now : ℕ) (rule : SendRule) (segment : Segment) (u s : SenderState) (e : Endpoint) → e.outbox ≡ s.endpoint.outbox
    → (segment.start < end_with_fin segment → ⊥)
    → Leaves (PutsOutInWindow s) (beside u (with_outbox e (if b then Ok (e.outbox ++ record { segment = segment; at = now; rule = rule } ∷ []) else Err Limit)))
one_out true now rule segment u s e same empty =
    let packet : Sent = record { segment = segment; at = now; rule = rule } in
    (packet ∷ [], (λ lt. absurd (empty lt), tt), ap (λ (l : List Sent). l ++ packet ∷ []) same)
one_out false now rule segment u s e same empty = tt

answered_out : (now : ℕ) (rule : SendRule) (segment : Segment) (s : SenderState) → (segment.start < end_with_fin segment → ⊥)
    → Leaves (PutsOutInWindow s) (beside s (with_outbox s.endpoint (if nat_lt (length s.endpoint.outbox) 1024 then Ok (s.endpoint.outbox ++ record { segment = segment; at = now; rule = rule } ∷ []) else Err Limit)))
answered_out now rule segment s empty = one_out (nat_lt (length s.endpoint.outbox) 1024) now rule segment s s s.endpoint refl empty

-- what an ACK names stands where the connection that it left says

named : (ack : Ack) (c : ConnectionView) (next : AckAction) → ack.una + ack.rwnd ≡ window_end c c.established → ack.top ≡ c.board.top
    → ack.end ≡ c.board.end → IsAllowed ack next → IsNamed c next
named ack c Ordinary window top end h = tt
named ack c StepC window top end h = tt
named ack c Entry window top end h = tt
named ack c LimitedTransmit window top end h = tt
named ack c (NewSegment segment) window top end h =
    (subst (λ (n : ℕ). segment.end ≤ n) window h.1, subst (λ (n : ℕ). segment.end ≤ n) end h.2)
named ack c (FastRetransmit segment) window top end h = subst (λ (n : ℕ). segment.end ≤ n) top h
named ack c Nothing window top end h = tt

pub taking_named : (now : ℕ) (segment : Segment) (c : ConnectionView) (o : Option Established)
    → IsNamed (taking now segment c o).0 (taking now segment c o).1
taking_named now segment c None = tt
taking_named now segment c (Some e) =
    let after : (ConnectionView × Established) × Bool = with_ack now segment e c in
    let n : ℕ = newly_acked c segment in
    let ack : Ack = ack_of_segment segment n (delivery n c.board after.0.0.board) after.1 e.rwnd after.0.1 after.0.0 in
    let step : ConnectionView × AckAction = congestion_updated after.0.0 after.0.1 ack in
    named ack step.0 step.1 refl refl refl (what_follows ack after.0.1.congestion)

pub taking_top : (now : ℕ) (segment : Segment) (c : ConnectionView) (o : Option Established) → (taking now segment c o).0.board.top ≡ c.board.top
taking_top now segment c None = refl
taking_top now segment c (Some e) = ap (λ (x : ConnectionView). x.board.top) (taking_keeps now segment c e)

taken_in_window : (now : ℕ) (segment : Segment) (c : ConnectionView) (s : SenderState) (o : Option Established) → s.endpoint.connection ≡ Some c
    → Leaves (PutsOutInWindow s) (ack_taken now segment c s o)
taken_in_window now segment c s o e =
    let step : ConnectionView × AckAction = taking now segment c o in
    let u : SenderState = with_begun_connection step.0 s in
    leaves_too (IsIn u) (PutsOutInWindow s) (ack_taken now segment c s o)
    (λ t run.
    let top : top_in u.endpoint.connection ≡ top_in s.endpoint.connection = taking_top now segment c o ∙ sym (ap top_in e) in
    let same : edge u.endpoint.connection ≡ max (top_in s.endpoint.connection) (peer_window_edge t.endpoint.connection) =
    ap (λ (n : ℕ). max n (peer_window_edge u.endpoint.connection)) top ∙ ap (λ (n : ℕ). max (top_in s.endpoint.connection) n) (sym run.window) in
    (run.packets, subst (λ (n : ℕ). AllBelow n run.packets) same run.below, run.outbox))
    (led_to_goes now IsIn (in_rules now) step.0 u step.1 refl (taking_named now segment c o))

by_ruling : (r : Option SegmentCheck) (segment : Segment) (now : ℕ) (s : SenderState) (c : ConnectionView) → s.endpoint.connection ≡ Some c
    → Leaves (PutsOutInWindow s) (check_outcome now segment c s r)
by_ruling (Some NotRun) segment now s c e = tt
by_ruling (Some StrayRst) segment now s c e = nothing_out s s refl
by_ruling (Some OutsideWindow) segment now s c e = answered_out now AckRule (ack_of c) s (below_self c.board.top)
by_ruling (Some ExactRst) segment now s c e = nothing_out s (with_begun_connection (reset_of c) s) refl
by_ruling (Some ChallengedRst) segment now s c e = answered_out now AckRule (ack_of c) s (below_self c.board.top)
by_ruling (Some WithoutAck) segment now s c e = nothing_out s s refl
by_ruling (Some FirstAck) segment now s c e =
    let left : SenderState = with_begun_connection (established_by now s.settings segment c) s in
    nothing_out s (record left { consulted_settings = establishment_settings s.consulted_settings }) refl
by_ruling (Some RefusedAck) segment now s c e = answered_out now Rst (refusal_of segment.ack) s (below_self segment.ack)
by_ruling (Some EarlyAck) segment now s c e = answered_out now AckRule (ack_of c) s (below_self c.board.top)
by_ruling (Some OldAck) segment now s c e = nothing_out s s refl
by_ruling None segment now s c e = taken_in_window now segment c s c.established e

-- the ACK of the peer's FIN has no octets, and the window stays
fin_in_window : (now : ℕ) (s u : SenderState) (c : ConnectionView) → u.endpoint.connection ≡ Some c → PutsOutInWindow s u
    → PutsOutInWindow s (after_fin now c u)
fin_in_window now s u c e h =
    let packet : Sent = record { segment = ack_of (with_peer_fin c); at = now; rule = AckRule } in
    let n : ℕ = max (top_in s.endpoint.connection) (peer_window_edge (Some (with_peer_fin c))) in
    let same : max (top_in s.endpoint.connection) (peer_window_edge u.endpoint.connection) ≡ n =
    ap (λ (x : ℕ). max (top_in s.endpoint.connection) x) (ap peer_window_edge e ∙ sym (fin_window c c.established)) in (
      h.0 ++ packet ∷ [],
      both_lists n h.0 (packet ∷ []) (subst (λ (x : ℕ). AllBelow x h.0) same h.1) (λ lt. absurd (below_self c.board.top lt), tt),
      ap (λ (l : List Sent). l ++ packet ∷ []) h.2 ∙ append_assoc s.endpoint.outbox h.0 (packet ∷ []),
    )
  where
    fin_window : (d : ConnectionView) (o : Option Established)
        → window_end (with_peer_fin d) (option_map {T = Established} (λ e. record e { peer_fin = if d.fin then AfterOurs else BeforeOurs }) o) ≡ window_end d o
    fin_window d None = refl
    fin_window d (Some x) = refl

on_connection : (o : Option ConnectionView) (segment : Segment) (now : ℕ) (s : SenderState) → s.endpoint.connection ≡ o
    → Leaves (PutsOutInWindow s) (arrived_on now segment s o)
on_connection None segment now s e =
    let c : ConnectionView = connection_begun now s.settings segment in
    either (PutsOutInWindow s) (is_supported_syn_while_listening s.endpoint.listener segment) (answered_syn now c s) (Err Unsupported)
    (one_out (nat_lt (length s.endpoint.outbox) 1024) now SynAck (syn_ack_of c) (record s { consulted_settings = syn_settings s.consulted_settings }) s
    (record s.endpoint { connection = Some c }) refl (below_self 0)) tt
on_connection (Some c) segment now s e =
    passed_leaves (PutsOutInWindow s) now segment c s (failed_check_of c segment) (λ u d is k. fin_in_window now s u d is k)
    (by_ruling (failed_check_of c segment) segment now s c e)

-- Expiries

-- an expiry puts out no octet that wasn't sent before
record IsAgain (s t : SenderState) : Type 0 where
  pub packets : List Sent
  pub below : AllBelow (top_in s.endpoint.connection) packets
  pub outbox : t.endpoint.outbox ≡ s.endpoint.outbox ++ packets
  pub top : top_in t.endpoint.connection ≡ top_in s.endpoint.connection

highest : (a b : ℕ) → b ≤ a → max a b ≡ a
highest a b h = omega (arith, h)

expired_top : (at : ℕ) (c : ConnectionView) (o : Option Established) → (connection_expired at c o).board.top ≡ c.board.top
expired_top at c None = refl
expired_top at c (Some e) = highest c.board.top (first_again c).end (again_end c)
  where
    again_end : (d : ConnectionView) → (first_again d).end ≤ d.board.top
    again_end d = run_end (with_none_sacked d.board) d.board.una

expired_below : (at : ℕ) (c : ConnectionView) (o : Option Established) → LiesBelow c.board.top (record { segment = segment_again c o; at = at; rule = expiry_rule o })
expired_below at c None = λ lt. absurd (below_self 0 lt)
expired_below at c (Some e) =
    λ lt. lower (end_with_fin (data_of c (first_again c))) (first_again c).end c.board.top (packet_ends c (first_again c)) (run_end (with_none_sacked c.board) c.board.una)

one_again : (at : ℕ) (s t : SenderState) (o : Option ConnectionView) → t.endpoint.connection ≡ o → IsAgain s t → IsAgain s (expired at o t)
one_again at s t None e h = h
one_again at s t (Some c) e h =
    let packet : Sent = record { segment = segment_again c c.established; at = at; rule = expiry_rule c.established } in
    let top : c.board.top ≡ top_in s.endpoint.connection = sym (ap top_in e) ∙ h.top in
    record {
      packets = h.packets ++ packet ∷ [];
      below = both_lists (top_in s.endpoint.connection) h.packets (packet ∷ []) h.below
          (subst (λ (n : ℕ). LiesBelow n packet) top (expired_below at c c.established), tt);
      outbox = ap (λ (l : List Sent). l ++ packet ∷ []) h.outbox ∙ append_assoc s.endpoint.outbox h.packets (packet ∷ []);
      top = expired_top at c c.established ∙ top;
    }

none_again : (s : SenderState) → IsAgain s s
none_again s = record { packets = []; below = tt; outbox = sym (append-nil s.endpoint.outbox); top = refl }

expiries_in_window : (until : ℕ) (s t : SenderState) → advanced until s ≡ Ok t → PutsOutInWindow s t
expiries_in_window until s t h =
    let run : IsAgain s t =
    came (IsAgain s) (advanced until s) t h
    (kept (IsAgain s) (expiry_finds until) expiry_sends (λ at u e so_far. one_again at s u u.endpoint.connection refl so_far) (places_left s) s (none_again s)) in
    let m : ℕ = top_in s.endpoint.connection in
    let n : ℕ = peer_window_edge t.endpoint.connection in
    (run.packets, lifted m (max m n) (greater m n).0 run.packets run.below, run.outbox)

pub stays_in_window : StaysInWindow
stays_in_window = record {
  arrivals = λ segment now s t h.
      came (PutsOutInWindow s) (arrived segment now s) t h (on_connection s.endpoint.connection segment now s refl);
  calls = calls_in_window;
  expiries = expiries_in_window;
}
