-- Ordinary sending puts out nothing that ends beyond the windows, a FIN counted.
use Rattle.std.proofs.Common.{◌≡◌, ℕ, ◌+◌, ◌≤◌, min, Bool, true, List, [], ◌∷◌, ◌++◌, Option, None, Some, Ok, refl, sym, subst, ap, ◌∙◌, append_assoc, append-nil, arith}
use Rattle.std.specs.List.{AllByRecursion}
use Rattle.pd_seg.specs.declared.sack_spans.Span.{Span}
use Rattle.pd_seg.specs.declared.segments.Sent.{Sent}
use Rattle.pd_settings.specs.declared.initial_window.InitialWindow.{InitialWindow}
use Rattle.pd_recover.proofs.SlowStart.{restarts_when_idle}
use Rattle.pd_recover.specs.Cong.{initial_window_by_rule}
use Rattle.pd_host.specs.Connection.{ConnectionView}
use Rattle.pd_host.specs.Packets.{data_of}
use Rattle.pd_host.specs.Sending.{ordinary_rule, value_on, places_left, una_plus_smaller_window, is_all_acked_and_idle_over_rto, restarted_in, restarted_if_idle, with_next_past_sacked, sent_on, found, sent_ordinarily, ready, ordinary}
use Rattle.pd_host.specs.SendingLaws.{end_with_fin, edge_of}
use Rattle.pd_host.specs.declared.established.Established.{Established}
use Rattle.pd_host.specs.declared.endpoint.SenderState.{SenderState}
use Rattle.pd_host.proofs.Chosen.{chosen_within}
use Rattle.pd_host.proofs.InWindow.{packet_ends}
use Rattle.pd_host.proofs.Outcomes.{Leaves, came, kept}
use Rattle.pd_host.proofs.SentOn.{finds, sends}
use Rattle.pd_host.proofs.Rules.{found_on}

-- packets were put out that end at this edge at most, which is that of the connection
record EndsBelow (edge : ℕ) (s t : SenderState) : Type 0 where
  pub packets : List Sent
  pub ends : AllByRecursion (λ p. end_with_fin p.segment ≤ edge) packets
  pub outbox : t.endpoint.outbox ≡ s.endpoint.outbox ++ packets
  pub stays : edge_of t.endpoint.connection ≡ edge

one_more : (edge : ℕ) (packets : List Sent) (p : Sent) → end_with_fin p.segment ≤ edge
    → AllByRecursion (λ q. end_with_fin q.segment ≤ edge) packets
    → AllByRecursion (λ q. end_with_fin q.segment ≤ edge) (packets ++ p ∷ [])
one_more edge [] p le h = (le, tt)
one_more edge (q ∷ packets) p le h = (h.0, one_more edge packets p le h.1)

abbrev edge_on : ConnectionView → Option Established → ℕ
edge_on c o = value_on 0 una_plus_smaller_window c o

same_edge : (c d : ConnectionView) (o : Option Established) → d.board.una ≡ c.board.una → edge_on d o ≡ edge_on c o
same_edge c d None same = refl
same_edge c d (Some e) same = ap (λ (n : ℕ). n + min e.congestion.cwnd e.rwnd) same

lower : (x m n : ℕ) → x ≤ m → m ≤ n → x ≤ n
lower x m n h k = omega (arith, h, k)

-- what is found ends below the edge
found_below : (c : ConnectionView) (o : Option Established) (segment : Span) → found_on c o ≡ Some segment → segment.end ≤ edge_on c o
found_below c None segment h = absurd cc
found_below c (Some e) segment h = chosen_within c e segment h

one_below : (edge now : ℕ) (segment : Span) (s t : SenderState) (o : Option ConnectionView) → t.endpoint.connection ≡ o → found o ≡ Some segment
    → EndsBelow edge s t → EndsBelow edge s (sent_ordinarily now segment o t)
one_below edge now segment s t None e f h = h
one_below edge now segment s t (Some c) e f h =
    let packet : Sent = record { segment = data_of c segment; at = now; rule = ordinary_rule c } in
    let here : edge_of (Some c) ≡ edge = sym (ap edge_of e) ∙ h.stays in
    let below : segment.end ≤ edge = subst (λ (n : ℕ). segment.end ≤ n) here (found_below c c.established segment f) in
    record {
      packets = h.packets ++ packet ∷ [];
      ends = one_more edge h.packets packet (lower (end_with_fin packet.segment) segment.end edge (packet_ends c segment) below) h.ends;
      outbox = ap (λ (l : List Sent). l ++ packet ∷ []) h.outbox ∙ append_assoc s.endpoint.outbox h.packets (packet ∷ []);
      stays = same_edge c (with_next_past_sacked (sent_on now segment c)) c.established refl ∙ here;
    }

-- the edge where sending begins, after an idle time or without one
abbrev edge_again : ℕ → Option ConnectionView → ℕ
edge_again now None = 0
edge_again now (Some c) = edge_on c (restarted_in c.board.smss (is_all_acked_and_idle_over_rto now c) c.established)

made_ready : (now : ℕ) (s : SenderState) (o : Option ConnectionView) → s.endpoint.connection ≡ o → EndsBelow (edge_again now o) s (ready now o s)
made_ready now s None e = record { packets = []; ends = tt; outbox = sym (append-nil s.endpoint.outbox); stays = ap edge_of e }
made_ready now s (Some c) e = record {
  packets = [];
  ends = tt;
  outbox = sym (append-nil s.endpoint.outbox);
  stays = same_edge c (with_next_past_sacked (restarted_if_idle now c)) (restarted_in c.board.smss (is_all_acked_and_idle_over_rto now c) c.established) refl;
}

all_below : (now : ℕ) (s : SenderState) → Leaves (EndsBelow (edge_again now s.endpoint.connection) s) (ordinary now s)
all_below now s =
    let u : SenderState = ready now s.endpoint.connection s in
    let edge : ℕ = edge_again now s.endpoint.connection in
    kept (EndsBelow edge s) finds (sends now)
    (λ segment t f h. one_below edge now segment s t t.endpoint.connection refl f h)
    (places_left u) u (made_ready now s s.endpoint.connection refl)

-- it lies no farther than the edge before
nearer : (una a b rwnd : ℕ) → a ≤ b → una + min a rwnd ≤ una + min b rwnd
nearer una a b rwnd h = omega (arith, h)

no_farther_on : (smss : ℕ) (idle : Bool) (c : ConnectionView) (o : Option Established) → edge_on c (restarted_in smss idle o) ≤ edge_on c o
no_farther_on smss idle c None = omega arith
no_farther_on smss idle c (Some e) = nearer c.board.una _ e.congestion.cwnd e.rwnd (restarts_when_idle.no_wider smss idle e.congestion)

no_farther : (now : ℕ) (o : Option ConnectionView) → edge_again now o ≤ edge_of o
no_farther now None = omega arith
no_farther now (Some c) = no_farther_on c.board.smss (is_all_acked_and_idle_over_rto now c) c c.established

all_lower : (edge farther : ℕ) (packets : List Sent) → edge ≤ farther → AllByRecursion (λ p. end_with_fin p.segment ≤ edge) packets
    → AllByRecursion (λ p. end_with_fin p.segment ≤ farther) packets
all_lower edge farther [] k h = tt
all_lower edge farther (p ∷ packets) k h = (lower (end_with_fin p.segment) edge farther h.0 k, all_lower edge farther packets k h.1)

-- what was put out ends at an edge at most
abbrev pub PutsOutBelow : ℕ → SenderState → SenderState → Type 0
PutsOutBelow edge s t =
    (packets : List Sent)
    × AllByRecursion (λ p. end_with_fin p.segment ≤ edge) packets
    × (t.endpoint.outbox ≡ s.endpoint.outbox ++ packets)

below_again : (now edge : ℕ) (s t : SenderState) → edge_again now s.endpoint.connection ≤ edge → ordinary now s ≡ Ok t → PutsOutBelow edge s t
below_again now edge s t near h =
    let below : EndsBelow (edge_again now s.endpoint.connection) s t =
    came (EndsBelow (edge_again now s.endpoint.connection) s) (ordinary now s) t h (all_below now s) in
    (below.packets, all_lower _ edge below.packets near below.ends, below.outbox)

pub ordinary_below : (now : ℕ) (s t : SenderState) → ordinary now s ≡ Ok t → PutsOutBelow (edge_of s.endpoint.connection) s t
ordinary_below now s t h = below_again now (edge_of s.endpoint.connection) s t (no_farther now s.endpoint.connection) h

-- after an idle time it lies at the end of the restart window at most
near_window : (una cwnd window rwnd : ℕ) → cwnd ≡ window → una + min cwnd rwnd ≤ una + window
near_window una cwnd window rwnd e = omega (arith, e)

near_on : (smss : ℕ) (rule : InitialWindow) (c : ConnectionView) (e : Established) → e.congestion.idle_restart_rule ≡ Some rule
    → edge_on c (restarted_in smss true (Some e)) ≤ c.board.una + min (initial_window_by_rule rule smss) e.congestion.cwnd
near_on smss rule c e by = near_window c.board.una _ _ e.rwnd (restarts_when_idle.idle smss rule e.congestion by)

pub restart_below : (now : ℕ) (s t : SenderState) (c : ConnectionView) (e : Established) (rule : InitialWindow) → s.endpoint.connection ≡ Some c
    → c.established ≡ Some e → e.congestion.idle_restart_rule ≡ Some rule → is_all_acked_and_idle_over_rto now c ≡ true → ordinary now s ≡ Ok t
    → PutsOutBelow (c.board.una + min (initial_window_by_rule rule c.board.smss) e.congestion.cwnd) s t
restart_below now s t c e rule is established by idle h =
    let edge : ℕ = c.board.una + min (initial_window_by_rule rule c.board.smss) e.congestion.cwnd in
    let there : edge_on c (restarted_in c.board.smss (is_all_acked_and_idle_over_rto now c) c.established) ≤ edge =
    subst (λ (o : Option Established). edge_on c (restarted_in c.board.smss (is_all_acked_and_idle_over_rto now c) o) ≤ edge) (sym established)
    (subst (λ (b : Bool). edge_on c (restarted_in c.board.smss b (Some e)) ≤ edge) (sym idle) (near_on c.board.smss rule c e by)) in
    below_again now edge s t (subst (λ (o : Option ConnectionView). edge_again now o ≤ edge) (sym is) there) h
