-- With SACK loss recovery goes on only below RecoveryPoint.
use Rattle.std.proofs.Common.{◌≡◌, ℕ, ◌<◌, ◌==◌, ◌&&◌, ◌||◌, not, nat_lt, nat_le, List, [], ◌∷◌, Bool, true, false, if◌then◌else◌, Option, Some, None, refl, sym, ap, subst, ◌∙◌, arith}
use Rattle.std.specs.Prelude.{option_map}
use Rattle.std.proofs.lemmas.Bool.Decides.{nat_tests}
use Rattle.pd_seg.specs.declared.sack_spans.Span.{Span}
use Rattle.pd_seg.specs.declared.segments.Segment.{Segment}
use Rattle.pd_board.proofs.Sets.{any-none}
use Rattle.pd_board.specs.Octets.{contains}
use Rattle.pd_board.specs.Board.{BoardView, covers, with_sacked_block, has_new}
use Rattle.pd_recover.specs.Acks.{renewed, acked_by, acked_with_sack, with_delivered, selective_duplicate, dup_ack_counted, grown_by}
use Rattle.pd_recover.specs.Prr.{uses_prr}
use Rattle.pd_recover.specs.Cong.{CongView, entered_to}
use Rattle.pd_recover.specs.declared.ack.Ack.{Ack}
use Rattle.pd_recover.specs.declared.ack.Delivery.{Delivery}
use Rattle.pd_recover.specs.declared.ack.SackNews.{SackNews}
use Rattle.pd_recover.specs.declared.ack_action.AckAction.{AckAction}
use Rattle.pd_recover.specs.declared.ack_action.AckAction.TheVariants.{StepC, Nothing}
use Rattle.pd_recover.specs.declared.next_segment.NextSegment.{NextSegment}
use Rattle.pd_recover.specs.declared.next_segment.NextSegment.TheVariants.{Lost, New, Hole, Rescue}
use Rattle.pd_board.specs.Loss.{is_lost}
use Rattle.pd_host.specs.AckEffects.{newly_acked, with_number, is_block_sent, blocks_of, with_block_marked, with_blocks_marked, blocks_marked, with_timing, can_update_window, with_new_window, with_blocks, with_ack, sack_news_of, ack_of_segment, taking, sent_as, fill_noted_by, fill_noted_on, entered_on, delivery, congestion_updated}
use Rattle.pd_host.specs.Arrivals.{with_peer_fin}
use Rattle.pd_host.specs.Calls.{with_stream, with_nagle}
use Rattle.pd_host.specs.Connection.{ConnectionView}
use Rattle.pd_host.specs.Handshake.{before_eol}
use Rattle.pd_host.specs.Invariants.{RecoversBelow, IsBelowPoint}
use Rattle.pd_host.specs.Sending.{is_all_acked_and_idle_over_rto, restarted_in, restarted_if_idle}
use Rattle.pd_host.specs.RttSegment.{is_measured, measured, with_sample, with_timer_updated}
use Rattle.pd_host.specs.declared.established.Established.{Established}
use Rattle.pd_host.specs.declared.connection.ack_effects.WindowFill.{WindowFill}
use Rattle.pd_host.specs.declared.connection.ack_effects.WindowFill.TheVariants.{NextSeg, NewData}
use Rattle.pd_host.specs.declared.established.PeerFin.{PeerFin}
use Rattle.pd_host.specs.declared.established.PeerFin.TheVariants.{BeforeOurs, AfterOurs}
use Rattle.pd_host.specs.declared.descriptors.StreamState.{StreamState}
use Rattle.pd_host.specs.declared.connection.rtt_segment.RttSegment.{RttSegment}
use Rattle.pd_recover.proofs.Cases.{selective_cases}
use Rattle.pd_host.proofs.AckedBelow.{ge}
use Rattle.pd_host.proofs.Kept.{by_test}

-- A new octet in a block is outstanding

unlike : (b : Bool) → b ≡ true → b ≡ false → ⊥
unlike b t f = cc

new_within_so : (block : Span) (s : BoardView) (b : Bool) → nat_lt s.una s.top ≡ b → has_new block s ≡ true → s.una < s.top
new_within_so block s true e new = grind (arith, nat_tests)
new_within_so block s false e new =
    absurd (unlike (has_new block s) new (any-none (λ x. covers block x && not (contains s.sacked x)) s.una s.top (ge s.una s.top e)))

new_within : (block : Span) (s : BoardView) → has_new block s ≡ true → s.una < s.top
new_within block s new = new_within_so block s (nat_lt s.una s.top) refl new

record TellsWithin (una top : ℕ) (so_far : BoardView × Bool) : Type 0 where
  low : so_far.0.una ≡ una
  high : so_far.0.top ≡ top
  fresh : so_far.1 ≡ true → una < top

either : (a b : Bool) (una top : ℕ) → (a ≡ true → una < top) → (b ≡ true → una < top) → (a || b) ≡ true → una < top
either true b una top first second e = first refl
either false b una top first second e = second e

tells_one : (una top : ℕ) (block : Span) (so_far : BoardView × Bool) → TellsWithin una top so_far → TellsWithin una top (with_block_marked block so_far)
tells_one una top block so_far h =
    by_test (TellsWithin una top) (is_block_sent so_far.0 block) (with_sacked_block block so_far.0, so_far.1 || has_new block so_far.0) so_far
    (λ _. record {
      low = h.low;
      high = h.high;
      fresh = either so_far.1 (has_new block so_far.0) una top h.fresh (λ e. let k = new_within block so_far.0 e in omega (arith, k, h.low, h.high));
    })
    (λ _. h)

tells_all : (una top : ℕ) (blocks : List Span) (so_far : BoardView × Bool) → TellsWithin una top so_far → TellsWithin una top (with_blocks_marked blocks so_far)
tells_all una top [] so_far h = h
tells_all una top (block ∷ blocks) so_far h = tells_all una top blocks (with_block_marked block so_far) (tells_one una top block so_far h)

scored_within : (segment : Segment) (c : ConnectionView) → TellsWithin c.board.una c.board.top (blocks_marked segment c)
scored_within segment c =
    let none : TellsWithin c.board.una c.board.top (c.board, false) = record { low = refl; high = refl; fresh = λ e. absurd cc } in
    by_test (TellsWithin c.board.una c.board.top) c.sack (with_blocks_marked (blocks_of (before_eol segment.options)) (c.board, false)) (c.board, false)
    (λ _. tells_all c.board.una c.board.top (blocks_of (before_eol segment.options)) (c.board, false) none) (λ _. none)

-- The state that an ACK leaves

abbrev HasBoard : BoardView → ConnectionView → Type 0
HasBoard s c = c.board ≡ s

module _ (s : BoardView) where
  measured_board : (now granularity ack : ℕ) (c : ConnectionView) (o : Option RttSegment) → HasBoard s c → HasBoard s (measured now granularity ack c o)
  measured_board now granularity ack c None h = h
  measured_board now granularity ack c (Some t) h =
      by_test (HasBoard s) (is_measured ack t) _ c (λ _. h) (λ _. h)

  moved_board : (now : ℕ) (c : ConnectionView) → HasBoard s c → HasBoard s (with_timer_updated now c)
  moved_board now c h = h

  timing_board : (now granularity n : ℕ) (c : ConnectionView) → HasBoard s c → HasBoard s (with_timing now granularity n c)
  timing_board now granularity n c h =
      by_test (HasBoard s) (nat_lt 0 n) _ c
      (λ _. moved_board now (with_sample now granularity c.board.una c) (measured_board now granularity c.board.una c c.rtt_segment h)) (λ _. h)

  window_board : (segment : Segment) (e : Established) (c : ConnectionView) → HasBoard s c → HasBoard s (with_new_window segment e c).0
  window_board segment e c h = by_test (λ (p : ConnectionView × Established). HasBoard s p.0) (can_update_window e segment) _ (c, e) (λ _. h) (λ _. h)

ack_board : (now : ℕ) (segment : Segment) (e : Established) (c : ConnectionView) → HasBoard (blocks_marked segment (with_number segment c)).0 (with_ack now segment e c).0.0
ack_board now segment e c =
    let s : BoardView = (blocks_marked segment (with_number segment c)).0 in
    window_board s segment e (with_timing now e.granularity_us (newly_acked c segment) (with_blocks segment (with_number segment c)))
    (timing_board s now e.granularity_us (newly_acked c segment) (with_blocks segment (with_number segment c)) refl)

module _ (ack : Ack) where
  abbrev Below : CongView × AckAction → Type 0
  Below step = step.0.recovering ≡ true → ack.una < step.0.recovery_point

  above : (recovering : Bool) (point una : ℕ) → (recovering && nat_le point una) ≡ false → recovering ≡ true → una < point
  above true point una e r = grind (arith, nat_tests)
  above false point una e r = absurd cc

  grown_same : (w : CongView) → (grown_by ack w).recovering ≡ w.recovering
  grown_same w = by_test (λ (v : CongView). v.recovering ≡ w.recovering) (nat_lt 0 ack.acked) _ w (λ _. refl) (λ _. refl)

  duplicate_below : (lost : Bool) (w : CongView) → w.recovering ≡ false → ack.una < ack.top → Below (selective_duplicate ack lost w)
  duplicate_below lost w still out =
      selective_cases Below ack lost w (λ r. absurd (unlike w.recovering r still)) (λ r. out) (λ r. absurd (unlike w.recovering r still))

  sack_below : (sack_news : SackNews) (w : CongView) → (sack_news.fresh ≡ true → ack.una < ack.top) → Below (acked_with_sack ack sack_news w)
  sack_below sack_news w out =
      by_test Below (w.recovering && nat_le w.recovery_point ack.una) _ _ (λ _ r. absurd cc)
      (λ below. by_test Below w.recovering _ _
      (λ _. by_test Below (uses_prr w.recovery_algorithm && ack.delivery.delivered_data == 0) (w, Nothing) (with_delivered ack w, StepC)
      (λ _ r. above w.recovering w.recovery_point ack.una below r) (λ _ r. above w.recovering w.recovery_point ack.una below r))
      (λ still. by_test Below sack_news.fresh _ _
      (λ fresh. duplicate_below sack_news.lost (dup_ack_counted (grown_by ack w)) (grown_same w ∙ still) (out fresh))
      (λ _ r. absurd (unlike w.recovering (sym (grown_same w) ∙ r) still))))

answered_below : (segment : Segment) (n : ℕ) (delivered : Delivery) (fresh : Bool) (rwnd : ℕ) (c : ConnectionView) (after : Established)
    → (fresh ≡ true → c.board.una < c.board.top)
    → IsBelowPoint (congestion_updated c after (ack_of_segment segment n delivered fresh rwnd after c)).0
answered_below segment n delivered fresh rwnd c after out sack =
    let ack : Ack = ack_of_segment segment n delivered fresh rwnd after c in
    let sack_news : SackNews = record { fresh = fresh; lost = fresh && is_lost c.board.una c.board } in
    let told_so : sack_news_of fresh c ≡ Some sack_news = ap (λ (b : Bool). if b then Some sack_news else None) sack in
    subst (λ (x : Option SackNews). Below ack (acked_by ack x (renewed ack after.congestion))) (sym told_so) (sack_below ack sack_news (renewed ack after.congestion) out)

moved_within : (s t : BoardView) → t ≡ s → s.una < s.top → t.una < t.top
moved_within s t e h = subst (λ (x : BoardView). x.una < x.top) (sym e) h

pub taking_below : (now : ℕ) (segment : Segment) (c : ConnectionView) (o : Option Established) → IsBelowPoint c → IsBelowPoint (taking now segment c o).0
taking_below now segment c None h = h
taking_below now segment c (Some e) h =
    let told_at : TellsWithin segment.ack c.board.top (blocks_marked segment (with_number segment c)) = scored_within segment (with_number segment c) in
    let k = ack_board now segment e c in
    let after : (ConnectionView × Established) × Bool = with_ack now segment e c in
    answered_below segment (newly_acked c segment) (delivery (newly_acked c segment) c.board after.0.0.board) after.1 e.rwnd after.0.0 after.0.1
    (λ fresh. let out = told_at.fresh fresh in
    moved_within (blocks_marked segment (with_number segment c)).0 after.0.0.board k (omega (arith, out, told_at.low, told_at.high)))

-- Other changes of congestion control

recongested : (c : ConnectionView) (e : Established) (w : CongView) → IsBelowPoint c → c.established ≡ Some e
    → w.recovering ≡ e.congestion.recovering → w.recovery_point ≡ e.congestion.recovery_point
    → IsBelowPoint (record c { established = Some (record e { congestion = w }) })
recongested c e w h is r p sack recovering =
    let k : RecoversBelow c.board.una (Some e) = subst (RecoversBelow c.board.una) is (h sack) in
    let low : c.board.una < e.congestion.recovery_point = k (sym r ∙ recovering) in
    omega (arith, low, p)

noted_recovering : (filling : WindowFill) (sent : NextSegment) (w : CongView)
    → ((fill_noted_by filling sent w).recovering ≡ w.recovering) × ((fill_noted_by filling sent w).recovery_point ≡ w.recovery_point)
noted_recovering NewData sent w = (refl, refl)
noted_recovering NextSeg (Lost segment) w = (refl, refl)
noted_recovering NextSeg (New segment) w = (refl, refl)
noted_recovering NextSeg (Hole segment) w = (refl, refl)
noted_recovering NextSeg (Rescue segment) w = (refl, refl)

noted_too : (filling : WindowFill) (c : ConnectionView) (sent : NextSegment) (o : Option Established) → IsBelowPoint c → c.established ≡ o
    → IsBelowPoint (fill_noted_on filling sent c o)
noted_too filling c sent None h is = h
noted_too filling c sent (Some e) h is =
    let same = noted_recovering filling sent e.congestion in
    recongested c e (fill_noted_by filling sent e.congestion) h is same.0 same.1

pub noted_below : (now : ℕ) (filling : WindowFill) (c : ConnectionView) (sent : NextSegment) (o : Option Established) → IsBelowPoint c
    → c.established ≡ o → IsBelowPoint (fill_noted_on filling sent (sent_as now sent c) o)
noted_below now filling c (Lost segment) o h is = noted_too filling (sent_as now (Lost segment) c) (Lost segment) o h is
noted_below now filling c (New segment) o h is = noted_too filling (sent_as now (New segment) c) (New segment) o h is
noted_below now filling c (Hole segment) o h is = noted_too filling (sent_as now (Hole segment) c) (Hole segment) o h is
noted_below now filling c (Rescue segment) o h is = noted_too filling (sent_as now (Rescue segment) c) (Rescue segment) o h is

pub entered_below : (segment : Span) (c : ConnectionView) (o : Option Established) → IsBelowPoint c → c.established ≡ o → IsBelowPoint (entered_on segment c o)
entered_below segment c None h is = h
entered_below segment c (Some e) h is = recongested c e (entered_to segment e.congestion) h is refl refl

-- sending begins, after an idle time or without one
begun_same : (una smss : ℕ) (idle : Bool) (o : Option Established) → RecoversBelow una o → RecoversBelow una (restarted_in smss idle o)
begun_same una smss idle None h = h
begun_same una smss idle (Some e) h = h

pub begun_below : (now : ℕ) (c : ConnectionView) → IsBelowPoint c → IsBelowPoint (restarted_if_idle now c)
begun_below now c h sack = begun_same c.board.una c.board.smss (is_all_acked_and_idle_over_rto now c) c.established (h sack)

-- another stream, or Nagle's algorithm
stream_same : (una : ℕ) (d : StreamState) (o : Option Established) → RecoversBelow una o → RecoversBelow una (option_map {T = Established} (λ e. record e { stream_state = d }) o)
stream_same una d None h = h
stream_same una d (Some e) h = h

nagle_same : (una : ℕ) (on : Bool) (o : Option Established) → RecoversBelow una o → RecoversBelow una (option_map {T = Established} (λ e. record e { nagle = on }) o)
nagle_same una on None h = h
nagle_same una on (Some e) h = h

pub stream_below : (d : StreamState) (c : ConnectionView) → IsBelowPoint c → IsBelowPoint (with_stream d c)
stream_below d c h sack = stream_same c.board.una d c.established (h sack)

pub nagle_below : (on : Bool) (c : ConnectionView) → IsBelowPoint c → IsBelowPoint (with_nagle on c)
nagle_below on c h sack = nagle_same c.board.una on c.established (h sack)

finned_same : (una : ℕ) (p : PeerFin) (o : Option Established) → RecoversBelow una o → RecoversBelow una (option_map {T = Established} (λ e. record e { peer_fin = p }) o)
finned_same una p None h = h
finned_same una p (Some e) h = h

pub finned_below : (c : ConnectionView) → IsBelowPoint c → IsBelowPoint (with_peer_fin c)
finned_below c h sack = finned_same c.board.una (if c.fin then AfterOurs else BeforeOurs) c.established (h sack)
