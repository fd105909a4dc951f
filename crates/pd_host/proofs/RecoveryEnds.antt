-- Where loss recovery ends.
use Rattle.std.proofs.Common.{◌≡◌, ◌↔◌, ℕ, ◌<◌, ◌≤◌, ◌&&◌, Bool, true, false, if◌then◌else◌, Option, None, Some, is_some, Ok, refl, sym, subst, ap, ◌∙◌}
use Rattle.pd_board.specs.Loss.{is_lost}
use Rattle.pd_recover.specs.Acks.{acked}
use Rattle.pd_recover.specs.Cong.{CongView}
use Rattle.pd_recover.specs.Laws.{EndsInTime}
use Rattle.pd_recover.specs.declared.ack.Ack.{Ack}
use Rattle.pd_recover.specs.declared.ack.Delivery.{Delivery}
use Rattle.pd_recover.specs.declared.ack.SackNews.{SackNews}
use Rattle.pd_seg.specs.declared.segments.Segment.{Segment}
use Rattle.pd_host.specs.AckEffects.{newly_acked, sack_news_of, ack_of_segment, with_ack, taking, ack_taken, delivery, congestion_updated}
use Rattle.pd_host.specs.Connection.{ConnectionView}
use Rattle.pd_host.specs.Sending.{with_begun_connection, is_recovering}
use Rattle.pd_host.specs.SendingLaws.{recovers, EndsRecovery}
use Rattle.pd_host.specs.declared.established.Established.{Established}
use Rattle.pd_host.specs.declared.endpoint.SenderState.{SenderState}
use Rattle.pd_host.proofs.Outcomes.{came}
use Rattle.pd_host.proofs.SentOn.{IsSentOn, at_rest, stills}
use Rattle.pd_host.proofs.Taken.{ack_keeps, ack_leaves_congestion, taken_sends}

-- what is sent leaves recovery

rest_recovers : (o : Option Established) → is_recovering (at_rest o) ≡ is_recovering o
rest_recovers None = refl
rest_recovers (Some e) = refl

still_recovers : (o : Option ConnectionView) → recovers (stills o) ≡ recovers o
still_recovers None = refl
still_recovers (Some c) = rest_recovers c.established

sent_recovers : (now : ℕ) (s t : SenderState) → IsSentOn now s t → recovers t.endpoint.connection ≡ recovers s.endpoint.connection
sent_recovers now s t h =
    sym (still_recovers t.endpoint.connection) ∙ ap recovers h.connection ∙ still_recovers s.endpoint.connection

-- Recovery ends where congestion control says so

abbrev Ends : Ack → CongView → Type 0 → Type 0
Ends ack w X = ((acked ack w).0.recovering ≡ false) ↔ X

-- the octets that an ACK reports
record Tells (ack : Ack) (una n : ℕ) (sack_news : Option SackNews) : Type 0 where
  pub number : ack.una ≡ una
  pub octets : ack.acked ≡ n
  pub blocks : ack.sack ≡ sack_news

answer_ends : (segment : Segment) (n : ℕ) (delivered : Delivery) (fresh : Bool) (rwnd : ℕ) (d : ConnectionView) (e : Established) (w : CongView) (X : Type 0)
    → e.congestion ≡ w
    → ((ack : Ack) → Tells ack d.board.una n (sack_news_of fresh d) → Ends ack w X)
    → (is_recovering (congestion_updated d e (ack_of_segment segment n delivered fresh rwnd e d)).0.established ≡ false) ↔ X
answer_ends segment n delivered fresh rwnd d e w X same ends =
    let ack : Ack = ack_of_segment segment n delivered fresh rwnd e d in
    subst (λ (v : CongView). Ends ack v X) (sym same) (ends ack (record { number = refl; octets = refl; blocks = refl }))

taken_ends : (now : ℕ) (segment : Segment) (c : ConnectionView) (s t : SenderState) (e : Established) (X : Type 0)
    → c.established ≡ Some e
    → ((ack : Ack) (fresh : Bool) → Tells ack segment.ack (newly_acked c segment) (sack_news_of fresh (with_ack now segment e c).0.0) → Ends ack e.congestion X)
    → ack_taken now segment c s c.established ≡ Ok t
    → (recovers t.endpoint.connection ≡ false) ↔ X
taken_ends now segment c s t e X has ends h =
    let after : (ConnectionView × Established) × Bool = with_ack now segment e c in
    let left : ConnectionView = (taking now segment c (Some e)).0 in
    let same : ack_taken now segment c s (Some e) ≡ Ok t = ap (ack_taken now segment c s) (sym has) ∙ h in
    let sent : IsSentOn now (with_begun_connection left s) t = came (IsSentOn now (with_begun_connection left s)) (ack_taken now segment c s (Some e)) t same (taken_sends now segment c s (Some e)) in
    let una : after.0.0.board.una ≡ segment.ack = ap (λ (x : ConnectionView). x.board.una) (ack_keeps now segment e c) in
    subst (λ (b : Bool). (b ≡ false) ↔ X) (sym (sent_recovers now (with_begun_connection left s) t sent))
    (answer_ends segment (newly_acked c segment) (delivery (newly_acked c segment) c.board after.0.0.board) after.1 e.rwnd after.0.0 after.0.1 e.congestion X (ack_leaves_congestion now segment e c)
    (λ ack tells. ends ack after.1 (record { number = tells.number ∙ una; octets = tells.octets; blocks = tells.blocks })))

-- whether SACK was agreed
agreed : (now : ℕ) (segment : Segment) (e : Established) (c : ConnectionView) → (with_ack now segment e c).0.0.sack ≡ c.sack
agreed now segment e c = ap (λ (x : ConnectionView). x.sack) (ack_keeps now segment e c)

abbrev news_if : Bool → Bool → ConnectionView → Option SackNews
news_if sack fresh d = if sack then Some (record { fresh = fresh; lost = fresh && is_lost d.board.una d.board }) else None

pub ends_recovery : EndsInTime → EndsRecovery
ends_recovery ends = record {
  with_sack = λ now segment c s t e has sack recovering h.
      let w : CongView = e.congestion in
      let d : ConnectionView = (with_ack now segment e c).0.0 in
      taken_ends now segment c s t e (w.recovery_point ≤ segment.ack) has
      (λ ack fresh tells.
      let told : is_some ack.sack ≡ true =
      ap is_some tells.blocks ∙ ap (λ (b : Bool). is_some (news_if b fresh d)) (agreed now segment e c ∙ sack) in
      subst (λ (n : ℕ). Ends ack w (w.recovery_point ≤ n)) tells.number (ends.with_sack ack w told recovering)) h;
  without_sack = λ now segment c s t e has sack recovering h.
      let w : CongView = e.congestion in
      let d : ConnectionView = (with_ack now segment e c).0.0 in
      taken_ends now segment c s t e (0 < newly_acked c segment) has
      (λ ack fresh tells.
      let none : ack.sack ≡ None =
      tells.blocks ∙ ap (λ (b : Bool). news_if b fresh d) (agreed now segment e c ∙ sack) in
      subst (λ (n : ℕ). Ends ack w (0 < n)) tells.octets (ends.without_sack ack w none recovering)) h;
  expiry = λ at e c. refl;
}
