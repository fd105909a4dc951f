-- Neither an arrival nor an expiry queues anything.
use Rattle.std.proofs.Common.{◌≡◌, ℕ, Bool, true, false, nat_lt, if◌then◌else◌, length, List, Option, None, Some, Ok, Err, refl, sym, ap, ◌∙◌}
use Rattle.pd_settings.specs.declared.settings.Settings.{Settings}
use Rattle.pd_seg.specs.declared.segments.Segment.{Segment}
use Rattle.pd_seg.specs.declared.segments.Sent.{Sent}
use Rattle.pd_host.specs.AckEffects.{taking, ack_taken}
use Rattle.pd_host.specs.Arrivals.{check_outcome, passed_on, arrived_on, arrived, failed_check_of}
use Rattle.pd_host.specs.Connection.{ConnectionView}
use Rattle.pd_host.specs.Expiries.{connection_expired, expired, advanced}
use Rattle.pd_host.specs.Handshake.{established_by, syn_acked}
use Rattle.pd_host.specs.Host.{beside, with_outbox}
use Rattle.pd_host.specs.Sending.{places_left, with_begun_connection}
use Rattle.pd_host.specs.declared.established.Established.{Established}
use Rattle.pd_host.specs.declared.halts.Halt.TheVariants.{Limit}
use Rattle.pd_host.specs.declared.connection.segment_check.SegmentCheck.{SegmentCheck}
use Rattle.pd_host.specs.declared.connection.segment_check.SegmentCheck.TheVariants.{NotRun, StrayRst, OutsideWindow, ExactRst, ChallengedRst, WithoutAck, FirstAck, RefusedAck, EarlyAck, OldAck}
use Rattle.pd_host.specs.declared.endpoint.SenderState.{SenderState}
use Rattle.pd_host.proofs.Advances.{expiry_finds, expiry_sends}
use Rattle.pd_host.proofs.Finishes.{passed_leaves}
use Rattle.pd_host.proofs.Outcomes.{Leaves, came, leaves_too, kept}
use Rattle.pd_host.proofs.SentOn.{IsSentOn, stills}
use Rattle.pd_host.proofs.Taken.{taking_keeps, taken_sends, measured_keeps}

-- whether the last octet queued is the FIN, and the number after it
abbrev tail : Option ConnectionView → Bool × ℕ
tail None = (false, 0)
tail (Some c) = (c.fin, c.board.end)

abbrev Tail : Bool × ℕ → SenderState → Type 0
Tail x s = tail s.endpoint.connection ≡ x

still_tail : (o : Option ConnectionView) → tail (stills o) ≡ tail o
still_tail None = refl
still_tail (Some c) = refl

sent_tail : (now : ℕ) (s t : SenderState) → IsSentOn now s t → tail t.endpoint.connection ≡ tail s.endpoint.connection
sent_tail now s t h = sym (still_tail t.endpoint.connection) ∙ ap tail h.connection ∙ still_tail s.endpoint.connection

-- Arrivals

taking_tail : (now : ℕ) (segment : Segment) (c : ConnectionView) (o : Option Established) → tail (Some (taking now segment c o).0) ≡ tail (Some c)
taking_tail now segment c None = refl
taking_tail now segment c (Some e) = ap (λ (x : ConnectionView). tail (Some x)) (taking_keeps now segment c e)

established_tail : (now : ℕ) (settings : Settings) (segment : Segment) (c : ConnectionView) → tail (Some (established_by now settings segment c)) ≡ tail (Some c)
established_tail now settings segment c =
    ap (λ (x : ConnectionView). tail (Some x)) (measured_keeps now settings.granularity_us 1 (syn_acked c) (syn_acked c).rtt_segment)

answers : (b : Bool) (packets : List Sent) (s : SenderState) (x : Bool × ℕ) → Tail x s
    → Leaves (Tail x) (beside s (with_outbox s.endpoint (if b then Ok packets else Err Limit)))
answers true packets s x h = h
answers false packets s x h = tt

by_ruling : (r : Option SegmentCheck) (segment : Segment) (now : ℕ) (s : SenderState) (c : ConnectionView) → Tail (c.fin, c.board.end) s
    → Leaves (Tail (c.fin, c.board.end)) (check_outcome now segment c s r)
by_ruling (Some NotRun) segment now s c h = tt
by_ruling (Some StrayRst) segment now s c h = h
by_ruling (Some OutsideWindow) segment now s c h = answers (nat_lt (length s.endpoint.outbox) 1024) _ s (c.fin, c.board.end) h
by_ruling (Some ExactRst) segment now s c h = refl
by_ruling (Some ChallengedRst) segment now s c h = answers (nat_lt (length s.endpoint.outbox) 1024) _ s (c.fin, c.board.end) h
by_ruling (Some WithoutAck) segment now s c h = h
by_ruling (Some FirstAck) segment now s c h = established_tail now s.settings segment c
by_ruling (Some RefusedAck) segment now s c h = answers (nat_lt (length s.endpoint.outbox) 1024) _ s (c.fin, c.board.end) h
by_ruling (Some EarlyAck) segment now s c h = answers (nat_lt (length s.endpoint.outbox) 1024) _ s (c.fin, c.board.end) h
by_ruling (Some OldAck) segment now s c h = h
by_ruling None segment now s c h =
    let left : SenderState = with_begun_connection (taking now segment c c.established).0 s in
    leaves_too (IsSentOn now left) (Tail (c.fin, c.board.end)) (ack_taken now segment c s c.established)
    (λ t sent. sent_tail now left t sent ∙ taking_tail now segment c c.established) (taken_sends now segment c s c.established)

-- the same tail on both connections
both : (c d : ConnectionView) (t : SenderState) → t.endpoint.connection ≡ Some d → Tail (c.fin, c.board.end) t → (d.fin ≡ c.fin) × (d.board.end ≡ c.board.end)
both c d t hd h =
    let same : tail (Some d) ≡ tail (Some c) = sym (ap tail hd) ∙ h in
    (ap (λ (x : Bool × ℕ). x.0) same, ap (λ (x : Bool × ℕ). x.1) same)

pub arrivals_queue_nothing : (segment : Segment) (now : ℕ) (s t : SenderState) (c d : ConnectionView)
    → s.endpoint.connection ≡ Some c → t.endpoint.connection ≡ Some d → arrived segment now s ≡ Ok t
    → (d.fin ≡ c.fin) × (d.board.end ≡ c.board.end)
arrivals_queue_nothing segment now s t c d hc hd h =
    both c d t hd
    (came (Tail (c.fin, c.board.end)) (passed_on now segment c s (failed_check_of c segment)) t (ap (arrived_on now segment s) (sym hc) ∙ h)
    (passed_leaves (Tail (c.fin, c.board.end)) now segment c s (failed_check_of c segment) (λ u x e k. sym (ap tail e) ∙ k)
    (by_ruling (failed_check_of c segment) segment now s c (ap tail hc))))

-- Expiries

expired_tail : (at : ℕ) (c : ConnectionView) (o : Option Established) → tail (Some (connection_expired at c o)) ≡ tail (Some c)
expired_tail at c None = refl
expired_tail at c (Some e) = refl

one_tail : (x : Bool × ℕ) (at : ℕ) (t : SenderState) (o : Option ConnectionView) → t.endpoint.connection ≡ o → Tail x t → Tail x (expired at o t)
one_tail x at t None e h = h
one_tail x at t (Some c) e h = expired_tail at c c.established ∙ sym (ap tail e) ∙ h

pub expiries_queue_nothing : (until : ℕ) (s t : SenderState) (c d : ConnectionView)
    → s.endpoint.connection ≡ Some c → t.endpoint.connection ≡ Some d → advanced until s ≡ Ok t
    → (d.fin ≡ c.fin) × (d.board.end ≡ c.board.end)
expiries_queue_nothing until s t c d hc hd h =
    let x : Bool × ℕ = (c.fin, c.board.end) in
    both c d t hd
    (came (Tail x) (advanced until s) t h
    (kept (Tail x) (expiry_finds until) expiry_sends (λ at u e held. one_tail x at u u.endpoint.connection refl held) (places_left s) s (ap tail hc)))
