-- Nothing but an RST at RCV.NXT resets a connection.
use Rattle.std.proofs.Common.{◌≡◌, ◌⊎◌, inl, inr, ℕ, ◌==◌, Bool, true, false, true≢false, if◌then◌else◌, nat_lt, length, List, ◌∷◌, [], Option, None, Some, Result, Ok, Err, refl, sym, ap, ◌∙◌, arith}
use Rattle.std.proofs.lemmas.Bool.Decides.{nat_tests}
use Rattle.pd_settings.specs.declared.settings.Settings.{Settings}
use Rattle.pd_seg.specs.declared.segments.Segment.{Segment}
use Rattle.pd_seg.specs.declared.segments.Sent.{Sent}
use Rattle.pd_host.specs.AckEffects.{taking, ack_taken}
use Rattle.pd_host.specs.Arrivals.{first_failed_check, check_outcome, passed_on, arrived_on, failed_check_of}
use Rattle.pd_host.specs.Connection.{ConnectionView, rcv_nxt}
use Rattle.pd_host.specs.Handshake.{established_by, syn_acked}
use Rattle.pd_host.specs.InputLaws.{OnlyAnExactRstResets}
use Rattle.pd_host.specs.Host.{beside, with_outbox}
use Rattle.pd_host.specs.Sending.{with_begun_connection}
use Rattle.pd_host.specs.declared.established.Established.{Established}
use Rattle.pd_host.specs.declared.halts.Halt.{Halt}
use Rattle.pd_host.specs.declared.halts.Halt.TheVariants.{Limit}
use Rattle.pd_host.specs.declared.connection.segment_check.SegmentCheck.{SegmentCheck}
use Rattle.pd_host.specs.declared.connection.segment_check.SegmentCheck.TheVariants.{NotRun, StrayRst, OutsideWindow, ExactRst, ChallengedRst, WithoutAck, FirstAck, RefusedAck, EarlyAck, OldAck}
use Rattle.pd_host.specs.declared.endpoint.SenderState.{SenderState}
use Rattle.pd_host.proofs.Finishes.{passed_leaves}
use Rattle.pd_host.proofs.Outcomes.{Leaves, came, leaves_too}
use Rattle.pd_host.proofs.SentOn.{IsSentOn, stills}
use Rattle.pd_host.proofs.Taken.{taking_keeps, taken_sends, measured_keeps}

-- an RST has ended a connection
abbrev was_reset : Option ConnectionView → Bool
was_reset None = false
was_reset (Some c) = c.is_reset

abbrev IsLive : SenderState → Type 0
IsLive s = was_reset s.endpoint.connection ≡ false

still_reset : (o : Option ConnectionView) → was_reset (stills o) ≡ was_reset o
still_reset None = refl
still_reset (Some c) = refl

-- sending resets nothing
sent_live : (now : ℕ) (s t : SenderState) → IsSentOn now s t → IsLive s → IsLive t
sent_live now s t h live =
    sym (still_reset t.endpoint.connection) ∙ ap was_reset h.connection ∙ still_reset s.endpoint.connection ∙ live

-- nor does taking a segment
taking_live : (now : ℕ) (segment : Segment) (c : ConnectionView) (o : Option Established) → (taking now segment c o).0.is_reset ≡ c.is_reset
taking_live now segment c None = refl
taking_live now segment c (Some e) = ap (λ (x : ConnectionView). x.is_reset) (taking_keeps now segment c e)

-- nor the end of the handshake
established_live : (now : ℕ) (settings : Settings) (segment : Segment) (c : ConnectionView) → (established_by now settings segment c).is_reset ≡ c.is_reset
established_live now settings segment c =
    ap (λ (x : ConnectionView). x.is_reset) (measured_keeps now settings.granularity_us 1 (syn_acked c) (syn_acked c).rtt_segment)

-- nor a packet more
answers : (b : Bool) (packets : List Sent) (s : SenderState) → IsLive s
    → Leaves IsLive (beside s (with_outbox s.endpoint (if b then Ok packets else Err Limit)))
answers true packets s live = live
answers false packets s live = tt

-- the ruling that resets
resets : (r : Option SegmentCheck) (segment : Segment) (now : ℕ) (s : SenderState) (c : ConnectionView) → c.is_reset ≡ false → IsLive s
    → (r ≡ Some ExactRst) ⊎ Leaves IsLive (check_outcome now segment c s r)
resets (Some NotRun) segment now s c still live = inr tt
resets (Some StrayRst) segment now s c still live = inr live
resets (Some OutsideWindow) segment now s c still live = inr (answers (nat_lt (length s.endpoint.outbox) 1024) _ s live)
resets (Some ExactRst) segment now s c still live = inl refl
resets (Some ChallengedRst) segment now s c still live = inr (answers (nat_lt (length s.endpoint.outbox) 1024) _ s live)
resets (Some WithoutAck) segment now s c still live = inr live
resets (Some FirstAck) segment now s c still live = inr (established_live now s.settings segment c ∙ still)
resets (Some RefusedAck) segment now s c still live = inr (answers (nat_lt (length s.endpoint.outbox) 1024) _ s live)
resets (Some EarlyAck) segment now s c still live = inr (answers (nat_lt (length s.endpoint.outbox) 1024) _ s live)
resets (Some OldAck) segment now s c still live = inr live
resets None segment now s c still live =
    let left : SenderState = with_begun_connection (taking now segment c c.established).0 s in
    inr (leaves_too (IsSentOn now left) IsLive (ack_taken now segment c s c.established)
    (λ t h. sent_live now left t h (taking_live now segment c c.established ∙ still)) (taken_sends now segment c s c.established))

-- nor a FIN of the peer's
passed : (r : Option SegmentCheck) (segment : Segment) (now : ℕ) (s : SenderState) (c : ConnectionView)
    → (r ≡ Some ExactRst) ⊎ Leaves IsLive (check_outcome now segment c s r)
    → (r ≡ Some ExactRst) ⊎ Leaves IsLive (passed_on now segment c s r)
passed r segment now s c (inl same) = inl same
passed r segment now s c (inr live) =
    inr (passed_leaves IsLive now segment c s r (λ u d e k. sym (ap was_reset e) ∙ k) live)

-- an arrival that resets was ruled so
was_exact : (r : Option SegmentCheck) (x : Result SenderState Halt) (t : SenderState) (d : ConnectionView) → t.endpoint.connection ≡ Some d → d.is_reset ≡ true
    → x ≡ Ok t → (r ≡ Some ExactRst) ⊎ Leaves IsLive x → r ≡ Some ExactRst
was_exact r x t d hd was h (inl same) = same
was_exact r x t d hd was h (inr live) =
    absurd (true≢false (sym was ∙ sym (ap was_reset hd) ∙ came IsLive x t h live))

-- the check that rules so
pub at_rcv_nxt : (bad inside rst here flag shaken sent above below : Bool)
    → first_failed_check (
    (if bad then Some NotRun else None)
    ∷ (if inside then None else Some (if rst then StrayRst else OutsideWindow))
    ∷ (if rst then Some (if here then ExactRst else ChallengedRst) else None)
    ∷ (if flag then None else Some WithoutAck)
    ∷ (if shaken then None else Some (if sent then FirstAck else RefusedAck))
    ∷ (if above then Some EarlyAck else if below then Some OldAck else None)
    ∷ []) ≡ Some ExactRst
    → (rst ≡ true) × (here ≡ true)
at_rcv_nxt true inside rst here flag shaken sent above below h = absurd cc
at_rcv_nxt false false true here flag shaken sent above below h = absurd cc
at_rcv_nxt false false false here flag shaken sent above below h = absurd cc
at_rcv_nxt false true true true flag shaken sent above below h = (refl, refl)
at_rcv_nxt false true true false flag shaken sent above below h = absurd cc
at_rcv_nxt false true false here false shaken sent above below h = absurd cc
at_rcv_nxt false true false here true false true above below h = absurd cc
at_rcv_nxt false true false here true false false above below h = absurd cc
at_rcv_nxt false true false here true true sent true below h = absurd cc
at_rcv_nxt false true false here true true sent false true h = absurd cc
at_rcv_nxt false true false here true true sent false false h = absurd cc

equal : (m n : ℕ) → (m == n) ≡ true → m ≡ n
equal m n h = grind (arith, nat_tests)

pub only_an_exact_rst_resets : OnlyAnExactRstResets
only_an_exact_rst_resets segment now s t c d hc hd still was h =
    let arrives : passed_on now segment c s (failed_check_of c segment) ≡ Ok t = ap (arrived_on now segment s) (sym hc) ∙ h in
    let failed_check : failed_check_of c segment ≡ Some ExactRst =
    was_exact (failed_check_of c segment) (passed_on now segment c s (failed_check_of c segment)) t d hd was arrives
    (passed (failed_check_of c segment) segment now s c (resets (failed_check_of c segment) segment now s c still (ap was_reset hc ∙ still))) in
    let at : (segment.flags.rst ≡ true) × ((segment.start == rcv_nxt c) ≡ true) =
    at_rcv_nxt _ _ segment.flags.rst (segment.start == rcv_nxt c) _ _ _ _ _ failed_check in
    (at.0, equal segment.start (rcv_nxt c) at.1)
