-- Passed packets and answers agree with those that the script expects, and an expected packet that passes is taken.
use Rattle.std.proofs.Common.{◌≡◌, inl, inr, ℕ, suc, ◌==◌, Bool, true, false, if◌then◌else◌, List, [], ◌∷◌, length, drop, slice_get, Option, Some, None, Result, Ok, Err, refl, sym, ap, subst, ◌∙◌, arith}
use Rattle.std.specs.List.{AllByRecursion}
use Rattle.std.proofs.lemmas.Bool.Decides.{nat_tests}
use Rattle.pd_script.specs.declared.calls.Call.{Call}
use Rattle.pd_script.specs.declared.packets.Packet.{Packet}
use Rattle.pd_script.specs.declared.script_events.Action.TheVariants.{Outbound, Call as Calls}
use Rattle.pd_script.specs.declared.script_events.Event.{Event}
use Rattle.pd_seg.specs.declared.call_results.Answer.{Answer}
use Rattle.pd_seg.specs.declared.segments.Sent.{Sent}
use Rattle.pd_host.specs.Expiries.{advanced, deadline_of}
use Rattle.pd_host.specs.Host.{without_oldest}
use Rattle.pd_host.specs.declared.halts.Halt.{Halt}
use Rattle.pd_host.specs.declared.endpoint.SenderState.{SenderState}
use Rattle.pd_match.specs.Agreement.{Agrees, IsFirstFailing}
use Rattle.pd_match.specs.Laws.{MismatchIsFirst, MatchIsResult}
use Rattle.pd_match.specs.Calls.{result_mismatch}
use Rattle.pd_match.specs.Packets.{compared_fields, mismatch}
use Rattle.pd_match.specs.declared.kinds.Kind.{Kind}
use Rattle.pd_run.specs.Laws.{PassedPacketsAgree, unmatched, AreAwaited, PassedPacketsAreTaken, PassedCallsAnswer}
use Rattle.pd_run.specs.Step.{RunStateView, tolerance_of, comparison_noted, on_step, with_state, judged, answers, on_answer, on_expiry, expires, awaited, packet_taken, performed}
use Rattle.pd_run.specs.Times.{time_range_of, base_from_moment_or_later_of_base_and_sent, is_not_too_late_within_tolerance}
use Rattle.pd_run.specs.declared.stop_reason.StopReason.{StopReason}
use Rattle.pd_run.proofs.Bounds.{given, agreed, in_reach, step_performs}

-- what was judged and passed differs in nothing
no_kind : (r s : RunStateView) (reason : Kind → StopReason) (kind : Option Kind) → judged r reason kind ≡ Ok s → kind ≡ None
no_kind r s reason None h = refl
no_kind r s reason (Some kind) h = absurd cc

-- the packet that passed
abbrev Passed : Event → Packet → RunStateView → Option Sent → Type 0
Passed e p t first = (sent : Sent) × (first ≡ Some sent) × (mismatch p (time_range_of t.base e.time) sent (tolerance_of t) ≡ None)

of_taken : (e : Event) (p : Packet) (t s : RunStateView) (first : Option Sent) → packet_taken e p t first ≡ Ok s → Passed e p t first
of_taken e p t s None h = absurd cc
of_taken e p t s (Some sent) h = (sent, refl, no_kind _ s _ (mismatch p (time_range_of t.base e.time) sent (tolerance_of t)) h)

of_awaited : (e : Event) (p : Packet) (s : RunStateView) (came : Result RunStateView StopReason)
    → on_step (λ q. packet_taken e p q (slice_get q.host.state.endpoint.outbox 0)) (λ reason. Err reason) came ≡ Ok s
    → (t : RunStateView) × (came ≡ Ok t) × Passed e p t (slice_get t.host.state.endpoint.outbox 0)
of_awaited e p s (Ok t) h = (t, refl, of_taken e p t s (slice_get t.host.state.endpoint.outbox 0) h)
of_awaited e p s (Err reason) h = absurd cc

all_agree : MismatchIsFirst → (p : Packet) (time_range : Option (ℕ × ℕ)) (sent : Sent) (tolerance : ℕ) → mismatch p time_range sent tolerance ≡ None
    → AllByRecursion (Agrees p time_range sent tolerance) compared_fields
all_agree law p time_range sent tolerance none =
    subst (IsFirstFailing (Agrees p time_range sent tolerance) compared_fields) none (law p time_range sent tolerance)

pub passed_packets_agree : MismatchIsFirst → PassedPacketsAgree
passed_packets_agree law r s e p is h =
    let went : performed r e (Outbound p) ≡ Ok s = ap (performed r e) (sym is) ∙ step_performs r s e h in
    let came = of_awaited e p s (awaited (comparison_noted r) e) went in
    let t : RunStateView = came.0 in
    let sent : Sent = came.2.0 in
    (t, sent, came.1, came.2.1, all_agree law p (time_range_of t.base e.time) sent (tolerance_of t) came.2.2)

-- Which packet is taken

-- the oldest, and no other
oldest_taken : (e : Event) (p : Packet) (t s : RunStateView) (packets : List Sent) → unmatched t ≡ packets → packet_taken e p t (slice_get packets 0) ≡ Ok s
    → (sent : Sent) × (unmatched t ≡ sent ∷ unmatched s)
oldest_taken e p t s [] is h = absurd cc
oldest_taken e p t s (sent ∷ packets) is h =
    let next : RunStateView = record t { host = without_oldest t.host; base = base_from_moment_or_later_of_base_and_sent t.base e.time sent.at } in
    let same : next ≡ s = agreed next s _ (mismatch p (time_range_of t.base e.time) sent (tolerance_of t)) h in
    let left : unmatched s ≡ packets = ap unmatched (sym same) ∙ ap (drop 1) is in
    (sent, is ∙ ap (λ (l : List Sent). sent ∷ l) (sym left))

-- what the next expiry put out
of_expiry : (r t : RunStateView) (at : ℕ) (came : Result SenderState Halt) → on_expiry r at came ≡ Ok t
    → (s : SenderState) × (came ≡ Ok s) × (unmatched t ≡ s.endpoint.outbox)
of_expiry r t at (Ok s) h = (s, refl, ap unmatched (sym (given (record (with_state r s) { clock = at }) t h)))
of_expiry r t at (Err halt) h = absurd cc

of_due : (r t : RunStateView) (e : Event) (o : Option ℕ) → deadline_of r.host.state ≡ o → unmatched r ≡ [] → expires r e o ≡ Ok t → AreAwaited r (unmatched t)
of_due r t e None due none h = absurd cc
of_due r t e (Some at) due none h =
    let went = of_expiry r t at (advanced at r.host.state)
    (in_reach (is_not_too_late_within_tolerance (time_range_of r.base e.time) (tolerance_of r) at) (on_expiry r at (advanced at r.host.state)) t h) in
    inr (at, went.0, none, due, went.1, went.2)

none_less : (n : ℕ) → (suc n == 0) ≡ true → ⊥
none_less n e = grind (arith, nat_tests)

no_packets : (packets : List Sent) → (length packets == 0) ≡ true → packets ≡ []
no_packets [] e = refl
no_packets (sent ∷ packets) e = absurd (none_less (length packets) e)

of_wait : (r t : RunStateView) (e : Event) (empty : Bool) → (length (unmatched r) == 0) ≡ empty
    → (if empty then expires r e (deadline_of r.host.state) else Ok r) ≡ Ok t → AreAwaited r (unmatched t)
of_wait r t e true is h = of_due r t e (deadline_of r.host.state) refl (no_packets (unmatched r) is) h
of_wait r t e false is h = inl (ap unmatched (sym (given r t h)))

of_leaving : (e : Event) (p : Packet) (s : RunStateView) (came : Result RunStateView StopReason)
    → on_step (λ q. packet_taken e p q (slice_get q.host.state.endpoint.outbox 0)) (λ reason. Err reason) came ≡ Ok s
    → (t : RunStateView) × (sent : Sent) × (came ≡ Ok t) × (unmatched t ≡ sent ∷ unmatched s)
of_leaving e p s (Ok t) h =
    let took = oldest_taken e p t s (unmatched t) refl h in
    (t, took.0, refl, took.1)
of_leaving e p s (Err reason) h = absurd cc

pub passed_packets_are_taken : PassedPacketsAreTaken
passed_packets_are_taken r s e p is h =
    let went : performed r e (Outbound p) ≡ Ok s = ap (performed r e) (sym is) ∙ step_performs r s e h in
    let left = of_leaving e p s (awaited (comparison_noted r) e) went in
    (left.0, left.1, left.2, of_wait (comparison_noted r) left.0 e (length (unmatched r) == 0) refl left.2, left.3)

of_answer : (r s : RunStateView) (e : Event) (call : Call) (came : Result (SenderState × Answer) Halt) → on_answer r e call came ≡ Ok s
    → (t : SenderState) × (a : Answer) × (came ≡ Ok (t, a)) × (result_mismatch call.result a ≡ None)
of_answer r s e call (Ok (t, a)) h = (t, a, refl, no_kind _ s _ (result_mismatch call.result a) h)
of_answer r s e call (Err halt) h = absurd cc

pub passed_calls_answer : MatchIsResult → PassedCallsAnswer
passed_calls_answer law r s e call is h =
    let went : performed r e (Calls call) ≡ Ok s = ap (performed r e) (sym is) ∙ step_performs r s e h in
    let came = of_answer r s e call (answers r e call) went in
    (came.0, came.1, came.2, law call.result came.1 came.3)
