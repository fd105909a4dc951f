-- The states that steps of recorded events leave, and which packet leaves next.
use Rattle.std.proofs.Common.{◌≡◌, ℕ, suc, ◌+◌, ◌-◌, ◌<◌, ◌≤◌, ◌==◌, max, nat_le, Bool, true, false, not, if◌then◌else◌, Option, Some, None, List, [], ◌∷◌, ◌++◌, length, slice_get, Result, Ok, Err, refl, sym, ap, subst, ◌∙◌, ◌⊎◌, inl, inr, rules, arith}
use Rattle.std.specs.Prelude.{IfSome, option_and_then}
use Rattle.std.proofs.lemmas.Bool.{le-leb}
use Rattle.pd_script.specs.declared.timing.Time.{Time}
use Rattle.pd_script.specs.declared.calls.Call.{Call}
use Rattle.pd_script.specs.declared.packets.Packet.{Packet}
use Rattle.pd_script.specs.declared.script_events.Action.{Action}
use Rattle.pd_script.specs.declared.script_events.Action.TheVariants.{Inbound, Outbound, Call as Calls}
use Rattle.pd_script.specs.declared.script_events.Event.{Event}
use Rattle.pd_seg.specs.declared.call_results.Answer.{Answer}
use Rattle.pd_seg.specs.declared.segments.Sent.{Sent}
use Rattle.pd_host.specs.Connection.{ConnectionView}
use Rattle.pd_host.specs.Expiries.{advanced, deadline_of, due_by, expired, segment_again, expiry_rule}
use Rattle.pd_host.specs.InputLaws.{AdvancesPutOutAfter}
use Rattle.pd_host.specs.Laws.{AreInOrder}
use Rattle.pd_host.specs.Host.{without_oldest}
use Rattle.pd_host.specs.Sending.{on_found, repeated, places_left}
use Rattle.pd_host.specs.declared.halts.Halt.{Halt}
use Rattle.pd_host.specs.declared.endpoint.SenderState.{SenderState}
use Rattle.pd_match.specs.Calls.{result_mismatch}
use Rattle.pd_match.specs.Packets.{mismatch}
use Rattle.pd_run.specs.Prechecks.{failed_precheck}
use Rattle.pd_run.specs.RunStates.{RunStateView, KeepsTime}
use Rattle.pd_run.specs.Step.{tolerance_of, comparison_noted, on_step, with_state, action_time_not_before_clock, acted, arrives, on_arrival, answers, on_answer, on_expiry, expires, awaited, packet_taken, leaves, performed, precheck_then_perform_event_and_find_stop, step}
use Rattle.pd_run.specs.Times.{is_single_moment, single_moment_or_base, time_range_of, is_not_too_late_within_tolerance, base_from_moment_or_later_of_base_and_sent}
use Rattle.pd_run.specs.declared.stop_reason.StopReason.{StopReason}
use Rattle.pd_run.specs.declared.stop_reason.StopReason.TheVariants.{Missing}
use Rattle.pd_run.proofs.Bounds.{given, agreed, goes, unbarred, step_performs}
use Rattle.pd_record.specs.Recorder.{oldest_of, or_expired, due_where, leaves_next}

-- no check barred an event whose step goes on
pub step_unbarred : (r s : RunStateView) (e : Event) → step r e ≡ Ok s → failed_precheck r.base e ≡ None
step_unbarred r s e h = (unbarred (performed r e e.action) (failed_precheck r.base e) s (goes e.line (precheck_then_perform_event_and_find_stop r e) s h)).0

-- ---- inputs

-- after an input the clock and the base are those of its moment
abbrev Acted : RunStateView → RunStateView → Event → Type 0
Acted r s e = (s.base ≡ single_moment_or_base r.base e.time) × (s.clock ≡ action_time_not_before_clock r e)

arrived_acted : (r s : RunStateView) (e : Event) (came : Result SenderState Halt) → on_arrival r e came ≡ Ok s → Acted r s e
arrived_acted r s e (Ok t) h = subst (λ (x : RunStateView). Acted r x e) (given (acted r e t) s h) (refl, refl)
arrived_acted r s e (Err halt) h = absurd cc

answered_acted : (r s : RunStateView) (e : Event) (call : Call) (came : Result (SenderState × Answer) Halt) → on_answer r e call came ≡ Ok s → Acted r s e
answered_acted r s e call (Ok (t, answer)) h = subst (λ (x : RunStateView). Acted r x e) (agreed (acted r e t) s _ (result_mismatch call.result answer) h) (refl, refl)
answered_acted r s e call (Err halt) h = absurd cc

pub after_arrival : (r s : RunStateView) (e : Event) (p : Packet) → e.action ≡ Inbound p → step r e ≡ Ok s → Acted r s e
after_arrival r s e p is h = arrived_acted r s e (arrives r e p) (subst (λ (a : Action). performed r e a ≡ Ok s) is (step_performs r s e h))

pub after_call : (r s : RunStateView) (e : Event) (call : Call) → e.action ≡ Calls call → step r e ≡ Ok s → Acted r s e
after_call r s e call is h = answered_acted r s e call (answers r e call) (subst (λ (a : Action). performed r e a ≡ Ok s) is (step_performs r s e h))

-- ---- packets that leave

-- the packet that an expected one awaited, and that it was taken
abbrev Taken : RunStateView → RunStateView → Event → Packet → Type 0
Taken r s e p =
    (q : RunStateView) × (sent : Sent) × (awaited (comparison_noted r) e ≡ Ok q) × (slice_get q.host.state.endpoint.outbox 0 ≡ Some sent)
    × (s.base ≡ base_from_moment_or_later_of_base_and_sent q.base e.time sent.at) × (s.clock ≡ q.clock)

took : (e : Event) (p : Packet) (q s : RunStateView) (o : Option Sent) → slice_get q.host.state.endpoint.outbox 0 ≡ o → packet_taken e p q o ≡ Ok s
    → (sent : Sent) × (slice_get q.host.state.endpoint.outbox 0 ≡ Some sent) × (s.base ≡ base_from_moment_or_later_of_base_and_sent q.base e.time sent.at) × (s.clock ≡ q.clock)
took e p q s None is h = absurd cc
took e p q s (Some sent) is h =
    let next : RunStateView = record q { host = without_oldest q.host; base = base_from_moment_or_later_of_base_and_sent q.base e.time sent.at } in
    let same : next ≡ s = agreed next s _ (mismatch p (time_range_of q.base e.time) sent (tolerance_of q)) h in
    (sent, is, sym (ap (λ (x : RunStateView). x.base) same), sym (ap (λ (x : RunStateView). x.clock) same))

pub both : (go : RunStateView → Result RunStateView StopReason) (came : Result RunStateView StopReason) (s : RunStateView) → on_step go (λ reason. Err reason) came ≡ Ok s
    → (t : RunStateView) × (came ≡ Ok t) × (go t ≡ Ok s)
both go (Ok t) s h = (t, refl, h)
both go (Err reason) s h = absurd cc

after_leaving : (r s : RunStateView) (e : Event) (p : Packet) → leaves (comparison_noted r) e p ≡ Ok s → Taken r s e p
after_leaving r s e p h =
    let went = both (λ (q : RunStateView). packet_taken e p q (slice_get q.host.state.endpoint.outbox 0)) (awaited (comparison_noted r) e) s h in
    let last = took e p went.0 s (slice_get went.0.host.state.endpoint.outbox 0) refl went.2 in
    (went.0, last.0, went.1, last.1, last.2, last.3)

pub after_packet : (r s : RunStateView) (e : Event) (p : Packet) → e.action ≡ Outbound p → step r e ≡ Ok s → Taken r s e p
after_packet r s e p is h = after_leaving r s e p (subst (λ (a : Action). performed r e a ≡ Ok s) is (step_performs r s e h))

-- the awaited packet was there, or the next expiry sent it
abbrev pub Awaited : RunStateView → RunStateView → Event → Type 0
Awaited r q e = (length r.host.state.endpoint.outbox ≡ 0) × (at : ℕ) × (t : SenderState) × (deadline_of r.host.state ≡ Some at) × (advanced at r.host.state ≡ Ok t) × (q ≡ record (with_state r t) { clock = at })
    × (is_not_too_late_within_tolerance (time_range_of r.base e.time) (tolerance_of r) at ≡ true)

on_time : (r q : RunStateView) (at : ℕ) (came : Result SenderState Halt) → on_expiry r at came ≡ Ok q → (t : SenderState) × (came ≡ Ok t) × (q ≡ record (with_state r t) { clock = at })
on_time r q at (Ok t) h = (t, refl, sym (given (record (with_state r t) { clock = at }) q h))
on_time r q at (Err halt) h = absurd cc

in_reach : (b : Bool) (came : Result RunStateView StopReason) (q : RunStateView) → (if b then came else Err Missing) ≡ Ok q → (came ≡ Ok q) × (b ≡ true)
in_reach true came q h = (h, refl)
in_reach false came q h = absurd cc

expired_at : (r q : RunStateView) (e : Event) (o : Option ℕ) → deadline_of r.host.state ≡ o → expires r e o ≡ Ok q
    → (at : ℕ) × (t : SenderState) × (deadline_of r.host.state ≡ Some at) × (advanced at r.host.state ≡ Ok t) × (q ≡ record (with_state r t) { clock = at })
    × (is_not_too_late_within_tolerance (time_range_of r.base e.time) (tolerance_of r) at ≡ true)
expired_at r q e None is h = absurd cc
expired_at r q e (Some at) is h =
    let reached = in_reach (is_not_too_late_within_tolerance (time_range_of r.base e.time) (tolerance_of r) at) (on_expiry r at (advanced at r.host.state)) q h in
    let came = on_time r q at (advanced at r.host.state) reached.0 in
    (at, came.0, is, came.1, came.2, reached.1)

pub which_awaited : (r q : RunStateView) (e : Event) → awaited r e ≡ Ok q → (q ≡ r) ⊎ Awaited r q e
which_awaited r q e h = go (length r.host.state.endpoint.outbox == 0) refl h
  where
    go : (b : Bool) → (length r.host.state.endpoint.outbox == 0) ≡ b → (if b then expires r e (deadline_of r.host.state) else Ok r) ≡ Ok q → (q ≡ r) ⊎ Awaited r q e
    go false is k = inl (sym (given r q k))
    go true is k =
        let came = expired_at r q e (deadline_of r.host.state) refl k in
        let none : length r.host.state.endpoint.outbox ≡ 0 = search rules in
        inr (none, came.0, came.1, came.2, came.3, came.4, came.5)

-- ---- which packet leaves next

pub no_items : (xs : List Sent) → length xs ≡ 0 → xs ≡ []
no_items [] h = refl
no_items (x ∷ xs) h = absurd (omega (arith, h))

first_in_order : (now : ℕ) (xs : List Sent) (p : Sent) → AreInOrder now xs → slice_get xs 0 ≡ Some p → p.at ≤ now
first_in_order now [] p h is = absurd cc
first_in_order now (q ∷ xs) p h is = let same : q ≡ p = cc in subst (λ (x : Sent). x.at ≤ now) same h.0

pub none_in : (xs : List Sent) → slice_get xs 0 ≡ None → length xs ≡ 0
none_in [] h = refl
none_in (x ∷ xs) h = absurd cc

-- it is unmatched, or an expiry that may come sends it
abbrev pub Stands : RunStateView → Sent → Type 0
Stands r sent = slice_get r.host.state.endpoint.outbox 0 ≡ Some sent

abbrev pub Expires : (ℕ → Bool) → RunStateView → Sent → Type 0
Expires may r sent =
    (slice_get r.host.state.endpoint.outbox 0 ≡ None) × (at : ℕ) × (t : SenderState) × (deadline_of r.host.state ≡ Some at) × (may at ≡ true)
    × (advanced at r.host.state ≡ Ok t) × (slice_get t.endpoint.outbox 0 ≡ Some sent)

sent_by : (may : ℕ → Bool) (r : RunStateView) (sent : Sent) (at : ℕ) (came : Result SenderState Halt) → slice_get r.host.state.endpoint.outbox 0 ≡ None
    → deadline_of r.host.state ≡ Some at → may at ≡ true → advanced at r.host.state ≡ came → oldest_of came ≡ Some sent → Expires may r sent
sent_by may r sent at (Ok t) none due comes is h = (none, at, t, due, comes, is, h)
sent_by may r sent at (Err halt) none due comes is h = absurd cc

due_then : (may : ℕ → Bool) (r : RunStateView) (sent : Sent) (at : ℕ) (b : Bool) → slice_get r.host.state.endpoint.outbox 0 ≡ None
    → deadline_of r.host.state ≡ Some at → may at ≡ b → or_expired r.host.state None (if b then Some at else None) ≡ Some sent → Expires may r sent
due_then may r sent at true none due comes h = sent_by may r sent at (advanced at r.host.state) none due comes refl h
due_then may r sent at false none due comes h = absurd cc

due_next : (may : ℕ → Bool) (r : RunStateView) (sent : Sent) (due : Option ℕ) → slice_get r.host.state.endpoint.outbox 0 ≡ None
    → deadline_of r.host.state ≡ due → or_expired r.host.state None (due_where may due) ≡ Some sent → Expires may r sent
due_next may r sent None none is h = absurd cc
due_next may r sent (Some at) none is h = due_then may r sent at (may at) none is refl h

first_or_due : (may : ℕ → Bool) (r : RunStateView) (sent : Sent) (first : Option Sent) → slice_get r.host.state.endpoint.outbox 0 ≡ first
    → or_expired r.host.state first (due_where may (deadline_of r.host.state)) ≡ Some sent → Stands r sent ⊎ Expires may r sent
first_or_due may r sent (Some x) is h = inl (is ∙ h)
first_or_due may r sent None is h = inr (due_next may r sent (deadline_of r.host.state) is refl h)

pub what_leaves : (may : ℕ → Bool) (r : RunStateView) (sent : Sent) → leaves_next may r ≡ Some sent → Stands r sent ⊎ Expires may r sent
what_leaves may r sent h = first_or_due may r sent (slice_get r.host.state.endpoint.outbox 0) refl h

pub stands_next : (may : ℕ → Bool) (r : RunStateView) (sent : Sent) → Stands r sent → leaves_next may r ≡ Some sent
stands_next may r sent h = ap (λ (o : Option Sent). or_expired r.host.state o (due_where may (deadline_of r.host.state))) h

pub expires_next : (may other : ℕ → Bool) (r : RunStateView) (sent : Sent) (h : Expires may r sent) → other h.1 ≡ true → leaves_next other r ≡ Some sent
expires_next may other r sent h comes =
    let due : due_where other (deadline_of r.host.state) ≡ Some h.1 = ap (due_where other) h.3 ∙ ap (λ (b : Bool). if b then Some h.1 else None) comes in
    ap (λ (o : Option Sent). or_expired r.host.state o (due_where other (deadline_of r.host.state))) h.0
    ∙ (ap (or_expired r.host.state None) due ∙ (ap oldest_of h.5 ∙ h.6))

-- ---- a packet that an expiry sends carries its moment

repeat_found : {S X : Type 0} (find : S → Option X) (act : X → S → S) (n m : ℕ) (s : S) (x : X) → n ≡ suc m → find s ≡ Some x
    → repeated find act n s ≡ repeated find act m (act x s)
repeat_found find act n m s x more is = rw more (ap (on_found (repeated find act m) act s) is)

connection_of : (c : Option ConnectionView) (at : ℕ) → option_and_then (λ (b : ConnectionView). b.timer.deadline) c ≡ Some at → (b : ConnectionView) × (c ≡ Some b)
connection_of None at h = absurd cc
connection_of (Some b) at h = (b, refl)

due_itself : (at : ℕ) → due_by at (Some at) ≡ Some at
due_itself at = let same : nat_le at at ≡ true = le-leb at at (omega arith) in ap (λ (b : Bool). if b then Some at else None) same

abbrev find_due : ℕ → SenderState → Option ℕ
find_due at s = due_by at (deadline_of s)

abbrev expire : ℕ → SenderState → SenderState
expire at s = expired at s.endpoint.connection s

one_sent : (s : SenderState) (at : ℕ) → length s.endpoint.outbox ≡ 0 → deadline_of s ≡ Some at → (x : Sent) × (x.at ≡ at) × ((expire at s).endpoint.outbox ≡ x ∷ [])
one_sent s at empty due =
    let c = connection_of s.endpoint.connection at due in
    let x : Sent = record { segment = segment_again c.0 c.0.established; at = at; rule = expiry_rule c.0.established } in
    (x, refl, ap (λ (o : Option ConnectionView). (expired at o s).endpoint.outbox) c.1 ∙ ap (λ (list : List Sent). list ++ x ∷ []) (no_items s.endpoint.outbox empty))

-- the expiries up to the next one send a packet first that carries its moment
pub first_sent : AdvancesPutOutAfter → (s t : SenderState) (at : ℕ) → length s.endpoint.outbox ≡ 0 → deadline_of s ≡ Some at
    → advanced at s ≡ Ok t → (x : Sent) × (x.at ≡ at) × (slice_get t.endpoint.outbox 0 ≡ Some x)
first_sent puts_after s t at empty due went =
    let one = one_sent s at empty due in
    let after : SenderState = expire at s in
    let many : places_left s ≡ suc 1023 = omega (arith, empty) in
    let length_one : length after.endpoint.outbox ≡ 1 = ap (λ (list : List Sent). length list) one.2 in
    let few : 1023 ≡ places_left after = omega (arith, length_one) in
    let found : find_due at s ≡ Some at = ap (due_by at) due ∙ due_itself at in
    let onward : advanced at s ≡ advanced at after =
    repeat_found (find_due at) expire (places_left s) 1023 s at many found ∙ ap (λ (n : ℕ). repeated (find_due at) expire n after) few in
    let more = puts_after at after t (sym onward ∙ went) in
    let outbox : t.endpoint.outbox ≡ one.0 ∷ more.0 = more.2 ∙ ap (λ (list : List Sent). list ++ more.0) one.2 in
    (one.0, one.1, ap (λ (list : List Sent). slice_get list 0) outbox)

pub sent_at_expiry : AdvancesPutOutAfter → (s t : SenderState) (at : ℕ) (sent : Sent) → length s.endpoint.outbox ≡ 0 → deadline_of s ≡ Some at
    → advanced at s ≡ Ok t → slice_get t.endpoint.outbox 0 ≡ Some sent → sent.at ≡ at
sent_at_expiry puts_after s t at sent empty due went first =
    let one = first_sent puts_after s t at empty due went in
    let same : Some sent ≡ Some one.0 = sym first ∙ one.2 in
    let equal : sent ≡ one.0 = cc in
    ap (λ (x : Sent). x.at) equal ∙ one.1

-- ---- the moments after an expected packet

-- the packet that left did so by the new clock, which a given moment bounds if it bounds the expiries
pub record IsMoved (may : ℕ → Bool) (r s : RunStateView) (time : Time) (sent : Sent) : Type 0 where
  pub left : sent.at ≤ s.clock
  pub clock : r.clock ≤ s.clock
  pub base : s.base ≡ single_moment_or_base r.base time
  pub until : (until : ℕ) → ((at : ℕ) → may at ≡ true → at ≤ until) → r.clock ≤ until → s.clock ≤ until

single_base : (base : ℕ) (time : Time) (at : ℕ) → is_single_moment time ≡ true → base_from_moment_or_later_of_base_and_sent base time at ≡ single_moment_or_base base time
single_base base time at single = ap (λ (b : Bool). if b then single_moment_or_base base time else max base at) single

stood : (may : ℕ → Bool) (r s q : RunStateView) (e : Event) (sent other : Sent) → is_single_moment e.time ≡ true → KeepsTime r.clock r.host.state
    → Stands r sent → q ≡ comparison_noted r → s.base ≡ base_from_moment_or_later_of_base_and_sent q.base e.time other.at → s.clock ≡ q.clock → IsMoved may r s e.time sent
stood may r s q e sent other single up stands same base clock =
    let its : s.clock ≡ r.clock = clock ∙ ap (λ (x : RunStateView). x.clock) same in
    let at : sent.at ≤ r.clock = first_in_order r.clock r.host.state.endpoint.outbox sent up.up_to.packets stands in
    record {
      left = omega (arith, its, at);
      clock = omega (arith, its);
      base = base ∙ (ap (λ (x : RunStateView). base_from_moment_or_later_of_base_and_sent x.base e.time other.at) same ∙ single_base r.base e.time other.at single);
      until = λ until bounds early. omega (arith, its, early);
    }

ahead : (now most : ℕ) (due : Option ℕ) (at : ℕ) → IfSome due (λ d. (now < d) × (d ≤ now + most)) → due ≡ Some at → now < at
ahead now most None at h is = absurd cc
ahead now most (Some d) at h is = let same : d ≡ at = cc in subst (λ (x : ℕ). now < x) same h.0

came : (puts_after : AdvancesPutOutAfter) (may : ℕ → Bool) (r s q : RunStateView) (e : Event) (sent other : Sent) → is_single_moment e.time ≡ true → KeepsTime r.clock r.host.state
    → Expires may r sent → Awaited (comparison_noted r) q e → s.base ≡ base_from_moment_or_later_of_base_and_sent q.base e.time other.at → s.clock ≡ q.clock → IsMoved may r s e.time sent
came puts_after may r s q e sent other single up h wait base clock =
    let due : wait.1 ≡ h.1 = (let both_due : Some wait.1 ≡ Some h.1 = sym wait.3 ∙ h.3 in cc) in
    let its : s.clock ≡ wait.1 = clock ∙ ap (λ (x : RunStateView). x.clock) wait.5 in
    let at : sent.at ≡ h.1 = sent_at_expiry puts_after r.host.state h.2 h.1 sent wait.0 h.3 h.5 h.6 in
    let later : r.clock < h.1 = ahead r.clock up.begun.max_rto_us (deadline_of r.host.state) h.1 up.up_to.deadline h.3 in
    record {
      left = omega (arith, its, at, due);
      clock = omega (arith, its, later, due);
      base = base ∙ (ap (λ (x : RunStateView). base_from_moment_or_later_of_base_and_sent x.base e.time other.at) wait.5 ∙ single_base r.base e.time other.at single);
      until = λ until bounds early. (let within : h.1 ≤ until = bounds h.1 h.4 in omega (arith, its, due, within));
    }

pub moved : AdvancesPutOutAfter → (may : ℕ → Bool) (r s : RunStateView) (e : Event) (p : Packet) (sent : Sent) → e.action ≡ Outbound p → is_single_moment e.time ≡ true
    → KeepsTime r.clock r.host.state → leaves_next may r ≡ Some sent → step r e ≡ Ok s → IsMoved may r s e.time sent
moved puts_after may r s e p sent is single up next h =
    let last = after_packet r s e p is h in
    go last.0 last.1 last.3 last.4 last.5 (what_leaves may r sent next) (which_awaited (comparison_noted r) last.0 e last.2)
  where
    go : (q : RunStateView) (other : Sent) → slice_get q.host.state.endpoint.outbox 0 ≡ Some other → s.base ≡ base_from_moment_or_later_of_base_and_sent q.base e.time other.at → s.clock ≡ q.clock
        → Stands r sent ⊎ Expires may r sent → (q ≡ comparison_noted r) ⊎ Awaited (comparison_noted r) q e → IsMoved may r s e.time sent
    go q other there base clock (inl stands) (inl same) = stood may r s q e sent other single up stands same base clock
    go q other there base clock (inl stands) (inr wait) =
        absurd (let empty : slice_get r.host.state.endpoint.outbox 0 ≡ None = ap (λ (list : List Sent). slice_get list 0) (no_items r.host.state.endpoint.outbox wait.0) in let clash : None ≡ Some sent = sym empty ∙ stands in cc)
    go q other there base clock (inr h2) (inl same) =
        absurd (let left : slice_get r.host.state.endpoint.outbox 0 ≡ Some other = sym (ap (λ (x : RunStateView). slice_get x.host.state.endpoint.outbox 0) same) ∙ there in let clash : None ≡ Some other = sym h2.0 ∙ left in cc)
    go q other there base clock (inr h2) (inr wait) = came puts_after may r s q e sent other single up h2 wait base clock

-- an expected packet at the moment of one that left meets it again
pub met_again : AdvancesPutOutAfter → (may : ℕ → Bool) (r : RunStateView) (sent : Sent) (tolerance : ℕ) → leaves_next may r ≡ Some sent
    → leaves_next (is_not_too_late_within_tolerance (Some (r.base + (sent.at - r.base), r.base + (sent.at - r.base))) tolerance) r ≡ Some sent
met_again puts_after may r sent tolerance next = go (what_leaves may r sent next)
  where
    go : Stands r sent ⊎ Expires may r sent → leaves_next (is_not_too_late_within_tolerance (Some (r.base + (sent.at - r.base), r.base + (sent.at - r.base))) tolerance) r ≡ Some sent
    go (inl stands) = stands_next (is_not_too_late_within_tolerance (Some (r.base + (sent.at - r.base), r.base + (sent.at - r.base))) tolerance) r sent stands
    go (inr h) =
        let at : sent.at ≡ h.1 = sent_at_expiry puts_after r.host.state h.2 h.1 sent (none_in r.host.state.endpoint.outbox h.0) h.3 h.5 h.6 in
        expires_next may (is_not_too_late_within_tolerance (Some (r.base + (sent.at - r.base), r.base + (sent.at - r.base))) tolerance) r sent h
        (le-leb h.1 (r.base + (sent.at - r.base) + tolerance) (omega (arith, at)))
