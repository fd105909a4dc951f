-- With the packet that was sent in the place of the expected one, a run goes on past the event.
use Rattle.std.proofs.Common.{◌≡◌, ◌≤◌, ℕ, zero, suc, ◌+◌, ◌-◌, ◌==◌, ◌&&◌, nat_le, max, Bool, true, false, not, if◌then◌else◌, List, [], ◌∷◌, ◌++◌, length, slice_get, Option, Some, None, Result, Ok, Err, refl, sym, ap, subst, ◌∙◌, arith}
use Rattle.std.specs.Prelude.{is_some, is_none}
use Rattle.std.specs.Result.{result_err}
use Rattle.std.proofs.lemmas.Bool.Decides.{nat_tests}
use Rattle.pd_script.specs.declared.script_events.Event.{Event}
use Rattle.pd_script.specs.declared.timing.Time.TheVariants.{Any, Relative}
use Rattle.pd_seg.specs.declared.segments.Sent.{Sent}
use Rattle.pd_host.specs.Connection.{ConnectionView}
use Rattle.pd_host.specs.Expiries.{advanced, deadline_of, due_by, segment_again, expiry_rule, expired}
use Rattle.pd_host.specs.Sending.{on_found, repeated, places_left}
use Rattle.pd_host.specs.declared.halts.Halt.{Halt}
use Rattle.pd_host.specs.declared.halts.Halt.TheVariants as halt
use Rattle.pd_host.specs.declared.endpoint.SenderState.{SenderState}
use Rattle.pd_host.proofs.Repeats.{repeated-more}
use Rattle.pd_match.specs.Agreement.{Agrees, IsInTime, IsFirstFailing}
use Rattle.pd_match.specs.Laws.{MismatchIsFirst}
use Rattle.pd_match.specs.Packets.{compared_fields, mismatch}
use Rattle.pd_match.specs.declared.kinds.Kind.{Kind}
use Rattle.pd_match.specs.declared.kinds.Kind.TheVariants as kind
use Rattle.pd_print.specs.Laws.{SentPacketsAgree}
use Rattle.pd_print.specs.Sent.{packet_of}
use Rattle.pd_run.specs.Prechecks.{failed_precheck}
use Rattle.pd_run.specs.Limits.{is_any_event_number_over_limit}
use Rattle.pd_run.specs.Supported.{is_shape_supported, is_time_and_action_shape_supported}
use Rattle.pd_run.specs.RunStates.{RunStateView}
use Rattle.pd_run.specs.Step.{tolerance_of, comparison_noted, with_state, on_expiry, expires, awaited, performed, unless_failed_precheck}
use Rattle.pd_run.specs.Times.{time_range_of, is_before_base_beyond_tolerance, is_not_too_late_within_tolerance, base_from_moment_or_later_of_base_and_sent}
use Rattle.pd_run.specs.StopReason.{stop_reason, DifferencesAreFirst}
use Rattle.pd_run.specs.declared.prechecks.Precheck.{Precheck}
use Rattle.pd_run.specs.declared.prechecks.Precheck.TheVariants.{OverLimit, NotRun}
use Rattle.pd_run.specs.declared.stop_reason.StopReason.{StopReason}
use Rattle.pd_run.specs.declared.stop_reason.StopReason.TheVariants.{Missing, Differs}
use Rattle.pd_run.proofs.Bounds.{given}
use Rattle.pd_cause.specs.AlignedPackets.{relative_or_any_time_from_base}
use Rattle.pd_cause.specs.ActualPackets.{with_actual, ActualPacketsPass}

-- The oldest packet after expiries

some_is : {A : Type 0} {a b : A} → Some a ≡ Some b → a ≡ b
some_is e = cc

abbrev state_out : SenderState → Result SenderState Halt
state_out s = Ok s

state_is : (a b : SenderState) → state_out a ≡ state_out b → a ≡ b
state_is a b e = cc

-- the oldest packet of a state
abbrev Oldest : SenderState → Sent → Type 0
Oldest s sent = slice_get s.endpoint.outbox 0 ≡ Some sent

after : (xs ys : List Sent) (sent : Sent) → slice_get xs 0 ≡ Some sent → slice_get (xs ++ ys) 0 ≡ Some sent
after [] ys sent h = absurd cc
after (x ∷ xs) ys sent h = h

stays : (at : ℕ) (connection : Option ConnectionView) (s : SenderState) (sent : Sent) → Oldest s sent → Oldest (expired at connection s) sent
stays at None s sent h = h
stays at (Some c) s sent h = after s.endpoint.outbox _ sent h

-- the expiries up to a moment
abbrev due : ℕ → SenderState → Option ℕ
due until s = due_by until (deadline_of s)

abbrev expire : ℕ → SenderState → SenderState
expire at s = expired at s.endpoint.connection s

kept : (until n : ℕ) (s t : SenderState) (sent : Sent) → Oldest s sent → repeated (due until) expire n s ≡ Ok t → Oldest t sent
kept until zero s t sent h e = at_end (is_some (due until s)) s t sent h e
  where
    at_end : (b : Bool) (s t : SenderState) (sent : Sent) → Oldest s sent → (if b then Err halt.Limit else Ok s) ≡ Ok t → Oldest t sent
    at_end true s t sent h e = absurd cc
    at_end false s t sent h e = subst (λ (u : SenderState). Oldest u sent) (state_is s t e) h
kept until (suc n) s t sent h e = go (kept until n) (due until s) s t sent h e
  where
    go : ((s t : SenderState) (sent : Sent) → Oldest s sent → repeated (due until) expire n s ≡ Ok t → Oldest t sent)
        → (o : Option ℕ) (s t : SenderState) (sent : Sent) → Oldest s sent → on_found (repeated (due until) expire n) expire s o ≡ Ok t → Oldest t sent
    go rest None s t sent h e = subst (λ (u : SenderState). Oldest u sent) (state_is s t e) h
    go rest (Some at) s t sent h e = rest (expire at s) t sent (stays at s.endpoint.connection s sent h) e

-- the oldest packet, where an expiry was awaited on an empty outbox, was sent at its moment
module _ (until : ℕ) where
  now_due : (deadline : Option ℕ) → deadline ≡ Some until → due_by until deadline ≡ Some until
  now_due deadline d = rw d (rw own refl)
    where
      own : nat_le until until ≡ true
      own = grind (arith, nat_tests)

  sent_first : (connection : Option ConnectionView) (s : SenderState) → deadline_of s ≡ Some until → s.endpoint.connection ≡ connection → s.endpoint.outbox ≡ []
      → (sent : Sent) × Oldest (expired until connection s) sent × (sent.at ≡ until)
  sent_first None s d is empty = absurd (not_due s.endpoint.connection is d)
    where
      not_due : (connection : Option ConnectionView) → connection ≡ None → deadline_of s ≡ Some until → ⊥
      not_due connection none d = cc
  sent_first (Some c) s d is empty = (record { segment = segment_again c c.established; at = until; rule = expiry_rule c.established }, rw empty refl, refl)

  first_at : (s t : SenderState) (sent : Sent) → (length s.endpoint.outbox == 0) ≡ true → deadline_of s ≡ Some until → advanced until s ≡ Ok t → Oldest t sent
      → sent.at ≡ until
  first_at s t sent none d came first =
      let empty : s.endpoint.outbox ≡ [] = no_length s.endpoint.outbox none in
      let places : places_left s ≡ suc 1023 = rw empty refl in
      let once : repeated (due until) expire 1023 (expire until s) ≡ Ok t =
      sym (repeated-more (due until) expire 1023 s until (now_due (deadline_of s) d))
      ∙ (ap (λ (n : ℕ). repeated (due until) expire n s) (sym places) ∙ came) in
      let oldest = sent_first s.endpoint.connection s d refl empty in
      let stayed : Oldest t oldest.0 = kept until 1023 (expire until s) t oldest.0 oldest.1 once in
      let same : sent ≡ oldest.0 = some_is (sym first ∙ stayed) in
      ap (λ (p : Sent). p.at) same ∙ oldest.2
    where
      no_length : (xs : List Sent) → (length xs == 0) ≡ true → xs ≡ []
      no_length [] h = refl
      no_length (x ∷ xs) h =
          let some : (suc (length xs) == 0) ≡ false = grind (arith, nat_tests) in
          absurd cc

-- Its time from the base

within : (base at tolerance : ℕ) (b : Bool) → nat_le base at ≡ b
    → IsInTime (time_range_of base (if b then Relative (at - base) else Any)) at tolerance
within base at tolerance true h =
    let ahead : base ≤ at = grind (arith, nat_tests) in
    (omega (arith, ahead), omega (arith, ahead))
within base at tolerance false h = tt

reaches : (base at tolerance : ℕ) (b : Bool) → nat_le base at ≡ b
    → is_not_too_late_within_tolerance (time_range_of base (if b then Relative (at - base) else Any)) tolerance at ≡ true
reaches base at tolerance true h =
    let ahead : base ≤ at = grind (arith, nat_tests) in
    let later : at ≤ (base + (at - base)) + tolerance = omega (arith, ahead) in
    grind (arith, nat_tests)
reaches base at tolerance false h = refl

onwards : (base at : ℕ) (b : Bool) → nat_le base at ≡ b → base_from_moment_or_later_of_base_and_sent base (if b then Relative (at - base) else Any) at ≡ max base at
onwards base at true h =
    let ahead : base ≤ at = grind (arith, nat_tests) in
    omega (arith, ahead)
onwards base at false h = refl

ahead_of : (base at n : ℕ) (b : Bool) → is_before_base_beyond_tolerance n (if b then Relative (at - base) else Any) ≡ false
ahead_of base at n true = refl
ahead_of base at n false = refl

-- It agrees with the packet that is written of it

agrees : SentPacketsAgree → (base : ℕ) (sent : Sent) (tolerance : ℕ) (field : Kind)
    → Agrees (packet_of sent.segment) (time_range_of base (relative_or_any_time_from_base base sent.at)) sent tolerance field
agrees law base sent tolerance kind.Time = within base sent.at tolerance (nat_le base sent.at) refl
agrees law base sent tolerance kind.Flags = law sent tolerance kind.Flags
agrees law base sent tolerance kind.Seq = law sent tolerance kind.Seq
agrees law base sent tolerance kind.Ack = law sent tolerance kind.Ack
agrees law base sent tolerance kind.Win = law sent tolerance kind.Win
agrees law base sent tolerance kind.Options = law sent tolerance kind.Options
agrees law base sent tolerance kind.Result = tt
agrees law base sent tolerance kind.Missing = tt
agrees law base sent tolerance kind.Backwards = tt

no_mismatch : (P : Kind → Type 0) (first : Option Kind) → ((field : Kind) → P field) → IsFirstFailing P compared_fields first → first ≡ None
no_mismatch P None all is = refl
no_mismatch P (Some k) all is = absurd (is.fails (all k))

-- The wait for it is the same

came_of : (r q : RunStateView) (at : ℕ) (came : Result SenderState Halt) → on_expiry r at came ≡ Ok q
    → (s : SenderState) × (came ≡ Ok s) × (q.base ≡ r.base) × (q.host.state ≡ s)
came_of r q at (Ok s) h =
    let same : record (with_state r s) { clock = at } ≡ q = given _ q h in
    (s, refl, ap (λ (x : RunStateView). x.base) (sym same), ap (λ (x : RunStateView). x.host.state) (sym same))
came_of r q at (Err x) h = absurd cc

module _ (r q : RunStateView) (e : Event) (sent : Sent) (first : Oldest q.host.state sent) where
  expires_too : (deadline : Option ℕ) → deadline_of r.host.state ≡ deadline → (length r.host.state.endpoint.outbox == 0) ≡ true
      → expires r e deadline ≡ Ok q → (expires r (with_actual q.base sent e) deadline ≡ Ok q) × (q.base ≡ r.base)
  expires_too None d none h = absurd cc
  expires_too (Some at) d none h = in_reach (is_not_too_late_within_tolerance (time_range_of r.base e.time) (tolerance_of r) at) h
    where
      in_reach : (b : Bool) → (if b then on_expiry r at (advanced at r.host.state) else Err Missing) ≡ Ok q
          → (expires r (with_actual q.base sent e) (Some at) ≡ Ok q) × (q.base ≡ r.base)
      in_reach false h = absurd cc
      in_reach true h =
          let came = came_of r q at (advanced at r.host.state) h in
          let moment : sent.at ≡ at = first_at at r.host.state came.0 sent none d came.1 (subst (λ (s : SenderState). Oldest s sent) came.3 first) in
          let reach : is_not_too_late_within_tolerance (time_range_of r.base (relative_or_any_time_from_base q.base sent.at)) (tolerance_of r) at ≡ true =
          rw (came.2, moment) (reaches r.base at (tolerance_of r) (nat_le r.base at) refl) in
          (ap (λ (b : Bool). if b then on_expiry r at (advanced at r.host.state) else Err Missing) reach ∙ h, came.2)

  awaited_too : awaited r e ≡ Ok q → (awaited r (with_actual q.base sent e) ≡ Ok q) × (q.base ≡ r.base)
  awaited_too h = go (length r.host.state.endpoint.outbox == 0) refl h
    where
      go : (b : Bool) → (length r.host.state.endpoint.outbox == 0) ≡ b → (if b then expires r e (deadline_of r.host.state) else Ok r) ≡ Ok q
          → ((if b then expires r (with_actual q.base sent e) (deadline_of r.host.state) else Ok r) ≡ Ok q) × (q.base ≡ r.base)
      go true none h = expires_too (deadline_of r.host.state) refl none h
      go false some h = (h, ap (λ (x : RunStateView). x.base) (sym (given r q h)))

-- The checks before

unbarred : (came : Result RunStateView StopReason) (bar : Option Precheck) (k : Kind) (sent : Sent) (q : RunStateView)
    → result_err (unless_failed_precheck came bar) ≡ Some (Differs k sent q) → bar ≡ None
unbarred came None k sent q h = refl
unbarred came (Some bar) k sent q h = absurd cc

is_passed : (a b : Bool) (rest : Option Precheck) → (if a then Some OverLimit else (if not b then Some NotRun else rest)) ≡ None → b ≡ true
is_passed true b rest h = absurd cc
is_passed false true rest h = refl
is_passed false false rest h = absurd cc

first_of : (a b : Bool) → (a && b) ≡ true → a ≡ true
first_of true b h = refl
first_of false b h = absurd cc

-- the event has no blocking time
not_blocking : (r q : RunStateView) (e : Event) (k : Kind) (sent : Sent) → stop_reason r e ≡ Some (Differs k sent q) → is_none e.blocking_end ≡ true
not_blocking r q e k sent h =
    let run : is_shape_supported e ≡ true = is_passed (is_any_event_number_over_limit e) (is_shape_supported e) _ (unbarred (performed r e e.action) (failed_precheck r.base e) k sent q h) in
    first_of (is_none e.blocking_end) (is_time_and_action_shape_supported e.time e.action) run

pub actual_packets_pass_by : DifferencesAreFirst → SentPacketsAgree → MismatchIsFirst → ActualPacketsPass
actual_packets_pass_by differ agree compare r q e p k sent is h limits =
    let a : Event = with_actual q.base sent e in
    let differs = differ r q e p k sent is h in
    let waits = awaited_too (comparison_noted r) q e sent differs.1 differs.0 in
    let run : is_shape_supported a ≡ true = ap (λ (b : Bool). b && true) (not_blocking r q e k sent h) in
    let ahead : is_before_base_beyond_tolerance r.base a.time ≡ false = ahead_of q.base sent.at r.base (nat_le q.base sent.at) in
    let none : mismatch (packet_of sent.segment) (time_range_of q.base a.time) sent (tolerance_of q) ≡ None =
    no_mismatch _ _ (agrees agree q.base sent (tolerance_of q)) (compare (packet_of sent.segment) (time_range_of q.base a.time) sent (tolerance_of q)) in
    let base : base_from_moment_or_later_of_base_and_sent q.base a.time sent.at ≡ max q.base sent.at = onwards q.base sent.at (nat_le q.base sent.at) refl in
    rw (limits, run, ahead, waits.0, differs.1, none, base) refl
