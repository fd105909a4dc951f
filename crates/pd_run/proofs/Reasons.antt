-- A step stops with the verdict of its reason, and of a packet that differs the reason names what does so first.
use Rattle.std.proofs.Common.{◌≡◌, ℕ, ◌==◌, length, Bool, true, false, if◌then◌else◌, slice_get, Option, Some, None, option_map, Result, Ok, Err, refl, sym, ap, subst, ◌∙◌}
use Rattle.std.specs.Result.{result_err}
use Rattle.pd_script.specs.declared.packets.Packet.{Packet}
use Rattle.pd_script.specs.declared.script_events.Event.{Event}
use Rattle.pd_seg.specs.declared.segments.Sent.{Sent}
use Rattle.pd_host.specs.Expiries.{advanced, deadline_of}
use Rattle.pd_host.specs.Host.{without_oldest}
use Rattle.pd_host.specs.declared.halts.Halt.{Halt}
use Rattle.pd_host.specs.declared.endpoint.SenderState.{SenderState}
use Rattle.pd_match.specs.Agreement.{Agrees, IsFirstFailing}
use Rattle.pd_match.specs.Laws.{MismatchIsFirst}
use Rattle.pd_match.specs.Packets.{compared_fields, mismatch}
use Rattle.pd_match.specs.declared.kinds.Kind.{Kind}
use Rattle.pd_run.specs.Prechecks.{failed_precheck}
use Rattle.pd_run.specs.RunStates.{RunStateView}
use Rattle.pd_run.specs.Step.{tolerance_of, comparison_noted, on_step, judged, on_expiry, expires, awaited, packet_taken, leaves, performed, unless_failed_precheck, precheck_then_perform_event_and_find_stop, at_line}
use Rattle.pd_run.specs.Times.{time_range_of, is_not_too_late_within_tolerance, base_from_moment_or_later_of_base_and_sent}
use Rattle.pd_run.specs.StopReason.{verdict_at, verdict_by_step, ReasonsGiveVerdicts, DifferencesAreFirst}
use Rattle.pd_run.specs.declared.prechecks.Precheck.{Precheck}
use Rattle.pd_run.specs.declared.stop_reason.StopReason.{StopReason}
use Rattle.pd_run.specs.declared.stop_reason.StopReason.TheVariants.{Missing, Differs}

pub reasons_give_verdicts : ReasonsGiveVerdicts
reasons_give_verdicts r e = by_end e.line (precheck_then_perform_event_and_find_stop r e)
  where
    by_end : (line : ℕ) (came : Result RunStateView StopReason) → option_map (verdict_at line) (result_err came) ≡ verdict_by_step (at_line line came)
    by_end line (Ok s) = refl
    by_end line (Err reason) = refl

-- The packet that differs

module _ (k : Kind) (sent : Sent) (q : RunStateView) where
  -- an event was stopped by it
  abbrev Stops : Result RunStateView StopReason → Type 0
  Stops came = came ≡ Err (Differs k sent q)

  by_reason : (came : Result RunStateView StopReason) → result_err came ≡ Some (Differs k sent q) → Stops came
  by_reason (Ok s) h = absurd cc
  by_reason (Err reason) h = ap (λ (w : StopReason). Err w) (some_is h)
    where
      some_is : {a b : StopReason} → Some a ≡ Some b → a ≡ b
      some_is e = cc

  -- no check did it
  by_action : (came : Result RunStateView StopReason) (bar : Option Precheck) → Stops (unless_failed_precheck came bar) → Stops came
  by_action came None h = h
  by_action came (Some bar) h = absurd cc

  -- no wait did it
  no_expiry : (r : RunStateView) (at : ℕ) (came : Result SenderState Halt) → Stops (on_expiry r at came) → ⊥
  no_expiry r at (Ok s) h = cc
  no_expiry r at (Err halt) h = cc

  in_reach : (b : Bool) (came : Result RunStateView StopReason) → (Stops came → ⊥) → Stops (if b then came else Err Missing) → ⊥
  in_reach true came none h = none h
  in_reach false came none h = cc

  no_due : (r : RunStateView) (e : Event) (due : Option ℕ) → Stops (expires r e due) → ⊥
  no_due r e None h = cc
  no_due r e (Some at) h =
      in_reach (is_not_too_late_within_tolerance (time_range_of r.base e.time) (tolerance_of r) at) (on_expiry r at (advanced at r.host.state))
      (no_expiry r at (advanced at r.host.state)) h

  no_wait : (r : RunStateView) (e : Event) (empty : Bool) → Stops (if empty then expires r e (deadline_of r.host.state) else Ok r) → ⊥
  no_wait r e true h = no_due r e (deadline_of r.host.state) h
  no_wait r e false h = cc

  -- the packet was compared
  abbrev Compared : Event → Packet → RunStateView → Option Sent → Type 0
  Compared e p r first = (r ≡ q) × (first ≡ Some sent) × (mismatch p (time_range_of r.base e.time) sent (tolerance_of r) ≡ Some k)

  by_kind : (e : Event) (p : Packet) (r : RunStateView) (one : Sent) (difference : Option Kind)
      → mismatch p (time_range_of r.base e.time) one (tolerance_of r) ≡ difference
      → Stops (judged (record r { host = without_oldest r.host; base = base_from_moment_or_later_of_base_and_sent r.base e.time one.at }) (λ kind. Differs kind one r) difference)
      → Compared e p r (Some one)
  by_kind e p r one None is h = absurd cc
  by_kind e p r one (Some kind) is h =
      let same : one ≡ sent = cc in
      (cc, ap (λ (s : Sent). Some s) same, subst (λ s. mismatch p (time_range_of r.base e.time) s (tolerance_of r) ≡ Some k) same (is ∙ cc))

  by_taking : (e : Event) (p : Packet) (r : RunStateView) (first : Option Sent) → Stops (packet_taken e p r first) → Compared e p r first
  by_taking e p r None h = absurd cc
  by_taking e p r (Some one) h = by_kind e p r one (mismatch p (time_range_of r.base e.time) one (tolerance_of r)) refl h

  by_leaving : (e : Event) (p : Packet) (r : RunStateView) (came : Result RunStateView StopReason) → awaited r e ≡ came
      → Stops (on_step (λ s. packet_taken e p s (slice_get s.host.state.endpoint.outbox 0)) (λ reason. Err reason) came)
      → (t : RunStateView) × (came ≡ Ok t) × Compared e p t (slice_get t.host.state.endpoint.outbox 0)
  by_leaving e p r (Ok t) is h = (t, refl, by_taking e p t (slice_get t.host.state.endpoint.outbox 0) h)
  by_leaving e p r (Err reason) is h = absurd (no_wait r e (length r.host.state.endpoint.outbox == 0) (is ∙ h))

pub differences_are_first : MismatchIsFirst → DifferencesAreFirst
differences_are_first law r q e p k sent is h =
    let done : performed r e e.action ≡ Err (Differs k sent q) =
    by_action k sent q (performed r e e.action) (failed_precheck r.base e) (by_reason k sent q (precheck_then_perform_event_and_find_stop r e) h) in
    let left : leaves (comparison_noted r) e p ≡ Err (Differs k sent q) = ap (performed r e) (sym is) ∙ done in
    let found = by_leaving k sent q e p (comparison_noted r) (awaited (comparison_noted r) e) refl left in
    let same : found.0 ≡ q = found.2.0 in
    let first : mismatch p (time_range_of q.base e.time) sent (tolerance_of q) ≡ Some k =
    subst (λ (t : RunStateView). mismatch p (time_range_of t.base e.time) sent (tolerance_of t) ≡ Some k) same found.2.2 in (
      found.1 ∙ ap (λ (t : RunStateView). Ok t) same,
      subst (λ (t : RunStateView). slice_get t.host.state.endpoint.outbox 0 ≡ Some sent) same found.2.1,
      subst (IsFirstFailing (Agrees p (time_range_of q.base e.time) sent (tolerance_of q)) compared_fields) first (law p (time_range_of q.base e.time) sent (tolerance_of q)),
    )
