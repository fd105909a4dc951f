-- Origins of packets: those of the event that stopped a run.
use Rattle.std.proofs.Common.{◌≡◌, ℕ, ◌==◌, Bool, true, false, if◌then◌else◌, List, [], ◌++◌, length, slice_get, Option, Some, None, Result, Ok, Err, refl, sym, ap, subst, ◌∙◌}
use Rattle.std.proofs.lemmas.List.{append-nil}
use Rattle.std.specs.Result.{result_err}
use Rattle.pd_settings.specs.declared.settings.Settings.{Settings}
use Rattle.pd_script.specs.declared.calls.Call.{Call}
use Rattle.pd_script.specs.declared.packets.Packet.{Packet}
use Rattle.pd_script.specs.declared.parsed.Parsed.{Parsed}
use Rattle.pd_script.specs.declared.script_events.Action.{Action}
use Rattle.pd_script.specs.declared.script_events.Action.TheVariants.{Inbound, Outbound, Call as Calls, Command, Code}
use Rattle.pd_script.specs.declared.script_events.Event.{Event}
use Rattle.pd_seg.specs.declared.call_results.Answer.{Answer}
use Rattle.pd_seg.specs.declared.segments.Sent.{Sent}
use Rattle.pd_host.specs.Expiries.{advanced, deadline_of}
use Rattle.pd_host.specs.declared.endpoint.SenderState.{SenderState}
use Rattle.pd_host.specs.declared.halts.Halt.{Halt}
use Rattle.pd_match.specs.Calls.{result_mismatch}
use Rattle.pd_match.specs.Packets.{mismatch}
use Rattle.pd_match.specs.declared.kinds.Kind.{Kind}
use Rattle.pd_run.specs.Prechecks.{failed_precheck}
use Rattle.pd_run.specs.Laws.{unmatched}
use Rattle.pd_run.specs.Step.{RunStateView, on_step, comparison_noted, judged, acted, arrives, on_arrival, answers, on_answer, expires, on_expiry, awaited, packet_taken, performed, unless_failed_precheck, precheck_then_perform_event_and_find_stop, stop_reason}
use Rattle.pd_run.specs.Times.{time_range_of}
use Rattle.pd_run.specs.declared.prechecks.Precheck.{Precheck}
use Rattle.pd_run.specs.declared.prechecks.Precheck.TheVariants.{NotRun}
use Rattle.pd_run.specs.declared.stop_reason.StopReason.{StopReason}
use Rattle.pd_run.specs.declared.stop_reason.StopReason.TheVariants.{FailedPrecheck, Halted, Missing, Differs, Answered}
use Rattle.pd_cause.specs.Failures.{sender_at}
use Rattle.pd_cause.specs.Inner.{PacketsAppend, triggers_at, triggers_by, AreTriggers}
use Rattle.pd_cause.specs.Origins.{stages, packets_after, put_out_by_timer, put_out_by_input, after_input}
use Rattle.pd_cause.specs.declared.origins.Trigger.{Trigger}
use Rattle.pd_cause.proofs.TriggerLemmas.{noted_more}

-- The stop

-- an awaited packet that doesn't come is missing, or the sender halts
abbrev NoneCame : StopReason → Type 0
NoneCame (Differs kind sent q) = ⊥
NoneCame (Answered answer q) = ⊥
NoneCame _ = Unit {0}

of_expiry : (r : RunStateView) (at : ℕ) (came : Result SenderState Halt) (w : StopReason) → on_expiry r at came ≡ Err w → NoneCame w
of_expiry r at (Ok s) w h = absurd cc
of_expiry r at (Err halt) w h = let same : Halted halt ≡ w = cc in subst NoneCame same tt

of_reach : (b : Bool) (x : Result RunStateView StopReason) (w : StopReason) → ((v : StopReason) → x ≡ Err v → NoneCame v) → (if b then x else Err Missing) ≡ Err w → NoneCame w
of_reach true x w each h = each w h
of_reach false x w each h = let same : Missing ≡ w = cc in subst NoneCame same tt

of_due : (r : RunStateView) (e : Event) (due : Option ℕ) (w : StopReason) → expires r e due ≡ Err w → NoneCame w
of_due r e None w h = let same : Missing ≡ w = cc in subst NoneCame same tt
of_due r e (Some at) w h = of_reach _ (on_expiry r at (advanced at r.host.state)) w (λ v is. of_expiry r at (advanced at r.host.state) v is) h

of_waiting : (r : RunStateView) (e : Event) (empty : Bool) (w : StopReason) → (if empty then expires r e (deadline_of r.host.state) else Ok r) ≡ Err w → NoneCame w
of_waiting r e true w h = of_due r e (deadline_of r.host.state) w h
of_waiting r e false w h = absurd cc

-- the packets that were there where a packet or an answer was compared
abbrev Stood : RunStateView → Event → Action → StopReason → Type 0
Stood r e a (Differs kind sent q) = length (unmatched q) ≡ length (put_out_by_input r e a)
Stood r e a (Answered answer q) = length (unmatched q) ≡ length (put_out_by_input r e a)
Stood r e a _ = Unit {0}

none_stood : (r : RunStateView) (e : Event) (a : Action) (w : StopReason) → NoneCame w → Stood r e a w
none_stood r e a (Differs kind sent q) none = absurd none
none_stood r e a (Answered answer q) none = absurd none
none_stood r e a (FailedPrecheck bar) none = tt
none_stood r e a (Halted halt) none = tt
none_stood r e a Missing none = tt

on_taking : (r t : RunStateView) (e : Event) (p : Packet) (first : Option Sent) (w : StopReason) → put_out_by_input r e (Outbound p) ≡ unmatched t
    → packet_taken e p t first ≡ Err w → Stood r e (Outbound p) w
on_taking r t e p None w stood h = let same : Missing ≡ w = cc in subst (Stood r e (Outbound p)) same tt
on_taking r t e p (Some sent) w stood h = by _ (mismatch p (time_range_of t.base e.time) sent _) h
  where
    by : (next : RunStateView) (kind : Option Kind) → judged next (λ k. Differs k sent t) kind ≡ Err w → Stood r e (Outbound p) w
    by next None h = absurd cc
    by next (Some kind) h =
        let same : Differs kind sent t ≡ w = cc in
        subst (Stood r e (Outbound p)) same (sym (ap (λ (l : List Sent). length l) stood))

on_leaving : (r : RunStateView) (e : Event) (p : Packet) (came : Result RunStateView StopReason) (w : StopReason) → awaited (comparison_noted r) e ≡ came
    → on_step (λ s. packet_taken e p s (slice_get s.host.state.endpoint.outbox 0)) (λ reason. Err reason) came ≡ Err w → Stood r e (Outbound p) w
on_leaving r e p (Ok t) w is h =
    on_taking r t e p (slice_get t.host.state.endpoint.outbox 0) w (ap (on_step unmatched (λ v. unmatched r)) is) h
on_leaving r e p (Err v) w is h =
    let same : v ≡ w = cc in
    none_stood r e (Outbound p) w (subst NoneCame same (of_waiting (comparison_noted r) e (length (unmatched r) == 0) v is))

on_answering : (r : RunStateView) (e : Event) (call : Call) (came : Result (SenderState × Answer) Halt) (w : StopReason) → answers r e call ≡ came
    → on_answer r e call came ≡ Err w → Stood r e (Calls call) w
on_answering r e call (Ok (s, answer)) w is h = by (result_mismatch call.result answer) h
  where
    stood : put_out_by_input r e (Calls call) ≡ s.endpoint.outbox
    stood = ap (packets_after (put_out_by_timer r e (Calls call))) is

    by : (kind : Option Kind) → judged (acted r e s) (λ k. Answered answer (acted r e s)) kind ≡ Err w → Stood r e (Calls call) w
    by None h = absurd cc
    by (Some kind) h =
        let same : Answered answer (acted r e s) ≡ w = cc in
        subst (Stood r e (Calls call)) same (sym (ap (λ (l : List Sent). length l) stood))
on_answering r e call (Err halt) w is h = let same : Halted halt ≡ w = cc in subst (Stood r e (Calls call)) same tt

on_arriving : (r : RunStateView) (e : Event) (p : Packet) (came : Result SenderState Halt) (w : StopReason) → on_arrival r e came ≡ Err w → Stood r e (Inbound p) w
on_arriving r e p (Ok s) w h = absurd cc
on_arriving r e p (Err halt) w h = let same : Halted halt ≡ w = cc in subst (Stood r e (Inbound p)) same tt

of_performed : (r : RunStateView) (e : Event) (a : Action) (w : StopReason) → performed r e a ≡ Err w → Stood r e a w
of_performed r e (Inbound p) w h = on_arriving r e p (arrives r e p) w h
of_performed r e (Outbound p) w h = on_leaving r e p (awaited (comparison_noted r) e) w refl h
of_performed r e (Calls call) w h = on_answering r e call (answers r e call) w refl h
of_performed r e Command w h = let same : FailedPrecheck NotRun ≡ w = cc in subst (Stood r e Command) same tt
of_performed r e Code w h = let same : FailedPrecheck NotRun ≡ w = cc in subst (Stood r e Code) same tt

-- a comparison stopped the run, so no check barred the event
abbrev Compared : StopReason → Type 0
Compared (Differs kind sent q) = Unit {0}
Compared (Answered answer q) = Unit {0}
Compared _ = ⊥

of_outcome : (came : Result RunStateView StopReason) (w : StopReason) → result_err came ≡ Some w → came ≡ Err w
of_outcome (Ok s) w h = absurd cc
of_outcome (Err v) w h = cc

of_bar : (came : Result RunStateView StopReason) (bar : Option Precheck) (w : StopReason) → unless_failed_precheck came bar ≡ Err w → Compared w → (bar ≡ None) × (came ≡ Err w)
of_bar came None w h compared = (refl, h)
of_bar came (Some bar) w h compared =
    let same : FailedPrecheck bar ≡ w = cc in
    absurd (subst Compared (sym same) compared)

compared_unbarred : (r : RunStateView) (e : Event) (w : StopReason) → stop_reason r e ≡ Some w → Compared w → (failed_precheck r.base e ≡ None) × (performed r e e.action ≡ Err w)
compared_unbarred r e w h compared = of_bar (performed r e e.action) (failed_precheck r.base e) w (of_outcome (precheck_then_perform_event_and_find_stop r e) w h) compared

pub compared_stood : (r : RunStateView) (e : Event) (w : StopReason) → stop_reason r e ≡ Some w → Compared w → Stood r e e.action w
compared_stood r e w h compared = of_performed r e e.action w (compared_unbarred r e w h compared).1

module _ (settings : Settings) (parsed : Parsed) (n : ℕ) (r : RunStateView) (e : Event) where
  abbrev Noted : ℕ → StopReason → List Trigger → Type 0
  Noted first w triggers = AreTriggers settings parsed first n (length (sender_at r w).state.endpoint.outbox) (triggers ++ triggers_by r e w)

  none_more : (first : ℕ) (w : StopReason) (triggers : List Trigger) → triggers_by r e w ≡ [] → (sender_at r w).state.endpoint.outbox ≡ unmatched r
      → AreTriggers settings parsed first n (length (unmatched r)) triggers → Noted first w triggers
  none_more first w triggers none same before =
      subst (λ (all : List Trigger). AreTriggers settings parsed first n (length (sender_at r w).state.endpoint.outbox) all)
      (sym (ap (λ (more : List Trigger). triggers ++ more) none ∙ append-nil triggers))
      (subst (λ (packets : List Sent). AreTriggers settings parsed first n (length packets) triggers) (sym same) before)

  more : PacketsAppend → slice_get (stages settings parsed) n ≡ Some r → slice_get parsed.events n ≡ Some e
      → (first : ℕ) (w : StopReason) (triggers : List Trigger) → stop_reason r e ≡ Some w → Compared w → triggers_by r e w ≡ triggers_at r e
      → length (sender_at r w).state.endpoint.outbox ≡ length (after_input r e)
      → AreTriggers settings parsed first n (length (unmatched r)) triggers → Noted first w triggers
  more laws stage found first w triggers reason compared same stood before =
      subst (λ (all : List Trigger). AreTriggers settings parsed first n (length (sender_at r w).state.endpoint.outbox) (triggers ++ all)) (sym same)
      (subst (λ (m : ℕ). AreTriggers settings parsed first n m (triggers ++ triggers_at r e)) (sym stood)
      (noted_more settings parsed n r e laws stage found (compared_unbarred r e w reason compared).0 first triggers before))

  pub noted_stop : PacketsAppend → slice_get (stages settings parsed) n ≡ Some r → slice_get parsed.events n ≡ Some e
      → (first : ℕ) (w : StopReason) (triggers : List Trigger) → stop_reason r e ≡ Some w
      → AreTriggers settings parsed first n (length (unmatched r)) triggers → Noted first w triggers
  noted_stop laws stage found first (Differs kind sent q) triggers reason before =
      more laws stage found first (Differs kind sent q) triggers reason tt refl (compared_stood r e (Differs kind sent q) reason tt) before
  noted_stop laws stage found first (Answered answer q) triggers reason before =
      more laws stage found first (Answered answer q) triggers reason tt refl (compared_stood r e (Answered answer q) reason tt) before
  noted_stop laws stage found first (FailedPrecheck bar) triggers reason before = none_more first (FailedPrecheck bar) triggers refl refl before
  noted_stop laws stage found first (Halted halt) triggers reason before = none_more first (Halted halt) triggers refl refl before
  noted_stop laws stage found first Missing triggers reason before = none_more first Missing triggers refl refl before

-- where a packet or an answer was compared
pub differs_noted : (r : RunStateView) (e : Event) (w : StopReason) (kind : Kind) (sent : Sent) (q : RunStateView) → stop_reason r e ≡ Some w → w ≡ Differs kind sent q
    → (failed_precheck r.base e ≡ None) × (length (unmatched q) ≡ length (after_input r e)) × (triggers_by r e w ≡ triggers_at r e)
differs_noted r e w kind sent q h is =
    let reason : stop_reason r e ≡ Some (Differs kind sent q) = subst (λ (v : StopReason). stop_reason r e ≡ Some v) is h in (
      (compared_unbarred r e (Differs kind sent q) reason tt).0,
      compared_stood r e (Differs kind sent q) reason tt,
      ap (triggers_by r e) is,
    )

pub answers_noted : (r : RunStateView) (e : Event) (w : StopReason) (answer : Answer) (q : RunStateView) → stop_reason r e ≡ Some w → w ≡ Answered answer q
    → (failed_precheck r.base e ≡ None) × (length (unmatched q) ≡ length (after_input r e)) × (triggers_by r e w ≡ triggers_at r e)
answers_noted r e w answer q h is =
    let reason : stop_reason r e ≡ Some (Answered answer q) = subst (λ (v : StopReason). stop_reason r e ≡ Some v) is h in (
      (compared_unbarred r e (Answered answer q) reason tt).0,
      compared_stood r e (Answered answer q) reason tt,
      ap (triggers_by r e) is,
    )
