-- One more step of a run.
use Rattle.std.proofs.Common.{◌≡◌, ℕ, ◌+◌, None, List, ◌∷◌, Result, Ok, ap, subst, ◌∙◌}
use Rattle.pd_script.specs.declared.script_events.Event.{Event}
use Rattle.pd_run.specs.Run.{verdict_from, stepped_from}
use Rattle.pd_run.specs.Step.{RunStateView, on_step, step, IsStepEnd, StepsFrom, Steps}
use Rattle.pd_run.specs.declared.stepper.StepEnd.{StepEnd}
use Rattle.pd_run.specs.declared.verdict.Verdict.{Verdict}

-- a step of a run whose host hasn't ended shows this
pub tells : (old new : RunStateView) (e : Event) (end : StepEnd) → old.host.end_reason ≡ None → Steps old e end new → IsStepEnd (step old e) end new
tells old new e end live h = subst (λ o. StepsFrom o old e end new) live h

-- after a step that goes on, the verdict is that of the events left
pub verdict_after : (n : ℕ) (es rest : List Event) (r s : RunStateView) (e : Event)
    → es ≡ e ∷ rest → step r e ≡ Ok s → verdict_from n es r ≡ verdict_from (n + 1) rest s
verdict_after n es rest r s e split h =
    ap (λ (l : List Event). verdict_from n l r) split ∙ ap (on_step (verdict_from (n + 1) rest) (λ v. v)) h

-- and one step was taken of those left
pub stepped_after : (es rest : List Event) (r s : RunStateView) (e : Event)
    → es ≡ e ∷ rest → step r e ≡ Ok s → stepped_from es r ≡ 1 + stepped_from rest s
stepped_after es rest r s e split h =
    ap (λ (l : List Event). stepped_from l r) split ∙ ap (λ (o : Result RunStateView Verdict). 1 + on_step (stepped_from rest) (λ v. 0) o) h
