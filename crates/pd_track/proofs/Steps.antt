-- One more event of a run that keeps each fourth state.
use Rattle.std.proofs.Common.{◌≡◌, ℕ, ◌+◌, ◌-◌, ◌%◌, ◌==◌, List, [], ◌∷◌, ◌++◌, cond, Result, Ok, Err, IfOk, refl, sym, ap, subst, ◌∙◌, arith, append_assoc}
use Rattle.std.proofs.lemmas.List.{append-nil}
use Rattle.pd_script.specs.declared.script_events.Event.{Event}
use Rattle.pd_run.specs.Run.{verdict_from, stepped_from, states_from}
use Rattle.pd_run.specs.Step.{RunStateView, on_step, step}
use Rattle.pd_run.specs.declared.verdict.Verdict.{Verdict}
use Rattle.pd_run.specs.declared.verdict.Verdict.TheVariants.{Pass}
use Rattle.pd_run.proofs.Steps.{verdict_after, stepped_after}
use Rattle.pd_track.specs.Reuse.{every_fourth}
use Rattle.pd_track.proofs.Fourths.{fourths_next}

-- after a step that goes on, its state is the first of those left
states_after : (es rest : List Event) (r s : RunStateView) (e : Event)
    → es ≡ e ∷ rest → step r e ≡ Ok s → states_from es r ≡ s ∷ states_from rest s
states_after es rest r s e split h =
    ap (λ (l : List Event). states_from l r) split
    ∙ ap (λ (o : Result RunStateView Verdict). on_step (λ (t : RunStateView). t ∷ states_from rest t) (λ v. []) o) h

-- a run after n events, and after one more
pub record Advances (n passed : ℕ) (es rest : List Event) (old new : RunStateView) : Type 0 where
  pub verdict : verdict_from n es old ≡ verdict_from passed rest new
  pub steps : stepped_from es old ≡ 1 + stepped_from rest new
  pub states : every_fourth (3 - n % 4) (states_from es old) ≡ cond ((n + 1) % 4 == 0) (new ∷ []) [] ++ every_fourth (3 - passed % 4) (states_from rest new)

pub advances : (n passed : ℕ) (es rest : List Event) (old new : RunStateView) (e : Event) → passed ≡ n + 1 → es ≡ e ∷ rest → step old e ≡ Ok new
    → Advances n passed es rest old new
advances n passed es rest old new e one_more split told =
    subst (λ (p : ℕ). Advances n p es rest old new) (sym one_more) (record {
      verdict = verdict_after n es rest old new e split told;
      steps = stepped_after es rest old new e split told;
      states =
          ap (every_fourth (3 - n % 4)) (states_after es rest old new e split told)
          ∙ fourths_next n (3 - n % 4) (3 - (n + 1) % 4) new (states_from rest new) (omega arith) (omega arith);
    })

-- a run whose last event passes after n others
pub record Ends (n : ℕ) (es : List Event) (old new : RunStateView) : Type 0 where
  pub verdict : verdict_from n es old ≡ Pass (n + 1)
  pub steps : stepped_from es old ≡ 1
  pub states : every_fourth (3 - n % 4) (states_from es old) ≡ cond ((n + 1) % 4 == 0) (new ∷ []) []

pub ends : (n : ℕ) (es : List Event) (old new : RunStateView) (e : Event) → es ≡ e ∷ [] → step old e ≡ Ok new → Ends n es old new
ends n es old new e split told =
    let last = advances n (n + 1) es [] old new e refl split told in
    record {
      verdict = last.verdict;
      steps = last.steps;
      states = last.states ∙ append-nil (cond ((n + 1) % 4 == 0) (new ∷ []) []);
    }

-- what is so of each result of a call
pub of_each : {A E : Type 0} (r : Result A E) (P Q : A → Type 0) → ((x : A) → P x → Q x) → IfOk r P → IfOk r Q
of_each (Ok x) P Q f p = f x p
of_each (Err e) P Q f p = tt

-- the states kept so far, and those left
pub kept_more : (before more after left whole : List RunStateView) → after ≡ before ++ more → before ++ (more ++ left) ≡ whole → after ++ left ≡ whole
kept_more before more after left whole e h = rw e (rw append_assoc h)
