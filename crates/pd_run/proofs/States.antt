-- A run that goes on from one of its states.
use Rattle.std.proofs.Common.{◌≡◌, ℕ, zero, suc, ◌+◌, ◌≤◌, List, [], ◌∷◌, length, take, drop, slice_get, Some, Result, Ok, Err, refl, ap, subst, arith}
use Rattle.pd_script.specs.declared.script_events.Event.{Event}
use Rattle.pd_run.specs.Laws.{IsUnderway, StepsGoOn}
use Rattle.pd_run.specs.Run.{verdict_from, stepped_from, states_from}
use Rattle.pd_run.specs.Step.{RunStateView, on_step, step}
use Rattle.pd_run.specs.declared.verdict.Verdict.{Verdict}

-- the run of the events after the first m + 1, from the state after these, gives what the whole run gives
pub record Onward (es : List Event) (m : ℕ) (r s : RunStateView) : Type 0 where
  pub verdict : (n t : ℕ) → t ≡ n + suc m → verdict_from t (drop (suc m) es) s ≡ verdict_from n es r
  pub steps : suc m + stepped_from (drop (suc m) es) s ≡ stepped_from es r
  pub states : states_from (drop (suc m) es) s ≡ drop (suc m) (states_from es r)
  pub within : suc m ≤ length es

pub resume : (es : List Event) (m : ℕ) (r s : RunStateView) → slice_get (states_from es r) m ≡ Some s → Onward es m r s
resume [] m r s h = absurd cc
resume (e ∷ es) m r s h = go (resume es) m (step r e) refl h
  where
    at_ok : ((m : ℕ) (r s : RunStateView) → slice_get (states_from es r) m ≡ Some s → Onward es m r s) → (m : ℕ) (t : RunStateView) → step r e ≡ Ok t → slice_get (t ∷ states_from es t) m ≡ Some s → Onward (e ∷ es) m r s
    at_ok ih zero t o h =
        let w : t ≡ s = cc in
        record {
          verdict = λ n u k. rw (o, w) (let a : u ≡ n + 1 = omega arith in rw a refl);
          steps = rw (o, w) refl;
          states = rw (o, w) refl;
          within = omega arith;
        }
    at_ok ih (suc m) t o h =
        let onward = ih m t s h in
        record {
          verdict = λ n u k. rw o (onward.verdict (n + 1) u (omega arith));
          steps = rw o (omega (arith, onward.steps));
          states = rw o onward.states;
          within = omega (arith, onward.within);
        }

    go : ((m : ℕ) (r s : RunStateView) → slice_get (states_from es r) m ≡ Some s → Onward es m r s) → (m : ℕ) (o : Result RunStateView Verdict) → step r e ≡ o → slice_get (on_step (λ t. t ∷ states_from es t) (λ v. []) o) m ≡ Some s → Onward (e ∷ es) m r s
    go ih m (Ok t) o h = at_ok ih m t o h
    go ih m (Err v) o h = absurd cc

-- equal first events give equal first states
pub states_same : (c : ℕ) (es fs : List Event) (r : RunStateView) → take c es ≡ take c fs → take c (states_from es r) ≡ take c (states_from fs r)
states_same zero es fs r h = refl
states_same (suc c) [] [] r h = refl
states_same (suc c) [] (f ∷ fs) r h = absurd cc
states_same (suc c) (e ∷ es) [] r h = absurd cc
states_same (suc c) (e ∷ es) (f ∷ fs) r h =
    let w : f ≡ e = cc in
    let k : take c es ≡ take c fs = cc in
    rw w (go (step r e) (λ t. states_same c es fs t k))
  where
    go : (o : Result RunStateView Verdict) → ((t : RunStateView) → take c (states_from es t) ≡ take c (states_from fs t)) → take (suc c) (on_step (λ t. t ∷ states_from es t) (λ v. []) o) ≡ take (suc c) (on_step (λ t. t ∷ states_from fs t) (λ v. []) o)
    go (Ok t) ih = ap (λ (w : List RunStateView). t ∷ w) (ih t)
    go (Err v) ih = refl

-- each state of a run is underway
pub states_underway : StepsGoOn → (es : List Event) (n m : ℕ) (r s : RunStateView) → IsUnderway n r → slice_get (states_from es r) m ≡ Some s → IsUnderway (n + suc m) s
states_underway law [] n m r s underway h = absurd cc
states_underway law (e ∷ es) n m r s underway h = go (states_underway law es) m (step r e) refl h
  where
    at_ok : ((n m : ℕ) (r s : RunStateView) → IsUnderway n r → slice_get (states_from es r) m ≡ Some s → IsUnderway (n + suc m) s) → (m : ℕ) (t : RunStateView) → step r e ≡ Ok t → slice_get (t ∷ states_from es t) m ≡ Some s → IsUnderway (n + suc m) s
    at_ok ih zero t o h =
        let same : t ≡ s = cc in
        subst (IsUnderway (n + 1)) same (law n r t e underway o)
    at_ok ih (suc m) t o h =
        let later : n + 1 + suc m ≡ n + suc (suc m) = omega arith in
        subst (λ (k : ℕ). IsUnderway k s) later (ih (n + 1) m t s (law n r t e underway o) h)

    go : ((n m : ℕ) (r s : RunStateView) → IsUnderway n r → slice_get (states_from es r) m ≡ Some s → IsUnderway (n + suc m) s) → (m : ℕ) (o : Result RunStateView Verdict) → step r e ≡ o → slice_get (on_step (λ t. t ∷ states_from es t) (λ v. []) o) m ≡ Some s → IsUnderway (n + suc m) s
    go ih m (Ok t) o h = at_ok ih m t o h
    go ih m (Err v) o h = absurd cc
