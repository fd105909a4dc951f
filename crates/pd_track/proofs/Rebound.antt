-- States with other settings held.
use Rattle.std.proofs.Common.{◌≡◌, ℕ, zero, suc, List, [], ◌∷◌, map, Result, Ok, Err, refl, ap, subst, ◌∙◌}
use Rattle.pd_settings.specs.declared.settings.Settings.{Settings}
use Rattle.pd_script.specs.declared.script_events.Event.{Event}
use Rattle.pd_run.specs.Consulted.{run_with_settings, StepsNote}
use Rattle.pd_run.specs.Run.{states_from}
use Rattle.pd_run.specs.Step.{RunStateView, on_step, step}
use Rattle.pd_run.specs.declared.verdict.Verdict.{Verdict}
use Rattle.pd_track.specs.Reuse.{every_fourth}

pub fourths_map : (f : RunStateView → RunStateView) (j : ℕ) (rs : List RunStateView) → every_fourth j (map f rs) ≡ map f (every_fourth j rs)
fourths_map f j [] = refl
fourths_map f zero (r ∷ rs) = ap (λ (w : List RunStateView). f r ∷ w) (fourths_map f 3 rs)
fourths_map f (suc j) (r ∷ rs) = fourths_map f j rs

-- the last settings count
pub twice : (a b : Settings) (rs : List RunStateView) → map (run_with_settings b) (map (run_with_settings a) rs) ≡ map (run_with_settings b) rs
twice a b [] = refl
twice a b (r ∷ rs) = ap (λ (w : List RunStateView). run_with_settings b r ∷ w) (twice a b rs)

-- with its own settings a state is itself
own : (r : RunStateView) (settings : Settings) → r.host.state.settings ≡ settings → run_with_settings settings r ≡ r
own r settings h = subst (λ (x : Settings). run_with_settings x r ≡ r) h refl

-- so are those that follow
pub own_states : StepsNote → (es : List Event) (r : RunStateView) (settings : Settings) → r.host.state.settings ≡ settings
    → map (run_with_settings settings) (states_from es r) ≡ states_from es r
own_states law [] r settings h = refl
own_states law (e ∷ es) r settings h = go (λ t. own_states law es t settings) (step r e) refl
  where
    go : ((t : RunStateView) → t.host.state.settings ≡ settings → map (run_with_settings settings) (states_from es t) ≡ states_from es t)
        → (o : Result RunStateView Verdict) → step r e ≡ o
        → map (run_with_settings settings) (on_step (λ t. t ∷ states_from es t) (λ v. []) o) ≡ on_step (λ t. t ∷ states_from es t) (λ v. []) o
    go ih (Ok t) o =
        let same : t.host.state.settings ≡ settings = (law r t e o).0 ∙ h in
        ap (λ (q : RunStateView). q ∷ map (run_with_settings settings) (states_from es t)) (own t settings same)
        ∙ ap (λ (w : List RunStateView). t ∷ w) (ih t same)
    go ih (Err v) o = refl
