-- A run goes on where one under other settings had come to.
use Rattle.std.proofs.Common.{◌≡◌, ℕ, zero, suc, List, [], ◌∷◌, take, slice_get, option_map, None, Some, Ok, refl, sym, ap, ◌∙◌, arith}
use Rattle.std.proofs.lemmas.Option.{slice_get-map}
use Rattle.pd_settings.specs.declared.settings.Settings.{Settings}
use Rattle.pd_script.specs.Script.{script_of}
use Rattle.pd_script.specs.declared.parsed.Parsed.{Parsed}
use Rattle.pd_run.specs.Consulted.{run_with_settings, PassesBy, RunsGoOnUnder}
use Rattle.pd_run.specs.Inner.{InputsOnlyUse}
use Rattle.pd_run.specs.Run.{start_of, verdict_in, stepped_in, states_of, verdict_from, stepped_from, states_from}
use Rattle.pd_run.specs.RunStates.{RunStateView}
use Rattle.pd_run.proofs.Consulted.{has_begun, states_begun, runs_only_use}
use Rattle.pd_run.proofs.States.{Onward, resume}

slice_get-take : {X : Type 0} (n : ℕ) (xs : List X) → slice_get (take (suc n) xs) n ≡ slice_get xs n
slice_get-take n [] = refl
slice_get-take zero (x ∷ xs) = refl
slice_get-take (suc n) (x ∷ xs) = slice_get-take n xs

verdict_begun : (settings : Settings) (p : Parsed) (r : RunStateView) → p.fault ≡ None → start_of p.header.items settings ≡ Ok r
    → verdict_in settings p ≡ verdict_from 0 p.events r
verdict_begun settings p r fault start = rw (fault, start) refl

stepped_begun : (settings : Settings) (p : Parsed) (r : RunStateView) → p.fault ≡ None → start_of p.header.items settings ≡ Ok r
    → stepped_in settings p ≡ stepped_from p.events r
stepped_begun settings p r fault start = rw (fault, start) refl

-- a run goes on from each of its states
passes_by : (text : List (List ℕ)) (settings : Settings) (n : ℕ) (s : RunStateView) → slice_get (states_of text settings) n ≡ Some s
    → PassesBy text settings n s
passes_by text settings n s at =
    let p : Parsed = script_of text in
    let begun = has_begun settings p n s at in
    let r : RunStateView = begun.1 in
    let found : slice_get (states_from p.events r) n ≡ Some s =
    ap (λ (l : List RunStateView). slice_get l n) (sym (states_begun settings p r begun.0 begun.2)) ∙ at in
    let onward : Onward p.events n r s = resume p.events n r s found in
    record {
      state = at;
      verdict = verdict_begun settings p r begun.0 begun.2 ∙ sym (onward.verdict 0 (suc n) (omega arith));
      steps = stepped_begun settings p r begun.0 begun.2 ∙ sym onward.steps;
    }

pub runs_go_on_under : InputsOnlyUse → RunsGoOnUnder
runs_go_on_under laws text a b n s at agree =
    let there : slice_get (states_of text b) n ≡ Some (run_with_settings b s) =
    sym (slice_get-take n (states_of text b))
    ∙ (ap (λ (l : List RunStateView). slice_get l n) (runs_only_use laws text a b n s at agree)
    ∙ (slice_get-map (run_with_settings b) (take (suc n) (states_of text a)) n
    ∙ ap (option_map (run_with_settings b)) (slice_get-take n (states_of text a) ∙ at))) in
    passes_by text b n (run_with_settings b s) there
