-- The end of a run.
use Rattle.std.proofs.Common.{◌≡◌, ℕ, zero, suc, ◌+◌, ◌-◌, ◌==◌, ◌≤◌, Bool, true, false, cond, refl, sym, ap, subst, ◌∙◌, arith, List, [], ◌∷◌, ◌++◌, map, take, drop, length, OnOk, Result, Ok, Err}
use Rattle.std.proofs.lemmas.Bool.Decides.{nat_tests}
use Rattle.std.proofs.lemmas.List.{map-append}
use Rattle.pd_script.specs.declared.script_events.Event.{Event}
use Rattle.pd_reparse.specs.Reading.{ReadingView, reading_of, events_of}
use Rattle.pd_reparse.specs.declared.parsed_event.ParsedEvent.{ParsedEvent}
use Rattle.pd_run.specs.Consulted.{run_with_settings, StepsNote}
use Rattle.pd_run.specs.Run.{stepped_of, verdict_from, stepped_from, states_from}
use Rattle.pd_run.specs.Step.{RunStateView}
use Rattle.pd_run.specs.declared.verdict.Verdict.{Verdict}
use Rattle.pd_track.specs.Reuse.{JobView, AgreeWhereConsulted, skipped_events, steps, every_fourth}
use Rattle.pd_track.specs.Resuming.{Resumes, IsJobOutcome, script_events}
use Rattle.pd_track.proofs.Held.{new_held, held_more}
use Rattle.pd_track.proofs.Rebound.{fourths_map, own_states}

pub drop_map : (n : ℕ) (ds : List ParsedEvent) → events_of (drop n ds) ≡ drop n (events_of ds)
drop_map zero ds = refl
drop_map (suc n) [] = refl
drop_map (suc n) (d ∷ ds) = drop_map n ds

pub take_whole : (n : ℕ) (ds : List ParsedEvent) → length ds ≤ n → take n ds ≡ ds
take_whole zero [] h = refl
take_whole zero (d ∷ ds) h = absurd (omega arith)
take_whole (suc n) [] h = refl
take_whole (suc n) (d ∷ ds) h = ap (λ (w : List ParsedEvent). d ∷ w) (take_whole n ds (omega arith))

-- what is stepped after the events that needn't be run is the steps of the job
pub steps_are : (job : JobView) (passed rest : ℕ) → passed ≡ skipped_events job → passed + rest ≡ stepped_of job.task.text job.task.settings → rest ≡ steps job
steps_are job passed rest p h = go (stepped_of job.task.text job.task.settings == 0) refl
  where
    go : (b : Bool) → (stepped_of job.task.text job.task.settings == 0) ≡ b → rest ≡ cond b 0 (stepped_of job.task.text job.task.settings - skipped_events job)
    go true e = let none : stepped_of job.task.text job.task.settings ≡ 0 = grind (arith, nat_tests) in omega arith
    go false e = omega arith

pub on_ok : {A E : Type 0} (r : Result A E) (P : Type 0) → P → OnOk r P
on_ok (Ok x) P p = p
on_ok (Err x) P p = tt

-- a run from where it was taken up comes to what the whole run does
pub record Whole (job : JobView) (came : Verdict) (reading : ReadingView) (checkpoints : List RunStateView) (taken : ℕ) : Type 0 where
  pub outcome : IsJobOutcome job.task came reading checkpoints
  pub steps : taken ≡ steps job

pub whole : StepsNote → (job : JobView) (reading : ReadingView) (passed : ℕ) (state : RunStateView) (before after : List RunStateView) (es : List Event) (came : Verdict) (taken : ℕ)
    → reading ≡ reading_of job.task.text → es ≡ drop passed (script_events job.task.text) → passed ≡ skipped_events job
    → Resumes job.task.text job.task.settings passed state before
    → came ≡ verdict_from passed es state → after ≡ before ++ every_fourth 3 (states_from es state) → taken ≡ stepped_from es state
    → Whole job came reading after taken
whole law job reading passed state before after es came taken read rest p resumes v s k = record {
  outcome = record {
    verdict = v ∙ (ap (λ (w : List Event). verdict_from passed w state) rest ∙ resumes.verdict);
    read = read;
    kept =
        ap (map (run_with_settings job.task.settings)) s
        ∙ (map-append (run_with_settings job.task.settings) before (every_fourth 3 (states_from es state))
        ∙ (ap (λ (w : List RunStateView). map (run_with_settings job.task.settings) before ++ w)
        (sym (fourths_map (run_with_settings job.task.settings) 3 (states_from es state)) ∙ ap (every_fourth 3) (own_states law es state job.task.settings resumes.bound))
        ∙ (ap (λ (w : List Event). map (run_with_settings job.task.settings) before ++ every_fourth 3 (states_from w state)) rest ∙ resumes.kept)));
    held =
        subst (AgreeWhereConsulted job.task.settings) (sym s)
        (held_more job.task.settings before (every_fourth 3 (states_from es state)) resumes.held (new_held law es state job.task.settings resumes.bound));
  };
  steps = k ∙ (ap (λ (w : List Event). stepped_from w state) rest ∙ steps_are job passed (stepped_from (drop passed (script_events job.task.text)) state) p resumes.steps);
}
