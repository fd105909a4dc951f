-- Where a run may begin.
use Rattle.std.proofs.Common.{◌≡◌, ℕ, zero, suc, ◌+◌, ◌*◌, ◌-◌, ◌%◌, ◌≤◌, ◌<◌, refl, sym, ap, subst, ◌∙◌, arith, List, [], ◌∷◌, ◌++◌, length, map, take, drop, slice_get, option_map, IfSome, Option, None, Some, Ok}
use Rattle.std.proofs.lemmas.Option.{slice_get_within, slice_get-map}
use Rattle.pd_settings.specs.declared.settings.Settings.{Settings}
use Rattle.pd_script.specs.Header.{HeaderView}
use Rattle.pd_script.specs.Script.{script_of}
use Rattle.pd_script.specs.declared.parsed.Parsed.{Parsed}
use Rattle.pd_text.specs.Text.{AreLines}
use Rattle.pd_reparse.specs.Laws.{FirstEventsOfScriptsStay}
use Rattle.pd_settings.specs.SettingSets.{Agree}
use Rattle.pd_settings.specs.declared.setting_set.SettingSet.{SettingSet}
use Rattle.pd_run.specs.Consulted.{consulted_settings_of, run_with_settings, StepsNote, RunsOnlyUse}
use Rattle.pd_run.specs.Laws.{IsUnderway, StartsUnderway, StepsGoOn}
use Rattle.pd_run.specs.Run.{start_of, verdict_in, stepped_in, states_in, verdict_of, stepped_of, states_of, verdict_from, stepped_from, states_from}
use Rattle.pd_run.specs.Step.{RunStateView}
use Rattle.pd_run.proofs.Consulted.{start_again}
use Rattle.pd_run.proofs.States.{Onward, resume, states_same, states_underway}
use Rattle.pd_track.specs.Reuse.{TrackView, AgreeWhereConsulted, every_fourth, kept, consulted_settings, consulted_settings_in}
use Rattle.pd_track.specs.Resuming.{BeginsIn, Resumes, script_events}
use Rattle.pd_track.proofs.Fourths.{slice_get-every_fourth, fourths_take, fourths_rest}
use Rattle.pd_track.proofs.Held.{held_at, held_too, kept_before_last}
use Rattle.pd_track.proofs.Rebound.{fourths_map, twice}

none_before : (n : ℕ) → 0 + n ≡ n
none_before n = omega arith

-- what a run is that begins in a state
verdict_in_begun : (settings : Settings) (p : Parsed) (r : RunStateView) → p.fault ≡ None → start_of p.header.items settings ≡ Ok r → verdict_in settings p ≡ verdict_from 0 p.events r
verdict_in_begun settings p r fault start = rw (fault, start) refl

stepped_in_begun : (settings : Settings) (p : Parsed) (r : RunStateView) → p.fault ≡ None → start_of p.header.items settings ≡ Ok r → stepped_in settings p ≡ stepped_from p.events r
stepped_in_begun settings p r fault start = rw (fault, start) refl

states_in_begun : (settings : Settings) (p : Parsed) (r : RunStateView) → p.fault ≡ None → start_of p.header.items settings ≡ Ok r → states_in settings p ≡ states_from p.events r
states_in_begun settings p r fault start = rw (fault, start) refl

-- a script with a state on its way has no fault
no_fault : (settings : Settings) (p : Parsed) (s : RunStateView) (q : ℕ) → slice_get (every_fourth 3 (states_in settings p)) q ≡ Some s → p.fault ≡ None
no_fault settings p s q found = go p.fault refl
  where
    go : (o : Option ℕ) → p.fault ≡ o → p.fault ≡ None
    go None is = is
    go (Some line) is = absurd (let none = rw is at found in cc)

-- the run that goes on in this state after so many events, with these states before it, gives what the whole run gives
record GoesOn (text : List (List ℕ)) (settings : Settings) (passed : ℕ) (state : RunStateView) (before : List RunStateView) : Type 0 where
  pub fourth : passed % 4 ≡ 0
  pub within : passed ≤ length (script_events text)
  pub underway : IsUnderway passed state
  pub verdict : verdict_from passed (drop passed (script_events text)) state ≡ verdict_of text settings
  pub steps : passed + stepped_from (drop passed (script_events text)) state ≡ stepped_of text settings
  pub kept : before ++ every_fourth 3 (states_from (drop passed (script_events text)) state) ≡ every_fourth 3 (states_of text settings)

module _ (text : List (List ℕ)) (settings : Settings) (r : RunStateView) (begins : BeginsIn text settings r) where
  pub verdict_begun : verdict_of text settings ≡ verdict_from 0 (script_events text) r
  verdict_begun = verdict_in_begun settings (script_of text) r begins.fault begins.start

  pub stepped_begun : stepped_of text settings ≡ stepped_from (script_events text) r
  stepped_begun = stepped_in_begun settings (script_of text) r begins.fault begins.start

  pub states_begun : states_of text settings ≡ states_from (script_events text) r
  states_begun = states_in_begun settings (script_of text) r begins.fault begins.start

  -- a run may begin before its first event
  pub resumes_fresh : IsUnderway 0 r → Resumes text settings 0 r []
  resumes_fresh underway = record {
    fourth = refl;
    within = omega arith;
    underway = underway;
    verdict = sym verdict_begun;
    steps = none_before (stepped_from (script_events text) r) ∙ sym stepped_begun;
    kept = ap (every_fourth 3) (sym states_begun);
    bound = (start_again (script_of text).header.items settings settings r begins.start).1;
    held = tt;
  }

slice_get-take : (m : ℕ) (rs : List RunStateView) → slice_get (take (suc m) rs) m ≡ slice_get rs m
slice_get-take m [] = refl
slice_get-take zero (r ∷ rs) = refl
slice_get-take (suc m) (r ∷ rs) = slice_get-take m rs

-- from the state after the first m + 1 events, a multiple of 4
resumes_at : StepsGoOn → (text : List (List ℕ)) (settings : Settings) (r s : RunStateView) (q m : ℕ) → m ≡ 4 * q + 3 → BeginsIn text settings r → IsUnderway 0 r
    → slice_get (states_from (script_events text) r) m ≡ Some s
    → GoesOn text settings (suc m) s (take (suc q) (every_fourth 3 (states_from (script_events text) r)))
resumes_at law text settings r s q m is begins underway found =
    let onward : Onward (script_events text) m r s = resume (script_events text) m r s found in
    let all : take (suc q) (every_fourth 3 (states_from (script_events text) r)) ++ every_fourth 3 (drop (suc m) (states_from (script_events text) r)) ≡ every_fourth 3 (states_from (script_events text) r) =
    fourths_rest 3 q m (states_from (script_events text) r) is (slice_get_within (states_from (script_events text) r) m s found) in
    record {
      fourth = omega arith;
      within = onward.within;
      underway = subst (λ (n : ℕ). IsUnderway n s) (none_before (suc m)) (states_underway law (script_events text) 0 m r s underway found);
      verdict = onward.verdict 0 (suc m) (omega arith) ∙ sym (verdict_begun text settings r begins);
      steps = onward.steps ∙ sym (stepped_begun text settings r begins);
      kept = ap (λ (rest : List RunStateView). take (suc q) (every_fourth 3 (states_from (script_events text) r)) ++ every_fourth 3 rest) onward.states
          ∙ (all ∙ ap (every_fourth 3) (sym (states_begun text settings r begins)));
    }

-- from a state that a run of another text has kept, which begins as this one does
resumes_kept : StepsGoOn → (old text : List (List ℕ)) (settings : Settings) (r s : RunStateView) (q : ℕ) → BeginsIn text settings r → IsUnderway 0 r
    → ((script_of old).header ≡ (script_of text).header) × (take (4 * suc q) (script_of old).events ≡ take (4 * suc q) (script_of text).events)
    → slice_get (every_fourth 3 (states_of old settings)) q ≡ Some s
    → GoesOn text settings (4 * suc q) s (take (suc q) (every_fourth 3 (states_of old settings)))
resumes_kept law old text settings r s q begins underway same checkpoint =
    let m : ℕ = 4 * q + 3 in
    let count : 4 * suc q ≡ suc (4 * q + 3) = omega arith in
    let old_begins : BeginsIn old settings r = record {
      fault = no_fault settings (script_of old) s q checkpoint;
      start = ap (λ (h : HeaderView). start_of h.items settings) same.0 ∙ begins.start;
    } in
    let old_states : states_of old settings ≡ states_from (script_events old) r = states_begun old settings r old_begins in
    let events : take (suc (4 * q + 3)) (script_events old) ≡ take (suc (4 * q + 3)) (script_events text) =
    subst (λ (n : ℕ). take n (script_events old) ≡ take n (script_events text)) count same.1 in
    let states : take (suc (4 * q + 3)) (states_from (script_events old) r) ≡ take (suc (4 * q + 3)) (states_from (script_events text) r) =
    states_same (suc (4 * q + 3)) (script_events old) (script_events text) r events in
    let there : slice_get (states_from (script_events old) r) (4 * q + 3) ≡ Some s =
    sym (slice_get-every_fourth 3 q (states_from (script_events old) r)) ∙ (ap (λ (rs : List RunStateView). slice_get (every_fourth 3 rs) q) (sym old_states) ∙ checkpoint) in
    let here : slice_get (states_from (script_events text) r) (4 * q + 3) ≡ Some s =
    sym (slice_get-take (4 * q + 3) (states_from (script_events text) r))
    ∙ (ap (λ (rs : List RunStateView). slice_get rs (4 * q + 3)) (sym states) ∙ (slice_get-take (4 * q + 3) (states_from (script_events old) r) ∙ there)) in
    let checkpoints : take (suc q) (every_fourth 3 (states_of old settings)) ≡ take (suc q) (every_fourth 3 (states_from (script_events text) r)) =
    ap (λ (rs : List RunStateView). take (suc q) (every_fourth 3 rs)) old_states
    ∙ (fourths_take 3 q (4 * q + 3) (states_from (script_events old) r) refl
    ∙ (ap (every_fourth 3) states ∙ sym (fourths_take 3 q (4 * q + 3) (states_from (script_events text) r) refl))) in
    let whole : GoesOn text settings (suc (4 * q + 3)) s (take (suc q) (every_fourth 3 (states_from (script_events text) r))) =
    resumes_at law text settings r s q (4 * q + 3) refl begins underway here in
    subst (λ (rs : List RunStateView). GoesOn text settings (4 * suc q) s rs) (sym checkpoints)
    (subst (λ (n : ℕ). GoesOn text settings n s (take (suc q) (every_fourth 3 (states_from (script_events text) r)))) (sym count) whole)

-- a run that begins is underway
pub begun_underway : StartsUnderway → (text : List (List ℕ)) (settings : Settings) (r : RunStateView) → BeginsIn text settings r → IsUnderway 0 r
begun_underway law text settings r begins = law (script_of text).header.items settings r begins.start

-- what a run had consulted in a state that it kept
pub uses_are : (track : TrackView) (count : ℕ) (s : RunStateView) → 0 < count
    → slice_get (every_fourth 3 (states_of track.text track.settings)) (count - 1) ≡ Some (run_with_settings track.settings s)
    → consulted_settings_of s ≡ consulted_settings track (4 * count)
uses_are track zero s some checkpoint = absurd (omega arith)
uses_are track (suc q) s some checkpoint =
    let last : suc q - 1 ≡ q = omega arith in
    let count : 4 * suc q ≡ suc (4 * q + 3) = omega arith in
    let found : slice_get (states_of track.text track.settings) (4 * q + 3) ≡ Some (run_with_settings track.settings s) =
    sym (slice_get-every_fourth 3 q (states_of track.text track.settings))
    ∙ subst (λ (n : ℕ). slice_get (every_fourth 3 (states_of track.text track.settings)) n ≡ Some (run_with_settings track.settings s)) last checkpoint in
    sym (ap (consulted_settings track) count ∙ ap consulted_settings_in found)

-- the states that a run kept, up to one that serves, are those of the run under the other settings, but for the settings held
module _ (law : RunsOnlyUse) (track : TrackView) (settings : Settings) (s : RunStateView) (q : ℕ)
    (checkpoint : slice_get (every_fourth 3 (states_of track.text track.settings)) q ≡ Some (run_with_settings track.settings s))
    (agree : Agree (consulted_settings_of s) track.settings settings) where
  there : slice_get (states_of track.text track.settings) (4 * q + 3) ≡ Some (run_with_settings track.settings s)
  there = sym (slice_get-every_fourth 3 q (states_of track.text track.settings)) ∙ checkpoint

  first_states : take (suc q) (every_fourth 3 (states_of track.text settings)) ≡ map (run_with_settings settings) (take (suc q) (every_fourth 3 (states_of track.text track.settings)))
  first_states =
      fourths_take 3 q (4 * q + 3) (states_of track.text settings) refl
      ∙ (ap (every_fourth 3) (law track.text track.settings settings (4 * q + 3) (run_with_settings track.settings s) there agree)
      ∙ (fourths_map (run_with_settings settings) 3 (take (suc (4 * q + 3)) (states_of track.text track.settings))
      ∙ ap (map (run_with_settings settings)) (sym (fourths_take 3 q (4 * q + 3) (states_of track.text track.settings) refl))))

  last_state : slice_get (every_fourth 3 (states_of track.text settings)) q ≡ Some (run_with_settings settings s)
  last_state =
      sym (slice_get-take q (every_fourth 3 (states_of track.text settings)))
      ∙ (ap (λ (rs : List RunStateView). slice_get rs q) first_states
      ∙ (slice_get-map (run_with_settings settings) (take (suc q) (every_fourth 3 (states_of track.text track.settings))) q
      ∙ ap (option_map (run_with_settings settings)) (slice_get-take q (every_fourth 3 (states_of track.text track.settings)) ∙ checkpoint)))

-- from the last state of a track that serves
pub resumes_after : FirstEventsOfScriptsStay → StartsUnderway → StepsGoOn → StepsNote → RunsOnlyUse
    → (track : TrackView) (text : List (List ℕ)) (settings : Settings) (r s : RunStateView) (count events : ℕ) (checkpoints : List RunStateView)
    → AreLines track.text → AreLines text → 0 < count → BeginsIn text settings r → events ≡ kept track.text text → 4 * count ≤ events
    → Agree (consulted_settings track (4 * count)) track.settings settings
    → slice_get (every_fourth 3 (states_of track.text track.settings)) (count - 1) ≡ Some (run_with_settings track.settings s)
    → map (run_with_settings track.settings) checkpoints ≡ take count (every_fourth 3 (states_of track.text track.settings)) → AgreeWhereConsulted track.settings checkpoints
    → Resumes text settings (4 * count) (run_with_settings settings s) checkpoints
resumes_after same starts steps notes law track text settings r s zero events checkpoints old_lines lines some begins kept_is within agree checkpoint checkpoints_are held = absurd (omega arith)
resumes_after same starts steps notes law track text settings r s (suc q) events checkpoints old_lines lines some begins kept_is within agree checkpoint checkpoints_are held =
    let few : 4 * suc q ≤ kept track.text text = omega arith in
    let last : suc q - 1 ≡ q = omega arith in
    let consulted : Agree (consulted_settings_of s) track.settings settings =
    subst (λ (u : SettingSet). Agree u track.settings settings) (sym (uses_are track (suc q) s some checkpoint)) agree in
    let at : slice_get (every_fourth 3 (states_of track.text track.settings)) q ≡ Some (run_with_settings track.settings s) =
    subst (λ (n : ℕ). slice_get (every_fourth 3 (states_of track.text track.settings)) n ≡ Some (run_with_settings track.settings s)) last checkpoint in
    let whole : GoesOn text settings (4 * suc q) (run_with_settings settings s) (take (suc q) (every_fourth 3 (states_of track.text settings))) =
    resumes_kept steps track.text text settings r (run_with_settings settings s) q begins (begun_underway starts text settings r begins)
    (same track.text text (4 * suc q) old_lines lines (omega arith) few) (last_state law track settings s q at consulted) in
    let checkpoints_here : map (run_with_settings settings) checkpoints ≡ take (suc q) (every_fourth 3 (states_of track.text settings)) =
    sym (twice track.settings settings checkpoints) ∙ (ap (map (run_with_settings settings)) checkpoints_are ∙ sym (first_states law track settings s q at consulted)) in
    record {
      fourth = whole.fourth;
      within = whole.within;
      underway = whole.underway;
      verdict = whole.verdict;
      steps = whole.steps;
      kept = ap (λ (rs : List RunStateView). rs ++ every_fourth 3 (states_from (drop (4 * suc q) (script_events text)) (run_with_settings settings s))) checkpoints_here ∙ whole.kept;
      bound = refl;
      held =
          held_too track.settings settings s checkpoints
          (kept_before_last notes track.text track.settings q s checkpoints (there law track settings s q at consulted) checkpoints_are) consulted held;
    }

-- what is held in a kept state agrees with the track's settings on all that was consulted up to there
pub held_there : (track : TrackView) (k : ℕ) (checkpoints : List RunStateView) (o : Option RunStateView)
    → map (run_with_settings track.settings) checkpoints ≡ every_fourth 3 (states_of track.text track.settings) → AgreeWhereConsulted track.settings checkpoints → o ≡ slice_get checkpoints k
    → IfSome o (λ (s : RunStateView). Agree (consulted_settings track (4 * (k + 1))) track.settings s.host.state.settings)
held_there track k checkpoints None are held is = tt
held_there track k checkpoints (Some s) are held is =
    let some : 0 < k + 1 = omega arith in
    let last : k + 1 - 1 ≡ k = omega arith in
    let found : slice_get (every_fourth 3 (states_of track.text track.settings)) k ≡ Some (run_with_settings track.settings s) =
    ap (λ (rs : List RunStateView). slice_get rs k) (sym are)
    ∙ (slice_get-map (run_with_settings track.settings) checkpoints k ∙ ap (option_map (run_with_settings track.settings)) (sym is)) in
    let consulted : consulted_settings_of s ≡ consulted_settings track (4 * (k + 1)) =
    uses_are track (k + 1) s some (subst (λ (n : ℕ). slice_get (every_fourth 3 (states_of track.text track.settings)) n ≡ Some (run_with_settings track.settings s)) (sym last) found) in
    subst (λ (u : SettingSet). Agree u track.settings s.host.state.settings) consulted (held_at track.settings checkpoints k s held (sym is))
