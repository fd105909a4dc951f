-- Which settings a run has consulted, and what it is under others.
use Rattle.std.specs.Prelude.{◌≡◌, ℕ, suc, ◌+◌, ◌||◌, List, map, take, drop, slice_get, Some, Ok}
use Rattle.pd_settings.specs.SettingSets.{Agree, Includes}
use Rattle.pd_settings.specs.declared.settings.Settings.{Settings}
use Rattle.pd_settings.specs.declared.setting_set.SettingSet.{SettingSet}
use Rattle.pd_script.specs.Script.{script_of}
use Rattle.pd_script.specs.declared.script_events.Event.{Event}
use Rattle.pd_host.specs.InputLaws.{host_with_settings}
use Rattle.pd_run.specs.Run.{verdict_from, stepped_from, verdict_of, stepped_of, states_of}
use Rattle.pd_run.specs.Step.{RunStateView, step}

-- the settings that were consulted: those that the sender noted, and the tolerance where a packet was expected without a
-- header's
abbrev pub consulted_settings_of : RunStateView → SettingSet
consulted_settings_of r = record r.host.state.consulted_settings { tolerance_us = r.host.state.consulted_settings.tolerance_us || r.used_tolerance }

-- the same run with other settings held, so that the tolerance is theirs where the header sets none
abbrev pub run_with_settings : Settings → RunStateView → RunStateView
run_with_settings settings r = record r { host = host_with_settings settings r.host }

-- settings stay as they are in a step, and what was consulted stays noted
abbrev pub StepsNote : Type 0
StepsNote =
    (r s : RunStateView) (e : Event) → step r e ≡ Ok s
    → (s.host.state.settings ≡ r.host.state.settings) × Includes (consulted_settings_of s) (consulted_settings_of r)

-- other settings that agree on all that was consulted up to after a step give that step
abbrev pub StepsOnlyUse : Type 0
StepsOnlyUse =
    (r s : RunStateView) (e : Event) (settings : Settings) → step r e ≡ Ok s
    → Agree (consulted_settings_of s) r.host.state.settings settings → step (run_with_settings settings r) e ≡ Ok (run_with_settings settings s)

-- other settings that agree on all that the first events of a text consulted give the same first steps: the states after
-- them are equal but for the settings held in them
abbrev pub RunsOnlyUse : Type 0
RunsOnlyUse =
    (text : List (List ℕ)) (a b : Settings) (n : ℕ) (s : RunStateView) → slice_get (states_of text a) n ≡ Some s
    → Agree (consulted_settings_of s) a b → take (suc n) (states_of text b) ≡ map (run_with_settings b) (take (suc n) (states_of text a))

-- a run of a text under settings passes through this state after its first n + 1 events, and its verdict and steps are
-- those of going on from there
pub record PassesBy (text : List (List ℕ)) (settings : Settings) (n : ℕ) (s : RunStateView) : Type 0 where
  pub state : slice_get (states_of text settings) n ≡ Some s
  pub verdict : verdict_of text settings ≡ verdict_from (suc n) (drop (suc n) (script_of text).events) s
  pub steps : stepped_of text settings ≡ suc n + stepped_from (drop (suc n) (script_of text).events) s

-- so a run may begin where one under other settings had come to, if they agree on all that was consulted until there, with
-- the settings held replaced
abbrev pub RunsGoOnUnder : Type 0
RunsGoOnUnder =
    (text : List (List ℕ)) (a b : Settings) (n : ℕ) (s : RunStateView) → slice_get (states_of text a) n ≡ Some s
    → Agree (consulted_settings_of s) a b → PassesBy text b n (run_with_settings b s)
