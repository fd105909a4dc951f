-- How much of an earlier run stands for a later one.
use Rattle.std.specs.Prelude.{◌≡◌, ℕ, zero, suc, ◌-◌, ◌%◌, ◌==◌, nat_le, ◌&&◌, Bool, List, [], ◌∷◌, length, map, slice_get, Option, None, Some, if◌then◌else◌}
use Rattle.std.specs.List.{AllByRecursion}
use Rattle.pd_text.specs.Text.{common_prefix}
use Rattle.pd_settings.specs.SettingSets.{Agree, no_settings, agrees}
use Rattle.pd_settings.specs.declared.settings.Settings.{Settings}
use Rattle.pd_settings.specs.declared.setting_set.SettingSet.{SettingSet}
use Rattle.pd_reparse.specs.Reading.{ReadingView, reading_of, kept_of}
use Rattle.pd_run.specs.Consulted.{consulted_settings_of, run_with_settings}
use Rattle.pd_run.specs.Run.{states_of, stepped_of, verdict_of}
use Rattle.pd_run.specs.Step.{RunStateView}
use Rattle.pd_run.specs.declared.verdict.Verdict.{Verdict}
use Rattle.pd_track.specs.declared.task.Task.{Task}

-- the text of a track's run, and the settings that it was run under
pub record TrackView : Type 0 where
  pub text : List (List ℕ)
  pub settings : Settings

-- a job: its task, and the text and the settings of the track that it was given
pub record JobView : Type 0 where
  pub task : Task
  pub track : Option TrackView

-- every fourth state of a list, after so many that are passed over
abbrev pub every_fourth : ℕ → List RunStateView → List RunStateView
every_fourth j [] = []
every_fourth zero (r ∷ rs) = r ∷ every_fourth 3 rs
every_fourth (suc j) (r ∷ rs) = every_fourth j rs

-- the settings held in each state agree with these on all that was consulted up to it
abbrev pub AgreeWhereConsulted : Settings → List RunStateView → Type 0
AgreeWhereConsulted settings checkpoints = AllByRecursion (λ (r : RunStateView). Agree (consulted_settings_of r) settings r.host.state.settings) checkpoints

-- the parts of a track: its text as it was read, and the states after 4, 8, 12 .. events of its run, but for the settings held
-- in them, which agree with its own on all that was consulted up to there
pub record IsTrack (text : List (List ℕ)) (settings : Settings) (reading : ReadingView) (checkpoints : List RunStateView) : Type 0 where
  pub read : reading ≡ reading_of text
  pub kept : map (run_with_settings settings) checkpoints ≡ every_fourth 3 (states_of text settings)
  pub held : AgreeWhereConsulted settings checkpoints

-- the greatest number up to n that passes, or 0
abbrev pub greatest : (ℕ → Bool) → ℕ → ℕ
greatest p zero = 0
greatest p (suc n) = if p (suc n) then suc n else greatest p n

-- the events of the old text that are decided by the lines with which both texts begin
abbrev pub kept : List (List ℕ) → List (List ℕ) → ℕ
kept old new = kept_of (common_prefix old new) (reading_of old)

-- how many events a run got through
abbrev pub reached : List (List ℕ) → Settings → ℕ
reached text settings = length (states_of text settings)

-- the settings that a run had consulted in a state, if it came to it
abbrev pub consulted_settings_in : Option RunStateView → SettingSet
consulted_settings_in None = no_settings
consulted_settings_in (Some r) = consulted_settings_of r

-- the settings that the first events of a track's run consulted
abbrev pub consulted_settings : TrackView → ℕ → SettingSet
consulted_settings track zero = no_settings
consulted_settings track (suc n) = consulted_settings_in (slice_get (states_of track.text track.settings) n)

-- a track has the state after so many events, and a job may begin with it whose settings agree with the track's on all that
-- these events consulted
abbrev pub is_usable : TrackView → Settings → ℕ → Bool
is_usable track settings events =
    events % 4 == 0 && nat_le events (reached track.text track.settings) && agrees (consulted_settings track events) track.settings settings

-- how many events of a text under settings needn't be run after a track
abbrev pub skipped_after_track : TrackView → List (List ℕ) → Settings → ℕ
skipped_after_track track text settings = greatest (is_usable track settings) (kept track.text text)

-- how many events of a text under settings needn't be run: none without a track
abbrev pub skipped_events_of : Option TrackView → List (List ℕ) → Settings → ℕ
skipped_events_of None text settings = 0
skipped_events_of (Some track) text settings = skipped_after_track track text settings

-- how many events of a job needn't be run: none without a track
abbrev pub skipped_events : JobView → ℕ
skipped_events job = skipped_events_of job.track job.task.text job.task.settings

-- the steps that a job takes: the events of its whole run, up to the stop and with it, without those that needn't be run
abbrev pub steps : JobView → ℕ
steps job =
    if stepped_of job.task.text job.task.settings == 0 then 0
    else stepped_of job.task.text job.task.settings - skipped_events job

-- the number of lines with which a job's text and the text of its track begin: none without a track
abbrev pub front_of : Option TrackView → List (List ℕ) → ℕ
front_of None text = 0
front_of (Some track) text = common_prefix track.text text

-- the result of a job: the verdict of its text under its settings, and a track of both
pub record IsDone (task : Task) (came : Verdict) (track : TrackView) : Type 0 where
  pub verdict : came ≡ verdict_of task.text task.settings
  pub text : track.text ≡ task.text
  pub settings : track.settings ≡ task.settings
