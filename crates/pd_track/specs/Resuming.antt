-- A run that goes on where an earlier one is taken up.
use Rattle.std.specs.Prelude.{◌≡◌, ℕ, ◌+◌, ◌≤◌, ◌%◌, ◌++◌, length, map, drop, List, None, Ok, Option, Some}
use Rattle.pd_settings.specs.declared.settings.Settings.{Settings}
use Rattle.pd_script.specs.Script.{script_of}
use Rattle.pd_script.specs.declared.script_events.Event.{Event}
use Rattle.pd_run.specs.Consulted.{run_with_settings}
use Rattle.pd_run.specs.Laws.{IsUnderway}
use Rattle.pd_run.specs.Run.{start_of, verdict_of, stepped_of, states_of, verdict_from, stepped_from, states_from}
use Rattle.pd_run.specs.Step.{RunStateView}
use Rattle.pd_run.specs.declared.verdict.Verdict.{Verdict}
use Rattle.pd_reparse.specs.Reading.{ReadingView, reading_of}
use Rattle.pd_track.specs.Reuse.{AgreeWhereConsulted, every_fourth, TrackView, JobView, kept}
use Rattle.pd_track.specs.declared.task.Task.{Task}

-- the events that a text is
abbrev pub script_events : List (List ℕ) → List Event
script_events text = (script_of text).events

-- the run of a text under settings begins in this state
pub record BeginsIn (text : List (List ℕ)) (settings : Settings) (state : RunStateView) : Type 0 where
  pub fault : (script_of text).fault ≡ None
  pub start : start_of (script_of text).header.items settings ≡ Ok state

-- the run that goes on in this state after so many events, with these checkpoints but for the settings held in them, gives
-- the result of the whole run
pub record Resumes (text : List (List ℕ)) (settings : Settings) (passed : ℕ) (state : RunStateView) (checkpoints : List RunStateView) : Type 0 where
  pub fourth : passed % 4 ≡ 0
  pub within : passed ≤ length (script_events text)
  pub underway : IsUnderway passed state
  pub verdict : verdict_from passed (drop passed (script_events text)) state ≡ verdict_of text settings
  pub steps : passed + stepped_from (drop passed (script_events text)) state ≡ stepped_of text settings
  pub kept : map (run_with_settings settings) checkpoints ++ every_fourth 3 (states_from (drop passed (script_events text)) state) ≡ every_fourth 3 (states_of text settings)
  pub bound : state.host.state.settings ≡ settings
  pub held : AgreeWhereConsulted settings checkpoints

-- the result of the whole run of a task, the reading of its text, and every fourth state but for the settings held in it
pub record IsJobOutcome (task : Task) (came : Verdict) (reading : ReadingView) (checkpoints : List RunStateView) : Type 0 where
  pub verdict : came ≡ verdict_of task.text task.settings
  pub read : reading ≡ reading_of task.text
  pub kept : map (run_with_settings task.settings) checkpoints ≡ every_fourth 3 (states_of task.text task.settings)
  pub held : AgreeWhereConsulted task.settings checkpoints

-- how many events of a track's text another text keeps: none without a track
abbrev pub kept_of_track : Option TrackView → List (List ℕ) → ℕ
kept_of_track None text = 0
kept_of_track (Some track) text = kept track.text text

-- how many events of its track's text a job keeps
abbrev pub kept_before : JobView → ℕ
kept_before job = kept_of_track job.track job.task.text
