-- When a text is the recording of another one, and why there is none.
use Rattle.std.specs.Prelude.{◌≡◌, ℕ, List, length, Ok, Err, IfErr}
use Rattle.pd_settings.specs.declared.settings.Settings.{Settings}
use Rattle.pd_script.specs.Script.{script_of}
use Rattle.pd_script.specs.declared.script_events.Event.{Event}
use Rattle.pd_script.specs.declared.script_header.HeaderItem.{HeaderItem}
use Rattle.pd_run.specs.Run.{verdict_of}
use Rattle.pd_run.specs.declared.verdict.Verdict.TheVariants.{Pass}
use Rattle.pd_layout.specs.Canonical.{IsCanonical}
use Rattle.pd_layout.specs.ReadAs.{AreSameEvents, IsReadAs}
use Rattle.pd_record.specs.Recorder.{Answers}
use Rattle.pd_record.specs.declared.record_error.RecordError.{RecordError}
use Rattle.pd_record.specs.declared.record_error.RecordError.TheVariants.{TooLarge, Differs, OutOfMemory}
use Rattle.pd_record.specs.FollowsRun.{FollowsRun}
use Rattle.pd_record.specs.Recording.{RecordedScriptView, recording_of, events_of}

-- a text is read as a header and events, and passes with their number
pub record IsRight (header : List HeaderItem) (events : List Event) (settings : Settings) (recording : List (List ℕ)) (count : ℕ) : Type 0 where
  pub read : IsReadAs header events recording
  pub passes : verdict_of recording settings ≡ Pass count
  pub number : count ≡ length events

-- a text, with a number of events, is the recording of another one under settings: it is read as that one's header and exactly
-- the recorded events, and passes with their number
pub record IsRecording (text : List (List ℕ)) (settings : Settings) (recording : List (List ℕ)) (count : ℕ) : Type 0 where
  pub recorded_script : RecordedScriptView
  pub recorded : recording_of text settings ≡ Ok recorded_script
  pub right : IsRight (script_of text).header.items (events_of recorded_script) settings recording count
  -- where the text passes, the recording follows its run
  pub follows : (n : ℕ) → verdict_of text settings ≡ Pass n → FollowsRun text settings recorded_script

-- a text stays as it is when it is recorded under settings: its recording has its own events, but for their lines, and
-- it is laid out as recordings are
pub record IsSettled (text : List (List ℕ)) (settings : Settings) : Type 0 where
  pub recorded_script : RecordedScriptView
  pub recorded : recording_of text settings ≡ Ok recorded_script
  pub own : AreSameEvents (script_of text).events (events_of recorded_script)
  pub canonical : IsCanonical text

-- why a text isn't recorded: it is no script, or its recording is refused. Where the recording is too large, or differs from
-- the recorded events, there is no other reason to refuse it; if out of memory nothing more is claimed
abbrev pub Refuses : Answers RecordedScriptView → RecordError → Type 0
Refuses outcome OutOfMemory = Unit {0}
Refuses outcome Differs = IfErr outcome (λ other. other ≡ Differs)
Refuses outcome TooLarge = IfErr outcome (λ other. other ≡ TooLarge)
Refuses outcome refusal = outcome ≡ Err refusal
