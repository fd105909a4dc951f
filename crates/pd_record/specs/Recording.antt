-- The recording of a whole script.
use Rattle.std.specs.Prelude.{ℕ, List, [], ◌∷◌, ◌++◌, map, Option, Some, None, Ok, Err}
use Rattle.pd_settings.specs.declared.settings.Settings.{Settings}
use Rattle.pd_script.specs.Script.{script_of}
use Rattle.pd_script.specs.declared.parsed.Parsed.{Parsed}
use Rattle.pd_script.specs.declared.script_events.Event.{Event}
use Rattle.pd_script.specs.declared.script_header.HeaderItem.{HeaderItem}
use Rattle.pd_run.specs.declared.verdict.Verdict.TheVariants.{Syntax}
use Rattle.pd_record.specs.Recorder.{RecorderView, EventRecordingView, Answers, then_do, recorder_at_start, left_by, recorded}
use Rattle.pd_record.specs.declared.record_error.RecordError.TheVariants.{Stopped}
use Rattle.pd_record.specs.declared.recorded.OwnEvent.{OwnEvent}
use Rattle.pd_record.specs.declared.recorded.RecordedEvent.{RecordedEvent}

-- the recording of a script: of each of its events, and at its end
pub record RecordedScriptView : Type 0 where
  pub per_event : List EventRecordingView
  pub rest : List RecordedEvent

-- the recording of events in their order, after the recording of others
abbrev pub records : List Event → List EventRecordingView → RecorderView → Answers (RecorderView × List EventRecordingView)
records [] per_event t = Ok (t, per_event)
records (e ∷ es) per_event t = then_do (λ x. records es (per_event ++ x.1 ∷ []) x.0) (recorded t e)

-- the packets that are unmatched after the last event are recorded at the end
abbrev pub closed : RecorderView × List EventRecordingView → Answers RecordedScriptView
closed x = then_do (λ y. Ok (record { per_event = x.1; rest = y.1 })) (left_by 0 x.0.run.clock x.0)

-- the recording of a script's events, under its header
abbrev pub recorded_script_of : List HeaderItem → List Event → Settings → Answers RecordedScriptView
recorded_script_of header events settings = then_do (λ t. then_do closed (records events [] t)) (recorder_at_start header settings)

-- the recording of a script that was read; nothing where it has a fault
abbrev pub recording_in : Settings → Parsed → Answers RecordedScriptView
recording_in settings parsed = unless_refused parsed.fault
  where
    unless_refused : Option ℕ → Answers RecordedScriptView
    unless_refused (Some line) = Err (Stopped (Syntax line))
    unless_refused None = recorded_script_of parsed.header.items parsed.events settings

-- the recording of a text under settings
abbrev pub recording_of : List (List ℕ) → Settings → Answers RecordedScriptView
recording_of text settings = recording_in settings (script_of text)

-- the events recorded
abbrev pub events_in : List RecordedEvent → List Event
events_in = map (λ x. x.event)

-- the event in the place of one of the script
abbrev pub event_in : Option OwnEvent → List Event
event_in None = []
event_in (Some own) = own.recorded.event ∷ []

-- the events recorded of one event of the script
abbrev pub events_recorded : EventRecordingView → List Event
events_recorded took = events_in took.before ++ event_in took.own

-- the same of events in their order
abbrev pub events_of_all : List EventRecordingView → List Event
events_of_all [] = []
events_of_all (took ∷ others) = events_recorded took ++ events_of_all others

-- all recorded events, in their order
abbrev pub events_of : RecordedScriptView → List Event
events_of recorded_script = events_of_all recorded_script.per_event ++ events_in recorded_script.rest
