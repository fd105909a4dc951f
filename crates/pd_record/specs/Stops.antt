-- Where recording a script stops.
use Rattle.std.specs.Prelude.{ℕ, ◌+◌, ◌==◌, List, [], ◌∷◌, Option, Some, None, Ok, Err, if◌then◌else◌}
use Rattle.pd_settings.specs.declared.settings.Settings.{Settings}
use Rattle.pd_script.specs.declared.script_events.Event.{Event}
use Rattle.pd_script.specs.declared.script_header.HeaderItem.{HeaderItem}
use Rattle.pd_record.specs.Recorder.{RecorderView, EventRecordingView, Answers, recorder_at_start, recorded}
use Rattle.pd_record.specs.declared.find_stop.RecordingStop.{RecordingStop}

-- how recording stands at an event on a line, after n others
abbrev pub snapshot_recorder_if_event_on_line : ℕ → ℕ → RecorderView → Event → Option RecordingStop
snapshot_recorder_if_event_on_line line n t e = if e.line == line then Some (record { passed = n; run = t.run; base = t.base }) else None

-- an event that isn't recorded stops it; after one that is the rest follows
abbrev pub stop_by : Option RecordingStop → (RecorderView → Option RecordingStop) → Answers (RecorderView × EventRecordingView) → Option RecordingStop
stop_by stop rest (Ok x) = rest x.0
stop_by stop rest (Err refusal) = stop

-- where recording the events that are left, after n others, stops on a line
abbrev pub stop_from : ℕ → ℕ → List Event → RecorderView → Option RecordingStop
stop_from line n [] t = None
stop_from line n (e ∷ es) t = stop_by (snapshot_recorder_if_event_on_line line n t e) (stop_from line (n + 1) es) (recorded t e)

-- the same of a script that was read, from its first event on
abbrev pub recording_stop : ℕ → List HeaderItem → List Event → Settings → Option RecordingStop
recording_stop line header events settings = started (recorder_at_start header settings)
  where
    started : Answers RecorderView → Option RecordingStop
    started (Ok t) = stop_from line 0 events t
    started (Err refusal) = None
