-- Definitions that contracts of private functions cite and no public one does.
use denote.Bor.{Bor}
use Rattle.std.specs.Prelude.{◌≡◌, ◌≢◌, ◌↔◌, ℕ, ◌*◌, ◌≤◌, List, ◌++◌, length, Option, Some, None, Result, Ok, Err}
use Rattle.std.specs.List.{AllByRecursion}
use Rattle.pd_layout.specs.Canonical.{IsCanonical}
use Rattle.pd_layout.specs.ReadAs.{AreSameEvents, IsReadAs}
use Rattle.pd_script.specs.declared.script_events.Event.{Event}
use Rattle.pd_script.specs.declared.script_header.HeaderItem.{HeaderItem}
use Rattle.pd_run.specs.Laws.{IsUnderway}
use Rattle.pd_record.specs.declared.recording_text.Recording.{Recording}
use Rattle.pd_record.specs.declared.record_error.RecordError.{RecordError}
use Rattle.pd_record.specs.declared.record_error.RecordError.TheVariants.{OutOfMemory}
use Rattle.pd_record.specs.Recorder.{RecorderView, Answers}

-- the recorded events and the recorder after them, or why there are none; if out of memory nothing is claimed
abbrev pub Gives : {A B : Type 0} → (A → B) → Answers (RecorderView × B) → Result A RecordError → RecorderView → Type 0
Gives seen outcome (Ok x) new = outcome ≡ Ok (new, seen x)
Gives seen outcome (Err refusal) new = refusal ≢ OutOfMemory → outcome ≡ Err refusal

-- the same where the tape stays as it is
abbrev pub Finds : {A : Type 0} → Answers A → Result A RecordError → Type 0
Finds outcome (Ok x) = outcome ≡ Ok x
Finds outcome (Err refusal) = refusal ≢ OutOfMemory → outcome ≡ Err refusal

-- the same of a step, which records nothing
abbrev pub Goes : Answers RecorderView → Result (Unit {0}) RecordError → RecorderView → Type 0
Goes outcome (Ok done) new = outcome ≡ Ok new
Goes outcome (Err refusal) new = refusal ≢ OutOfMemory → outcome ≡ Err refusal

-- a moment that a recording can come to
abbrev pub IsReached : ℕ → Type 0
IsReached at = at ≤ 3600000000 * 4097

-- the run of a tape goes on, at most 4,096 events were recorded, and the moments lie within their reach
pub record Sound (t : RecorderView) : Type 0 where
  pub run : IsUnderway t.count t.run
  pub few : t.count ≤ 4096
  pub unmet : AllByRecursion IsReached t.unmet

-- some events are others and what is after these, whatever follows; or they are not, whatever follows. Lines don't count
abbrev pub GoesAfter : List Event → List Event → Option (Bor (List Event)) → Type 0
GoesAfter events others None = (rest : List Event) → AreSameEvents events (others ++ rest) → ⊥
GoesAfter events others (Some after) = (rest : List Event) → AreSameEvents events (others ++ rest) ↔ AreSameEvents after.now rest

-- a recording is read as a header and events, laid out as recordings are, and has their number
abbrev pub IsWritten : List HeaderItem → List Event → Recording → Type 0
IsWritten header events recording = IsReadAs header events recording.lines × IsCanonical recording.lines × (recording.events ≡ length events)
