-- A text that is read as what was recorded is the recording, and a recording of itself.
use Rattle.std.proofs.Common.{◌≡◌, ℕ, List, length, Some, Result, Ok, Err, IfOk, refl, ap, sym, subst, ◌∙◌}
use Rattle.pd_settings.specs.declared.settings.Settings.{Settings}
use Rattle.pd_script.specs.Script.{script_of}
use Rattle.pd_script.specs.declared.parsed.Parsed.{Parsed}
use Rattle.pd_script.specs.declared.script_events.Event.{Event}
use Rattle.pd_script.specs.declared.script_header.HeaderItem.{HeaderItem}
use Rattle.pd_run.specs.Run.{verdict_of}
use Rattle.pd_run.specs.declared.verdict.Verdict.TheVariants.{Pass}
use Rattle.pd_record.specs.Recording.{RecordedScriptView, recorded_script_of, events_of}
use Rattle.pd_record.specs.Answered.{IsRight, IsRecording, IsSettled}
use Rattle.pd_layout.specs.ReadAs.{AreSameEvents, IsScript, IsReadAs}
use Rattle.pd_record.specs.Inner.{IsWritten}
use Rattle.pd_record.specs.PlacedScripts.{IsRead}
use Rattle.pd_record.specs.declared.recording_text.Recording.{Recording}
use Rattle.pd_record.specs.declared.record_error.RecordError.{RecordError}
use Rattle.pd_record.specs.declared.placed_script.Script.{Script}
use Rattle.pd_record.proofs.Again.{Bases, recorded_again}
use Rattle.pd_record.proofs.Followed.{recordings_follow}
use Rattle.pd_record.proofs.Lines.{as_many, passes_as_read}
use Rattle.pd_record.proofs.Whole.{is_recording}

-- a recording of a text, and of itself
pub record IsRecordedTwice (text : List (List ℕ)) (settings : Settings) (x : Recording) : Type 0 where
  pub once : IsRecording text settings x.lines x.events
  pub twice : IsRecording x.lines settings x.lines x.events

pub right_recording : Bases → (text : List (List ℕ)) (settings : Settings) (recorded_script : RecordedScriptView) (script : Script) (x : Recording)
    → IsRead (script_of text) (Some script) → recorded_script_of script.header.items script.events.items settings ≡ Ok recorded_script
    → IsReadAs script.header.items (events_of recorded_script) x.lines → x.events ≡ length (events_of recorded_script)
    → IsRecordedTwice text settings x
right_recording laws text settings recorded_script script x is h read many =
    let passed : verdict_of x.lines settings ≡ Pass x.events =
    passes_as_read script.header.items script.events.items settings recorded_script x.lines h read ∙ ap (λ (n : ℕ). Pass n) (sym many) in
    let right : IsRight script.header.items (events_of recorded_script) settings x.lines x.events = record { read = read; passes = passed; number = many } in
    let again : IsRecording x.lines settings x.lines (length (events_of recorded_script)) = recorded_again laws (recordings_follow laws) script.header.items script.events.items settings recorded_script x.lines h read in
    record {
      once = is_recording text x.lines settings x.events recorded_script script is h right (recordings_follow laws);
      twice = subst (λ (n : ℕ). IsRecording x.lines settings x.lines n) (sym many) again;
    }

-- the properties of an answer by what is known of it
pub on_ok : {P Q : Recording → Type 0} (r : Result Recording RecordError) → IfOk r P → ((x : Recording) → P x → Q x) → IfOk r Q
on_ok (Ok x) h go = go x h
on_ok (Err refusal) h go = tt

-- a text of whose events just these were recorded is read as what was recorded
own_read : (text : List (List ℕ)) (script : Script) (events : List Event) → IsRead (script_of text) (Some script) → AreSameEvents script.events.items events
    → IsReadAs script.header.items events text
own_read text script events is same =
    subst (λ (p : Parsed). IsScript script.header.items events p) (sym is) (record { whole = refl; header = refl; events = same })

-- so it is its own recording
pub kept_recording : Bases → (text : List (List ℕ)) (settings : Settings) (recorded_script : RecordedScriptView) (script : Script) (r : Result Recording RecordError)
    → IsRead (script_of text) (Some script) → recorded_script_of script.header.items script.events.items settings ≡ Ok recorded_script
    → AreSameEvents script.events.items (events_of recorded_script) → IfOk r (λ x. (x.lines ≡ text) × (x.events ≡ length script.events.items))
    → IfOk r (IsRecordedTwice text settings)
kept_recording laws text settings recorded_script script r is h own kept =
    on_ok r kept (λ x told. right_recording laws text settings recorded_script script x is h
    (subst (λ (lines : List (List ℕ)). IsReadAs script.header.items (events_of recorded_script) lines) (sym told.0) (own_read text script (events_of recorded_script) is own))
    (told.1 ∙ as_many script.events.items (events_of recorded_script) own))

-- and what was written is the recording where it is read as what was recorded
pub written_recording : Bases → (text : List (List ℕ)) (settings : Settings) (recorded_script : RecordedScriptView) (script : Script) (r : Result Recording RecordError)
    → IsRead (script_of text) (Some script) → recorded_script_of script.header.items script.events.items settings ≡ Ok recorded_script
    → IfOk r (IsWritten script.header.items (events_of recorded_script)) → IfOk r (IsRecordedTwice text settings)
written_recording laws text settings recorded_script script r is h written =
    on_ok r written (λ x told. right_recording laws text settings recorded_script script x is h told.0 told.2)

-- it stays as it is, since it is laid out as recordings are
pub settled_recording : (text : List (List ℕ)) (settings : Settings) (header : List HeaderItem) (events : List Event) (r : Result Recording RecordError)
    → IfOk r (IsWritten header events) → IfOk r (IsRecordedTwice text settings) → IfOk r (λ x. IsSettled x.lines settings)
settled_recording text settings header events (Ok x) written both = record {
  recorded_script = both.twice.recorded_script;
  recorded = both.twice.recorded;
  own = both.twice.right.read.events;
  canonical = written.1;
}
settled_recording text settings header events (Err refusal) written both = tt
