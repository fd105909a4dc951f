-- The recording of a whole script.
use Rattle.std.proofs.Common.{◌≡◌, ◌≢◌, ℕ, List, [], ◌∷◌, ◌++◌, Option, Some, None, Result, Ok, Err, IfErr, IsErrAnd, refl, ap, subst, sym, ◌∙◌}
use Rattle.std.specs.Prelude.{IsSome}
use Rattle.pd_settings.specs.declared.settings.Settings.{Settings}
use Rattle.pd_script.specs.Script.{script_of}
use Rattle.pd_script.specs.declared.parsed.Parsed.{Parsed}
use Rattle.pd_script.specs.declared.script_events.Event.{Event}
use Rattle.pd_run.specs.Run.{verdict_in}
use Rattle.pd_record.specs.FollowsRun.{RecordingsFollowRuns}
use Rattle.pd_record.specs.Recording.{RecordedScriptView, records, recorded_script_of, recording_in, recording_of, events_of}
use Rattle.pd_record.specs.Answered.{IsRight, IsRecording, Refuses}
use Rattle.pd_record.specs.PlacedScripts.{IsRead}
use Rattle.pd_record.specs.Recorder.{RecorderView, EventRecordingView, Answers, then_do, recorded}
use Rattle.pd_record.specs.Inner.{Gives}
use Rattle.pd_record.specs.declared.record_error.RecordError.{RecordError}
use Rattle.pd_record.specs.declared.record_error.RecordError.TheVariants.{Stopped, TooLarge, TooManyEvents, TooLongGap, Differs, OutOfMemory}
use Rattle.pd_record.specs.declared.placed_script.Script.{Script}

-- the first of the events is recorded, and then the others
pub records_more : (es rest : List Event) (e : Event) (per_event : List EventRecordingView) (t u : RecorderView) (took : EventRecordingView)
    → es ≡ e ∷ rest → recorded t e ≡ Ok (u, took) → records es per_event t ≡ records rest (per_event ++ took ∷ []) u
records_more es rest e per_event t u took split h =
    ap (λ (l : List Event). records l per_event t) split
    ∙ ap (then_do (λ (x : RecorderView × EventRecordingView). records rest (per_event ++ x.1 ∷ []) x.0)) h

-- or refused
pub records_refused : (es rest : List Event) (e : Event) (per_event : List EventRecordingView) (t : RecorderView) (refusal : RecordError)
    → es ≡ e ∷ rest → recorded t e ≡ Err refusal → records es per_event t ≡ Err refusal
records_refused es rest e per_event t refusal split h =
    ap (λ (l : List Event). records l per_event t) split
    ∙ ap (then_do (λ (x : RecorderView × EventRecordingView). records rest (per_event ++ x.1 ∷ []) x.0)) h

-- a text that is no script is refused with its verdict
pub no_script : (settings : Settings) (parsed : Parsed) → IsSome parsed.fault
    → recording_in settings parsed ≡ Err (Stopped (verdict_in settings parsed))
no_script settings parsed = go parsed.fault refl
  where
    go : (fault : Option ℕ) → parsed.fault ≡ fault → IsSome fault → recording_in settings parsed ≡ Err (Stopped (verdict_in settings parsed))
    go None is some = absurd cc
    go (Some line) is some = rw is refl

-- the recording of a text, by the script that was read of it
pub recorded_as_read : (text : List (List ℕ)) (settings : Settings) (script : Script) → IsRead (script_of text) (Some script)
    → recording_of text settings ≡ recorded_script_of script.header.items script.events.items settings
recorded_as_read text settings script is = ap (recording_in settings) is

-- a text that is read and passes as what was recorded is the recording
pub is_recording : (text lines : List (List ℕ)) (settings : Settings) (count : ℕ) (recorded_script : RecordedScriptView) (script : Script)
    → IsRead (script_of text) (Some script)
    → recorded_script_of script.header.items script.events.items settings ≡ Ok recorded_script
    → IsRight script.header.items (events_of recorded_script) settings lines count
    → RecordingsFollowRuns
    → IsRecording text settings lines count
is_recording text lines settings count recorded_script script is h right follow = record {
  recorded_script = recorded_script;
  recorded = recorded_as_read text settings script is ∙ h;
  follows = λ n passes. follow text settings n recorded_script passes (recorded_as_read text settings script is ∙ h);
  right = subst (λ (p : Parsed). IsRight p.header.items (events_of recorded_script) settings lines count) (sym is) right;
}

-- a reason to refuse it is the only one
only_reason : (outcome : Answers RecordedScriptView) (refusal : RecordError) → outcome ≡ Err refusal → IfErr outcome (λ other. other ≡ refusal)
only_reason outcome refusal is = subst (λ (o : Answers RecordedScriptView). IfErr o (λ other. other ≡ refusal)) (sym is) refl

refuses : (outcome : Answers RecordedScriptView) (refusal : RecordError) → (refusal ≢ OutOfMemory → outcome ≡ Err refusal) → Refuses outcome refusal
refuses outcome (Stopped v) h = h (λ e. absurd cc)
refuses outcome TooLarge h = only_reason outcome TooLarge (h (λ e. absurd cc))
refuses outcome TooManyEvents h = h (λ e. absurd cc)
refuses outcome TooLongGap h = h (λ e. absurd cc)
refuses outcome Differs h = only_reason outcome Differs (h (λ e. absurd cc))
refuses outcome OutOfMemory h = tt

-- a refusal that is handed on
pub refused_with : {T : Type 0} (outcome : Answers RecordedScriptView) (r : Result T RecordError) (refusal : RecordError) → IsErrAnd r (λ x. x ≡ refusal)
    → (refusal ≢ OutOfMemory → outcome ≡ Err refusal) → IfErr r (λ x. Refuses outcome x)
refused_with outcome (Ok x) refusal i h = tt
refused_with outcome (Err x) refusal i h = subst (λ y. Refuses outcome y) (sym i) (refuses outcome refusal h)

-- the same of what is recorded
pub gives_refused : {A B : Type 0} (seen : A → B) (outcome : Answers (RecorderView × B)) (r : Result A RecordError) (refusal : RecordError) (new : RecorderView)
    → IsErrAnd r (λ x. x ≡ refusal) → (refusal ≢ OutOfMemory → outcome ≡ Err refusal) → Gives seen outcome r new
gives_refused seen outcome (Ok x) refusal new i h = absurd i
gives_refused seen outcome (Err x) refusal new i h = subst (λ (y : RecordError). y ≢ OutOfMemory → outcome ≡ Err y) (sym i) h
