-- The output of the program that records, and its status.
use Rattle.std.specs.Prelude.{◌≡◌, ℕ, Bool, true, false, ◌⊎◌, List, [], ◌++◌, take, codes, Option, Some, None, Result, Ok, Err, IfSome}
use Rattle.std.specs.Io.KnownBytes.{Appends}
use Rattle.pd_settings.specs.declared.settings.Settings.{Settings}
use Rattle.pd_run.specs.declared.verdict.Verdict.{Verdict}
use Rattle.pd_run.specs.declared.verdict.Verdict.TheVariants.{Pass, Fail, Syntax, Unsupported, Limit}
use Rattle.pd_record.specs.Recording.{recording_of}
use Rattle.pd_record.specs.Answered.{IsRecording, Refuses}
use Rattle.pd_record.specs.declared.record_error.RecordError.{RecordError}
use Rattle.pd_record.specs.declared.record_error.RecordError.TheVariants as unrecorded
use Rattle.pd_mend.specs.Mended.{IsFinished, IsMended, RefusesToMend}
use Rattle.pd_mend.specs.declared.mend_error.MendError.{MendError}
use Rattle.pd_mend.specs.declared.mend_error.MendError.TheVariants as not_mended
use Rattle.pd_explain.specs.BlockLines.{AreIndented}
use Rattle.pd_protocol.specs.Input.{HasCause}
use Rattle.pd_protocol.specs.SettingsText.{settings_in}
use Rattle.pd_protocol.specs.WriterOutput.{WritesTo}
use Rattle.pd_protocol.specs.ProgramFaults.{fault_line}
use Rattle.pd_protocol.specs.Verdicts.{verdict_text}
use Rattle.pd_protocol.specs.declared.exit.Exit.{Exit}
use Rattle.pd_protocol.specs.declared.faults.ServeFault.{ServeFault}
use Rattle.pd_protocol.specs.declared.faults.ServeFault.TheVariants.{Differs, Read, Write, OutOfMemory}
use Rattle.pd_protocol.specs.declared.program_faults.ProgramFault.{ProgramFault}
use Rattle.pd_protocol.specs.declared.program_faults.ProgramFault.TheVariants.{Serving}
use Rattle.pdrecord.specs.ScriptInput.{script_in}
use Rattle.pdrecord.specs.Written.{IsWritten}
use Rattle.pdrecord.specs.declared.outcome.Outcome.{Outcome}
use Rattle.pdrecord.specs.declared.outcome.Outcome.TheVariants.{Recorded, Refused}
use Rattle.pdrecord.specs.declared.record_options.RecordMode.{RecordMode}
use Rattle.pdrecord.specs.declared.record_options.RecordMode.TheVariants.{Whole, Traced, Minimal}

-- the line that reports why a script isn't recorded
abbrev pub refusal_line : List ℕ → List ℕ
refusal_line why = codes "pdrecord: " ++ why ++ codes "\n"

-- a verdict at another line
abbrev pub verdict_with_line_replaced : ℕ → Verdict → Verdict
verdict_with_line_replaced line (Pass events) = Pass events
verdict_with_line_replaced line (Fail old kind) = Fail line kind
verdict_with_line_replaced line (Syntax old) = Syntax line
verdict_with_line_replaced line (Unsupported old) = Unsupported line
verdict_with_line_replaced line (Limit old) = Limit line

-- these octets report a refusal, a verdict with some line
abbrev pub IsReasonText : RecordError → List ℕ → Type 0
IsReasonText (unrecorded.Stopped verdict) why = (line : ℕ) × (why ≡ verdict_text (verdict_with_line_replaced line verdict))
IsReasonText unrecorded.TooLarge why = why ≡ codes "2 TooLarge"
IsReasonText unrecorded.TooManyEvents why = why ≡ codes "21 TooManyEvents"
IsReasonText unrecorded.TooLongGap why = why ≡ codes "22 TooLongGap"
IsReasonText unrecorded.Differs why = ⊥
IsReasonText unrecorded.OutOfMemory why = ⊥

-- these octets explain a refusal: the lines of a block below its first one where the script is why, else none
abbrev pub Explains : RecordError → List ℕ → Type 0
Explains (unrecorded.Stopped verdict) below = AreIndented below
Explains refusal below = below ≡ []

-- this comes of a refusal: the line that reports it, and those that explain it below that
abbrev pub IsRefused : RecordError → Outcome → Type 0
IsRefused refusal (Recorded octets) = ⊥
IsRefused refusal (Refused said) =
    (why : List ℕ) × (below : List ℕ) × IsReasonText refusal why × Explains refusal below × (said.items ≡ refusal_line why ++ below)

-- this comes of a text that is recorded whole, with a trace or without: the octets of its recording, or the lines that report why
-- there is none
abbrev pub IsWhole : Settings → Bool → List (List ℕ) → Outcome → Type 0
IsWhole settings trace text (Recorded octets) =
    (recording : List (List ℕ)) × (count : ℕ) × IsRecording text settings recording count × IsWritten trace recording octets.items
IsWhole settings trace text (Refused said) =
    (refusal : RecordError) × Refuses (recording_of text settings) refusal × IsRefused refusal (Refused said)

-- why a script that isn't mended isn't recorded
abbrev pub unmended : MendError → RecordError
unmended (not_mended.Stopped unmendable) = unrecorded.Stopped unmendable.verdict
unmended not_mended.TooLarge = unrecorded.TooLarge
unmended not_mended.OutOfMemory = unrecorded.OutOfMemory

-- this comes of a text that is recorded by the least change: the octets of the mended text, which is the text itself where that
-- passes and takes all packets, or the lines that report why it isn't mended
abbrev pub IsMendedText : Settings → List (List ℕ) → Outcome → Type 0
IsMendedText settings text (Recorded octets) =
    (mended : List (List ℕ)) × (count : ℕ) × IsMended settings text mended count
    × (IsFinished settings text → mended ≡ text) × IsWritten false mended octets.items
IsMendedText settings text (Refused said) =
    (refusal : MendError) × RefusesToMend settings text refusal × IsRefused (unmended refusal) (Refused said)

-- this comes of a script under settings, by the way in which it is recorded; it is too large where its lines are over the limits of
-- a text
abbrev pub IsOutcome : Settings → RecordMode → Option (List (List ℕ)) → Outcome → Type 0
IsOutcome settings mode None outcome = IsRefused unrecorded.TooLarge outcome
IsOutcome settings Whole (Some text) outcome = IsWhole settings false text outcome
IsOutcome settings Traced (Some text) outcome = IsWhole settings true text outcome
IsOutcome settings (Minimal drop) (Some text) outcome = IsMendedText settings text outcome

-- recording stops for a read, for memory, or since a recording isn't what was recorded
abbrev pub IsStop : ServeFault → Type 0
IsStop Read = Unit {0}
IsStop OutOfMemory = Unit {0}
IsStop Differs = Unit {0}
IsStop fault = ⊥

-- a script that was read isn't recorded for memory, or since a recording isn't what was recorded
abbrev pub IsUnmade : ServeFault → Type 0
IsUnmade OutOfMemory = Unit {0}
IsUnmade Differs = Unit {0}
IsUnmade fault = ⊥

-- this comes of an input, recorded in a way; settings that are no good end it with their fault, or out of memory, and 17
-- only an input of which a read failed, or that took all reads
abbrev pub Comes : Type 0 → Result Settings ProgramFault → RecordMode → Result Outcome ProgramFault → List ℕ → Type 0
Comes failed (Ok settings) mode (Ok outcome) input = IsOutcome settings mode (script_in input) outcome
Comes failed (Ok settings) mode (Err (Serving fault)) input = IsStop fault × HasCause {V = Outcome} (Err fault) failed (Some input)
Comes failed (Ok settings) mode (Err fault) input = ⊥
Comes failed (Err fault) mode end input = (end ≡ Err fault) ⊎ (end ≡ Err (Serving OutOfMemory))

-- a recording is written whole with status 0, or some of its first octets with that of a failed write; without one nothing is
-- written, and the lines that report why are written, with status 1 for a refusal and 2 for a fault
abbrev pub Ends : Result Outcome ProgramFault → Exit → Option (List ℕ) → Option (List ℕ) → Option (List ℕ) → Option (List ℕ) → Type 0
Ends (Ok (Recorded whole)) exit out_before out_after err_before err_after =
    ((exit.status ≡ 0) × (exit.stderr_ok ≡ true) × Appends out_before out_after whole.items × Appends err_before err_after [])
    ⊎ ((exit.status ≡ 2) × WritesTo exit.stderr_ok err_before err_after (fault_line (codes "pdrecord") (Serving Write)) × ((n : ℕ) × Appends out_before out_after (take n whole.items)))
Ends (Ok (Refused said)) exit out_before out_after err_before err_after =
    (exit.status ≡ 1) × WritesTo exit.stderr_ok err_before err_after said.items × Appends out_before out_after []
Ends (Err fault) exit out_before out_after err_before err_after =
    (exit.status ≡ 2) × WritesTo exit.stderr_ok err_before err_after (fault_line (codes "pdrecord") fault) × Appends out_before out_after []

-- a run with this settings text, in a way of recording, came to an end with what belongs to its input
abbrev pub FinishesRecording : Type 0 → Exit → List ℕ → RecordMode → Option (List ℕ) → Option (List ℕ) → Option (List ℕ) → Option (List ℕ) → Option (List ℕ) → Type 0
FinishesRecording failed exit text mode input out_before out_after err_before err_after =
    (end : Result Outcome ProgramFault) × IfSome input (Comes failed (settings_in text) mode end) × Ends end exit out_before out_after err_before err_after
