-- The lines below the line of a refusal.
use Rattle.std.proofs.Common.{◌≡◌, ℕ, List, [], ◌++◌, refl}
use Rattle.pd_explain.specs.BlockLines.{AreIndented}
use Rattle.pd_record.specs.declared.record_error.RecordError.{RecordError}
use Rattle.pd_record.specs.declared.record_error.RecordError.TheVariants as unrecorded
use Rattle.pd_run.specs.declared.verdict.Verdict.{Verdict}
use Rattle.pdrecord.specs.RecordProgram.{Explains, IsRefused, IsReasonText, refusal_line}
use Rattle.pdrecord.specs.declared.outcome.Outcome.TheVariants.{Refused}
use Rattle.std.specs.declared.vec.Vec.{Vec}
use Rattle.std.specs.declared.alloc.Global.{Global}

-- no lines are indented
pub no_lines : (below : List ℕ) → below ≡ [] → AreIndented below
no_lines below e = ([], refl, e)

-- no lines explain any refusal
pub explains_none : (refusal : RecordError) (below : List ℕ) → below ≡ [] → Explains refusal below
explains_none (unrecorded.Stopped verdict) below e = no_lines below e
explains_none unrecorded.TooLarge below e = e
explains_none unrecorded.TooManyEvents below e = e
explains_none unrecorded.TooLongGap below e = e
explains_none unrecorded.Differs below e = e
explains_none unrecorded.OutOfMemory below e = e

-- a line with what explains it
pub is_refused : (refusal : RecordError) (why below : List ℕ) (said : Vec ℕ Global) → IsReasonText refusal why → Explains refusal below → said.items ≡ refusal_line why ++ below → IsRefused refusal (Refused said)
is_refused refusal why below said t x e = (why, below, t, x, e)

-- a verdict with what explains it
pub is_stopped : (verdict : Verdict) (why below : List ℕ) (said : Vec ℕ Global) → IsReasonText (unrecorded.Stopped verdict) why → AreIndented below → said.items ≡ refusal_line why ++ below → IsRefused (unrecorded.Stopped verdict) (Refused said)
is_stopped verdict why below said t x e = (why, below, t, x, e)
