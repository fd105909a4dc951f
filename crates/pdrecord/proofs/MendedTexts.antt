-- The outcome of a text that is recorded by the least change.
use Rattle.std.proofs.Common.{◌≡◌, ℕ, false, List, subst}
use Rattle.std.specs.declared.vec.Vec.{Vec}
use Rattle.std.specs.declared.alloc.Global.{Global}
use Rattle.pd_settings.specs.declared.settings.Settings.{Settings}
use Rattle.pd_run.specs.Run.{verdict_of}
use Rattle.pd_mend.specs.Mended.{IsFinished, IsMended, RefusesToMend}
use Rattle.pd_mend.specs.declared.mend_error.MendError.{MendError}
use Rattle.pd_mend.specs.declared.mend_error.MendError.TheVariants.{Stopped, TooLarge}
use Rattle.pd_mend.specs.declared.mend_error.Unmendable.{Unmendable}
use Rattle.pd_record.specs.declared.record_error.RecordError.TheVariants as unrecorded
use Rattle.pdrecord.specs.RecordProgram.{IsMendedText, IsRefused, unmended}
use Rattle.pdrecord.specs.Written.{IsWritten}
use Rattle.pdrecord.specs.declared.outcome.Outcome.{Outcome}
use Rattle.pdrecord.specs.declared.outcome.Outcome.TheVariants.{Recorded, Refused}

pub is_mended_text : (settings : Settings) (text mended : List (List ℕ)) (count : ℕ) (octets : Vec ℕ Global) → IsMended settings text mended count → (IsFinished settings text → mended ≡ text) → IsWritten false mended octets.items → IsMendedText settings text (Recorded octets)
is_mended_text settings text mended count octets is stays written = (mended, count, is, stays, written)

pub is_unmended_text : (settings : Settings) (text : List (List ℕ)) (refusal : MendError) (outcome : Outcome) → RefusesToMend settings text refusal → IsRefused (unmended refusal) outcome → IsMendedText settings text outcome
is_unmended_text settings text refusal (Recorded octets) why refused = absurd refused
is_unmended_text settings text refusal (Refused said) why refused = (refusal, why, refused)

-- the verdict of a text at which no mend helps is its own
pub own_verdict : (settings : Settings) (text : List (List ℕ)) (refusal : MendError) (unmendable : Unmendable) → refusal ≡ Stopped unmendable → RefusesToMend settings text refusal → unmendable.verdict ≡ verdict_of unmendable.lines settings
own_verdict settings text refusal unmendable e why = (subst (RefusesToMend settings text) e why).1

pub is_stopped_text : (settings : Settings) (text : List (List ℕ)) (refusal : MendError) (unmendable : Unmendable) (outcome : Outcome) → refusal ≡ Stopped unmendable → RefusesToMend settings text refusal → IsRefused (unrecorded.Stopped unmendable.verdict) outcome → IsMendedText settings text outcome
is_stopped_text settings text refusal unmendable outcome e why refused = is_unmended_text settings text (Stopped unmendable) outcome (subst (RefusesToMend settings text) e why) refused

pub is_large_text : (settings : Settings) (text : List (List ℕ)) (refusal : MendError) (outcome : Outcome) → refusal ≡ TooLarge → RefusesToMend settings text refusal → IsRefused unrecorded.TooLarge outcome → IsMendedText settings text outcome
is_large_text settings text refusal outcome e why refused = is_unmended_text settings text TooLarge outcome (subst (RefusesToMend settings text) e why) refused
