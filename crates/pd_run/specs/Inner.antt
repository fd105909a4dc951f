-- Definitions that contracts of private functions cite and no public one does.
use Rattle.std.specs.Prelude.{◌≡◌, ℕ, slice_get, Option, Some, None, Result, Ok, Err, alloc_error}
use Rattle.std.specs.declared.alloc.AllocError.{AllocError}
use Rattle.pd_host.specs.declared.halts.HostEnd.{HostEnd}
use Rattle.pd_host.specs.declared.halts.HostEnd.TheVariants as ending
use Rattle.pd_host.specs.Growth.{ExpiriesQueueNothing, ArrivalsQueueOurSyn, CallsQueueWhatTheyAsk, CallsAskFew}
use Rattle.pd_host.specs.InputLaws.{OtherSettingsKeepUp, OnlyUsesMatter, CallsOnlyUse, AdvancesUseNone, ArrivalsNote, CallsNote, AdvancesNote}
use Rattle.pd_host.specs.Laws.{StartsUpToDate, AdvancesKeepUp, ArrivalsKeepUp, CallsKeepUp, TakingKeepsUp}
use Rattle.pd_seg.specs.declared.segments.Sent.{Sent}
use Rattle.pd_run.specs.RunStates.{RunStateView}
use Rattle.pd_run.specs.Step.{at_line}
use Rattle.pd_run.specs.declared.verdict.Verdict.{Verdict}
use Rattle.pd_run.specs.declared.stop_reason.StopKind.{StopKind}
use Rattle.pd_run.specs.declared.stop_reason.StopKind.TheVariants as stop
use Rattle.pd_run.specs.declared.stop_reason.StopReason.{StopReason}
use Rattle.pd_run.specs.declared.stop_reason.StopReason.TheVariants.{FailedPrecheck, Halted, Missing, Differs, Answered}

-- how an event stops a run where the sender has ended
abbrev pub ended_by : HostEnd → Result StopKind AllocError
ended_by (ending.Halted halt) = Ok (stop.Halted halt)
ended_by ending.OutOfMemory = Err alloc_error

-- an event stopped the run so, and left it in this state: of one that halted nothing is claimed, a packet that differs still
-- stands there, and an answer was given before
abbrev pub StopsBy : Result RunStateView StopReason → StopKind → RunStateView → Type 0
StopsBy came (stop.FailedPrecheck bar) left = came ≡ Err (FailedPrecheck bar)
StopsBy came (stop.Halted halt) left = came ≡ Err (Halted halt)
StopsBy came stop.Missing left = came ≡ Err Missing
StopsBy came (stop.Differs kind) left =
    (sent : Sent) × (slice_get left.host.state.endpoint.outbox 0 ≡ Some sent) × (came ≡ Err (Differs kind sent left))
StopsBy came (stop.Answered answer) left = came ≡ Err (Answered answer left)

-- the verdict at a line of each event that stops a run so
abbrev pub GivesVerdict : StopKind → ℕ → Verdict → Type 0
GivesVerdict stopped line v = (came : Result RunStateView StopReason) (left : RunStateView) → StopsBy came stopped left → at_line line came ≡ Err v

-- the reason of each event that stops a run so and leaves it in this state
abbrev pub IsReasonOf : StopKind → RunStateView → StopReason → Type 0
IsReasonOf stopped left reason = (came : Result RunStateView StopReason) → StopsBy came stopped left → came ≡ Err reason

-- how an event ended, and the state that it left
abbrev pub Ends : Result RunStateView StopReason → Option StopKind → RunStateView → Type 0
Ends came None new = came ≡ Ok new
Ends came (Some stopped) new = StopsBy came stopped new

-- runs rest on this: the sender stays up to date, and no input queues more than it names
pub record SenderIsLawful : Type 0 where
  pub start : StartsUpToDate
  pub advances : AdvancesKeepUp
  pub arrivals : ArrivalsKeepUp
  pub calls : CallsKeepUp
  pub taking : TakingKeepsUp
  pub rebinding : OtherSettingsKeepUp
  pub queued_by_expiries : ExpiriesQueueNothing
  pub queued_by_arrivals : ArrivalsQueueOurSyn
  pub queued_by_calls : CallsQueueWhatTheyAsk
  pub asked_by_calls : CallsAskFew

-- the sender's laws of its settings
pub record InputsOnlyUse : Type 0 where
  pub arrivals : OnlyUsesMatter
  pub calls : CallsOnlyUse
  pub advances : AdvancesUseNone
  pub arrivals_note : ArrivalsNote
  pub calls_note : CallsNote
  pub advances_note : AdvancesNote
