-- The verdicts of reasons to stop.
use Rattle.std.specs.Prelude.{ℕ}
use Rattle.pd_host.specs.declared.halts.Halt.{Halt}
use Rattle.pd_host.specs.declared.halts.Halt.TheVariants as halt
use Rattle.pd_match.specs.declared.kinds.Kind.TheVariants as kind
use Rattle.pd_run.specs.declared.prechecks.Precheck.{Precheck}
use Rattle.pd_run.specs.declared.prechecks.Precheck.TheVariants.{OverLimit, NotRun, Backwards}
use Rattle.pd_run.specs.declared.verdict.Verdict.{Verdict}
use Rattle.pd_run.specs.declared.verdict.Verdict.TheVariants.{Fail, Unsupported, Limit}
use Rattle.pd_run.specs.declared.stop_reason.StopReason.{StopReason}
use Rattle.pd_run.specs.declared.stop_reason.StopReason.TheVariants.{FailedPrecheck, Halted, Missing, Differs, Answered}

-- the verdict of a check that an event doesn't pass, at a line
abbrev pub precheck_verdict : ℕ → Precheck → Verdict
precheck_verdict line OverLimit = Limit line
precheck_verdict line NotRun = Unsupported line
precheck_verdict line Backwards = Fail line kind.Backwards

-- the verdict where the sender halts
abbrev pub verdict_by : ℕ → Halt → Verdict
verdict_by line halt.Unsupported = Unsupported line
verdict_by line halt.Limit = Limit line

-- the verdict of a reason
abbrev pub verdict_at : ℕ → StopReason → Verdict
verdict_at line (FailedPrecheck bar) = precheck_verdict line bar
verdict_at line (Halted h) = verdict_by line h
verdict_at line Missing = Fail line kind.Missing
verdict_at line (Differs k sent r) = Fail line k
verdict_at line (Answered answer r) = Fail line kind.Result
