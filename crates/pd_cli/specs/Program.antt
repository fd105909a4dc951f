-- The output of the program, and its status.
use Rattle.std.specs.Prelude.{◌≡◌, ℕ, suc, zero, Bool, true, false, ◌⊎◌, List, [], ◌++◌, codes, Option, Some, Result, Ok, Err, IfSome}
use Rattle.std.specs.Io.KnownBytes.{Appends}
use Rattle.pd_settings.specs.declared.settings.Settings.{Settings}
use Rattle.pd_protocol.specs.ChosenOptions.{ReportOptions}
use Rattle.pd_protocol.specs.Commands.{commands}
use Rattle.pd_protocol.specs.Input.{HasCause}
use Rattle.pd_protocol.specs.ProgramFaults.{fault_line}
use Rattle.pd_protocol.specs.WriterOutput.{WritesTo}
use Rattle.pd_protocol.specs.SettingsText.{settings_in}
use Rattle.pd_protocol.specs.declared.exit.Exit.{Exit}
use Rattle.pd_protocol.specs.declared.faults.ServeFault.{ServeFault}
use Rattle.pd_protocol.specs.declared.faults.ServeFault.TheVariants.{OutOfMemory}
use Rattle.pd_protocol.specs.declared.program_faults.ProgramFault.{ProgramFault}
use Rattle.pd_protocol.specs.declared.program_faults.ProgramFault.TheVariants.{Serving}
use Rattle.pd_cli.specs.Beside.{MayAnswer, EndsBeside}
use Rattle.pd_cli.specs.Grammatical.{Writes}
use Rattle.pd_cli.specs.StartedJobs.{AreJobsOfRun}
use Rattle.pd_cli.specs.StepLines.{FinishedJob, AreNumbered}
use Rattle.pd_cli.specs.Reported.{AreReportedUnlessFailed}

-- the number of workers adds this: without any just the output of the input is written, by the grammar; beside some no
-- settle ends for a full history
abbrev pub ServedBy : ℕ → Settings → Result Bool ServeFault → List ℕ → List ℕ → Type 0
ServedBy zero settings end octets input = Writes end octets (record { opening = settings; past = [] }) (commands input)
ServedBy (suc more) settings end octets input = EndsBeside end

-- the octets that serving writes, and how it ends: with 17 only where a read failed, or all were made
abbrev pub Served : Type 0 → ℕ → Settings → Result Bool ServeFault → List ℕ → List ℕ → Type 0
Served failed workers settings end octets input =
    MayAnswer end octets (record { opening = settings; past = [] }) (commands input) × ServedBy workers settings end octets input × HasCause end failed (Some input)

-- where the settings are good the input is served with them and so many workers; where they are not, nothing is written,
-- and the run ends with their fault or out of memory
abbrev pub Runs : Type 0 → ℕ → Result Settings ProgramFault → Result Bool ProgramFault → List ℕ → List ℕ → Type 0
Runs failed workers (Ok settings) (Ok passed) octets input = Served failed workers settings (Ok passed) octets input
Runs failed workers (Ok settings) (Err (Serving fault)) octets input = Served failed workers settings (Err fault) octets input
Runs failed workers (Ok settings) (Err fault) octets input = ⊥
Runs failed workers (Err fault) end octets input = (octets ≡ []) × ((end ≡ Err fault) ⊎ (end ≡ Err (Serving OutOfMemory)))

-- how serving ended, as the end of a run
abbrev pub end_of : Result Bool ServeFault → Result Bool ProgramFault
end_of (Ok passed) = Ok passed
end_of (Err fault) = Err (Serving fault)

-- the status: 0 where each row of the last report passes, 1 where one does not, 2 at a fault
abbrev pub status_of : Result Bool ProgramFault → ℕ
status_of (Ok true) = 0
status_of (Ok false) = 1
status_of (Err fault) = 2

-- the text on standard error: the line of a fault
abbrev pub stderr_of : Result Bool ProgramFault → List ℕ
stderr_of (Ok passed) = []
stderr_of (Err fault) = fault_line (codes "pdregress") fault

-- a run with so many workers and this settings text came to an end with its status, reported its jobs as it was asked, which
-- are numbered from 1 on, then wrote the line of its end, and the output that belongs to it, where a read failed or none did
abbrev pub Finishes : Type 0 → Exit → ℕ → ReportOptions → List ℕ → Option (List ℕ) → Option (List ℕ) → Option (List ℕ) → Option (List ℕ) → Option (List ℕ) → Type 0
Finishes failed exit workers report_options text input out_before out_after err_before err_after =
    (end : Result Bool ProgramFault) × (exit.status ≡ status_of end)
    × ((jobs : List FinishedJob) × (lines : List ℕ) × AreNumbered 0 jobs × IfSome input (AreJobsOfRun workers (settings_in text) end jobs) × AreReportedUnlessFailed exit.stderr_ok report_options jobs lines × WritesTo exit.stderr_ok err_before err_after (lines ++ stderr_of end))
    × ((octets : List ℕ) × Appends out_before out_after octets × IfSome input (Runs failed workers (settings_in text) end octets))

-- the same of the output alone, for a reader who leaves out the reports of jobs
abbrev pub FinishesOutput : Type 0 → Exit → ℕ → List ℕ → Option (List ℕ) → Option (List ℕ) → Option (List ℕ) → Type 0
FinishesOutput failed exit workers text input out_before out_after =
    (end : Result Bool ProgramFault) × (exit.status ≡ status_of end)
    × ((octets : List ℕ) × Appends out_before out_after octets × IfSome input (Runs failed workers (settings_in text) end octets))
