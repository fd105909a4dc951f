-- The octets that serving writes without workers, by the grammar; a law says that they are the output.
use Rattle.std.specs.Prelude.{◌≡◌, ◌⊎◌, ℕ, Bool, List, [], ◌∷◌, ◌++◌, All, is_some, Option, None, Result, Ok, Err, IfSome}
use Rattle.std.specs.Io.KnownBytes.{Appends}
use Rattle.pd_settings.specs.declared.settings.Settings.{Settings}
use Rattle.pd_book.specs.declared.faults.BookFault.{BookFault}
use Rattle.pd_book.specs.declared.report.Row.{Row}
use Rattle.pd_book.specs.Acts.{answered}
use Rattle.pd_book.specs.Refusals.{next_job}
use Rattle.pd_book.specs.Report.{ReportView}
use Rattle.pd_book.specs.History.{History}
use Rattle.pd_book.specs.Turns.{settled_in}
use Rattle.pd_protocol.specs.Commands.{InputItem, does, stops, commands}
use Rattle.pd_protocol.specs.declared.command.Command.{Command}
use Rattle.pd_protocol.specs.declared.command.Command.TheVariants.{Show, Settle}
use Rattle.pd_protocol.specs.declared.faults.ServeFault.{ServeFault}
use Rattle.pd_protocol.specs.declared.faults.ServeFault.TheVariants.{HistoryFull, BadCommand, Truncated, Read, Write, OutOfMemory}
use Rattle.pd_cli.specs.Report.{rendered}
use Rattle.pd_cli.specs.Output.{all_pass, done}
use Rattle.pd_cli.specs.Beside.{IsScratchOf, IsPartOf, MayAnswer}
use Rattle.pd_cli.specs.Sessions.{PrintsAll, PrintsFirst}

-- the report as it stands: just the rows of answered scripts have their verdicts
abbrev pub IsReportOf : History → ReportView → Type 0
IsReportOf history report = IsPartOf history report × All (λ (row : Row). is_some row.verdict ≡ answered history.past row.name) report.rows

-- starts and their finishes by turns lead to a history after which no script waits
abbrev pub SettlesTo : History → History → Type 0
SettlesTo history after = (turns : ℕ) × (settled_in turns history ≡ Ok after) × (next_job after ≡ None)

-- or to a start that is refused
abbrev pub IsRefusedStart : History → Type 0
IsRefusedStart history = (turns : ℕ) × (fault : BookFault) × (settled_in turns history ≡ Err fault)

-- the octets that a command prints, and the history after it
abbrev pub Prints : History → Command → List ℕ → History → Type 0
Prints history Show octets next = ((report : ReportView) × IsReportOf history report × (octets ≡ rendered report)) × (next ≡ history)
Prints history Settle octets next = ((report : ReportView) × IsScratchOf history report × (octets ≡ rendered report)) × SettlesTo history next
Prints history command octets next = done history command ≡ (octets, next)

-- serving stops at these items: this fault stands there, or a settle that is refused a start
abbrev pub Stops : ServeFault → History → List InputItem → Type 0
Stops fault history items =
    (rest : List InputItem) × ((items ≡ stops fault ∷ rest) ⊎ ((items ≡ does Settle ∷ rest) × (fault ≡ HistoryFull) × IsRefusedStart history))

-- the first of some items print these octets, and serving stops at the others
abbrev pub WritesUpTo : ServeFault → List ℕ → History → List InputItem → Type 0
WritesUpTo fault octets history items = (now : History) × (left : List InputItem) × PrintsFirst Prints history items octets now left × Stops fault now left

-- these octets are a prefix of what the first of some items print
abbrev pub WritesPart : List ℕ → History → List InputItem → Type 0
WritesPart octets history items = (more : List ℕ) × (now : History) × (left : List InputItem) × PrintsFirst Prints history items (octets ++ more) now left

-- these octets are written for items after a history, and this is how it ends
abbrev pub Writes : Result Bool ServeFault → List ℕ → History → List InputItem → Type 0
Writes (Ok passed) octets history items =
    (after : History) × (report : ReportView) × PrintsAll Prints history items octets after × IsReportOf after report × (passed ≡ all_pass report)
Writes (Err HistoryFull) octets history items = WritesUpTo HistoryFull octets history items
Writes (Err BadCommand) octets history items = WritesUpTo BadCommand octets history items
Writes (Err Truncated) octets history items = WritesUpTo Truncated octets history items
Writes (Err Read) octets history items = WritesPart octets history items
Writes (Err Write) octets history items = WritesPart octets history items
Writes (Err OutOfMemory) octets history items = WritesPart octets history items
Writes (Err fault) octets history items = ⊥

-- a writer got what is written for an input without workers, and this is how it ends; with workers too this may be
abbrev pub ServesAlone : Result Bool ServeFault → Settings → Option (List ℕ) → Option (List ℕ) → Option (List ℕ) → Type 0
ServesAlone result settings input before after =
    (octets : List ℕ) × Appends before after octets
    × IfSome input (λ input. MayAnswer result octets (record { opening = settings; past = [] }) (commands input) × Writes result octets (record { opening = settings; past = [] }) (commands input))
