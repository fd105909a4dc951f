-- The steps of serving with workers; cited by private contracts alone.
use Rattle.std.specs.Prelude.{◌≡◌, ℕ, List, map, Option, unwrap_or}
use Rattle.pd_book.specs.declared.faults.BookFault.{BookFault}
use Rattle.pd_book.specs.declared.faults.BookFault.TheVariants as book
use Rattle.pd_book.specs.declared.report.Row.{Row}
use Rattle.pd_book.specs.Acts.{NamedText}
use Rattle.pd_book.specs.Report.{ReportView}
use Rattle.pd_protocol.specs.declared.command.Command.{Command}
use Rattle.pd_protocol.specs.declared.command.Command.TheVariants.{Settle}
use Rattle.pd_protocol.specs.declared.faults.ServeFault.{ServeFault}
use Rattle.pd_protocol.specs.declared.faults.ServeFault.TheVariants.{NoWorkers, Differs, OutOfMemory}
use Rattle.pd_cli.specs.Output.{refused}

-- the line of a refusal for this reason, or where there is none for a full history
abbrev pub Declines : Option BookFault → List ℕ → Type 0
Declines refusal octets = octets ≡ refused (unwrap_or refusal book.HistoryFull)

-- the scripts of rows
abbrev pub scripts_of : List Row → List NamedText
scripts_of rows = map (λ (row : Row). (row.name, row.text)) rows

-- both reports are of the same scripts under the same settings
abbrev pub IsOfSame : ReportView → ReportView → Type 0
IsOfSame report other = (report.settings ≡ other.settings) × (scripts_of report.rows ≡ scripts_of other.rows)

-- why a command with workers has no reply
abbrev pub FailsBeside : ServeFault → Command → Type 0
FailsBeside NoWorkers command = command ≡ Settle
FailsBeside Differs command = Unit {0}
FailsBeside OutOfMemory command = Unit {0}
FailsBeside fault command = ⊥
