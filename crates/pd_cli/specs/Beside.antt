-- The octets that serving writes, with workers or without. Which rows of a `show` are pending and when the history is full
-- depends on the workers; all else on the commands accepted so far alone, as a history in which no job is started.
use Rattle.std.specs.Prelude.{◌≡◌, ◌⊎◌, ℕ, Bool, List, [], ◌∷◌, ◌++◌, Option, Some, None, option_map, Result, Ok, Err, IfSome}
use Rattle.std.specs.Io.KnownBytes.{Appends}
use Rattle.pd_settings.specs.declared.settings.Settings.{Settings}
use Rattle.pd_settings.specs.Keys.{key_named}
use Rattle.pd_book.specs.declared.act.Act.{Act}
use Rattle.pd_book.specs.declared.act.Act.TheVariants as act
use Rattle.pd_book.specs.declared.faults.BookFault.{BookFault}
use Rattle.pd_book.specs.declared.faults.BookFault.TheVariants as book
use Rattle.pd_book.specs.Acts.{texts, present_text, now}
use Rattle.pd_book.specs.Headline.{RowsAreOfWhole}
use Rattle.pd_book.specs.Refusals.{refusal_if_name_bad_taken_or_too_many, line_edit_refusal, missing_refusal, refusal_if_key_unknown_or_value_bad}
use Rattle.pd_book.specs.Report.{ReportView, IsFromScratch, scratch}
use Rattle.pd_book.specs.History.{History, after_act}
use Rattle.pd_protocol.specs.Commands.{InputItem, does, stops, commands}
use Rattle.pd_protocol.specs.declared.command.Command.{Command}
use Rattle.pd_protocol.specs.declared.command.Command.TheVariants.{Add, Edit, Remove, Set, Show, Settle}
use Rattle.pd_protocol.specs.declared.faults.ServeFault.{ServeFault}
use Rattle.pd_protocol.specs.declared.faults.ServeFault.TheVariants.{HistoryFull, NoWorkers, Differs, BadCommand, Truncated, Read, Write, OutOfMemory}
use Rattle.pd_cli.specs.Report.{rendered}
use Rattle.pd_cli.specs.Output.{refused, all_pass}
use Rattle.pd_cli.specs.Sessions.{PrintsAll}

-- the report from scratch of the scripts and the settings as they stand
abbrev pub from_scratch : History → ReportView
from_scratch history = scratch (texts history.past) (now history.opening history.past)

-- it is the report from scratch, by the grammar
abbrev pub IsScratchOf : History → ReportView → Type 0
IsScratchOf history = IsFromScratch (texts history.past) (now history.opening history.past)

-- a report of the scripts as they stand under the present settings, in which each row is pending or the one from scratch
abbrev pub IsPartOf : History → ReportView → Type 0
IsPartOf history report = (report.settings ≡ now history.opening history.past) × RowsAreOfWhole history.opening history.past report

-- the octets that an act prints, and the history after it: where there is a reason to refuse it, a full history apart, that
-- refusal; else it is accepted, or refused for a full history
abbrev pub MayAct : History → Option BookFault → Option Act → List ℕ → History → Type 0
MayAct history (Some fault) act octets next = (octets ≡ refused fault) × (next ≡ history)
MayAct history None (Some act) octets next = ((octets ≡ []) × (next ≡ after_act history act)) ⊎ ((octets ≡ refused book.HistoryFull) × (next ≡ history))
MayAct history None None octets next = ⊥

-- the octets that a command may print, and the history after it; lines that alone are over the limits of a text are refused
-- before all else
abbrev pub MayPrint : History → Command → List ℕ → History → Type 0
MayPrint history (Add name None) octets next = MayAct history (Some book.TooLarge) None octets next
MayPrint history (Add name (Some text)) octets next = MayAct history (refusal_if_name_bad_taken_or_too_many history.past name) (Some (act.Add name text)) octets next
MayPrint history (Edit name None) octets next = MayAct history (Some book.TooLarge) None octets next
MayPrint history (Edit name (Some edit)) octets next = MayAct history (line_edit_refusal (present_text history.past name) edit) (Some (act.Edit name edit)) octets next
MayPrint history (Remove name) octets next = MayAct history (missing_refusal history.past name) (Some (act.Remove name)) octets next
MayPrint history (Set key value) octets next =
    MayAct history (refusal_if_key_unknown_or_value_bad (now history.opening history.past) (key_named key) value) (option_map (λ k. act.Set k value) (key_named key)) octets next
MayPrint history Show octets next = ((report : ReportView) × IsPartOf history report × (octets ≡ rendered report)) × (next ≡ history)
MayPrint history Settle octets next = ((report : ReportView) × IsScratchOf history report × (octets ≡ rendered report)) × (next ≡ history)

-- the octets that items may print, one after another, and the history after them
abbrev pub MayPrintAll : History → List InputItem → List ℕ → History → Type 0
MayPrintAll = PrintsAll MayPrint

-- these octets are what the first of some items may print, and P holds of the others
abbrev pub StopsBefore : (List InputItem → Type 0) → History → List InputItem → List ℕ → Type 0
StopsBefore P history items octets =
    (first rest : List InputItem) × (after : History) × (items ≡ first ++ rest) × MayPrintAll history first octets after × P rest

-- a settle comes next
abbrev pub SettlesNext : List InputItem → Type 0
SettlesNext items = (rest : List InputItem) × (items ≡ does Settle ∷ rest)

-- some command comes next
abbrev pub DoesNext : List InputItem → Type 0
DoesNext items = (command : Command) × (rest : List InputItem) × (items ≡ does command ∷ rest)

-- these octets may be written for items, with this end; where a write fails they are a prefix of what may be
abbrev pub MayAnswer : Result Bool ServeFault → List ℕ → History → List InputItem → Type 0
MayAnswer (Ok passed) octets history items =
    (after : History) × (report : ReportView) × MayPrintAll history items octets after × IsScratchOf after report × (passed ≡ all_pass report)
MayAnswer (Err HistoryFull) octets history items = StopsBefore SettlesNext history items octets
MayAnswer (Err NoWorkers) octets history items = StopsBefore SettlesNext history items octets
MayAnswer (Err Differs) octets history items = StopsBefore DoesNext history items octets
MayAnswer (Err BadCommand) octets history items = StopsBefore (λ rest. rest ≡ stops BadCommand ∷ []) history items octets
MayAnswer (Err Truncated) octets history items = StopsBefore (λ rest. rest ≡ stops Truncated ∷ []) history items octets
MayAnswer (Err Read) octets history items = StopsBefore (λ rest. Unit {0}) history items octets
MayAnswer (Err OutOfMemory) octets history items = StopsBefore (λ rest. Unit {0}) history items octets
MayAnswer (Err Write) octets history items = (more : List ℕ) × StopsBefore (λ rest. Unit {0}) history items (octets ++ more)

-- with workers no settle ends for a full history
abbrev pub EndsBeside : Result Bool ServeFault → Type 0
EndsBeside (Err HistoryFull) = ⊥
EndsBeside result = Unit {0}

-- a writer got what may be written for an input with workers, and this is how it ends
abbrev pub ServesBeside : Result Bool ServeFault → Settings → Option (List ℕ) → Option (List ℕ) → Option (List ℕ) → Type 0
ServesBeside result settings input before after =
    (octets : List ℕ) × Appends before after octets
    × IfSome input (λ input. MayAnswer result octets (record { opening = settings; past = [] }) (commands input) × EndsBeside result)
