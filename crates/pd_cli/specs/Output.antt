-- The octets that serving writes, and how it ends.
use Rattle.std.specs.Prelude.{◌≡◌, ℕ, Bool, List, [], ◌∷◌, ◌++◌, codes, Option, Some, None, option_map, Result, Ok, Err}
use Rattle.std.specs.List.{list_all}
use Rattle.pd_settings.specs.declared.settings.Settings.{Settings}
use Rattle.pd_settings.specs.Keys.{key_named}
use Rattle.pd_book.specs.declared.act.Act.{Act}
use Rattle.pd_book.specs.declared.act.Act.TheVariants as act
use Rattle.pd_book.specs.declared.faults.BookFault.{BookFault}
use Rattle.pd_book.specs.declared.faults.BookFault.TheVariants as book
use Rattle.pd_book.specs.declared.report.Row.{Row}
use Rattle.pd_book.specs.Faults.{fault_text}
use Rattle.pd_book.specs.History.{History, after_act}
use Rattle.pd_book.specs.Turns.{settled}
use Rattle.pd_book.specs.Report.{ReportView, shown}
use Rattle.pd_book.specs.Refusals.{add_refusal, edit_refusal, remove_refusal, set_refusal}
use Rattle.pd_protocol.specs.Commands.{InputItem, does, stops, commands}
use Rattle.pd_protocol.specs.declared.command.Command.{Command}
use Rattle.pd_protocol.specs.declared.command.Command.TheVariants.{Add, Edit, Remove, Set, Show, Settle}
use Rattle.pd_protocol.specs.declared.faults.ServeFault.{ServeFault}
use Rattle.pd_protocol.specs.declared.faults.ServeFault.TheVariants.{HistoryFull, BadCommand, Truncated, Read, Write, OutOfMemory}
use Rattle.pd_cli.specs.Report.{is_of, rendered}
use Rattle.pd_cli.specs.declared.report_text.RowKind.TheVariants as row_kind

-- the line that a refused act prints
abbrev pub refused : BookFault → List ℕ
refused fault = codes "refused " ++ fault_text fault ++ codes "\n"

-- the report as it stands after a history
abbrev pub report : History → ReportView
report history = shown history.opening history.past

-- each row of a report passes
abbrev pub all_pass : ReportView → Bool
all_pass printed = list_all (λ (row : Row). is_of row_kind.Pass row.verdict) printed.rows

-- an act prints these octets, with the history after it: none for an accepted one, which is recorded
abbrev pub acted : History → Option BookFault → Option Act → List ℕ × History
acted history (Some fault) act = (refused fault, history)
acted history None (Some act) = ([], after_act history act)
acted history None None = ([], history)

-- the report of a history that was settled, with the history; a start without room ends the run
abbrev pub reported : Result History BookFault → Result (List ℕ × History) ServeFault
reported (Ok history) = Ok (rendered (report history), history)
reported (Err fault) = Err HistoryFull

-- the octets of an act that a command asks for, and the history after it; lines that alone are over the limits of a text are
-- refused before all else
abbrev pub done : History → Command → List ℕ × History
done history (Add name None) = acted history (Some book.TooLarge) None
done history (Add name (Some text)) = acted history (add_refusal history name) (Some (act.Add name text))
done history (Edit name None) = acted history (Some book.TooLarge) None
done history (Edit name (Some edit)) = acted history (edit_refusal history name edit) (Some (act.Edit name edit))
done history (Remove name) = acted history (remove_refusal history name) (Some (act.Remove name))
done history (Set key value) = acted history (set_refusal history key value) (option_map (λ k. act.Set k value) (key_named key))
done history command = ([], history)

-- the octets that a command prints, and the history after it, or the fault that ends the run
abbrev pub effect : History → Command → Result (List ℕ × History) ServeFault
effect history Show = Ok (rendered (report history), history)
effect history Settle = reported (settled history)
effect history command = Ok (done history command)

-- the octets that a command prints, and the history after it, where no fault ends the run
abbrev pub PrintsAlone : History → Command → List ℕ → History → Type 0
PrintsAlone history command octets next = effect history command ≡ Ok (octets, next)

-- all that is written, and how it ends: whether each row of the last report passes, or the fault
pub record Session : Type 0 where
  pub written : List ℕ
  pub end : Result Bool ServeFault

-- a session with these octets written before it
abbrev pub ahead : List ℕ → Session → Session
ahead octets session = record { written = octets ++ session.written; end = session.end }

-- an effect, then what comes after it
abbrev pub follow : Result (List ℕ × History) ServeFault → (History → Session) → Session
follow (Ok done) rest = ahead done.0 (rest done.1)
follow (Err fault) rest = record { written = []; end = Err fault }

-- the session that an input gives, after a history
abbrev pub outcome : History → List InputItem → Session
outcome history [] = record { written = []; end = Ok (all_pass (report history)) }
outcome history (stops fault ∷ items) = record { written = []; end = Err fault }
outcome history (does command ∷ items) = follow (effect history command) (λ next. outcome next items)

-- the octets that serving writes for an input, beginning with these settings and no scripts, and how it ends
abbrev pub output : Settings → List ℕ → Session
output settings input = outcome (record { opening = settings; past = [] }) (commands input)

-- these octets are what a session writes and this is how it ends; where a read or a write fails,
-- or memory is refused, they are a prefix of what it writes; it ends with no other fault
abbrev pub Answers : Result Bool ServeFault → List ℕ → Session → Type 0
Answers (Ok passed) octets session = (session.written ≡ octets) × (session.end ≡ Ok passed)
Answers (Err HistoryFull) octets session = (session.written ≡ octets) × (session.end ≡ Err HistoryFull)
Answers (Err BadCommand) octets session = (session.written ≡ octets) × (session.end ≡ Err BadCommand)
Answers (Err Truncated) octets session = (session.written ≡ octets) × (session.end ≡ Err Truncated)
Answers (Err Read) octets session = (more : List ℕ) × (session.written ≡ octets ++ more)
Answers (Err Write) octets session = (more : List ℕ) × (session.written ≡ octets ++ more)
Answers (Err OutOfMemory) octets session = (more : List ℕ) × (session.written ≡ octets ++ more)
Answers (Err fault) octets session = ⊥
