-- The laws of each history that serving goes through, and of each report that it prints.
use Rattle.std.specs.Prelude.{◌≡◌, ◌↔◌, ℕ, Bool, List, [], ◌∷◌, Result, Ok}
use Rattle.pd_settings.specs.declared.settings.Settings.{Settings}
use Rattle.pd_book.specs.Acts.{texts, now}
use Rattle.pd_book.specs.History.{History}
use Rattle.pd_book.specs.Turns.{IsAtRest, IsSettled}
use Rattle.pd_book.specs.Headline.{RowsAreOfScratch}
use Rattle.pd_protocol.specs.Commands.{InputItem, does, commands}
use Rattle.pd_protocol.specs.declared.command.Command.{Command}
use Rattle.pd_protocol.specs.declared.command.Command.TheVariants.{Show, Settle}
use Rattle.pd_protocol.specs.declared.faults.ServeFault.{ServeFault}
use Rattle.pd_cli.specs.Report.{rendered}
use Rattle.pd_cli.specs.Output.{report, effect, PrintsAlone, ahead, outcome, output, Answers}
use Rattle.pd_cli.specs.Grammatical.{Writes}
use Rattle.pd_cli.specs.Sessions.{PrintsFirst}
use Rattle.pd_cli.specs.Beside.{from_scratch, MayPrint}

-- serving this input comes to a history, with these octets written and these items still to come
abbrev pub Reaches : Settings → List ℕ → List ℕ → History → List InputItem → Type 0
Reaches settings input octets history rest = PrintsFirst PrintsAlone (record { opening = settings; past = [] }) (commands input) octets history rest

-- the output is what was written up to a history, then the outcome of what is still to come
abbrev pub OutputGoesOn : Type 0
OutputGoesOn =
    (settings : Settings) → (input octets : List ℕ) → (history : History) → (rest : List InputItem) → Reaches settings input octets history rest
    → output settings input ≡ ahead octets (outcome history rest)

-- each history that serving comes to is legal, with no job outstanding
abbrev pub StoriesAreLegal : Type 0
StoriesAreLegal =
    (settings : Settings) → (input octets : List ℕ) → (history : History) → (rest : List InputItem) → Reaches settings input octets history rest
    → IsAtRest history

-- a settle that comes to its end leaves nothing pending and the scripts and the settings as they were, and prints
-- their report from scratch
abbrev pub SettlesPrintScratch : Type 0
SettlesPrintScratch =
    (settings : Settings) → (input octets : List ℕ) → (history : History) → (rest : List InputItem) → Reaches settings input octets history (does Settle ∷ rest)
    → (printed : List ℕ) → (after : History) → effect history Settle ≡ Ok (printed, after)
    → IsSettled history after × (printed ≡ rendered (from_scratch history))

-- a show prints the report as it stands, in which each row is pending or the one from scratch
abbrev pub ShowsPrintPart : Type 0
ShowsPrintPart =
    (history : History) → (effect history Show ≡ Ok (rendered (report history), history)) × RowsAreOfScratch history.opening history.past (report history)

-- both histories have the same scripts under the same settings
abbrev pub HaveSame : History → History → Type 0
HaveSame history other = (texts history.past ≡ texts other.past) × (now history.opening history.past ≡ now other.opening other.past)

-- the octets that a command prints without workers it may print beside them, after accepted commands that leave the same
-- scripts and settings; and it leaves the same then
abbrev pub AloneIsPossibleBeside : Type 0
AloneIsPossibleBeside =
    (settings : Settings) → (input octets : List ℕ) → (history : History) → (rest : List InputItem) → (command : Command) → Reaches settings input octets history (does command ∷ rest)
    → (printed : List ℕ) → (after : History) → effect history command ≡ Ok (printed, after)
    → (accepted : History) → HaveSame history accepted → (next : History) × MayPrint accepted command printed next × HaveSame after next

-- the octets that the first items of an input print without workers they may print beside them, one after another
abbrev pub SessionsArePossibleBeside : Type 0
SessionsArePossibleBeside =
    (settings : Settings) → (input octets : List ℕ) → (history : History) → (rest : List InputItem) → Reaches settings input octets history rest
    → (accepted : History) × PrintsFirst MayPrint (record { opening = settings; past = [] }) (commands input) octets accepted rest × HaveSame history accepted

-- the octets that are written by the grammar are just the output of the input
abbrev pub WritesAreOutput : Type 0
WritesAreOutput =
    (settings : Settings) → (input octets : List ℕ) → (end : Result Bool ServeFault)
    → Writes end octets (record { opening = settings; past = [] }) (commands input) ↔ Answers end octets (output settings input)
