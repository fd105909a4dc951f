-- The steps of serving; cited by private contracts alone.
use Rattle.std.specs.Prelude.{◌≡◌, ◌≢◌, ◌+◌, ◌<◌, ℕ, Bool, true, false, List, [], Some, None, Result, Ok, Err}
use Rattle.pd_book.specs.declared.faults.BookFault.{BookFault}
use Rattle.pd_book.specs.declared.faults.BookFault.TheVariants as book
use Rattle.pd_track.specs.declared.task.Task.{Task}
use Rattle.pd_book.specs.Acts.{jobs}
use Rattle.pd_book.specs.Report.{owed}
use Rattle.pd_book.specs.History.{History}
use Rattle.pd_book.specs.Refusals.{next_job, start_refusal}
use Rattle.pd_book.specs.Turns.{after_turn, settled}
use Rattle.pd_protocol.specs.declared.command.Command.{Command}
use Rattle.pd_protocol.specs.declared.faults.ServeFault.{ServeFault}
use Rattle.pd_protocol.specs.declared.faults.ServeFault.TheVariants.{HistoryFull, OutOfMemory}
use Rattle.pd_cli.specs.Output.{refused, effect}

-- the octets that are printed of an answer of a book
abbrev pub RepliesTo : Result (Unit {0}) BookFault → List ℕ → Type 0
RepliesTo (Ok u) octets = octets ≡ []
RepliesTo (Err fault) octets = (octets ≡ refused fault) × (fault ≢ book.OutOfMemory)

-- no job is outstanding
abbrev pub IsQuiet : History → Type 0
IsQuiet history = jobs history.opening history.past ≡ []

-- one turn of settling: whether there was a job; then less is owed, and no job is outstanding
abbrev pub Turns : Result Bool ServeFault → History → History → Type 0
Turns (Ok true) old new =
    (task : Task) × (next_job old ≡ Some task) × (start_refusal old ≡ None) × (new ≡ after_turn old task)
    × (owed new.opening new.past + 1 ≡ owed old.opening old.past) × IsQuiet new
Turns (Ok false) old new = (next_job old ≡ None) × (new ≡ old)
Turns (Err HistoryFull) old new =
    (task : Task) × (next_job old ≡ Some task) × (start_refusal old ≡ Some book.HistoryFull) × (0 < owed old.opening old.past)
Turns (Err OutOfMemory) old new = Unit {0}
Turns (Err fault) old new = ⊥

-- how settling ended
abbrev pub SettlesTo : Result (Unit {0}) ServeFault → History → History → Type 0
SettlesTo (Ok u) old new = settled old ≡ Ok new
SettlesTo (Err HistoryFull) old new = settled old ≡ Err book.HistoryFull
SettlesTo (Err OutOfMemory) old new = Unit {0}
SettlesTo (Err fault) old new = ⊥

-- why a command has no reply
abbrev pub Fails : ServeFault → History → Command → Type 0
Fails HistoryFull history command = effect history command ≡ Err HistoryFull
Fails OutOfMemory history command = Unit {0}
Fails fault history command = ⊥
