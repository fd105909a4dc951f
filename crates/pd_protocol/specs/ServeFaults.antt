-- The faults that end serving as they are printed.
use Rattle.std.specs.Prelude.{ℕ, List, codes}
use Rattle.pd_protocol.specs.declared.faults.ServeFault.{ServeFault}
use Rattle.pd_protocol.specs.declared.faults.ServeFault.TheVariants.{HistoryFull, NoWorkers, Differs, BadCommand, Truncated, Read, Write, OutOfMemory}

-- the number and the name of a fault
abbrev pub serve_fault_text : ServeFault → List ℕ
serve_fault_text HistoryFull = codes "11 HistoryFull"
serve_fault_text NoWorkers = codes "12 NoWorkers"
serve_fault_text Differs = codes "14 Differs"
serve_fault_text BadCommand = codes "15 BadCommand"
serve_fault_text Truncated = codes "16 Truncated"
serve_fault_text Read = codes "17 Read"
serve_fault_text Write = codes "18 Write"
serve_fault_text OutOfMemory = codes "19 OutOfMemory"
