-- How the faults of a desk are printed, and which of them a report that isn't shown is.
use Rattle.std.specs.Prelude.{ℕ, List, codes}
use Rattle.pd_seat.specs.declared.faults.ShowFault.{ShowFault}
use Rattle.pd_seat.specs.declared.faults.ShowFault.TheVariants as show
use Rattle.pd_desk.specs.declared.faults.DeskFault.{DeskFault}
use Rattle.pd_desk.specs.declared.faults.DeskFault.TheVariants.{NoWorkers, Differs, HistoryFull, OutOfMemory}

-- the number and the name of a fault
abbrev pub desk_fault_text : DeskFault → List ℕ
desk_fault_text HistoryFull = codes "11 HistoryFull"
desk_fault_text NoWorkers = codes "12 NoWorkers"
desk_fault_text Differs = codes "14 Differs"
desk_fault_text OutOfMemory = codes "19 OutOfMemory"

-- the fault of a report that isn't shown
abbrev pub of_show : ShowFault → DeskFault
of_show show.Differs = Differs
of_show show.OutOfMemory = OutOfMemory
