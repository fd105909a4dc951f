-- Why a seat of a desk isn't served, as a fault of serving.
use Rattle.pd_seat.specs.declared.faults.ShowFault.{ShowFault}
use Rattle.pd_seat.specs.declared.faults.ShowFault.TheVariants as show
use Rattle.pd_desk.specs.declared.faults.DeskFault.{DeskFault}
use Rattle.pd_desk.specs.declared.faults.DeskFault.TheVariants as desk
use Rattle.pd_protocol.specs.declared.faults.ServeFault.{ServeFault}
use Rattle.pd_protocol.specs.declared.faults.ServeFault.TheVariants.{HistoryFull, NoWorkers, Differs, OutOfMemory}

-- why a report isn't shown, as a fault of serving
abbrev pub serve_fault_of_show : ShowFault → ServeFault
serve_fault_of_show show.Differs = Differs
serve_fault_of_show show.OutOfMemory = OutOfMemory

-- why a desk refuses, as a fault of serving
abbrev pub serve_fault_of_desk : DeskFault → ServeFault
serve_fault_of_desk desk.NoWorkers = NoWorkers
serve_fault_of_desk desk.Differs = Differs
serve_fault_of_desk desk.HistoryFull = HistoryFull
serve_fault_of_desk desk.OutOfMemory = OutOfMemory
