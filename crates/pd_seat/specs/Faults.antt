-- How the faults of a show and of a closing are printed.
use Rattle.std.specs.Prelude.{ℕ, List, codes}
use Rattle.pd_seat.specs.declared.faults.ShowFault.{ShowFault}
use Rattle.pd_seat.specs.declared.faults.ShowFault.TheVariants.{Differs, OutOfMemory}
use Rattle.pd_seat.specs.declared.close.CloseFault.{CloseFault}
use Rattle.pd_seat.specs.declared.close.CloseFault.TheVariants as closing

-- the number and the name of a fault
abbrev pub show_fault_text : ShowFault → List ℕ
show_fault_text Differs = codes "14 Differs"
show_fault_text OutOfMemory = codes "19 OutOfMemory"

-- the same, whatever comes back
abbrev pub close_fault_text : {H : Type 0} → CloseFault H → List ℕ
close_fault_text (closing.MissingSeat back seats) = codes "13 MissingSeat"
close_fault_text (closing.Differs book) = codes "14 Differs"
