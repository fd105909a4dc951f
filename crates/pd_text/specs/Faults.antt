-- Refusals of texts as they are printed.
use Rattle.std.specs.Prelude.{ℕ, List, codes}
use Rattle.pd_text.specs.declared.faults.TextFault.{TextFault}
use Rattle.pd_text.specs.declared.faults.TextFault.TheVariants.{BadRange, TooLarge, OutOfMemory}

-- the number and the name of a refusal
abbrev pub fault_text : TextFault → List ℕ
fault_text BadRange = codes "1 BadRange"
fault_text TooLarge = codes "2 TooLarge"
fault_text OutOfMemory = codes "19 OutOfMemory"
