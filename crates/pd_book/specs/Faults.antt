-- Refusals of a book: those of texts under the same names, and how each is printed.
use Rattle.std.specs.Prelude.{ℕ, List, codes}
use Rattle.pd_text.specs.declared.faults.TextFault.{TextFault}
use Rattle.pd_text.specs.declared.faults.TextFault.TheVariants as text
use Rattle.pd_book.specs.declared.faults.BookFault.{BookFault}
use Rattle.pd_book.specs.declared.faults.BookFault.TheVariants.{BadRange, TooLarge, UnknownKey, BadValue, BadName, NameTaken, NoSuchScript, TooManyScripts, HistoryFull, OutOfMemory}
use Rattle.pd_book.specs.declared.faults.FinishFault.{FinishFault}
use Rattle.pd_book.specs.declared.faults.FinishFault.TheVariants as finish

-- a text's fault, under the same name
abbrev pub of_text : TextFault → BookFault
of_text text.BadRange = BadRange
of_text text.TooLarge = TooLarge
of_text text.OutOfMemory = OutOfMemory

-- the number and the name of a refusal
abbrev pub fault_text : BookFault → List ℕ
fault_text BadRange = codes "1 BadRange"
fault_text TooLarge = codes "2 TooLarge"
fault_text UnknownKey = codes "3 UnknownKey"
fault_text BadValue = codes "4 BadValue"
fault_text BadName = codes "5 BadName"
fault_text NameTaken = codes "6 NameTaken"
fault_text NoSuchScript = codes "7 NoSuchScript"
fault_text TooManyScripts = codes "8 TooManyScripts"
fault_text HistoryFull = codes "11 HistoryFull"
fault_text OutOfMemory = codes "19 OutOfMemory"

-- the number and the name of a refused end of a job
abbrev pub finish_fault_text : FinishFault → List ℕ
finish_fault_text finish.NoSuchJob = codes "9 NoSuchJob"
finish_fault_text finish.Foreign = codes "10 Foreign"
finish_fault_text finish.OutOfMemory = codes "19 OutOfMemory"
