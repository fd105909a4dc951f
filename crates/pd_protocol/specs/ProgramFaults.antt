-- The faults of the program, with their numbers and names.
use Rattle.std.specs.Prelude.{ℕ, List, ◌++◌, codes}
use Rattle.pd_settings.specs.declared.faults.SettingsFault.{SettingsFault}
use Rattle.pd_settings.specs.declared.faults.SettingsFault.TheVariants as settings
use Rattle.pd_protocol.specs.ServeFaults.{serve_fault_text}
use Rattle.pd_protocol.specs.declared.program_faults.ProgramFault.{ProgramFault}
use Rattle.pd_protocol.specs.declared.program_faults.ProgramFault.TheVariants.{UnknownKey, BadValue, NotToml, Serving}

-- a fault of settings as one of the program
abbrev pub of_settings : SettingsFault → ProgramFault
of_settings settings.UnknownKey = UnknownKey
of_settings settings.BadValue = BadValue

-- the number and the name of a fault
abbrev pub fault_text : ProgramFault → List ℕ
fault_text UnknownKey = codes "3 UnknownKey"
fault_text BadValue = codes "4 BadValue"
fault_text NotToml = codes "20 NotToml"
fault_text (Serving fault) = serve_fault_text fault

-- the line on standard error by which a program of this name says a text
abbrev pub line_of : List ℕ → List ℕ → List ℕ
line_of program text = program ++ (codes ": " ++ (text ++ codes "\n"))

-- the line of a fault of a program of this name
abbrev pub fault_line : List ℕ → ProgramFault → List ℕ
fault_line program fault = line_of program (fault_text fault)
