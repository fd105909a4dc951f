-- The settings of a TOML text.
use Rattle.std.specs.Prelude.{ℕ, List, Option, Some, None, Result, Ok, Err}
use Rattle.toml.specs.Data.{Members}
use Rattle.toml.specs.Parse.{parse_document}
use Rattle.pd_settings.specs.declared.faults.SettingsFault.{SettingsFault}
use Rattle.pd_settings.specs.declared.settings.Settings.{Settings}
use Rattle.pd_settings.specs.Table.{from_table_of}
use Rattle.pd_protocol.specs.ProgramFaults.{of_settings}
use Rattle.pd_protocol.specs.declared.program_faults.ProgramFault.{ProgramFault}
use Rattle.pd_protocol.specs.declared.program_faults.ProgramFault.TheVariants.{NotToml}

-- the answer for the settings of a document
abbrev pub in_document : Result Settings SettingsFault → Result Settings ProgramFault
in_document (Ok settings) = Ok settings
in_document (Err fault) = Err (of_settings fault)

-- the settings of a parsed document, or its fault: a text that is no TOML has none
abbrev pub settings_of : Option Members → Result Settings ProgramFault
settings_of None = Err NotToml
settings_of (Some entries) = in_document (from_table_of entries)

-- the settings of a TOML text, or the fault of that text
abbrev pub settings_in : List ℕ → Result Settings ProgramFault
settings_in text = settings_of (parse_document text)
