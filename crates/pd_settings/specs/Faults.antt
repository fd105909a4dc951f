-- Refusals of settings as they are printed.
use Rattle.std.specs.Prelude.{ℕ, List, codes}
use Rattle.pd_settings.specs.declared.faults.SettingsFault.{SettingsFault}
use Rattle.pd_settings.specs.declared.faults.SettingsFault.TheVariants.{UnknownKey, BadValue}

-- the number and the name of a refusal
abbrev pub fault_text : SettingsFault → List ℕ
fault_text UnknownKey = codes "3 UnknownKey"
fault_text BadValue = codes "4 BadValue"
