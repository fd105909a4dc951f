-- Settings out of a TOML table.
use Rattle.std.specs.Prelude.{◌≡◌, ◌⊎◌, ⊤, ℕ, pos, if◌then◌else◌, List, Option, Some, None, unwrap_or, Result, Ok, Err}
use Rattle.std.specs.Option.{option_or}
use Rattle.std.specs.Str.{bytes_eq}
use Rattle.toml.specs.Data.{Data, string, integer, boolean, Members, no_members, member}
use Rattle.pd_settings.specs.declared.faults.SettingsFault.{SettingsFault}
use Rattle.pd_settings.specs.declared.settings.Settings.{Settings}
use Rattle.pd_settings.specs.declared.keys.Key.{Key}
use Rattle.pd_settings.specs.declared.values.Value.{Value}
use Rattle.pd_settings.specs.declared.values.Value.TheVariants.{Number, Boolean, Other}
use Rattle.pd_settings.specs.Words.{word_value}
use Rattle.pd_settings.specs.Keys.{name_of}
use Rattle.pd_settings.specs.Change.{IsAccepted, IsRefused}
use Rattle.pd_settings.specs.Settings.{defaults, value_at, with_value}

-- a TOML whole number from 0 on is a number, a TOML truth value is a truth value, a TOML string is a word, and all
-- else is none of these
abbrev pub value_of : Data → Value
value_of (integer (pos n)) = Number n
value_of (boolean b) = Boolean b
value_of (string word) = word_value word
value_of _ = Other

-- a refusal stays; accepted settings go on
abbrev pub unless_refused : Result Settings SettingsFault → (Settings → Result Settings SettingsFault) → Result Settings SettingsFault
unless_refused (Err fault) next = Err fault
unless_refused (Ok s) next = next s

-- the settings with each entry's field replaced in the entries' order, or the first refusal
abbrev pub overlaid : Settings → Members → Result Settings SettingsFault
overlaid s no_members = Ok s
overlaid s (member name entry rest) = unless_refused (with_value s name (value_of entry)) (λ t. overlaid t rest)

-- the answer for a table: its entries laid over the defaults
abbrev pub from_table_of : Members → Result Settings SettingsFault
from_table_of entries = overlaid defaults entries

-- the value that the entries write for a name: that of the last entry with it
abbrev pub written : List ℕ → Members → Option Value
written name no_members = None
written name (member n entry rest) =
    option_or (written name rest) (if bytes_eq n name then Some (value_of entry) else None)

-- each key has what the entries write for its name, and what the settings had where they write nothing
abbrev pub IsOverlay : Settings → Members → Settings → Type 0
IsOverlay s entries t = (key : Key) → value_at t key ≡ unwrap_or (written (name_of key) entries) (value_at s key)

-- every entry is accepted
abbrev pub AreAccepted : Members → Type 0
AreAccepted no_members = ⊤
AreAccepted (member name entry rest) = IsAccepted name (value_of entry) × AreAccepted rest

-- the fault is that of the first entry that is refused
abbrev pub IsFirstFault : Members → SettingsFault → Type 0
IsFirstFault no_members fault = ⊥
IsFirstFault (member name entry rest) fault =
    IsRefused name (value_of entry) fault ⊎ (IsAccepted name (value_of entry) × IsFirstFault rest fault)
