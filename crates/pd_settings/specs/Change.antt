-- A change of one setting by name: what is accepted, what it changes, what is refused.
use Rattle.std.specs.Prelude.{◌≡◌, ℕ, List, None, IsSomeAnd}
use Rattle.pd_settings.specs.declared.faults.SettingsFault.{SettingsFault}
use Rattle.pd_settings.specs.declared.faults.SettingsFault.TheVariants.{UnknownKey, BadValue}
use Rattle.pd_settings.specs.declared.settings.Settings.{Settings}
use Rattle.pd_settings.specs.declared.values.Value.{Value}
use Rattle.pd_settings.specs.Keys.{Allows, allowed_values_of, key_named}
use Rattle.pd_settings.specs.Settings.{ChangesOnly}

-- the name is a key's, and the key takes the value
abbrev pub IsAccepted : List ℕ → Value → Type 0
IsAccepted name v = IsSomeAnd (key_named name) (λ key. Allows (allowed_values_of key) v)

-- the name is no key's, or the key doesn't take the value
abbrev pub IsRefused : List ℕ → Value → SettingsFault → Type 0
IsRefused name v UnknownKey = key_named name ≡ None
IsRefused name v BadValue = IsSomeAnd (key_named name) (λ key. ¬ Allows (allowed_values_of key) v)

-- the key of the name takes the value and has it now, and every other key has what it had
abbrev pub IsChanged : Settings → List ℕ → Value → Settings → Type 0
IsChanged old name v new = IsSomeAnd (key_named name) (λ key. Allows (allowed_values_of key) v × ChangesOnly old key v new)
