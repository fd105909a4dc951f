-- The settings by name, and what each takes.
use Rattle.std.specs.Prelude.{ℕ, ◌≤◌, List, Option, Some, None, find}
use native.Mathlib.Decide.{dec_le}
use mathlib.Core.Logic.{dite}
use mathlib.Core.Logic.Dec.{and as both}
use Rattle.std.specs.Str.{bytes_eq}
use Rattle.pd_settings.specs.declared.allowed_values.AllowedValues.{AllowedValues}
use Rattle.pd_settings.specs.declared.allowed_values.AllowedValues.TheVariants.{Numbers, Booleans, WindowRules, Algorithms}
use Rattle.pd_settings.specs.declared.keys.Key.{Key}
use Rattle.pd_settings.specs.declared.values.Value.{Value}
use Rattle.pd_settings.specs.declared.values.Value.TheVariants.{Number, Boolean, WindowRule, Algorithm}
use Rattle.pd_settings.specs.Rows.{all_keys, row_of}

-- the name that a setting is written by
abbrev pub name_of : Key → List ℕ
name_of key = (row_of key).name

-- the setting of a name
abbrev pub key_named : List ℕ → Option Key
key_named name = find (λ key. bytes_eq (name_of key) name) all_keys

-- the values of each setting: the whole numbers of a range, both ends included, the truth values, the rules for the initial
-- window, or those for the rate of loss recovery
abbrev pub allowed_values_of : Key → AllowedValues
allowed_values_of key = (row_of key).allowed

-- the value of a setting where nobody sets it
abbrev pub default_of : Key → Value
default_of key = (row_of key).default_value

-- the value is one of the domain's
abbrev pub Allows : AllowedValues → Value → Type 0
Allows (Numbers least greatest) (Number n) = (least ≤ n) × (n ≤ greatest)
Allows Booleans (Boolean _) = Unit {0}
Allows WindowRules (WindowRule _) = Unit {0}
Allows Algorithms (Algorithm _) = Unit {0}
Allows _ _ = ⊥

-- whether it is one is decided by its kind, and of a number by the two ends
abbrev pub decide_allowed : (d : AllowedValues) (v : Value) → Dec (Allows d v)
decide_allowed (Numbers least greatest) (Number n) = both (dec_le least n) (dec_le n greatest)
decide_allowed (Numbers least greatest) _ = no (λ impossible. impossible)
decide_allowed Booleans (Boolean _) = yes tt
decide_allowed Booleans _ = no (λ impossible. impossible)
decide_allowed WindowRules (WindowRule _) = yes tt
decide_allowed WindowRules _ = no (λ impossible. impossible)
decide_allowed Algorithms (Algorithm _) = yes tt
decide_allowed Algorithms _ = no (λ impossible. impossible)

-- the result for a value that the domain takes; None for any other
abbrev pub made_if_allowed : {A : Type 0} (d : AllowedValues) (v : Value) → (Allows d v → A) → Option A
made_if_allowed d v made = dite (decide_allowed d v) (λ h. Some (made h)) (λ _. None)
