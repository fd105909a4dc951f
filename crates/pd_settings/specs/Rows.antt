-- The table of settings: a row for each.
use Rattle.std.specs.Prelude.{codes, ℕ, true, false, List, [], ◌∷◌}
use Rattle.pd_settings.specs.declared.allowed_values.AllowedValues.{AllowedValues}
use Rattle.pd_settings.specs.declared.allowed_values.AllowedValues.TheVariants.{Numbers, Booleans, WindowRules, Algorithms}
use Rattle.pd_settings.specs.declared.initial_window.InitialWindow.TheVariants.{Rfc5681}
use Rattle.pd_settings.specs.declared.keys.Key.{Key}
use Rattle.pd_settings.specs.declared.keys.Key.TheVariants.{Mss, Sack, Wscale, Sndbuf, RcvWnd, InitialSsthresh, InitialWindow, MinRtoUs, MaxRtoUs, GranularityUs, Nagle, LimitedTransmit, AbcLimit, SlowStartAfterIdle, RecoveryAlgorithm, ToleranceUs}
use Rattle.pd_settings.specs.declared.recovery_algorithm.RecoveryAlgorithm.TheVariants.{Rfc6675}
use Rattle.pd_settings.specs.declared.values.Value.{Value}
use Rattle.pd_settings.specs.declared.values.Value.TheVariants.{Number, Boolean, WindowRule, Algorithm}

-- a setting's name, what it takes, the unit of its numbers, and what it is where nobody sets it
pub record Row : Type 0 where
  pub name : List ℕ
  pub allowed : AllowedValues
  pub unit : List ℕ
  pub default_value : Value

-- the settings in the order of their table
abbrev pub all_keys : List Key
all_keys = Mss ∷ Sack ∷ Wscale ∷ Sndbuf ∷ RcvWnd ∷ InitialSsthresh ∷ InitialWindow ∷ MinRtoUs ∷ MaxRtoUs ∷ GranularityUs ∷ Nagle ∷ LimitedTransmit ∷ AbcLimit ∷ SlowStartAfterIdle ∷ RecoveryAlgorithm ∷ ToleranceUs ∷ []

-- the row of each; docs/SETTINGS.md says what each changes
abbrev pub row_of : Key → Row
row_of Mss = record { name = codes "mss"; allowed = Numbers 64 65495; unit = codes "octets"; default_value = Number 1460 }
row_of Sack = record { name = codes "sack"; allowed = Booleans; unit = []; default_value = Boolean true }
row_of Wscale = record { name = codes "wscale"; allowed = Numbers 0 14; unit = codes "bits"; default_value = Number 7 }
row_of Sndbuf = record { name = codes "sndbuf"; allowed = Numbers 1024 1048576; unit = codes "octets"; default_value = Number 262144 }
row_of RcvWnd = record { name = codes "rcv_wnd"; allowed = Numbers 1 1073725440; unit = codes "octets"; default_value = Number 65535 }
row_of InitialSsthresh = record { name = codes "initial_ssthresh"; allowed = Numbers 128 1073741824; unit = codes "octets"; default_value = Number 1073741824 }
row_of InitialWindow = record { name = codes "initial_window"; allowed = WindowRules; unit = []; default_value = WindowRule Rfc5681 }
row_of MinRtoUs = record { name = codes "min_rto_us"; allowed = Numbers 1000 60000000; unit = codes "microseconds"; default_value = Number 1000000 }
row_of MaxRtoUs = record { name = codes "max_rto_us"; allowed = Numbers 60000000 3600000000; unit = codes "microseconds"; default_value = Number 60000000 }
row_of GranularityUs = record { name = codes "granularity_us"; allowed = Numbers 1 1000000; unit = codes "microseconds"; default_value = Number 1000 }
row_of Nagle = record { name = codes "nagle"; allowed = Booleans; unit = []; default_value = Boolean true }
row_of LimitedTransmit = record { name = codes "limited_transmit"; allowed = Booleans; unit = []; default_value = Boolean true }
row_of AbcLimit = record { name = codes "abc_limit"; allowed = Numbers 1 8; unit = codes "segments"; default_value = Number 1 }
row_of SlowStartAfterIdle = record { name = codes "slow_start_after_idle"; allowed = Booleans; unit = []; default_value = Boolean false }
row_of RecoveryAlgorithm = record { name = codes "recovery_algorithm"; allowed = Algorithms; unit = []; default_value = Algorithm Rfc6675 }
row_of ToleranceUs = record { name = codes "tolerance_us"; allowed = Numbers 0 1000000; unit = codes "microseconds"; default_value = Number 4000 }
