-- Which settings were consulted, and when two agree on those.
use Rattle.std.specs.Prelude.{◌≡◌, ◌==◌, Bool, true, false, not, ◌||◌}
use Rattle.std.specs.Bool.{beq}
use Rattle.std.specs.List.{list_all}
use Rattle.pd_settings.specs.declared.settings.Settings.{Settings}
use Rattle.pd_settings.specs.declared.initial_window.InitialWindow.{InitialWindow as Window}
use Rattle.pd_settings.specs.declared.initial_window.InitialWindow.TheVariants.{Rfc5681, Rfc6928}
use Rattle.pd_settings.specs.declared.keys.Key.{Key}
use Rattle.pd_settings.specs.declared.keys.Key.TheVariants.{Mss, Sack, Wscale, Sndbuf, RcvWnd, InitialSsthresh, InitialWindow, MinRtoUs, MaxRtoUs, GranularityUs, Nagle, LimitedTransmit, AbcLimit, SlowStartAfterIdle, RecoveryAlgorithm, ToleranceUs}
use Rattle.pd_settings.specs.declared.recovery_algorithm.RecoveryAlgorithm.{RecoveryAlgorithm as RecoveryRule}
use Rattle.pd_settings.specs.declared.recovery_algorithm.RecoveryAlgorithm.TheVariants.{Rfc6675, Rfc9937}
use Rattle.pd_settings.specs.declared.setting_set.SettingSet.{SettingSet}
use Rattle.pd_settings.specs.declared.values.Value.{Value}
use Rattle.pd_settings.specs.declared.values.Value.TheVariants.{Number, Boolean, WindowRule, Algorithm, Other}
use Rattle.pd_settings.specs.Rows.{all_keys}
use Rattle.pd_settings.specs.Settings.{value_at}

-- a set has the setting of a key
abbrev pub has : SettingSet → Key → Bool
has consulted Mss = consulted.mss
has consulted Sack = consulted.sack
has consulted Wscale = consulted.wscale
has consulted Sndbuf = consulted.sndbuf
has consulted RcvWnd = consulted.rcv_wnd
has consulted InitialSsthresh = consulted.initial_ssthresh
has consulted InitialWindow = consulted.initial_window
has consulted MinRtoUs = consulted.min_rto_us
has consulted MaxRtoUs = consulted.max_rto_us
has consulted GranularityUs = consulted.granularity_us
has consulted Nagle = consulted.nagle
has consulted LimitedTransmit = consulted.limited_transmit
has consulted AbcLimit = consulted.abc_limit
has consulted SlowStartAfterIdle = consulted.slow_start_after_idle
has consulted RecoveryAlgorithm = consulted.recovery_algorithm
has consulted ToleranceUs = consulted.tolerance_us

-- no setting was consulted
abbrev pub no_settings : SettingSet
no_settings = record {
  mss = false;
  sack = false;
  wscale = false;
  sndbuf = false;
  rcv_wnd = false;
  initial_ssthresh = false;
  initial_window = false;
  min_rto_us = false;
  max_rto_us = false;
  granularity_us = false;
  nagle = false;
  limited_transmit = false;
  abc_limit = false;
  slow_start_after_idle = false;
  recovery_algorithm = false;
  tolerance_us = false;
}

-- two settings are equal at the keys of a set
abbrev pub Agree : SettingSet → Settings → Settings → Type 0
Agree consulted a b = (key : Key) → has consulted key ≡ true → value_at a key ≡ value_at b key

-- a set has every setting of another
abbrev pub Includes : SettingSet → SettingSet → Type 0
Includes more fewer = (key : Key) → has fewer key ≡ true → has more key ≡ true

-- two rules for the initial window are the same
abbrev pub is_same_window : Window → Window → Bool
is_same_window Rfc5681 Rfc5681 = true
is_same_window Rfc6928 Rfc6928 = true
is_same_window _ _ = false

-- two rules for the rate of loss recovery are
abbrev pub is_same_algorithm : RecoveryRule → RecoveryRule → Bool
is_same_algorithm Rfc6675 Rfc6675 = true
is_same_algorithm Rfc9937 Rfc9937 = true
is_same_algorithm _ _ = false

-- two values are
abbrev pub is_same_value : Value → Value → Bool
is_same_value (Number a) (Number b) = a == b
is_same_value (Boolean a) (Boolean b) = beq a b
is_same_value (WindowRule a) (WindowRule b) = is_same_window a b
is_same_value (Algorithm a) (Algorithm b) = is_same_algorithm a b
is_same_value Other Other = true
is_same_value _ _ = false

-- two settings are equal at a key
abbrev pub is_same_at : Settings → Settings → Key → Bool
is_same_at a b key = is_same_value (value_at a key) (value_at b key)

-- whether two settings are equal at all keys
abbrev pub is_same : Settings → Settings → Bool
is_same a b = list_all (is_same_at a b) all_keys

-- two settings are equal at a key, or the set doesn't have it
abbrev pub is_unconsulted_or_same : SettingSet → Settings → Settings → Key → Bool
is_unconsulted_or_same consulted a b key = not (has consulted key) || is_same_at a b key

-- whether two settings are equal at the keys of a set
abbrev pub agrees : SettingSet → Settings → Settings → Bool
agrees consulted a b = list_all (is_unconsulted_or_same consulted a b) all_keys
