-- The settings of a run, and what a change makes of them.
use Rattle.std.specs.Prelude.{◌≡◌, ◌≢◌, ℕ, Bool, false, List, Option, Some, None, ok_or, Result, Err}
use Rattle.std.proofs.Common.{lit≤}
use Rattle.pd_settings.specs.declared.allowed_values.AllowedValues.TheVariants.{Numbers}
use Rattle.pd_settings.specs.declared.faults.SettingsFault.{SettingsFault}
use Rattle.pd_settings.specs.declared.faults.SettingsFault.TheVariants.{UnknownKey, BadValue}
use Rattle.pd_settings.specs.declared.settings.Settings.{Settings}
use Rattle.pd_settings.specs.declared.initial_window.InitialWindow.{InitialWindow as Window}
use Rattle.pd_settings.specs.declared.initial_window.InitialWindow.TheVariants.{Rfc5681}
use Rattle.pd_settings.specs.declared.keys.Key.{Key}
use Rattle.pd_settings.specs.declared.keys.Key.TheVariants.{Mss, Sack, Wscale, Sndbuf, RcvWnd, InitialSsthresh, InitialWindow, MinRtoUs, MaxRtoUs, GranularityUs, Nagle, LimitedTransmit, AbcLimit, SlowStartAfterIdle, RecoveryAlgorithm, ToleranceUs}
use Rattle.pd_settings.specs.declared.recovery_algorithm.RecoveryAlgorithm.{RecoveryAlgorithm as RecoveryRule}
use Rattle.pd_settings.specs.declared.recovery_algorithm.RecoveryAlgorithm.TheVariants.{Rfc6675}
use Rattle.pd_settings.specs.declared.values.Value.{Value}
use Rattle.pd_settings.specs.declared.values.Value.TheVariants.{Number, Boolean, WindowRule, Algorithm}
use Rattle.pd_settings.specs.Keys.{Allows, key_named, allowed_values_of, default_of, made_if_allowed}

-- the number, the truth value or the rules that a value is; another where it is of another kind
abbrev pub number_in : Value → ℕ
number_in (Number n) = n
number_in _ = 0

abbrev pub boolean_in : Value → Bool
boolean_in (Boolean b) = b
boolean_in _ = false

abbrev pub window_rule_in : Value → Window
window_rule_in (WindowRule w) = w
window_rule_in _ = Rfc5681

abbrev pub algorithm_in : Value → RecoveryRule
algorithm_in (Algorithm r) = r
algorithm_in _ = Rfc6675

-- a value that a range takes is one of its numbers
abbrev pub in_range : (least greatest : ℕ) (v : Value) → Allows (Numbers least greatest) v → Allows (Numbers least greatest) (Number (number_in v))
in_range least greatest (Number n) h = h
in_range least greatest _ h = absurd h

-- the settings that nobody changed
abbrev pub defaults : Settings
defaults = record {
  mss = number_in (default_of Mss);
  sack = boolean_in (default_of Sack);
  wscale = number_in (default_of Wscale);
  sndbuf = number_in (default_of Sndbuf);
  rcv_wnd = number_in (default_of RcvWnd);
  initial_ssthresh = number_in (default_of InitialSsthresh);
  initial_window = window_rule_in (default_of InitialWindow);
  min_rto_us = number_in (default_of MinRtoUs);
  max_rto_us = number_in (default_of MaxRtoUs);
  granularity_us = number_in (default_of GranularityUs);
  nagle = boolean_in (default_of Nagle);
  limited_transmit = boolean_in (default_of LimitedTransmit);
  abc_limit = number_in (default_of AbcLimit);
  slow_start_after_idle = boolean_in (default_of SlowStartAfterIdle);
  recovery_algorithm = algorithm_in (default_of RecoveryAlgorithm);
  tolerance_us = number_in (default_of ToleranceUs);
  mss_in_range = (lit≤ tt, lit≤ tt);
  wscale_in_range = (lit≤ tt, lit≤ tt);
  sndbuf_in_range = (lit≤ tt, lit≤ tt);
  rcv_wnd_in_range = (lit≤ tt, lit≤ tt);
  initial_ssthresh_in_range = (lit≤ tt, lit≤ tt);
  min_rto_us_in_range = (lit≤ tt, lit≤ tt);
  max_rto_us_in_range = (lit≤ tt, lit≤ tt);
  granularity_us_in_range = (lit≤ tt, lit≤ tt);
  abc_limit_in_range = (lit≤ tt, lit≤ tt);
  tolerance_us_in_range = (lit≤ tt, lit≤ tt);
}

-- the value that the settings have at a key
abbrev pub value_at : Settings → Key → Value
value_at s Mss = Number s.mss
value_at s Sack = Boolean s.sack
value_at s Wscale = Number s.wscale
value_at s Sndbuf = Number s.sndbuf
value_at s RcvWnd = Number s.rcv_wnd
value_at s InitialSsthresh = Number s.initial_ssthresh
value_at s InitialWindow = WindowRule s.initial_window
value_at s MinRtoUs = Number s.min_rto_us
value_at s MaxRtoUs = Number s.max_rto_us
value_at s GranularityUs = Number s.granularity_us
value_at s Nagle = Boolean s.nagle
value_at s LimitedTransmit = Boolean s.limited_transmit
value_at s AbcLimit = Number s.abc_limit
value_at s SlowStartAfterIdle = Boolean s.slow_start_after_idle
value_at s RecoveryAlgorithm = Algorithm s.recovery_algorithm
value_at s ToleranceUs = Number s.tolerance_us

-- it is a value that the key takes
abbrev pub held : (s : Settings) (key : Key) → Allows (allowed_values_of key) (value_at s key)
held s Mss = s.mss_in_range
held s Wscale = s.wscale_in_range
held s Sndbuf = s.sndbuf_in_range
held s RcvWnd = s.rcv_wnd_in_range
held s InitialSsthresh = s.initial_ssthresh_in_range
held s MinRtoUs = s.min_rto_us_in_range
held s MaxRtoUs = s.max_rto_us_in_range
held s GranularityUs = s.granularity_us_in_range
held s AbcLimit = s.abc_limit_in_range
held s ToleranceUs = s.tolerance_us_in_range
held s _ = tt

-- the key has the value, and every other key what it had
pub record ChangesOnly (old : Settings) (key : Key) (value : Value) (new : Settings) : Type 0 where
  pub at_key : value_at new key ≡ value
  pub elsewhere : (other : Key) → other ≢ key → value_at new other ≡ value_at old other

-- the settings with the key's field replaced by a value that the key takes
abbrev pub put : (s : Settings) (key : Key) (v : Value) → Allows (allowed_values_of key) v → Settings
put s Mss v h = record s { mss = number_in v; mss_in_range = in_range _ _ v h }
put s Sack v h = record s { sack = boolean_in v }
put s Wscale v h = record s { wscale = number_in v; wscale_in_range = in_range _ _ v h }
put s Sndbuf v h = record s { sndbuf = number_in v; sndbuf_in_range = in_range _ _ v h }
put s RcvWnd v h = record s { rcv_wnd = number_in v; rcv_wnd_in_range = in_range _ _ v h }
put s InitialSsthresh v h = record s { initial_ssthresh = number_in v; initial_ssthresh_in_range = in_range _ _ v h }
put s InitialWindow v h = record s { initial_window = window_rule_in v }
put s MinRtoUs v h = record s { min_rto_us = number_in v; min_rto_us_in_range = in_range _ _ v h }
put s MaxRtoUs v h = record s { max_rto_us = number_in v; max_rto_us_in_range = in_range _ _ v h }
put s GranularityUs v h = record s { granularity_us = number_in v; granularity_us_in_range = in_range _ _ v h }
put s Nagle v h = record s { nagle = boolean_in v }
put s LimitedTransmit v h = record s { limited_transmit = boolean_in v }
put s AbcLimit v h = record s { abc_limit = number_in v; abc_limit_in_range = in_range _ _ v h }
put s SlowStartAfterIdle v h = record s { slow_start_after_idle = boolean_in v }
put s RecoveryAlgorithm v h = record s { recovery_algorithm = algorithm_in v }
put s ToleranceUs v h = record s { tolerance_us = number_in v; tolerance_us_in_range = in_range _ _ v h }

-- the same where the key takes the value; else None
abbrev pub replaced : Settings → Key → Value → Option Settings
replaced s key v = made_if_allowed (allowed_values_of key) v (put s key v)

-- the settings with the key's field replaced by the value: refused where the name was no key's, then where the key
-- doesn't take the value
abbrev pub changed : Settings → Option Key → Value → Result Settings SettingsFault
changed s None v = Err UnknownKey
changed s (Some key) v = ok_or (replaced s key v) BadValue

-- the answer to a change by name
abbrev pub with_value : Settings → List ℕ → Value → Result Settings SettingsFault
with_value s name v = changed s (key_named name) v
