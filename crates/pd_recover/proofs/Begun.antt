-- A connection begins by the settings that are consulted alone.
use Rattle.std.proofs.Common.{◌≡◌, refl}
use Rattle.pd_settings.specs.declared.keys.Key.TheVariants.{InitialSsthresh, InitialWindow, LimitedTransmit, AbcLimit, SlowStartAfterIdle, RecoveryAlgorithm}
use Rattle.pd_settings.proofs.SameValues.{number_of, rate_of, rule_of, truth_of}
use Rattle.pd_recover.specs.Cong.{begun}
use Rattle.pd_recover.specs.Laws.{BeginsByUses}

pub begins_by_uses : BeginsByUses
begins_by_uses consulted_settings a b smss syn_ack_resent agree =
    alike (rule_of (agree InitialWindow refl)) (number_of (agree InitialSsthresh refl)) (truth_of (agree LimitedTransmit refl))
    (number_of (agree AbcLimit refl)) (truth_of (agree SlowStartAfterIdle refl)) (rate_of (agree RecoveryAlgorithm refl))
  where
    alike : a.initial_window ≡ b.initial_window → a.initial_ssthresh ≡ b.initial_ssthresh → a.limited_transmit ≡ b.limited_transmit
        → a.abc_limit ≡ b.abc_limit → a.slow_start_after_idle ≡ b.slow_start_after_idle → a.recovery_algorithm ≡ b.recovery_algorithm
        → begun b smss syn_ack_resent ≡ begun a smss syn_ack_resent
    alike rule ssthresh early limit restart recovery_algorithm = cc
