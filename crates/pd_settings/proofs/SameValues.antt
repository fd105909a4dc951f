-- Values are equal where what they hold is.
use Rattle.std.proofs.Common.{◌≡◌, ℕ, Bool}
use Rattle.pd_settings.specs.declared.initial_window.InitialWindow.{InitialWindow}
use Rattle.pd_settings.specs.declared.recovery_algorithm.RecoveryAlgorithm.{RecoveryAlgorithm}
use Rattle.pd_settings.specs.declared.values.Value.TheVariants.{Number, Boolean, WindowRule, Algorithm}

pub number_of : {a b : ℕ} → Number a ≡ Number b → a ≡ b
number_of e = cc

pub truth_of : {a b : Bool} → Boolean a ≡ Boolean b → a ≡ b
truth_of e = cc

pub rule_of : {a b : InitialWindow} → WindowRule a ≡ WindowRule b → a ≡ b
rule_of e = cc

pub rate_of : {a b : RecoveryAlgorithm} → Algorithm a ≡ Algorithm b → a ≡ b
rate_of e = cc
