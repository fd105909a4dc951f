-- The key's branch gives the replaced settings.
use Rattle.std.proofs.Common.{refl}
use Rattle.pd_settings.specs.declared.keys.Key.TheVariants.{RecoveryAlgorithm}
use Rattle.pd_settings.specs.declared.values.Value.TheVariants.{Algorithm}
use Rattle.pd_settings.proofs.Changes.{answered}
use Rattle.pd_settings.proofs.settings.Settings.with_algorithm_if_its_key.Goals as goal

pub returns-in-RecoveryAlgorithm : goal.returns-in-RecoveryAlgorithm
returns-in-RecoveryAlgorithm c = rw c.in-RecoveryAlgorithm.is (answered c.args.self.now _ RecoveryAlgorithm (Algorithm c.args.algorithm) tt refl)
