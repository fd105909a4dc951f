-- The key's branch gives the replaced settings.
use Rattle.std.proofs.Common.{refl}
use Rattle.pd_settings.specs.declared.keys.Key.TheVariants.{InitialWindow}
use Rattle.pd_settings.specs.declared.values.Value.TheVariants.{WindowRule}
use Rattle.pd_settings.proofs.Changes.{answered}
use Rattle.pd_settings.proofs.settings.Settings.with_window_rule_if_its_key.Goals as goal

pub returns-in-InitialWindow : goal.returns-in-InitialWindow
returns-in-InitialWindow c = rw c.in-InitialWindow.is (answered c.args.self.now _ InitialWindow (WindowRule c.args.window) tt refl)
