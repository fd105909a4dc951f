-- Settings that are the same agree in any set.
use Rattle.std.proofs.Common.{◌∙◌, sym}
use Rattle.pd_settings.proofs.Agreements.{same_agrees}
use Rattle.pd_settings.proofs.settings.Settings.agrees_on_each_consulted_key.Goals as goal

pub returns-then-has_every_setting_equal : goal.returns-then-has_every_setting_equal
returns-then-has_every_setting_equal c = sym (same_agrees c.args.consulted.now c.args.self.now c.args.other.now (sym c.has_every_setting_equal.ensures ∙ c.if-has_every_setting_equal.true))
