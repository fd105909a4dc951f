-- A change by name is accepted or refused as its name and value say.
use Rattle.pd_settings.proofs.ByName.{with_answers}
use Rattle.pd_settings.proofs.settings.Settings.with.Goals as goal

pub returns-clause-changed : goal.returns-clause-changed
returns-clause-changed c = rw c.with_value_by_name.ensures (with_answers c.args.self.now c.args.key.now c.args.value)
