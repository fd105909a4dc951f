-- A change is accepted exactly where the key takes the value, and changes that key alone.
use Rattle.pd_settings.proofs.Changes.{replaced_accepted, replaced_changes}
use Rattle.pd_settings.proofs.settings.Settings.with_allowed_value_or_none.Goals as goal

pub returns-clause-accepted : goal.returns-clause-accepted
returns-clause-accepted c = rw c.with_value_by_kind_if_allowed.ensures (replaced_accepted c.args.self.now c.args.key c.args.value)

pub returns-clause-changed : goal.returns-clause-changed
returns-clause-changed c = rw c.with_value_by_kind_if_allowed.ensures (replaced_changes c.args.self.now c.args.key c.args.value)
