-- Each key's branch gives the replaced settings.
use Rattle.std.proofs.Common.{refl}
use Rattle.pd_settings.specs.declared.keys.Key.TheVariants.{Sack, Nagle, LimitedTransmit, SlowStartAfterIdle}
use Rattle.pd_settings.specs.declared.values.Value.TheVariants.{Boolean}
use Rattle.pd_settings.proofs.Changes.{answered}
use Rattle.pd_settings.proofs.settings.Settings.with_boolean_if_boolean_key.Goals as goal

pub returns-in-Sack : goal.returns-in-Sack
returns-in-Sack c = rw c.in-Sack.is (answered c.args.self.now _ Sack (Boolean c.args.truth) tt refl)

pub returns-in-Nagle : goal.returns-in-Nagle
returns-in-Nagle c = rw c.in-Nagle.is (answered c.args.self.now _ Nagle (Boolean c.args.truth) tt refl)

pub returns-in-LimitedTransmit : goal.returns-in-LimitedTransmit
returns-in-LimitedTransmit c = rw c.in-LimitedTransmit.is (answered c.args.self.now _ LimitedTransmit (Boolean c.args.truth) tt refl)

pub returns-in-SlowStartAfterIdle : goal.returns-in-SlowStartAfterIdle
returns-in-SlowStartAfterIdle c = rw c.in-SlowStartAfterIdle.is (answered c.args.self.now _ SlowStartAfterIdle (Boolean c.args.truth) tt refl)
