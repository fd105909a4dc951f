-- Each key's branch gives the settings with its field replaced by a number that the key takes.
use Rattle.std.proofs.Common.{refl}
use Rattle.pd_settings.specs.declared.keys.Key.TheVariants.{Mss, Wscale, Sndbuf, RcvWnd, InitialSsthresh, MinRtoUs, MaxRtoUs, GranularityUs, AbcLimit, ToleranceUs}
use Rattle.pd_settings.specs.declared.values.Value.TheVariants.{Number}
use Rattle.pd_settings.proofs.Changes.{answered}
use Rattle.pd_settings.proofs.settings.Settings.with_number_trusting_allowed_range.Goals as goal

pub returns-in-Mss : goal.returns-in-Mss
returns-in-Mss c = rw c.in-Mss.is (answered c.args.self.now _ Mss (Number c.args.number) (rw c.in-Mss.is at c.requires) refl)

pub returns-in-Wscale : goal.returns-in-Wscale
returns-in-Wscale c = rw c.in-Wscale.is (answered c.args.self.now _ Wscale (Number c.args.number) (rw c.in-Wscale.is at c.requires) refl)

pub returns-in-Sndbuf : goal.returns-in-Sndbuf
returns-in-Sndbuf c = rw c.in-Sndbuf.is (answered c.args.self.now _ Sndbuf (Number c.args.number) (rw c.in-Sndbuf.is at c.requires) refl)

pub returns-in-RcvWnd : goal.returns-in-RcvWnd
returns-in-RcvWnd c = rw c.in-RcvWnd.is (answered c.args.self.now _ RcvWnd (Number c.args.number) (rw c.in-RcvWnd.is at c.requires) refl)

pub returns-in-InitialSsthresh : goal.returns-in-InitialSsthresh
returns-in-InitialSsthresh c = rw c.in-InitialSsthresh.is (answered c.args.self.now _ InitialSsthresh (Number c.args.number) (rw c.in-InitialSsthresh.is at c.requires) refl)

pub returns-in-MinRtoUs : goal.returns-in-MinRtoUs
returns-in-MinRtoUs c = rw c.in-MinRtoUs.is (answered c.args.self.now _ MinRtoUs (Number c.args.number) (rw c.in-MinRtoUs.is at c.requires) refl)

pub returns-in-MaxRtoUs : goal.returns-in-MaxRtoUs
returns-in-MaxRtoUs c = rw c.in-MaxRtoUs.is (answered c.args.self.now _ MaxRtoUs (Number c.args.number) (rw c.in-MaxRtoUs.is at c.requires) refl)

pub returns-in-GranularityUs : goal.returns-in-GranularityUs
returns-in-GranularityUs c = rw c.in-GranularityUs.is (answered c.args.self.now _ GranularityUs (Number c.args.number) (rw c.in-GranularityUs.is at c.requires) refl)

pub returns-in-AbcLimit : goal.returns-in-AbcLimit
returns-in-AbcLimit c = rw c.in-AbcLimit.is (answered c.args.self.now _ AbcLimit (Number c.args.number) (rw c.in-AbcLimit.is at c.requires) refl)

pub returns-in-ToleranceUs : goal.returns-in-ToleranceUs
returns-in-ToleranceUs c = rw c.in-ToleranceUs.is (answered c.args.self.now _ ToleranceUs (Number c.args.number) (rw c.in-ToleranceUs.is at c.requires) refl)
