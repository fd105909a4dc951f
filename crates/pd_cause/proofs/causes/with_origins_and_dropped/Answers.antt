-- The failure with these origins and dropped segments in the place of its own.
use Rattle.std.proofs.Common.{refl, sym, subst}
use Rattle.pd_cause.specs.Causes.{HasHistoryOf}
use Rattle.pd_cause.specs.declared.causes.Cause.{Cause}
use Rattle.pd_cause.specs.declared.causes.Cause.TheVariants as cause
use Rattle.pd_cause.specs.declared.causes.failure.Failure.{Failure}
use Rattle.pd_cause.proofs.causes.with_origins_and_dropped.Goals as goal

pub returns-in-Failed : goal.returns-in-Failed
returns-in-Failed c =
    let reported : Failure = record c.in-Failed.failure { origins = c.args.origins; dropped = c.args.dropped } in
    subst (λ (before : Cause). HasHistoryOf before c.args.origins.items c.args.dropped.items (cause.Failed reported)) (sym c.in-Failed.is) (reported, refl, refl, refl, refl, refl)
