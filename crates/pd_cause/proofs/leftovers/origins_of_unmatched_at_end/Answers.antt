-- The origins of packets at the end.
use Rattle.std.proofs.Common.{◌≤◌, length, arith}
use Rattle.pd_run.specs.Laws.{unmatched}
use Rattle.pd_cause.proofs.OriginLemmas.{are_origins}
use Rattle.pd_cause.proofs.leftovers.origins_of_unmatched_at_end.Goals as goal

pub returns : goal.returns
returns c =
    let enough : length (unmatched c.args.end.now.run) ≤ length c.args.end.now.triggers.items = omega (arith, c.requires.counted) in
    are_origins c.args._settings.now c.args._parsed.now 0 (length c.args._parsed.now.events) (unmatched c.args.end.now.run) c.args.end.now.triggers.items
    c.in_ok-origins.origins.items c.requires enough c.in_ok-origins.ensures
