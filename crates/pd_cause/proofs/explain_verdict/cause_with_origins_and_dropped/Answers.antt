-- The cause with what let packets go, and which segments were dropped.
use Rattle.std.proofs.Common.{◌≤◌, length}
use Rattle.std.proofs.lemmas.Bool.{leb-true}
use Rattle.pd_reparse.specs.Reading.{script_part}
use Rattle.pd_run.specs.declared.stop_point.StopPoint.{StopPoint}
use Rattle.pd_cause.specs.Inner.{unmatched_at}
use Rattle.pd_cause.proofs.OriginLemmas.{are_origins, reported_with}
use Rattle.pd_cause.proofs.explain_verdict.cause_with_origins_and_dropped.Goals as goal

pub returns : goal.returns
returns c =
    let stop : StopPoint = c.args.traced.now.stop in
    let enough : length (unmatched_at stop) ≤ length c.args.traced.now.triggers.items =
    leb-true (length (unmatched_at stop)) (length c.args.traced.now.triggers.items) c.requires.whole in
    reported_with c.args.lines.now c.args.place c.args.parsed_event.now.event stop c.args._settings.now (script_part c.args._reading.now)
    c.in_ok-cause.cause c.with_origins_and_dropped.result c.in_ok-origins.origins.items c.args.dropped.items c.with_origins_and_dropped.ensures c.in_ok-cause.ensures
    (are_origins c.args._settings.now (script_part c.args._reading.now) c.requires.traced.0 stop.passed (unmatched_at stop) c.args.traced.now.triggers.items
    c.in_ok-origins.origins.items c.requires.traced.1 enough c.in_ok-origins.ensures) c.requires.dropped
