-- The first states, but for the settings held.
use Rattle.std.proofs.Common.{◌∙◌, ap, sym, subst, map, take}
use Rattle.std.proofs.lemmas.List.{take-map}
use Rattle.pd_run.specs.Consulted.{run_with_settings}
use Rattle.pd_track.specs.Reuse.{AgreeWhereConsulted}
use Rattle.pd_track.proofs.Held.{held_first}
use Rattle.pd_track.proofs.start_point.share_first_checkpoints.Goals as goal

pub returns-clause-states : goal.returns-clause-states
returns-clause-states c =
    ap (map (run_with_settings c.args.track.now.settings)) c.in_ok-shared.ensures
    ∙ (sym (take-map (run_with_settings c.args.track.now.settings) c.args.count c.checkpoints.result.now) ∙ ap (take c.args.count) c.checkpoints.ensures.states)

pub returns-clause-held : goal.returns-clause-held
returns-clause-held c =
    subst (AgreeWhereConsulted c.args.track.now.settings) (sym c.in_ok-shared.ensures) (held_first c.args.track.now.settings c.args.count c.checkpoints.result.now c.checkpoints.ensures.held)
