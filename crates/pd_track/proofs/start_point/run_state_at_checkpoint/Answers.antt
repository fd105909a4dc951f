-- The state, but for the settings held.
use Rattle.std.proofs.Common.{◌-◌, ◌<◌, ◌∙◌, ap, sym, length, slice_get, option_map, Some, arith}
use Rattle.std.proofs.lemmas.Option.{slice_get-map}
use Rattle.std.proofs.lemmas.List.{length-map}
use Rattle.pd_reparse.proofs.SharedBlocks.{found_at}
use Rattle.pd_run.specs.Consulted.{run_with_settings}
use Rattle.pd_track.proofs.start_point.run_state_at_checkpoint.Goals as goal

pub returns : goal.returns
returns c =
    let all = ap length c.checkpoints.ensures.states in
    let same = length-map c.checkpoints.result.now (run_with_settings c.args.track.now.settings) in
    let below : c.args.count - 1 < length c.checkpoints.result.now = omega (arith, all, same, c.requires.some, c.requires.within) in
    ap (λ rs. slice_get rs (c.args.count - 1)) (sym c.checkpoints.ensures.states)
    ∙ (slice_get-map (run_with_settings c.args.track.now.settings) c.checkpoints.result.now (c.args.count - 1)
    ∙ ap (option_map (run_with_settings c.args.track.now.settings)) (found_at (c.args.count - 1) c.checkpoints.result.now c.at.result.now below c.at.ensures ∙ ap (λ s. Some s) (sym c.state.ensures)))
