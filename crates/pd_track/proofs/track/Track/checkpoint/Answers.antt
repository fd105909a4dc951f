-- The k-th of each fourth state is the state after 4k + 4 events.
use Rattle.std.proofs.Common.{◌∙◌, ap, sym, slice_get, option_map, option_copied}
use Rattle.std.proofs.lemmas.Option.{slice_get-map}
use Rattle.pd_run.specs.Consulted.{run_with_settings}
use Rattle.pd_run.specs.Run.{states_of}
use Rattle.pd_track.proofs.Fourths.{slice_get-every_fourth}
use Rattle.pd_track.proofs.Resume.{held_there}
use Rattle.pd_track.proofs.track.Track.checkpoint.Goals as goal

pub returns-clause-state : goal.returns-clause-state
returns-clause-state c =
    ap (option_map (run_with_settings c.args.self.now.settings)) c.get.ensures
    ∙ (sym (slice_get-map (run_with_settings c.args.self.now.settings) c.checkpoints.result.now c.args.k)
    ∙ (ap (λ rs. slice_get rs c.args.k) c.checkpoints.ensures.states ∙ slice_get-every_fourth 3 c.args.k (states_of c.args.self.now.text c.args.self.now.settings)))

pub returns-clause-held : goal.returns-clause-held
returns-clause-held c =
    held_there c.args.self.now c.args.k c.checkpoints.result.now (option_copied c.get.result) c.checkpoints.ensures.states c.checkpoints.ensures.held c.get.ensures
