-- The settings that were consulted in the state.
use Rattle.std.proofs.Common.{◌∙◌}
use Rattle.pd_track.proofs.Resume.{uses_are}
use Rattle.pd_track.proofs.start_point.consulted_settings_at_checkpoint.Goals as goal

pub returns : goal.returns
returns c = c.consulted_settings.ensures ∙ uses_are c.args.track.now c.args.count c.run_state_at_checkpoint.result.now c.requires.some c.run_state_at_checkpoint.ensures
