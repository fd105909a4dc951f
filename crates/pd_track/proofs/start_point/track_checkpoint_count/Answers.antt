-- As many states as are kept.
use Rattle.std.proofs.Common.{◌∙◌, ap, sym, length}
use Rattle.std.proofs.lemmas.List.{length-map}
use Rattle.pd_run.specs.Consulted.{run_with_settings}
use Rattle.pd_track.proofs.start_point.track_checkpoint_count.Goals as goal

pub returns : goal.returns
returns c = c.len.ensures ∙ sym (length-map c.checkpoints.result.now (run_with_settings c.args.track.now.settings)) ∙ ap length c.checkpoints.ensures.states
