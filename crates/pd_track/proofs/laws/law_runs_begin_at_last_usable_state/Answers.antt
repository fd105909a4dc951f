-- A run begins at the last place where it may.
use Rattle.pd_track.proofs.Beginnings.{runs_begin_last}
use Rattle.pd_track.proofs.laws.law_runs_begin_at_last_usable_state.Goals as goal

pub returns : goal.returns
returns c = runs_begin_last
