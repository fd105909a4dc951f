-- The laws hold.
use Rattle.pd_run.proofs.Consulted.{steps_note, steps_only_use, runs_only_use}
use Rattle.pd_run.proofs.Onwards.{runs_go_on_under}
use Rattle.pd_run.proofs.laws.law_runs_use_only_consulted_settings.Goals as goal

pub returns : goal.returns
returns c = record {
  notes = steps_note c.law_inputs_use_only_noted_settings.ensures;
  steps = steps_only_use c.law_inputs_use_only_noted_settings.ensures;
  runs = runs_only_use c.law_inputs_use_only_noted_settings.ensures;
  onwards = runs_go_on_under c.law_inputs_use_only_noted_settings.ensures;
}
