-- Runs rest on the sender's laws.
use Rattle.pd_run.proofs.laws.law_inputs_use_only_noted_settings.Goals as goal

pub returns : goal.returns
returns c = record {
  arrivals = c.law_outside_harmless_only_exact_rst_resets.ensures.settings;
  calls = c.law_calls_append_and_depend_on_consulted.ensures.settings;
  advances = c.law_expiries_append_in_order_without_settings.ensures.settings;
  arrivals_note = c.law_outside_harmless_only_exact_rst_resets.ensures.consulted_settings;
  calls_note = c.law_calls_append_and_depend_on_consulted.ensures.consulted_settings;
  advances_note = c.law_expiries_append_in_order_without_settings.ensures.consulted_settings;
}
