-- The laws hold.
use Rattle.pd_host.proofs.After.{puts_out_after}
use Rattle.pd_host.proofs.Consulted.{only_uses_matter}
use Rattle.pd_host.proofs.ExactRst.{only_an_exact_rst_resets}
use Rattle.pd_host.proofs.Harmless.{outside_is_harmless}
use Rattle.pd_host.proofs.Noted.{arrivals_note}
use Rattle.pd_host.proofs.laws.law_outside_harmless_only_exact_rst_resets.Goals as goal

pub returns : goal.returns
returns c = record {
  outside = outside_is_harmless;
  resets = only_an_exact_rst_resets;
  packets = puts_out_after;
  settings = only_uses_matter;
  consulted_settings = arrivals_note;
}
