-- The laws hold.
use Rattle.pd_host.proofs.CallsAfter.{calls_put_out_after}
use Rattle.pd_host.proofs.CallsConsulted.{calls_only_use}
use Rattle.pd_host.proofs.Noted.{calls_note}
use Rattle.pd_host.proofs.laws.law_calls_append_and_depend_on_consulted.Goals as goal

pub returns : goal.returns
returns c = record {
  packets = calls_put_out_after;
  settings = calls_only_use;
  consulted_settings = calls_note;
}
