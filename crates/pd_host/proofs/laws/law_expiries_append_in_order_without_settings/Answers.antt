-- The laws hold.
use Rattle.pd_host.proofs.Advances.{advances_put_out_after, advances_use_none}
use Rattle.pd_host.proofs.Noted.{advances_note}
use Rattle.pd_host.proofs.laws.law_expiries_append_in_order_without_settings.Goals as goal

pub returns : goal.returns
returns c = record {
  packets = advances_put_out_after;
  settings = advances_use_none;
  consulted_settings = advances_note;
}
