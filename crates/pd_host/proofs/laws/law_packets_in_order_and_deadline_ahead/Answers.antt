-- The laws hold.
use Rattle.pd_host.proofs.Moments.{starts_up_to_date, advances_keep_up, arrivals_keep_up, calls_keep_up, taking_keeps_up, rebinding_keeps_up}
use Rattle.pd_host.proofs.laws.law_packets_in_order_and_deadline_ahead.Goals as goal

pub returns : goal.returns
returns c = record {
  start = starts_up_to_date;
  advances = advances_keep_up c.law_rto_bounded_and_expiries_back_off.ensures.bounds;
  arrivals = arrivals_keep_up c.law_rto_bounded_and_expiries_back_off.ensures.bounds;
  calls = calls_keep_up c.law_rto_bounded_and_expiries_back_off.ensures.bounds;
  taking = taking_keeps_up;
  rebinding = rebinding_keeps_up;
}
