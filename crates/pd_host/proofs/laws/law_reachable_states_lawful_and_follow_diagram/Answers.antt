-- The laws hold.
use Rattle.pd_host.proofs.Ended.{boards_are_lawful, calls_stay_in_range, ends_for_good}
use Rattle.pd_host.proofs.StateEdgesOfCalls.{expiries_stay, calls_move}
use Rattle.pd_host.proofs.StateEdgesOfSegments.{segments_move}
use Rattle.pd_host.proofs.States.{starts_lawful, advances_stay_lawful, arrivals_stay_lawful, calls_stay_lawful, taking_stays_lawful}
use Rattle.pd_host.proofs.laws.law_reachable_states_lawful_and_follow_diagram.Goals as goal

pub returns : goal.returns
returns c = record {
  start = starts_lawful;
  advances = advances_stay_lawful c.law_rto_bounded_and_expiries_back_off.ensures.bounds c.law_congestion_control_and_loss_recovery.ensures.windows;
  arrivals = arrivals_stay_lawful c.law_rto_bounded_and_expiries_back_off.ensures.bounds c.law_congestion_control_and_loss_recovery.ensures.windows;
  calls = calls_stay_lawful c.law_rto_bounded_and_expiries_back_off.ensures.bounds c.law_congestion_control_and_loss_recovery.ensures.windows;
  taking = taking_stays_lawful;
  boards = boards_are_lawful;
  range = calls_stay_in_range;
  resets = ends_for_good;
  figure = record { calls = calls_move; arrivals = segments_move; expiries = expiries_stay };
}
