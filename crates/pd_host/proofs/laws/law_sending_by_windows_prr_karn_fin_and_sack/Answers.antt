-- The laws hold.
use Rattle.pd_host.proofs.Chosen.{chosen_within, in_window, ordinary_flow, filling_flow, filling_room, run_end, ordinary_spared, filling_spared}
use Rattle.pd_host.proofs.Duplicates.{duplicate_flow}
use Rattle.pd_host.proofs.Finished.{sends_all_that_may}
use Rattle.pd_host.proofs.InWindow.{stays_in_window}
use Rattle.pd_host.proofs.Karn.{times_once}
use Rattle.pd_host.proofs.LastOctet.{fin_covered, ends_before, only_close_queues, closed_stays}
use Rattle.pd_host.proofs.Tails.{arrivals_queue_nothing, expiries_queue_nothing}
use Rattle.pd_host.proofs.Proportion.{recovers_in_proportion}
use Rattle.pd_host.proofs.RecoveryEnds.{ends_recovery}
use Rattle.pd_host.proofs.WindowRoom.{keeps_to_window}
use Rattle.pd_host.proofs.SentOnce.{measures_what_is_sent_once}
use Rattle.pd_host.proofs.Within.{ordinary_below, restart_below}
use Rattle.pd_host.proofs.laws.law_sending_by_windows_prr_karn_fin_and_sack.Goals as goal

pub returns-clause-flow : goal.returns-clause-flow
returns-clause-flow c = record {
  ordinary = λ b e segment order h. ordinary_flow b e order segment h;
  filling = λ filling n b e sent h. filling_flow filling n b e sent h;
  duplicate = duplicate_flow;
  again = run_end;
}

pub returns-clause-window : goal.returns-clause-window
returns-clause-window c = stays_in_window

pub returns-clause-congestion : goal.returns-clause-congestion
returns-clause-congestion c = record {
  chosen = λ b e segment h. in_window b e segment (chosen_within b e segment h);
  restart = restart_below;
  ordinary = ordinary_below;
  filling = λ filling n b e sent h. filling_room filling n b e sent h;
}

pub returns-clause-room : goal.returns-clause-room
returns-clause-room c = keeps_to_window

pub returns-clause-proportion : goal.returns-clause-proportion
returns-clause-proportion c = recovers_in_proportion c.law_congestion_control_and_loss_recovery.ensures.proportion c.law_congestion_control_and_loss_recovery.ensures.counts c.law_congestion_control_and_loss_recovery.ensures.sacked

pub returns-clause-all : goal.returns-clause-all
returns-clause-all c = sends_all_that_may

pub returns-clause-timing : goal.returns-clause-timing
returns-clause-timing c = times_once

pub returns-clause-measured : goal.returns-clause-measured
returns-clause-measured c = measures_what_is_sent_once

pub returns-clause-fin : goal.returns-clause-fin
returns-clause-fin c = record {
  covered = fin_covered;
  before = ends_before;
  closed = only_close_queues;
  last = closed_stays;
  arrivals = arrivals_queue_nothing;
  expiries = expiries_queue_nothing;
}

pub returns-clause-sacked : goal.returns-clause-sacked
returns-clause-sacked c =
    let spares = c.law_congestion_control_and_loss_recovery.ensures.sacked in
    record {
      ordinary = λ b e segment known h. ordinary_spared spares b e known segment h;
      filling = λ filling n b e sent known h. filling_spared spares filling n b e known sent h;
      entry = λ b. spares.again b.board b.board.una;
    }

pub returns-clause-recovery : goal.returns-clause-recovery
returns-clause-recovery c = ends_recovery c.law_congestion_control_and_loss_recovery.ensures.ends
