-- The laws hold.
use Rattle.pd_host.proofs.Growth.{expiries_queue_nothing, arrivals_queue_our_syn, calls_queue_what_they_ask, calls_ask_few}
use Rattle.pd_host.proofs.laws.law_send_buffer_growth_per_input_bounded.Goals as goal

pub returns : goal.returns
returns c = record {
  expiries = expiries_queue_nothing;
  arrivals = arrivals_queue_our_syn;
  calls = calls_queue_what_they_ask;
  few = calls_ask_few;
}
