-- Runs rest on the sender's laws.
use Rattle.pd_run.proofs.laws.law_sender_deadline_ahead_and_queue_bounded.Goals as goal

pub returns : goal.returns
returns c = record {
  start = c.law_packets_in_order_and_deadline_ahead.ensures.start;
  advances = c.law_packets_in_order_and_deadline_ahead.ensures.advances;
  arrivals = c.law_packets_in_order_and_deadline_ahead.ensures.arrivals;
  calls = c.law_packets_in_order_and_deadline_ahead.ensures.calls;
  taking = c.law_packets_in_order_and_deadline_ahead.ensures.taking;
  rebinding = c.law_packets_in_order_and_deadline_ahead.ensures.rebinding;
  queued_by_expiries = c.law_send_buffer_growth_per_input_bounded.ensures.expiries;
  queued_by_arrivals = c.law_send_buffer_growth_per_input_bounded.ensures.arrivals;
  queued_by_calls = c.law_send_buffer_growth_per_input_bounded.ensures.calls;
  asked_by_calls = c.law_send_buffer_growth_per_input_bounded.ensures.few;
}
