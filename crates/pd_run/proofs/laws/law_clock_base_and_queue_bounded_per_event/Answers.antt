-- The bounds hold.
use Rattle.pd_run.proofs.Underway.{starts_underway, steps_go_on, rebinding_goes_on, starts_held, steps_stay_held}
use Rattle.pd_run.proofs.laws.law_clock_base_and_queue_bounded_per_event.Goals as goal

pub returns : goal.returns
returns c = record {
  start = starts_underway c.law_sender_deadline_ahead_and_queue_bounded.ensures;
  step = steps_go_on c.law_sender_deadline_ahead_and_queue_bounded.ensures;
  rebinding = rebinding_goes_on c.law_sender_deadline_ahead_and_queue_bounded.ensures;
  start_held = starts_held c.law_sender_deadline_ahead_and_queue_bounded.ensures;
  step_held = steps_stay_held c.law_sender_deadline_ahead_and_queue_bounded.ensures c.law_inputs_use_only_noted_settings.ensures;
}
