-- The sender is up to date at the moment of the call.
use Rattle.std.proofs.Common.{ap, ◌∙◌}
use Rattle.pd_run.specs.RunStates.{RunStateView, KeepsTime}
use Rattle.pd_run.proofs.Bounds.{host_after_call, acts_later}
use Rattle.pd_run.proofs.Timed.{keeps_time}
use Rattle.pd_run.proofs.run_state.RunState.call.Goals as goal

pub invariant_of-self-2 : goal.invariant_of-self-2
invariant_of-self-2 c =
    host_after_call KeepsTime (keeps_time c.law_sender_deadline_ahead_and_queue_bounded.ensures) c.self.inside.host c.advance_host_and_call.new.host c.args.call.now c.self.inside.clock c.action_time_not_before_clock-moment.result c.in-Ok.call_answer c.self.invariant
    (ap (λ (r : RunStateView). r.host.end_reason) c.self.view_is ∙ c.requires.live)
    (acts_later c.args.self.now c.args.event.now c.self.inside.clock c.action_time_not_before_clock-moment.result (ap (λ (r : RunStateView). r.clock) c.self.view_is) c.action_time_not_before_clock-moment.ensures)
    c.in-Ok.ensures
