-- The sender is up to date at the moment of the expiry.
use Rattle.std.proofs.Common.{ap, ◌∙◌}
use Rattle.pd_host.specs.Expiries.{deadline_of}
use Rattle.pd_run.specs.RunStates.{RunStateView, KeepsTime}
use Rattle.pd_run.proofs.Bounds.{host_after_expiry}
use Rattle.pd_run.proofs.Timed.{keeps_time}
use Rattle.pd_run.proofs.run_state.RunState.perform_expiry_and_set_clock.Goals as goal

pub invariant_of-self-2 : goal.invariant_of-self-2
invariant_of-self-2 c =
    host_after_expiry KeepsTime (keeps_time c.law_sender_deadline_ahead_and_queue_bounded.ensures) c.self.inside.host c.advance.new.self c.self.inside.clock c.args.at c.in-Ok.field-0 c.self.invariant
    (ap (λ (r : RunStateView). r.host.end_reason) c.self.view_is ∙ c.requires.live)
    (ap (λ (r : RunStateView). deadline_of r.host.state) c.self.view_is ∙ c.requires.due)
    c.in-Ok.ensures
