-- The sender stays up to date: its connection goes by the settings that it was begun under.
use Rattle.pd_run.proofs.Timed.{host_rebound}
use Rattle.pd_run.proofs.run_state.RunState.set_settings.Goals as goal

pub invariant_of-self : goal.invariant_of-self
invariant_of-self c =
    host_rebound c.law_sender_deadline_ahead_and_queue_bounded.ensures c.self.inside.host c.set_settings.new.self _ c.self.inside.clock c.self.invariant c.set_settings.ensures
