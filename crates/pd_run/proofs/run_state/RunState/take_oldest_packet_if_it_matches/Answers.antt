-- The sender stays up to date without its oldest packet.
use Rattle.pd_run.proofs.Timed.{host_taken}
use Rattle.pd_run.proofs.run_state.RunState.take_oldest_packet_if_it_matches.Goals as goal

pub invariant_of-self : goal.invariant_of-self
invariant_of-self c =
    host_taken c.law_sender_deadline_ahead_and_queue_bounded.ensures c.self.inside.host c.take.new.self c.self.inside.clock c.self.invariant c.take.ensures.rest
