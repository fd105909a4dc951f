-- The tokens that are left to look through.
use Rattle.std.proofs.Common.{◌-◌}
use Rattle.pd_refusal.proofs.refusals.last_event.LastEvent.count_accepted_tokens.Given as goal

abbrev pub decreases-halves : goal.decreases-halves
decreases-halves l = l.high - l.low
