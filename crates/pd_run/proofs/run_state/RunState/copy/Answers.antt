-- The run is up to date on a copy of its host.
use Rattle.std.proofs.Common.{sym, subst}
use Rattle.pd_run.specs.RunStates.{IsUpToDate}
use Rattle.pd_run.proofs.run_state.RunState.copy.Goals as goal

pub invariant_of-result : goal.invariant_of-result
invariant_of-result c = subst (λ host. IsUpToDate host c.self.inside.clock) (sym c.with_heap_parts.ensures) c.self.invariant
