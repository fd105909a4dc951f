-- One more item of the header.
use Rattle.pd_run.proofs.HeaderItems.{one_more_item}
use Rattle.pd_run.proofs.run_state.RunState.header_tolerance_or_unsupported.Goals as goal

pub loop-item-preserved : goal.loop-item-preserved
loop-item-preserved c =
    let more = one_more_item _ _ _ _ _ _ _ c.loop-item-test.true c.in-Tolerance.is c.loop-item.invariant.tested c.loop-item.invariant.last in
    record { tested = more.0; last = more.1 }
