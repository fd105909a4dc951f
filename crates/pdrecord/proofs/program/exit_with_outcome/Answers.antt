use Rattle.std.proofs.Common.{inr}
use Rattle.pdrecord.proofs.program.exit_with_outcome.Goals as goal

pub returns-in-Ok-Recorded : goal.returns-in-Ok-Recorded
returns-in-Ok-Recorded g c =
    let wrote = rw c.as_slice.ensures.value at c.in-Err-write_all_without_flush.ensures.err in
    let stderr = rw c.in-Err-write_all_without_flush.ensures.only at c.write_fault_and_return_fault_exit.ensures.stderr in
    rw (c.in-Ok-Recorded.is, c.in-Ok-Recorded.field-0-is) (inr (c.write_fault_and_return_fault_exit.ensures.status, stderr, wrote))
