use Rattle.std.proofs.Common.{codes}
use Rattle.std.specs.Fmt.{decimal}
use Rattle.pd_protocol.proofs.Chains.{on_ok_both}
use Rattle.pd_protocol.proofs.verdicts.put_verdict.Goals as goal

pub returns-in-Unsupported : goal.returns-in-Unsupported
returns-in-Unsupported c = rw c.in-Unsupported.is (on_ok_both _ _ c.args.out.now.items (codes "unsupported ") (decimal c.in-Unsupported.line) c.put_prefix_and_number-in-Unsupported.ensures)
