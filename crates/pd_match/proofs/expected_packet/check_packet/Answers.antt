-- The first field whose test fails is the first in which the packet differs.
use Rattle.pd_match.specs.Packets.{compared_fields, passes}
use Rattle.pd_match.specs.Agreement.{Agrees}
use Rattle.pd_match.proofs.Agreements.{passes_decides}
use Rattle.pd_match.proofs.FirstFailing.{first_failing}
use Rattle.pd_match.proofs.expected_packet.check_packet.Goals as goal

pub returns-clause-first : goal.returns-clause-first
returns-clause-first c =
    let packet = c.args.expect.now.packet.now in
    let time_range = c.args.expect.now.time_range in
    rw c.first_difference.ensures
    (first_failing (passes packet time_range c.args.sent.now c.args.tolerance) (Agrees packet time_range c.args.sent.now c.args.tolerance)
    (passes_decides packet time_range c.args.sent.now c.args.tolerance) compared_fields)
