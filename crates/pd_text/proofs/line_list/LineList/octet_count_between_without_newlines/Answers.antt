-- The octets of lines are those between two places.
use Rattle.std.proofs.Common.{arith}
use Rattle.pd_text.proofs.Placed.{start_order, some_octets}
use Rattle.pd_text.proofs.line_list.LineList.octet_count_between_without_newlines.Goals as goal

pub overflow_sub-result : goal.overflow_sub-result
overflow_sub-result c =
    let order = start_order c.packed_lines-lines.result.ends.now c.args.from c.args.to _ c.requires.0 c.packed_lines-lines.ensures.ends in
    omega (arith, order, c.line_start.ensures, c.line_start-2.ensures)

pub returns : goal.returns
returns c =
    let octets = c.packed_lines-lines.result.octets.now in
    let ends = c.packed_lines-lines.result.ends.now in
    let order = start_order ends c.args.from c.args.to _ c.requires.0 c.packed_lines-lines.ensures.ends in
    let all = some_octets octets ends c.args.from c.args.to c.requires.0 (omega (arith, c.requires.1, c.packed_lines-lines.ensures.count)) c.packed_lines-lines.ensures.ends in
    rw (← c.packed_lines-lines.ensures.lines) (omega (arith, all, order, c.line_start.ensures, c.line_start-2.ensures))
