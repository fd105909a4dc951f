-- The octets lie within those of all lines.
use Rattle.std.proofs.Common.{rules, arith}
use Rattle.pd_text.proofs.Placed.{start_order, start_within}
use Rattle.pd_text.proofs.packed_lines.PackedLines.octets_of_lines.Goals as goal

pub slice_bounds-result-count : goal.slice_bounds-result-count
slice_bounds-result-count c =
    let order = start_order c.args.self.now.ends.now c.args.from c.args.to _ c.requires.order c.requires.ends in
    omega (arith, order, c.line_start.ensures, c.line_start-2.ensures)

pub slice_bounds-result-start : goal.slice_bounds-result-start
slice_bounds-result-start c =
    let order = start_order c.args.self.now.ends.now c.args.from c.args.to _ c.requires.order c.requires.ends in
    let within = (start_within 0 _ c.args.self.now.ends.now c.args.to c.requires.ends).1 in
    search (rules, order, within)

pub slice_bounds-result-end : goal.slice_bounds-result-end
slice_bounds-result-end c =
    let order = start_order c.args.self.now.ends.now c.args.from c.args.to _ c.requires.order c.requires.ends in
    let within = (start_within 0 _ c.args.self.now.ends.now c.args.to c.requires.ends).1 in
    search (rules, order, within)
