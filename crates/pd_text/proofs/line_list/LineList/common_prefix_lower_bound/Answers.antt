-- Lines that stand alike are the same.
use Rattle.std.proofs.Common.{◌≡◌, ◌-◌, take, arith}
use Rattle.pd_text.proofs.SameLines.{front_same}
use Rattle.pd_text.proofs.line_list.LineList.common_prefix_lower_bound.Goals as goal

pub returns-then-has_same_lines_in_place_between-clause-same : goal.returns-then-has_same_lines_in_place_between-clause-same
returns-then-has_same_lines_in_place_between-clause-same c =
    let n = c.saturating_sub-before_last.result in
    let whole : n - 0 ≡ n = omega arith in
    let stand = rw whole at c.has_same_lines_in_place_between.ensures c.if-has_same_lines_in_place_between.true in
    let alike : take n c.args.self.now ≡ take n c.args.other.now = rw (← c.packed_lines.ensures.lines, ← c.packed_lines-2.ensures.lines) stand in
    front_same n c.args.self.now c.args.other.now alike (omega arith) (omega arith)
