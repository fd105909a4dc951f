-- Lines that stand alike are the same.
use Rattle.std.proofs.Common.{◌≡◌, ◌+◌, ◌-◌, ◌≤◌, take, drop, ◌∙◌, arith}
use Rattle.pd_text.proofs.SameLines.{front_more}
use Rattle.pd_text.proofs.line_list.LineList.lower_bound_by_halving.Goals.{then-step-most+then-has_same_lines_in_place_between, else-step-most}
use Rattle.pd_text.proofs.line_list.LineList.lower_bound_by_halving.Goals as goal

pub halves-preserved : goal.halves-preserved
halves-preserved c = elim c.if-step-most.branch [
  | then-step-most+then-has_same_lines_in_place_between w ↦
      let same = c.halves.same in
      let next = c.if-step-most.same in
      let few : next ≤ c.args.most = omega (arith, w.same-is, w.if-step-most.true, c.halves.invariant.0) in
      let alike : take (next - same) (drop same c.args.self.now) ≡ take (next - same) (drop same c.args.other.now) =
      rw (← w.packed_lines.ensures.lines, ← w.packed_lines-then-step-most.ensures.lines, w.same-is) (w.has_same_lines_in_place_between.ensures w.if-has_same_lines_in_place_between.true) in
      let n : same + (next - same) ≡ next = omega (arith, w.same-is) in
      let more = front_more same (next - same) c.args.self.now c.args.other.now alike (omega (arith, few, n, c.requires.within)) (omega (arith, few, n, c.requires.beside)) in
      (few, rw n at more ∙ c.halves.invariant.1)
  | else-step-most w ↦ rw w.same-is c.halves.invariant
]
