use Rattle.std.proofs.Common.{◌≡◌, ◌≤◌, ◌+◌, drop}
use Rattle.pd_text.specs.Text.{common_prefix}
use Rattle.pd_text.proofs.line_list.LineList.lower_bound_by_halving.Given as goal

abbrev pub invariant-halves : goal.invariant-halves
invariant-halves l = (l.same ≤ l.most) × (l.same + common_prefix (drop l.same l.self) (drop l.same l.other) ≡ common_prefix l.self l.other)
