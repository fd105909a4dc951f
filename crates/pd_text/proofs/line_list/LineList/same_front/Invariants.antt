use Rattle.std.proofs.Common.{◌≡◌, ◌+◌, drop}
use Rattle.pd_text.specs.Text.{common_prefix}
use Rattle.pd_text.proofs.line_list.LineList.same_front.Given as goal

abbrev pub invariant-lines : goal.invariant-lines
invariant-lines l = l.i + common_prefix (drop l.i l.fn.self) (drop l.i l.fn.other) ≡ common_prefix l.fn.self l.fn.other
