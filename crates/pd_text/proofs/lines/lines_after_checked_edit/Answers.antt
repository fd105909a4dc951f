-- An edit ends within the text.
use Rattle.std.proofs.Common.{arith}
use Rattle.pd_text.proofs.EditedLines.{in_range}
use Rattle.pd_text.proofs.lines.lines_after_checked_edit.Goals as goal

pub overflow_add-after : goal.overflow_add-after
overflow_add-after c =
    let range = in_range c.args.list.now c.args.edit.now c.requires in
    omega (arith, range.0, range.1, c.len-len.ensures.len)
