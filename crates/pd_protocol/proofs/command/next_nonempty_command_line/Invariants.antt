use Rattle.std.proofs.Common.{◌≡◌, ◌≤◌}
use Rattle.pd_protocol.specs.Input.{IfKnown, to_come, work_left, Spends}
use Rattle.pd_protocol.specs.Commands.{commands}
use Rattle.pd_protocol.proofs.command.next_nonempty_command_line.Given as goal

abbrev pub invariant-loop-taken : goal.invariant-loop-taken
invariant-loop-taken g l = record { less : work_left l.line_reader ≤ work_left l.initial.line_reader; same : IfKnown (λ o n. commands o ≡ commands n) (to_come l.initial.line_reader (g.R.Read.remaining l.initial.reader)) (to_come l.line_reader (g.R.Read.remaining l.reader)); spent : IfKnown (Spends l.initial.line_reader l.line_reader) (g.R.Read.remaining l.initial.reader) (g.R.Read.remaining l.reader) }

abbrev pub decreases-loop-taken : goal.decreases-loop-taken
decreases-loop-taken g l = work_left l.line_reader
