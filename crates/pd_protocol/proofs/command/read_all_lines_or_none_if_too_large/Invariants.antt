use Rattle.std.proofs.Common.{◌≤◌}
use Rattle.pd_protocol.specs.Input.{IfKnown, to_come, work_left, Spends}
use Rattle.pd_protocol.proofs.BuildText.{SoFar}
use Rattle.pd_protocol.proofs.command.read_all_lines_or_none_if_too_large.Given as goal

abbrev pub invariant-loop-turn : goal.invariant-loop-turn
invariant-loop-turn g l = record { less : work_left l.line_reader ≤ work_left l.initial.line_reader; so_far : IfKnown (SoFar l._turn l.text_builder) (to_come l.initial.line_reader (g.R.Read.remaining l.initial.reader)) (to_come l.line_reader (g.R.Read.remaining l.reader)); spent : IfKnown (Spends l.initial.line_reader l.line_reader) (g.R.Read.remaining l.initial.reader) (g.R.Read.remaining l.reader) }
