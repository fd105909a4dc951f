use Rattle.std.proofs.Common.{[]}
use Rattle.pd_protocol.specs.Input.{IfKnown, Spends, to_come, work_left}
use Rattle.pdrecord.proofs.Gathering.{SoFar}
use Rattle.pdrecord.proofs.script_input.ScriptInput.read.Given as goal

abbrev pub invariant-loop-numbers : goal.invariant-loop-numbers
invariant-loop-numbers g l = record {
  so_far : IfKnown (SoFar l.text_builder) (g.R.Read.remaining l.fn.reader) (to_come l.line_reader (g.R.Read.remaining l.reader));
  spent : IfKnown (Spends ([], 1048576) l.line_reader) (g.R.Read.remaining l.fn.reader) (g.R.Read.remaining l.reader);
}

abbrev pub decreases-loop-numbers : goal.decreases-loop-numbers
decreases-loop-numbers g l = work_left l.line_reader
