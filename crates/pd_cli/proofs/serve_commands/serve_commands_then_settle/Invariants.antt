use Rattle.std.proofs.Common.{[]}
use Rattle.pd_protocol.specs.Input.{IfKnown, Spends, to_come, work_left}
use Rattle.pd_cli.proofs.Sessions.{SoFar}
use Rattle.pd_cli.proofs.serve_commands.serve_commands_then_settle.Given as goal

abbrev pub invariant-loop-line_reader : goal.invariant-loop-line_reader
invariant-loop-line_reader g l = record {
  ready : g.A.CommandHandler.is_ready l.handler;
  so_far : SoFar g.A.CommandHandler.prints l.initial.handler l.handler (g.W.Write.contents l.initial.writer) (g.W.Write.contents l.writer) (g.R.Read.remaining l.initial.reader) (to_come l.line_reader (g.R.Read.remaining l.reader));
  spent : IfKnown (Spends ([], 1048576) l.line_reader) (g.R.Read.remaining l.initial.reader) (g.R.Read.remaining l.reader);
}

abbrev pub decreases-loop-line_reader : goal.decreases-loop-line_reader
decreases-loop-line_reader g l = work_left l.line_reader
