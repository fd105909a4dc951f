use Rattle.std.proofs.Common.{[]}
use Rattle.pd_protocol.specs.Input.{to_come}
use Rattle.pd_cli.proofs.Sessions.{so_first, so_more, next_some, next_none, fault_serves, out_serves, end_serves, now_answered, stop_answered, end_answered}
use Rattle.pd_protocol.proofs.Spending.{spent_none, spends_then}
use Rattle.pd_cli.proofs.Causes.{caused_reads, stop_reads, end_reads}
use Rattle.pd_cli.proofs.serve_commands.serve_commands_then_settle.Goals as goal

pub loop-line_reader-init : goal.loop-line_reader-init
loop-line_reader-init g c = record {
  ready = c.requires;
  so_far = so_first g.A.CommandHandler.prints c.args.handler.now c.new-line_reader.result (g.W.Write.contents c.args.writer.now) (g.R.Read.remaining c.args.reader.now) c.new-line_reader.ensures;
  spent = spent_none c.new-line_reader.result (g.R.Read.remaining c.args.reader.now) c.new-line_reader.ensures;
}

pub returns-in_err-command-clause-serves : goal.returns-in_err-command-clause-serves
returns-in_err-command-clause-serves g c =
    fault_serves g.A.CommandHandler.prints g.A.CommandHandler.fails g.A.CommandHandler.passes c.from_residual.result c.in_err-command.field-0.0 c.args.handler.now c.loop-line_reader.handler (g.W.Write.contents c.args.writer.now) (g.W.Write.contents c.loop-line_reader.writer) (g.R.Read.remaining c.args.reader.now) (to_come c.loop-line_reader.line_reader (g.R.Read.remaining c.loop-line_reader.reader))
    c.from_residual.ensures.1 c.loop-line_reader.invariant.so_far c.in_err-command.ensures.err

pub returns-in_err-command-clause-answered : goal.returns-in_err-command-clause-answered
returns-in_err-command-clause-answered g c =
    now_answered g.A.CommandHandler.prints g.A.CommandHandler.fails c.args.handler.now c.loop-line_reader.handler (g.W.Write.contents c.args.writer.now) (g.W.Write.contents c.loop-line_reader.writer) (g.R.Read.remaining c.args.reader.now) (to_come c.loop-line_reader.line_reader (g.R.Read.remaining c.loop-line_reader.reader)) c.loop-line_reader.invariant.so_far

pub returns-in_err-execute_command_and_write_reply-in-Some-clause-serves : goal.returns-in_err-execute_command_and_write_reply-in-Some-clause-serves
returns-in_err-execute_command_and_write_reply-in-Some-clause-serves g c =
    let d = c.in_err-execute_command_and_write_reply-in-Some.ensures.does in
    let u = to_come c.loop-line_reader.line_reader (g.R.Read.remaining c.loop-line_reader.reader) in
    let v = to_come c.next_command.new.line_reader (g.R.Read.remaining c.next_command.new.reader) in
    let some = rw c.in-Some.is at c.in_ok-command.ensures.command in
    out_serves g.A.CommandHandler.prints g.A.CommandHandler.fails g.A.CommandHandler.passes c.from_residual-in_err-execute_command_and_write_reply-in-Some.result c.in_err-execute_command_and_write_reply-in-Some.field-0.0 c.args.handler.now c.loop-line_reader.handler c.execute_command_and_write_reply.new.handler c.in-Some.command d.0 (g.W.Write.contents c.args.writer.now) (g.W.Write.contents c.loop-line_reader.writer) (g.W.Write.contents c.execute_command_and_write_reply.new.writer) (g.R.Read.remaining c.args.reader.now) u
    c.from_residual-in_err-execute_command_and_write_reply-in-Some.ensures.1 c.loop-line_reader.invariant.so_far (next_some c.in-Some.command u v some) d.1 d.2

pub returns-in_err-execute_command_and_write_reply-in-Some-clause-answered : goal.returns-in_err-execute_command_and_write_reply-in-Some-clause-answered
returns-in_err-execute_command_and_write_reply-in-Some-clause-answered g c =
    let d = c.in_err-execute_command_and_write_reply-in-Some.ensures.does in
    stop_answered g.A.CommandHandler.prints g.A.CommandHandler.fails c.in_err-execute_command_and_write_reply-in-Some.field-0.0 c.args.handler.now c.loop-line_reader.handler c.execute_command_and_write_reply.new.handler c.in-Some.command d.0 (g.W.Write.contents c.args.writer.now) (g.W.Write.contents c.loop-line_reader.writer) (g.R.Read.remaining c.args.reader.now) (to_come c.loop-line_reader.line_reader (g.R.Read.remaining c.loop-line_reader.reader))
    c.loop-line_reader.invariant.so_far d.2

pub returns-in-None-clause-serves : goal.returns-in-None-clause-serves
returns-in-None-clause-serves g c =
    let d = c.settle_and_write_last_report.ensures in
    let u = to_come c.loop-line_reader.line_reader (g.R.Read.remaining c.loop-line_reader.reader) in
    let v = to_come c.next_command.new.line_reader (g.R.Read.remaining c.next_command.new.reader) in
    let none = rw c.in-None.is at c.in_ok-command.ensures.command in
    end_serves g.A.CommandHandler.prints g.A.CommandHandler.fails g.A.CommandHandler.passes c.settle_and_write_last_report.result c.args.handler.now c.loop-line_reader.handler c.settle_and_write_last_report.new.handler d.0 (g.W.Write.contents c.args.writer.now) (g.W.Write.contents c.loop-line_reader.writer) (g.W.Write.contents c.settle_and_write_last_report.new.writer) (g.R.Read.remaining c.args.reader.now) u c.loop-line_reader.invariant.so_far (next_none u v none) d.1 d.2

pub returns-in-None-clause-answered : goal.returns-in-None-clause-answered
returns-in-None-clause-answered g c =
    let d = c.settle_and_write_last_report.ensures in
    end_answered g.A.CommandHandler.prints g.A.CommandHandler.fails g.A.CommandHandler.passes c.settle_and_write_last_report.result c.args.handler.now c.loop-line_reader.handler c.settle_and_write_last_report.new.handler d.0 (g.W.Write.contents c.args.writer.now) (g.W.Write.contents c.loop-line_reader.writer) (g.R.Read.remaining c.args.reader.now) (to_come c.loop-line_reader.line_reader (g.R.Read.remaining c.loop-line_reader.reader))
    c.loop-line_reader.invariant.so_far d.2

pub loop-line_reader-preserved : goal.loop-line_reader-preserved
loop-line_reader-preserved g c =
    let d = c.in_ok-execute_command_and_write_reply-in-Some.ensures.does in
    let u = to_come c.loop-line_reader.line_reader (g.R.Read.remaining c.loop-line_reader.reader) in
    let v = to_come c.next_command.new.line_reader (g.R.Read.remaining c.next_command.new.reader) in
    let some = rw c.in-Some.is at c.in_ok-command.ensures.command in
    record {
      ready = c.in_ok-execute_command_and_write_reply-in-Some.ensures.ready;
      so_far = so_more g.A.CommandHandler.prints c.args.handler.now c.loop-line_reader.handler c.execute_command_and_write_reply.new.handler c.in-Some.command d.0 (g.W.Write.contents c.args.writer.now) (g.W.Write.contents c.loop-line_reader.writer) (g.W.Write.contents c.execute_command_and_write_reply.new.writer) (g.R.Read.remaining c.args.reader.now) u v c.loop-line_reader.invariant.so_far some d.1 d.2;
      spent = spends_then ([], 1048576) c.loop-line_reader.line_reader c.next_command.new.line_reader (g.R.Read.remaining c.args.reader.now) (g.R.Read.remaining c.loop-line_reader.reader) (g.R.Read.remaining c.next_command.new.reader) c.loop-line_reader.invariant.spent (rw c.in-Some.is at c.in_ok-command.ensures.reads);
    }

pub returns-in_err-command-clause-cause : goal.returns-in_err-command-clause-cause
returns-in_err-command-clause-cause g c =
    caused_reads g.A.CommandHandler.fails c.from_residual.result c.in_err-command.field-0.0 (g.R.InputStream.has_failed c.next_command.new.reader) c.loop-line_reader.line_reader c.next_command.new.line_reader (g.R.Read.remaining c.args.reader.now) (g.R.Read.remaining c.loop-line_reader.reader)
    c.from_residual.ensures.1 c.loop-line_reader.invariant.spent c.in_err-command.ensures.cause

pub returns-in_err-execute_command_and_write_reply-in-Some-clause-cause : goal.returns-in_err-execute_command_and_write_reply-in-Some-clause-cause
returns-in_err-execute_command_and_write_reply-in-Some-clause-cause g c =
    let d = c.in_err-execute_command_and_write_reply-in-Some.ensures.does in
    stop_reads g.A.CommandHandler.fails g.A.CommandHandler.prints c.from_residual-in_err-execute_command_and_write_reply-in-Some.result c.in_err-execute_command_and_write_reply-in-Some.field-0.0 (g.R.InputStream.has_failed c.next_command.new.reader) (g.R.Read.remaining c.args.reader.now) c.loop-line_reader.handler c.execute_command_and_write_reply.new.handler c.in-Some.command d.0
    c.from_residual-in_err-execute_command_and_write_reply-in-Some.ensures.1 d.2

pub returns-in-None-clause-cause : goal.returns-in-None-clause-cause
returns-in-None-clause-cause g c =
    let d = c.settle_and_write_last_report.ensures in
    end_reads g.A.CommandHandler.fails g.A.CommandHandler.prints g.A.CommandHandler.passes c.settle_and_write_last_report.result (g.R.InputStream.has_failed c.next_command.new.reader) (g.R.Read.remaining c.args.reader.now) c.loop-line_reader.handler c.settle_and_write_last_report.new.handler d.0 d.2
