use Rattle.pd_cli.proofs.Sessions.{does_from, does_none}
use Rattle.pd_cli.proofs.serve_commands.execute_command_and_write_reply.Goals as goal

pub returns-clause-does : goal.returns-clause-does
returns-clause-does g c =
    does_from g.A.CommandHandler.prints g.A.CommandHandler.fails c.write_all_without_flush.result c.args.handler.now c.execute_command_and_return_reply.new.handler c.args.command c.as_slice.result.now (g.W.Write.contents c.args.writer.now) (g.W.Write.contents c.write_all_without_flush.new.writer)
    c.write_all_without_flush.ensures.ok c.write_all_without_flush.ensures.err c.write_all_without_flush.ensures.only (rw c.as_slice.ensures.value c.in_ok-reply.ensures.printed)

pub returns-in_err-reply-clause-does : goal.returns-in_err-reply-clause-does
returns-in_err-reply-clause-does g c =
    does_none g.A.CommandHandler.prints g.A.CommandHandler.fails c.from_residual.result c.in_err-reply.field-0.0 c.args.handler.now c.execute_command_and_return_reply.new.handler c.args.command (g.W.Write.contents c.args.writer.now) c.from_residual.ensures.1 c.in_err-reply.ensures.failed
