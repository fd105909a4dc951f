use Rattle.pd_cli.proofs.Sessions.{settles_from, settles_none}
use Rattle.pd_cli.proofs.serve_commands.settle_and_write_last_report.Goals as goal

pub returns-in_err-write_all_without_flush : goal.returns-in_err-write_all_without_flush
returns-in_err-write_all_without_flush g c =
    settles_from g.A.CommandHandler.prints g.A.CommandHandler.fails g.A.CommandHandler.passes c.from_residual-in_err-write_all_without_flush.result c.in_err-write_all_without_flush.field-0.0 c.args.handler.now c.settle.new.self c.as_slice.result.now (g.W.Write.contents c.args.writer.now) (g.W.Write.contents c.write_all_without_flush.new.writer)
    c.from_residual-in_err-write_all_without_flush.ensures.1 c.in_err-write_all_without_flush.ensures.err c.in_err-write_all_without_flush.ensures.only (rw c.as_slice.ensures.value c.in_ok-octets.ensures.printed)

pub returns-in_err-octets : goal.returns-in_err-octets
returns-in_err-octets g c =
    settles_none g.A.CommandHandler.prints g.A.CommandHandler.fails g.A.CommandHandler.passes c.from_residual.result c.in_err-octets.field-0.0 c.args.handler.now c.settle.new.self (g.W.Write.contents c.args.writer.now) c.from_residual.ensures.1 c.in_err-octets.ensures.failed
