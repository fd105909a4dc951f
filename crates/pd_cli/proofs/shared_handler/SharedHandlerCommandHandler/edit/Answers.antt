use Rattle.pd_protocol.specs.declared.command.Command.TheVariants.{Edit}
use Rattle.pd_cli.proofs.shared_handler.SharedHandlerCommandHandler.edit.Goals as goal

pub returns-in-Ok-clause-failed : goal.returns-in-Ok-clause-failed
returns-in-Ok-clause-failed g c = c.empty_reply_if_own_result_ok.ensures.only (Edit c.args.name.now c.args.edit)
