use Rattle.pd_protocol.specs.declared.command.Command.TheVariants.{Add}
use Rattle.pd_cli.proofs.shared_handler.SharedHandlerCommandHandler.add.Goals as goal

pub returns-in-Err-clause-failed : goal.returns-in-Err-clause-failed
returns-in-Err-clause-failed g c = c.refusal_line_if_own_copy_agrees.ensures.only (Add c.args.name c.args.text)
