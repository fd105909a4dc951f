use Rattle.std.proofs.Common.{refl, rules}
use Rattle.pd_cli.proofs.shared_handler.SharedHandlerCommandHandler.settle.Goals as goal

pub returns-clause-printed : goal.returns-clause-printed
returns-clause-printed g c = ((_, c.in_ok-check_same_scripts_and_settings_as_own.ensures.scratch (search rules), c.in_ok-octets.ensures), refl)
