use Rattle.pd_cli.proofs.Reported.{nothing_told, steps_told, rules_told, blocks_told}
use Rattle.pd_cli.proofs.laws.law_jobs_report_only_what_is_asked.Goals as goal

pub returns-clause-nothing : goal.returns-clause-nothing
returns-clause-nothing c = nothing_told

pub returns-clause-steps : goal.returns-clause-steps
returns-clause-steps c = steps_told

pub returns-clause-rules : goal.returns-clause-rules
returns-clause-rules c = rules_told

pub returns-clause-blocks : goal.returns-clause-blocks
returns-clause-blocks c = blocks_told
