use Rattle.std.proofs.Common.{◌≡◌, ◌↔◌, length}
use Rattle.pd_cli.specs.BesideSteps.{scripts_of}
use Rattle.pd_cli.proofs.verify_report.have_same_names_and_texts.Given as goal

abbrev pub invariant-loop-row : goal.invariant-loop-row
invariant-loop-row l = (scripts_of l.fn.rows ≡ scripts_of l.fn.others) ↔ (scripts_of l.rows ≡ scripts_of l.others)

abbrev pub decreases-loop-row : goal.decreases-loop-row
decreases-loop-row l = length l.rows
