use Rattle.std.proofs.Common.{◌≡◌}
use Rattle.pd_cli.proofs.Counting.{so_far}
use Rattle.pd_cli.proofs.report_text.Totals.of_rows.Given as goal

abbrev pub invariant-loop-row : goal.invariant-loop-row
invariant-loop-row l = l.totals ≡ so_far l.rows l.row-index
