use Rattle.std.proofs.Common.{◌≡◌, take, flat_map}
use Rattle.pd_cli.specs.Report.{row_line}
use Rattle.pd_cli.proofs.report_text.render.Given as goal

abbrev pub invariant-loop-row : goal.invariant-loop-row
invariant-loop-row l = l.out.items ≡ flat_map row_line (take l.row-index l.row-items)
