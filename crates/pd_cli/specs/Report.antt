-- The octets of a report.
use Rattle.std.specs.Prelude.{ℕ, Bool, true, false, List, ◌++◌, length, flat_map, count_by, codes, Option, Some, None}
use Rattle.std.specs.Fmt.{decimal}
use Rattle.pd_run.specs.declared.verdict.Verdict.{Verdict}
use Rattle.pd_run.specs.declared.verdict.Verdict.TheVariants.{Pass, Fail, Syntax, Unsupported, Limit}
use Rattle.pd_book.specs.declared.report.Row.{Row}
use Rattle.pd_book.specs.Report.{ReportView}
use Rattle.pd_protocol.specs.Verdicts.{verdict_text}
use Rattle.pd_cli.specs.declared.report_text.RowKind.{RowKind}
use Rattle.pd_cli.specs.declared.report_text.RowKind.TheVariants as row_kind
use Rattle.pd_cli.specs.declared.report_text.Totals.{Totals}

-- the text of a row: its verdict, or that this is pending
abbrev pub row_text : Option Verdict → List ℕ
row_text None = codes "pending"
row_text (Some verdict) = verdict_text verdict

-- the line of a script: its name and its verdict
abbrev pub row_line : Row → List ℕ
row_line row = row.name ++ codes " " ++ row_text row.verdict ++ codes "\n"

-- whether a row with this verdict is of a class
abbrev pub is_of : RowKind → Option Verdict → Bool
is_of row_kind.Pass (Some (Pass events)) = true
is_of row_kind.Fail (Some (Fail line kind)) = true
is_of row_kind.Syntax (Some (Syntax line)) = true
is_of row_kind.Unsupported (Some (Unsupported line)) = true
is_of row_kind.Limit (Some (Limit line)) = true
is_of row_kind.Pending None = true
is_of c verdict = false

-- how many rows are of a class
abbrev pub number : RowKind → List Row → ℕ
number c rows = count_by (λ (row : Row). is_of c row.verdict) rows

-- how many rows there are, and how many of each class
abbrev pub totals : List Row → Totals
totals rows = record {
  total = length rows;
  pass = number row_kind.Pass rows;
  fail = number row_kind.Fail rows;
  syntax = number row_kind.Syntax rows;
  unsupported = number row_kind.Unsupported rows;
  limit = number row_kind.Limit rows;
  pending = number row_kind.Pending rows;
}

-- the line of the totals
abbrev pub totals_line : Totals → List ℕ
totals_line t =
    codes "total " ++ decimal t.total
    ++ codes " pass " ++ decimal t.pass
    ++ codes " fail " ++ decimal t.fail
    ++ codes " syntax " ++ decimal t.syntax
    ++ codes " unsupported " ++ decimal t.unsupported
    ++ codes " limit " ++ decimal t.limit
    ++ codes " pending " ++ decimal t.pending
    ++ codes "\n"

-- the octets of a report: a line for each row, in order, then the totals
abbrev pub rendered : ReportView → List ℕ
rendered report = flat_map row_line report.rows ++ totals_line (totals report.rows)
