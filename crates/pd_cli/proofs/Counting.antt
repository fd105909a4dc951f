-- The totals of rows, one row more.
use Rattle.std.proofs.Common.{◌≡◌, ℕ, ◌+◌, ◌<◌, List, length, take, slice_index_or, count_by, cond, Bool, true, false, Option, ap, ◌∙◌, refl, arith}
use Rattle.std.proofs.lemmas.List.{length-take}
use Rattle.std.proofs.lemmas.List.Sums.{count_by_more_yes, count_by_more_no, count_by-le-length}
use Rattle.pd_run.specs.declared.verdict.Verdict.{Verdict}
use Rattle.pd_book.specs.declared.report.Row.{Row}
use Rattle.pd_cli.specs.Report.{is_of, number}
use Rattle.pd_cli.specs.declared.report_text.RowKind.{RowKind}
use Rattle.pd_cli.specs.declared.report_text.RowKind.TheVariants as row_kind
use Rattle.pd_cli.specs.declared.report_text.Totals.{Totals}

-- the totals with the first rows counted
abbrev pub so_far : List Row → ℕ → Totals
so_far rows i = record {
  total = length rows;
  pass = number row_kind.Pass (take i rows);
  fail = number row_kind.Fail (take i rows);
  syntax = number row_kind.Syntax (take i rows);
  unsupported = number row_kind.Unsupported (take i rows);
  limit = number row_kind.Limit (take i rows);
  pending = number row_kind.Pending (take i rows);
}

abbrev one_if : Bool → ℕ → ℕ
one_if b n = cond b (n + 1) n

-- with a row of this verdict more
abbrev pub with_one : Option Verdict → Totals → Totals
with_one v t = record {
  total = t.total;
  pass = one_if (is_of row_kind.Pass v) t.pass;
  fail = one_if (is_of row_kind.Fail v) t.fail;
  syntax = one_if (is_of row_kind.Syntax v) t.syntax;
  unsupported = one_if (is_of row_kind.Unsupported v) t.unsupported;
  limit = one_if (is_of row_kind.Limit v) t.limit;
  pending = one_if (is_of row_kind.Pending v) t.pending;
}

count_more : (p : Row → Bool) (rows : List Row) (i : ℕ) (row : Row) → i < length rows → slice_index_or rows i row ≡ row → (b : Bool) → p row ≡ b → count_by p (take (i + 1) rows) ≡ one_if b (count_by p (take i rows))
count_more p rows i row h at true e = count_by_more_yes p rows i row h (ap p at ∙ e)
count_more p rows i row h at false e = count_by_more_no p rows i row h (ap p at ∙ e)

number_more : (c : RowKind) (rows : List Row) (i : ℕ) (row : Row) (v : Option Verdict) → i < length rows → slice_index_or rows i row ≡ row → row.verdict ≡ v → number c (take (i + 1) rows) ≡ one_if (is_of c v) (number c (take i rows))
number_more c rows i row v h at is = count_more (λ (r : Row). is_of c r.verdict) rows i row h at (is_of c v) (ap (is_of c) is)

pub counted_more : (rows : List Row) (i : ℕ) (row : Row) (v : Option Verdict) → i < length rows → slice_index_or rows i row ≡ row → row.verdict ≡ v → so_far rows (i + 1) ≡ with_one v (so_far rows i)
counted_more rows i row v h at is =
    rw (number_more row_kind.Pass rows i row v h at is, number_more row_kind.Fail rows i row v h at is, number_more row_kind.Syntax rows i row v h at is, number_more row_kind.Unsupported rows i row v h at is, number_more row_kind.Limit rows i row v h at is, number_more row_kind.Pending rows i row v h at is) refl

pub number_few : (c : RowKind) (rows : List Row) (i : ℕ) → i < length rows → number c (take i rows) < length rows
number_few c rows i h = omega (arith, h, count_by-le-length (λ (r : Row). is_of c r.verdict) (take i rows), length-take i rows)
