-- Each row is counted once.
use Rattle.std.proofs.Common.{◌≡◌, ap, sym, Some, rules}
use Rattle.pd_run.specs.declared.verdict.Verdict.TheVariants.{Pass, Fail, Syntax, Unsupported, Limit}
use Rattle.pd_cli.specs.declared.report_text.RowKind.TheVariants as row_kind
use Rattle.pd_cli.specs.declared.report_text.Totals.{Totals}
use Rattle.pd_cli.proofs.Counting.{counted_more, number_few}
use Rattle.pd_cli.proofs.report_text.Totals.of_rows.Goals.{in-Some-Pass, in-Some-Fail, in-Some-Syntax, in-Some-Unsupported, in-Some-Limit, in-None}
use Rattle.pd_cli.proofs.report_text.Totals.of_rows.Goals as goal

pub overflow_add-totals : goal.overflow_add-totals
overflow_add-totals c =
    let few = number_few row_kind.Pass c.args.rows.now c.loop-row.row-index c.loop-row-test.true in
    let count = ap (λ (t : Totals). t.pass) c.loop-row.invariant in
    search (rules, few, count)

pub overflow_add-totals-in-Some-Fail : goal.overflow_add-totals-in-Some-Fail
overflow_add-totals-in-Some-Fail c =
    let few = number_few row_kind.Fail c.args.rows.now c.loop-row.row-index c.loop-row-test.true in
    let count = ap (λ (t : Totals). t.fail) c.loop-row.invariant in
    search (rules, few, count)

pub overflow_add-totals-in-Some-Syntax : goal.overflow_add-totals-in-Some-Syntax
overflow_add-totals-in-Some-Syntax c =
    let few = number_few row_kind.Syntax c.args.rows.now c.loop-row.row-index c.loop-row-test.true in
    let count = ap (λ (t : Totals). t.syntax) c.loop-row.invariant in
    search (rules, few, count)

pub overflow_add-totals-in-Some-Unsupported : goal.overflow_add-totals-in-Some-Unsupported
overflow_add-totals-in-Some-Unsupported c =
    let few = number_few row_kind.Unsupported c.args.rows.now c.loop-row.row-index c.loop-row-test.true in
    let count = ap (λ (t : Totals). t.unsupported) c.loop-row.invariant in
    search (rules, few, count)

pub overflow_add-totals-in-Some-Limit : goal.overflow_add-totals-in-Some-Limit
overflow_add-totals-in-Some-Limit c =
    let few = number_few row_kind.Limit c.args.rows.now c.loop-row.row-index c.loop-row-test.true in
    let count = ap (λ (t : Totals). t.limit) c.loop-row.invariant in
    search (rules, few, count)

pub overflow_add-totals-in-None : goal.overflow_add-totals-in-None
overflow_add-totals-in-None c =
    let few = number_few row_kind.Pending c.args.rows.now c.loop-row.row-index c.loop-row-test.true in
    let count = ap (λ (t : Totals). t.pending) c.loop-row.invariant in
    search (rules, few, count)

pub loop-row-preserved : goal.loop-row-preserved
loop-row-preserved c =
    let rows = c.args.rows.now in
    let i = c.loop-row.row-index in
    let at = sym c.row-item.is in
    elim c.match-row.branch [
      | in-Some-Pass w ↦
          let verdict : c.row-item.result.verdict ≡ Some (Pass w.in-Some-Pass.field-0-0) = search rules in
          rw (w.totals-is, c.loop-row.invariant) (sym (counted_more rows i c.row-item.result _ c.loop-row-test.true at verdict))
      | in-Some-Fail w ↦
          let verdict : c.row-item.result.verdict ≡ Some (Fail w.in-Some-Fail.field-0-0 w.in-Some-Fail.field-0-1) = search rules in
          rw (w.totals-is, c.loop-row.invariant) (sym (counted_more rows i c.row-item.result _ c.loop-row-test.true at verdict))
      | in-Some-Syntax w ↦
          let verdict : c.row-item.result.verdict ≡ Some (Syntax w.in-Some-Syntax.field-0-0) = search rules in
          rw (w.totals-is, c.loop-row.invariant) (sym (counted_more rows i c.row-item.result _ c.loop-row-test.true at verdict))
      | in-Some-Unsupported w ↦
          let verdict : c.row-item.result.verdict ≡ Some (Unsupported w.in-Some-Unsupported.field-0-0) = search rules in
          rw (w.totals-is, c.loop-row.invariant) (sym (counted_more rows i c.row-item.result _ c.loop-row-test.true at verdict))
      | in-Some-Limit w ↦
          let verdict : c.row-item.result.verdict ≡ Some (Limit w.in-Some-Limit.field-0-0) = search rules in
          rw (w.totals-is, c.loop-row.invariant) (sym (counted_more rows i c.row-item.result _ c.loop-row-test.true at verdict))
      | in-None w ↦ rw (w.totals-is, c.loop-row.invariant) (sym (counted_more rows i c.row-item.result _ c.loop-row-test.true at w.in-None.is))
    ]
