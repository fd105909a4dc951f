use Rattle.std.proofs.Common.{codes}
use Rattle.std.specs.Fmt.{decimal}
use Rattle.pd_cli.proofs.Chains.{on_ok_last, chain}
use Rattle.pd_cli.proofs.report_text.Totals.put_line.Goals as goal

pub returns : goal.returns
returns c =
    let t = c.args.self in
    on_ok_last _ _ _ _ _ c.extend_from_slice.ensures.items
    (chain c.args.out.now.items (codes "total ") (decimal t.total) (codes " pass ") (decimal t.pass) (codes " fail ") (decimal t.fail) (codes " syntax ") (decimal t.syntax) (codes " unsupported ") (decimal t.unsupported) (codes " limit ") (decimal t.limit) (codes " pending ") (decimal t.pending) (codes "\n")
    _ _ _ _ _ _ _ c.in_ok-put_prefix_and_number.ensures c.in_ok-put_prefix_and_number-2.ensures c.in_ok-put_prefix_and_number-3.ensures c.in_ok-put_prefix_and_number-4.ensures c.in_ok-put_prefix_and_number-5.ensures c.in_ok-put_prefix_and_number-6.ensures c.in_ok-put_prefix_and_number-7.ensures)
