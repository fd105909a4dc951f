-- The ranges are the runs.
use Rattle.std.proofs.Common.{List, refl, sym, subst}
use Rattle.pd_seg.specs.declared.sack_spans.Span.{Span}
use Rattle.pd_board.specs.contracts.board.Board.{the_view}
use Rattle.pd_board.specs.Board.{BoardView}
use Rattle.pd_board.specs.Runs.{AreRuns}
use Rattle.pd_board.proofs.Searching.{are_runs}
use Rattle.pd_board.proofs.board.Board.sacked_spans.Goals as goal

pub returns : goal.returns
returns c =
    let i = c.self.inside in
    subst (λ (s : BoardView). AreRuns s c.as_slice.result.now) c.self.view_is
    (subst (λ (rs : List Span). AreRuns (the_view i) rs) (sym c.as_slice.ensures) (are_runs i.ranges (the_view i) refl c.self.invariant.ranges))
