-- The invariant of the fields is known of the value.
use Rattle.std.proofs.Common.{subst, refl}
use Rattle.pd_board.specs.contracts.board.Board.{the_view}
use Rattle.pd_board.specs.Board.{IsBoardView}
use Rattle.pd_board.specs.Ranges.{in_ranges}
use Rattle.pd_board.proofs.Shown.{is_board_view}
use Rattle.pd_board.proofs.board.Board.smss.Goals as goal

pub returns-clause-known : goal.returns-clause-known
returns-clause-known c =
    let i = c.self.inside in
    subst IsBoardView c.self.view_is (is_board_view (in_ranges i.ranges) (the_view i) refl i.ranges c.self.invariant)
