-- The last lost octet over the ranges is that of the scoreboard.
use Rattle.std.proofs.Common.{refl, sym, ap, ◌∙◌, arith}
use Rattle.pd_board.specs.contracts.board.Board.{the_view}
use Rattle.pd_board.specs.Loss.{lost_edge}
use Rattle.pd_board.specs.Ranges.{in_ranges}
use Rattle.pd_board.proofs.Shown.{lost_edge_is}
use Rattle.pd_board.proofs.board.Board.after_last_lost_octet_or_zero.Goals as goal

pub returns : goal.returns
returns c =
    let i = c.self.inside in
    c.after_last_lost_octet_or_zero.ensures ∙ sym (lost_edge_is (in_ranges i.ranges) (the_view i) refl (omega arith)) ∙ ap lost_edge c.self.view_is
