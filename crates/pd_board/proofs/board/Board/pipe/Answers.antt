-- The count over the ranges is the pipe.
use Rattle.std.proofs.Common.{refl, sym, ap, ◌∙◌}
use Rattle.pd_board.specs.contracts.board.Board.{the_view}
use Rattle.pd_board.specs.Loss.{pipe}
use Rattle.pd_board.specs.Ranges.{in_ranges}
use Rattle.pd_board.proofs.Shown.{pipe_is}
use Rattle.pd_board.proofs.board.Board.pipe.Goals as goal

pub returns : goal.returns
returns c =
    let i = c.self.inside in
    c.count_pipe.ensures ∙ sym (pipe_is (in_ranges i.ranges) (the_view i) refl c.args.high_rxt) ∙ ap (pipe c.args.high_rxt) c.self.view_is
