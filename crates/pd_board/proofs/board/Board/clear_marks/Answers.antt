-- Without ranges nothing is SACKed.
use Rattle.std.proofs.Common.{ap, ◌∙◌}
use Rattle.pd_board.specs.contracts.board.Board.{the_view}
use Rattle.pd_board.specs.Board.{with_none_sacked}
use Rattle.pd_board.specs.Ranges.{in_ranges}
use Rattle.pd_board.specs.Runs.{among}
use Rattle.pd_board.proofs.Sets.{octets_where-none}
use Rattle.pd_board.proofs.board.Board.clear_marks.Goals as goal

pub returns : goal.returns
returns c =
    let i = c.self.inside in
    let m = c.clear.new.self in
    ap (λ k. record (the_view i) { sacked = k })
    (octets_where-none (in_ranges m) i.una i.top (λ x l u. ap (λ rs. among rs x) c.clear.ensures.none))
    ∙ ap with_none_sacked c.self.view_is
