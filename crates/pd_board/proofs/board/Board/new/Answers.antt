-- Without ranges nothing is SACKed.
use Rattle.std.proofs.Common.{ap}
use Rattle.pd_board.specs.Board.{opened}
use Rattle.pd_board.specs.Ranges.{in_ranges}
use Rattle.pd_board.specs.Runs.{among}
use Rattle.pd_board.proofs.Sets.{octets_where-none}
use Rattle.pd_board.proofs.board.Board.new.Goals as goal

pub returns : goal.returns
returns c =
    let m = c.new.result in
    ap (λ k. record (opened c.args.smss) { sacked = k }) (octets_where-none (in_ranges m) 0 1 (λ x l u. ap (λ rs. among rs x) c.new.ensures.none))
