-- The first range ends the run.
use Rattle.std.proofs.Common.{◌≡◌, ◌+◌, min, refl, ap, ◌∙◌, arith, ◌^◌}
use Rattle.pd_board.specs.contracts.board.Board.{the_view}
use Rattle.pd_board.specs.Retransmit.{run_at}
use Rattle.pd_board.specs.Ranges.{in_ranges}
use Rattle.pd_board.proofs.Chosen.{run_is}
use Rattle.pd_board.proofs.Searching.{wider}
use Rattle.pd_board.proofs.board.Board.run_at.Goals as goal

pub returns : goal.returns
returns c =
    let i = c.self.inside in
    let una : i.una ≡ c.args.self.now.una = ap (λ s. s.una) c.self.view_is in
    let most : c.min-most.result ≡ min (c.args.x + i.smss) i.top = omega arith in
    run_is (in_ranges i.ranges) (the_view i) refl c.args.x c.min-most.result c.first_sacked_within_or_end.result (omega arith) most
    c.first_sacked_within_or_end.ensures.low c.first_sacked_within_or_end.ensures.high c.first_sacked_within_or_end.ensures.before c.first_sacked_within_or_end.ensures.found
    ∙ ap (run_at c.args.x) c.self.view_is

pub first_sacked_within_or_end-requires-clause-ranges : goal.first_sacked_within_or_end-requires-clause-ranges
first_sacked_within_or_end-requires-clause-ranges c = wider c.self.inside.una (c.self.inside.top + 1) (2 ^ 31) c.self.inside.ranges (omega arith) c.self.invariant.ranges
