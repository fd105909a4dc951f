-- The octets from x on stay.
use Rattle.std.proofs.Common.{◌≡◌, refl, ap, ◌∙◌, arith, ◌+◌, ◌^◌}
use Rattle.pd_board.specs.contracts.board.Board.{the_view}
use Rattle.pd_board.specs.Board.{acknowledged}
use Rattle.pd_board.specs.Ranges.{in_ranges}
use Rattle.pd_board.proofs.Shown.{acknowledged_is}
use Rattle.pd_board.proofs.Searching.{wider}
use Rattle.pd_board.proofs.board.Board.take_ack.Goals as goal

pub returns : goal.returns
returns c =
    let i = c.self.inside in
    let una : i.una ≡ c.args.self.now.una = ap (λ s. s.una) c.self.view_is in
    acknowledged_is (in_ranges i.ranges) (the_view i) refl (in_ranges c.drop_below.new.self) c.args.x c.max-self-inside.result (omega arith) c.max-self-inside.ensures c.drop_below.ensures.octets
    ∙ ap (acknowledged c.args.x) c.self.view_is

pub drop_below-requires-clause-ranges : goal.drop_below-requires-clause-ranges
drop_below-requires-clause-ranges c = wider c.self.inside.una (c.self.inside.top + 1) (2 ^ 31) c.self.inside.ranges (omega arith) c.self.invariant.ranges
