-- The count over the ranges is the number of octets SACKed above an octet.
use Rattle.std.proofs.Common.{◌≡◌, ◌+◌, refl, sym, ap, ◌∙◌, arith}
use Rattle.pd_board.specs.contracts.board.Board.{the_view}
use Rattle.pd_board.specs.Loss.{sacked_above, runs_above}
use Rattle.pd_board.specs.Ranges.{in_ranges}
use Rattle.pd_board.proofs.Shown.{octets_from, runs_from}
use Rattle.pd_board.proofs.board.Board.sacked_octets_and_runs_above.Goals as goal

pub returns-clause-octets : goal.returns-clause-octets
returns-clause-octets c =
    let i = c.self.inside in
    let una : i.una ≡ c.args.self.now.una = ap (λ s. s.una) c.self.view_is in
    c.count_sacked_octets_and_runs_from.ensures.octets
    ∙ sym (octets_from (in_ranges i.ranges) (the_view i) refl (c.args.x + 1) (omega arith))
    ∙ ap (sacked_above c.args.x) c.self.view_is

pub returns-clause-runs : goal.returns-clause-runs
returns-clause-runs c =
    let i = c.self.inside in
    let una : i.una ≡ c.args.self.now.una = ap (λ s. s.una) c.self.view_is in
    c.count_sacked_octets_and_runs_from.ensures.runs
    ∙ sym (runs_from (in_ranges i.ranges) (the_view i) refl (c.args.x + 1) (omega arith))
    ∙ ap (runs_above c.args.x) c.self.view_is
