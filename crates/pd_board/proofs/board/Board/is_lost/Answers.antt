-- The count over the ranges says whether an octet is lost.
use Rattle.std.proofs.Common.{◌≡◌, ◌+◌, max, refl, sym, ap, ◌∙◌, arith}
use Rattle.pd_board.specs.contracts.board.Board.{the_view}
use Rattle.pd_board.specs.Loss.{is_lost, shows_loss}
use Rattle.pd_board.specs.Ranges.{in_ranges}
use Rattle.pd_board.proofs.Shown.{lost_is, never_lost}
use Rattle.pd_board.proofs.board.Board.is_lost.Goals as goal

pub returns-then-x-self : goal.returns-then-x-self
returns-then-x-self c =
    let i = c.self.inside in
    sym (never_lost (in_ranges i.ranges) (the_view i) refl c.args.x (omega arith)) ∙ ap (is_lost c.args.x) c.self.view_is

pub returns : goal.returns
returns c =
    let i = c.self.inside in
    let first : c.max-first.result ≡ max i.una (c.args.x + 1) = omega arith in
    c.shows_loss.ensures
    ∙ (λ k. shows_loss i.smss (c.count_sacked_octets_and_runs_from.ensures.runs k) (c.count_sacked_octets_and_runs_from.ensures.octets k))
    ∙ sym (lost_is (in_ranges i.ranges) (the_view i) refl c.args.x c.max-first.result (omega arith) first)
    ∙ ap (is_lost c.args.x) c.self.view_is
