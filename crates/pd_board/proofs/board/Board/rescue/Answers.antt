-- The last octet that is in no range, and the ranges before it.
use Rattle.std.proofs.Common.{◌≡◌, ◌+◌, ◌-◌, ◌<◌, ℕ, Some, refl, sym, ap, ◌∙◌, arith, ◌^◌}
use Rattle.pd_board.specs.contracts.board.Board.{the_view}
use Rattle.pd_board.specs.Retransmit.{rescue}
use Rattle.pd_board.specs.Ranges.{in_ranges}
use Rattle.pd_board.proofs.Chosen.{no_rescue, rescue_is}
use Rattle.pd_board.proofs.Searching.{wider}
use Rattle.pd_board.proofs.board.Board.rescue.Goals as goal

pub returns-then-end-self : goal.returns-then-end-self
returns-then-end-self c =
    let i = c.self.inside in
    sym (no_rescue (in_ranges i.ranges) (the_view i) refl (omega arith) (λ k l u. c.after_last_unsacked_within_or_start-end.ensures.after k (omega arith) u)) ∙ ap rescue c.self.view_is

pub returns : goal.returns
returns c =
    let i = c.self.inside in
    let end = c.after_last_unsacked_within_or_start-end.result in
    let some : i.una < end = omega arith in
    let last : end ≡ end - 1 + 1 = omega arith in
    sym (rescue_is (in_ranges i.ranges) (the_view i) refl (end - 1) c.max-low.result c.after_last_sacked_within_or_start-start.result (omega arith) (omega arith)
    (λ k l u. c.after_last_unsacked_within_or_start-end.ensures.after k (omega arith) u) (c.after_last_unsacked_within_or_start-end.ensures.found some)
    (omega arith) c.after_last_sacked_within_or_start-start.ensures.low c.after_last_sacked_within_or_start-start.ensures.high c.after_last_sacked_within_or_start-start.ensures.after c.after_last_sacked_within_or_start-start.ensures.found
    ∙ ap (λ (n : ℕ). Some record { start = c.after_last_sacked_within_or_start-start.result; end = n }) (sym last))
    ∙ ap rescue c.self.view_is

pub after_last_unsacked_within_or_start-end-requires-clause-ranges : goal.after_last_unsacked_within_or_start-end-requires-clause-ranges
after_last_unsacked_within_or_start-end-requires-clause-ranges c = wider c.self.inside.una (c.self.inside.top + 1) (2 ^ 31) c.self.inside.ranges (omega arith) c.self.invariant.ranges

pub after_last_sacked_within_or_start-start-requires-clause-ranges : goal.after_last_sacked_within_or_start-start-requires-clause-ranges
after_last_sacked_within_or_start-start-requires-clause-ranges c = wider c.self.inside.una (c.self.inside.top + 1) (2 ^ 31) c.self.inside.ranges (omega arith) c.self.invariant.ranges
