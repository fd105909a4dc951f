-- The first octet that isn't marked is a hole where a mark lies after it, and else there is none.
use Rattle.std.proofs.Common.{◌<◌, refl, sym, ap, ◌∙◌, arith, ◌+◌, ◌^◌}
use Rattle.pd_board.specs.contracts.board.Board.{the_view}
use Rattle.pd_board.specs.Retransmit.{find_unsacked_octet_by_nextseg_rule_3}
use Rattle.pd_board.specs.Ranges.{in_ranges}
use Rattle.pd_board.proofs.Chosen.{hole_is, hole_none}
use Rattle.pd_board.proofs.Searching.{wider}
use Rattle.pd_board.proofs.board.Board.find_unsacked_octet_by_nextseg_rule_3.Goals as goal

pub returns-then-from-self : goal.returns-then-from-self
returns-then-from-self c =
    let i = c.self.inside in
    sym (hole_none (in_ranges i.ranges) (the_view i) refl c.args.high_rxt i.top (omega arith) (λ k l u. absurd (omega arith)) (λ k l u. absurd (omega arith)))
    ∙ ap (find_unsacked_octet_by_nextseg_rule_3 c.args.high_rxt) c.self.view_is

pub returns-then-first_sacked_within_or_end-self : goal.returns-then-first_sacked_within_or_end-self
returns-then-first_sacked_within_or_end-self c =
    let i = c.self.inside in
    let x = c.first_unsacked_within_or_end-x.result in
    let y = c.first_sacked_within_or_end.result in
    let less : x < i.top = omega (arith, c.first_sacked_within_or_end.ensures.low) in
    sym (hole_is (in_ranges i.ranges) (the_view i) refl c.args.high_rxt x y (omega (arith, c.first_unsacked_within_or_end-x.ensures.low)) (λ k l u. c.first_unsacked_within_or_end-x.ensures.before k (omega arith) u)
    (c.first_unsacked_within_or_end-x.ensures.found less) c.first_sacked_within_or_end.ensures.low c.if-first_sacked_within_or_end-self.true (c.first_sacked_within_or_end.ensures.found c.if-first_sacked_within_or_end-self.true))
    ∙ ap (find_unsacked_octet_by_nextseg_rule_3 c.args.high_rxt) c.self.view_is

pub returns-else-first_sacked_within_or_end-self : goal.returns-else-first_sacked_within_or_end-self
returns-else-first_sacked_within_or_end-self c =
    let i = c.self.inside in
    sym (hole_none (in_ranges i.ranges) (the_view i) refl c.args.high_rxt c.first_unsacked_within_or_end-x.result c.first_unsacked_within_or_end-x.ensures.high
    (λ k l u. c.first_unsacked_within_or_end-x.ensures.before k (omega arith) u) (λ k l u. c.first_sacked_within_or_end.ensures.before k l (omega arith)))
    ∙ ap (find_unsacked_octet_by_nextseg_rule_3 c.args.high_rxt) c.self.view_is

pub first_unsacked_within_or_end-x-requires-clause-ranges : goal.first_unsacked_within_or_end-x-requires-clause-ranges
first_unsacked_within_or_end-x-requires-clause-ranges c = wider c.self.inside.una (c.self.inside.top + 1) (2 ^ 31) c.self.inside.ranges (omega arith) c.self.invariant.ranges

pub first_sacked_within_or_end-requires-clause-ranges : goal.first_sacked_within_or_end-requires-clause-ranges
first_sacked_within_or_end-requires-clause-ranges c = wider c.self.inside.una (c.self.inside.top + 1) (2 ^ 31) c.self.inside.ranges (omega arith) c.self.invariant.ranges
