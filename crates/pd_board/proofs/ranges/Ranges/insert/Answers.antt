-- Whether an octet is new follows from the first free one.
use Rattle.std.proofs.Common.{◌-◌, not, sym, ap, arith}
use Rattle.pd_board.specs.Ranges.{in_ranges}
use Rattle.pd_board.proofs.Sets.{any-false}
use Rattle.pd_board.proofs.Searching.{any-some}
use Rattle.pd_board.proofs.ranges.Ranges.insert.Goals as goal

pub returns-then-first_unsacked_within_or_end-end-clause-new : goal.returns-then-first_unsacked_within_or_end-end-clause-new
returns-then-first_unsacked_within_or_end-end-clause-new c =
    sym (any-false (λ x. not (in_ranges c.args.self.now x)) c.args.first c.args.end (λ x l u. ap not (c.first_unsacked_within_or_end.ensures.before x l (omega arith))))

pub returns-clause-new : goal.returns-clause-new
returns-clause-new c =
    sym (any-some (λ x. not (in_ranges c.args.self.now x)) c.args.first c.first_unsacked_within_or_end.result c.args.end (c.first_unsacked_within_or_end.result - c.args.first) (omega (arith, c.first_unsacked_within_or_end.ensures.low)) (omega (arith, c.first_unsacked_within_or_end.ensures.high)) (ap not (c.first_unsacked_within_or_end.ensures.found (omega (arith, c.first_unsacked_within_or_end.ensures.high)))))
