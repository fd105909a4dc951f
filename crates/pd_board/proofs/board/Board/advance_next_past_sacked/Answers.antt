-- The first octet that isn't marked.
use Rattle.std.proofs.Common.{refl, ap, ◌∙◌, ◌+◌, ◌^◌, arith}
use Rattle.pd_board.specs.contracts.board.Board.{the_view}
use Rattle.pd_board.specs.Board.{past_sacked_octets}
use Rattle.pd_board.specs.Ranges.{in_ranges}
use Rattle.pd_board.proofs.Chosen.{skipped_is}
use Rattle.pd_board.proofs.Searching.{wider}
use Rattle.pd_board.proofs.board.Board.advance_next_past_sacked.Goals as goal

pub returns : goal.returns
returns c =
    let i = c.self.inside in
    let found = c.first_unsacked_within_or_end-self-inside in
    skipped_is (in_ranges i.ranges) (the_view i) refl found.result c.self.invariant.una_next found.ensures.low found.ensures.high found.ensures.before found.ensures.found
    ∙ ap past_sacked_octets c.self.view_is

pub first_unsacked_within_or_end-self-inside-requires-clause-ranges : goal.first_unsacked_within_or_end-self-inside-requires-clause-ranges
first_unsacked_within_or_end-self-inside-requires-clause-ranges c = wider c.self.inside.una (c.self.inside.top + 1) (2 ^ 31) c.self.inside.ranges (omega arith) c.self.invariant.ranges
