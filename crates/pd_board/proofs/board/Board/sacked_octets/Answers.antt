-- The ranges have as many octets as are SACKed.
use Rattle.std.proofs.Common.{◌+◌, refl, sym, ap, ◌∙◌, arith}
use Rattle.pd_board.specs.contracts.board.Board.{the_view}
use Rattle.pd_board.specs.Loss.{sacked_octets}
use Rattle.pd_board.specs.Ranges.{in_ranges}
use Rattle.pd_board.proofs.Searching.{octets_small}
use Rattle.pd_board.proofs.Counted.{octets_of}
use Rattle.pd_board.proofs.Shown.{octets_from}
use Rattle.pd_board.proofs.Pipe.{all_octets}
use Rattle.pd_board.proofs.board.Board.sacked_octets.Goals as goal

pub returns-clause-value : goal.returns-clause-value
returns-clause-value c =
    let i = c.self.inside in
    let h = c.self.invariant.ranges in
    h.total
    ∙ sym (all_octets i.una i.ranges.spans.items (i.top + 1) h.apart)
    ∙ sym (octets_of i.una i.ranges.spans.items i.una i.top h.apart)
    ∙ sym (octets_from (in_ranges i.ranges) (the_view i) refl i.una (omega arith))
    ∙ ap sacked_octets c.self.view_is

pub returns-clause-small : goal.returns-clause-small
returns-clause-small c =
    let i = c.self.inside in
    let k = c.self.invariant in
    let few = octets_small i.una i.ranges.spans.items (i.top + 1) k.ranges.apart in
    omega (arith, few, k.ranges.total, k.top_end, k.end_low)
