-- The ranges from the start on are left.
use Rattle.std.proofs.Common.{◌^◌, List, sym, ap, ◌∙◌, subst, arith}
use Rattle.pd_seg.specs.declared.sack_spans.Span.{Span}
use Rattle.pd_board.specs.Runs.{among, Between}
use Rattle.pd_board.specs.Ranges.{raised}
use Rattle.pd_board.proofs.Counted.{Between-lower}
use Rattle.pd_board.proofs.Searching.{cut_ranges, cut_same}
use Rattle.pd_board.proofs.ranges.Ranges.drop_below.Goals as goal

pub count_octets-self-requires : goal.count_octets-self-requires
count_octets-self-requires c =
    let left = c.raise_first_range_start.ensures ∙ ap (raised c.args.start) (c.drop_first_ranges.ensures ∙ c.count_ranges_below-passed.ensures) in
    subst (λ (rs : List Span). Between 0 rs (2 ^ 31)) (sym left)
    (Between-lower 0 c.args.start _ (2 ^ 31) (omega arith) (cut_ranges c.args.start 0 (2 ^ 31) c.args.self.now.spans.items c.requires.ranges.apart c.requires.high))

pub returns-clause-within : goal.returns-clause-within
returns-clause-within c a b h u =
    let left = c.raise_first_range_start.ensures ∙ ap (raised c.args.start) (c.drop_first_ranges.ensures ∙ c.count_ranges_below-passed.ensures) in
    record {
      apart = subst (λ (rs : List Span). Between c.args.start rs b) (sym left) (cut_ranges c.args.start a b c.args.self.now.spans.items h.apart u);
      total = c.count_octets-self.ensures;
    }

pub returns-clause-octets : goal.returns-clause-octets
returns-clause-octets c x l =
    let left = c.raise_first_range_start.ensures ∙ ap (raised c.args.start) (c.drop_first_ranges.ensures ∙ c.count_ranges_below-passed.ensures) in
    ap (λ rs. among rs x) left ∙ cut_same c.args.start c.args.self.now.spans.items x l
