-- Octets that were never sent are in no range.
use Rattle.std.proofs.Common.{◌≡◌, ◌+◌, refl, ap, ◌∙◌, arith}
use Rattle.pd_board.specs.contracts.board.Board.{the_view}
use Rattle.pd_board.specs.Board.{sent_to}
use Rattle.pd_board.specs.Ranges.{in_ranges}
use Rattle.pd_board.proofs.Searching.{held_past, longer}
use Rattle.pd_board.proofs.Shown.{sent_is}
use Rattle.pd_board.proofs.board.Board.sent.Goals as goal

pub returns-clause-ok : goal.returns-clause-ok
returns-clause-ok c =
    let i = c.self.inside in
    sent_is (in_ranges i.ranges) (the_view i) refl c.args.x c.max-self-inside.result c.max-self-inside.ensures (λ y l. held_past i.una i.top i.ranges y c.self.invariant.ranges l)
    ∙ ap (sent_to c.args.x) c.self.view_is

pub invariant_of-self : goal.invariant_of-self
invariant_of-self c =
    let i = c.self.inside in
    let v = c.self.invariant in
    let una : i.una ≡ c.args.self.now.una = ap (λ s. s.una) c.self.view_is in
    let top : i.top ≡ c.args.self.now.top = ap (λ s. s.top) c.self.view_is in
    let end : i.end ≡ c.args.self.now.end = ap (λ s. s.end) c.self.view_is in
    record {
      smss_low = v.smss_low;
      smss_high = v.smss_high;
      una_next = omega (arith, una, c.requires.low);
      next_top = omega (arith, top, c.max-self-inside.ensures);
      top_end = omega (arith, end, v.top_end, c.requires.high, c.max-self-inside.ensures);
      end_low = v.end_low;
      ranges = longer i.una (i.top + 1) (c.max-self-inside.result + 1) i.ranges (omega (arith, c.max-self-inside.ensures)) v.ranges;
    }
