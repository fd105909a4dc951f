-- The first hole is the first lost one, if it is lost.
use Rattle.std.proofs.Common.{sym, ◌∙◌}
use Rattle.pd_board.proofs.Chosen.{lost_hole, kept_hole, no_hole}
use Rattle.pd_board.proofs.board.Board.next_lost.Goals as goal

pub returns-in_err-x : goal.returns-in_err-x
returns-in_err-x c = c.from_residual.ensures ∙ sym (no_hole c.args.high_rxt c.args.self.now (sym c.find_unsacked_octet_by_nextseg_rule_3.ensures ∙ c.in_err-x.was))

pub returns-then-is_lost : goal.returns-then-is_lost
returns-then-is_lost c =
    sym (lost_hole c.args.high_rxt c.in_ok-x.x c.args.self.now (sym c.find_unsacked_octet_by_nextseg_rule_3.ensures ∙ c.in_ok-x.was) (sym c.is_lost.ensures ∙ c.if-is_lost.true))

pub returns-else-is_lost : goal.returns-else-is_lost
returns-else-is_lost c =
    sym (kept_hole c.args.high_rxt c.in_ok-x.x c.args.self.now (sym c.find_unsacked_octet_by_nextseg_rule_3.ensures ∙ c.in_ok-x.was) (sym c.is_lost.ensures ∙ c.if-is_lost.false))
