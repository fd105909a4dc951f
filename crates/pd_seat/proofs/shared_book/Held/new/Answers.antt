-- The seats that were made.
use Rattle.std.proofs.Common.{◌∙◌, ◌++◌, ◌∷◌, [], length, ap, sym, arith}
use Rattle.pd_seat.proofs.Seated.{new_seats-push, length-new_seats}
use Rattle.pd_seat.proofs.shared_book.Held.new.Goals as goal

pub push_reserved-requires : goal.push_reserved-requires
push_reserved-requires c = omega (arith, c.loop-number.made.ok, ap length c.loop-number.invariant.0, length-new_seats 0 c.loop-number.number)

pub loop-number-preserved : goal.loop-number-preserved
loop-number-preserved c = (c.push_reserved.ensures.items ∙ ((λ i. c.loop-number.invariant.0 i ++ c.new.ensures i ∷ []) ∙ sym (new_seats-push c.loop-number.number)), omega arith)
