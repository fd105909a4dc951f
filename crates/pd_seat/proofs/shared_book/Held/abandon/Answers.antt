-- The notes after an abandonment.
use Rattle.std.proofs.Common.{refl}
use Rattle.pd_book.specs.declared.act.Act.TheVariants.{Abandon}
use Rattle.pd_seat.proofs.Noting.{ended_noted}
use Rattle.pd_seat.proofs.shared_book.Held.abandon.Goals as goal

pub invariant_of-self-2 : goal.invariant_of-self-2
invariant_of-self-2 c =
    let book = c.self.inside.book in
    let number = c.args.number in
    ended_noted book c.abandon.new.self c.self.inside.notes.items c.push_noted_seat_number.new.notes.items _ _ (Abandon number) c.seat.inside.number number
    c.self.invariant c.in_ok-abandon.ensures.ok c.law_invariant.ensures c.in_ok-abandon.ensures.outstanding
    refl c.push_noted_seat_number.ensures.past c.push_noted_seat_number.ensures.capacity
