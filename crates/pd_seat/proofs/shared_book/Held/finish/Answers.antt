-- The notes after a finish.
use Rattle.std.proofs.Common.{refl}
use Rattle.pd_book.specs.declared.act.Act.TheVariants.{Finish}
use Rattle.pd_book.specs.Acts.{job}
use Rattle.pd_seat.proofs.Jobs.{is_some_of}
use Rattle.pd_seat.proofs.Noting.{ended_noted}
use Rattle.pd_seat.proofs.shared_book.Held.finish.Goals as goal

pub invariant_of-self-2 : goal.invariant_of-self-2
invariant_of-self-2 c =
    let book = c.self.inside.book in
    let done = c.args.done.now in
    ended_noted book c.finish.new.self c.self.inside.notes.items c.push_noted_seat_number.new.notes.items _ _ (Finish done.number c.in_ok-ruling.ruling) c.seat.inside.number done.number
    c.self.invariant c.in_ok-ruling.ensures.ok c.law_invariant.ensures
    (is_some_of (job book.history.opening book.history.past done.number) done c.in_ok-ruling.ensures.own)
    refl c.push_noted_seat_number.ensures.past c.push_noted_seat_number.ensures.capacity
