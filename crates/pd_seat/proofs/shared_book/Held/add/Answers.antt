-- The notes and the seat after an add.
use Rattle.std.proofs.Common.{◌∙◌, ◌∷◌, ℕ, List, reverse, refl, ap, arith}
use Rattle.pd_book.specs.declared.act.Act.{Act}
use Rattle.pd_book.specs.declared.act.Act.TheVariants.{Add}
use Rattle.pd_seat.specs.Seats.{unended}
use Rattle.pd_seat.proofs.Noting.{more_noted, more_seat}
use Rattle.pd_seat.proofs.shared_book.Held.add.Goals as goal

pub invariant_of-self-2 : goal.invariant_of-self-2
invariant_of-self-2 c =
    let book = c.self.inside.book in
    let act = Add c.args.name c.in_ok-text.text in
    more_noted book c.add_with_shared_text.new.self c.self.inside.notes.items c.push_noted_seat_number.new.notes.items _ _ act c.seat.inside.number
    c.self.invariant c.in_ok-add_with_shared_text.ensures.ok c.law_invariant.ensures refl
    (c.push_noted_seat_number.ensures.past ∙ ap (λ (l : List ℕ). c.seat.inside.number ∷ reverse l) c.reserve_many_notes_and_acts.ensures.notes.0)
    (omega (arith, c.in_ok-reserve_many_notes_and_acts.ensures.room.0, c.reserve_many_notes_and_acts.ensures.notes.1, c.self.inside.notes.ok, c.outstanding_count-outstanding.ensures.count, c.push_noted_seat_number.ensures.capacity))

pub invariant_of-seat-2 : goal.invariant_of-seat-2
invariant_of-seat-2 c =
    let act = c.in_ok-text.act in
    let own = reverse c.seat.inside.own.items in
    more_seat c.seat.inside.own.items c.push_act.new.acts.items c.seat.inside.open_jobs.items _ _ act
    c.seat.invariant (ap (λ (a : Act). unended (a ∷ own)) c.in_ok-text.ensures.act) (c.push_act.ensures.past ∙ ap (λ (l : List Act). act ∷ reverse l) c.reserve_many_notes_and_acts.ensures.own.0)
    (omega (arith, c.in_ok-reserve_many_notes_and_acts.ensures.room.1, c.reserve_many_notes_and_acts.ensures.own.1, c.seat.inside.own.ok, c.len-open.ensures, c.seat.inside.open_jobs.ok, c.push_act.ensures.capacity))
