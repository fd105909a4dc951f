-- The compared lists stand the other way round in the values.
use Rattle.std.proofs.Common.{◌∙◌, reverse, refl, sym}
use Rattle.pd_seat.proofs.Made.{made_by_turned}
use Rattle.pd_seat.proofs.verify.are_seat_acts_as_noted.Goals as goal

pub returns : goal.returns
returns c =
    let t = made_by_turned c.seat.inside.number c.args.notes.now c.args.acts.now c.seat.inside.own.items (reverse c.seat.inside.own.items) c.requires refl in
    let v = c.as_slice.ensures.value in
    rw (sym c.seat.view_is) (λ h. t.0 (c.are_own_acts_as_noted_with_number.ensures.0 h ∙ v), λ h. c.are_own_acts_as_noted_with_number.ensures.1 (t.1 h ∙ sym v))
