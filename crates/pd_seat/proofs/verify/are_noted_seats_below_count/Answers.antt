-- A property of each note is one of each the other way round.
use Rattle.std.proofs.Common.{◌<◌, ℕ}
use Rattle.pd_seat.proofs.Made.{all_turned}
use Rattle.pd_seat.proofs.verify.are_noted_seats_below_count.Goals as goal

pub returns : goal.returns
returns c =
    let t = all_turned (λ (note : ℕ). note < c.args.count) c.args.notes.now in
    (λ h. t.0 (c.are_noted_seat_numbers_below.ensures.0 h), λ h. c.are_noted_seat_numbers_below.ensures.1 (t.1 h))
