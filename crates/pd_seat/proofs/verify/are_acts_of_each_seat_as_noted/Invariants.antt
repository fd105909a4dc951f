use Rattle.std.proofs.Common.{◌≡◌, take, reverse}
use Rattle.std.specs.Prelude.{All}
use Rattle.pd_seat.specs.Seats.{SeatView, made_by}
use Rattle.pd_seat.proofs.verify.are_acts_of_each_seat_as_noted.Given as goal

abbrev pub invariant-loop-seat : goal.invariant-loop-seat
invariant-loop-seat l = All (λ (seat : SeatView). made_by seat.number (reverse l.notes) (reverse l.acts) ≡ seat.own) (take l.seat-index l.seats)
