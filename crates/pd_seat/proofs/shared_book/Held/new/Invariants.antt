use Rattle.std.proofs.Common.{◌≡◌, ◌≤◌}
use Rattle.std.specs.Prelude.{vec_capacity}
use Rattle.pd_seat.specs.Seats.{new_seats}
use Rattle.pd_seat.proofs.shared_book.Held.new.Given as goal

abbrev pub invariant-loop-number : goal.invariant-loop-number
invariant-loop-number l = (l.made.items ≡ new_seats 0 l.number) × (l.seats ≤ vec_capacity l.made)
