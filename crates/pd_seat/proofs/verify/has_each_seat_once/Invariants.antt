use Rattle.std.proofs.Common.{◌≡◌, ℕ, ◌<◌, ◌==◌}
use Rattle.std.specs.Prelude.{count_by}
use Rattle.pd_seat.specs.Seats.{SeatView}
use Rattle.pd_seat.proofs.verify.has_each_seat_once.Given as goal

abbrev pub invariant-loop-number : goal.invariant-loop-number
invariant-loop-number l = (k : ℕ) → k < l.number → count_by (λ (seat : SeatView). seat.number == k) l.seats ≡ 1
