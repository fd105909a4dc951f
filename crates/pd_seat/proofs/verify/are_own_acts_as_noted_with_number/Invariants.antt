use Rattle.std.proofs.Common.{◌≡◌, length}
use Rattle.std.specs.Prelude.{◌↔◌}
use Rattle.pd_seat.specs.Seats.{made_by}
use Rattle.pd_seat.proofs.verify.are_own_acts_as_noted_with_number.Given as goal

abbrev pub invariant-loop-note : goal.invariant-loop-note
invariant-loop-note l = (length l.notes ≡ length l.acts) × ((made_by l.number l.fn.notes l.fn.acts ≡ l.own) ↔ (made_by l.number l.notes l.acts ≡ l.rest))

abbrev pub decreases-loop-note : goal.decreases-loop-note
decreases-loop-note l = length l.notes
