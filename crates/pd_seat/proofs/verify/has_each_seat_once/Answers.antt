-- Each number below the count was counted.
use Rattle.std.proofs.Common.{◌≡◌, ℕ, ◌==◌, sym, ◌∙◌, arith, rules}
use Rattle.std.specs.Prelude.{count_by}
use Rattle.pd_seat.specs.Seats.{SeatView}
use borrow.Author.Count.{below_more}
use Rattle.pd_seat.proofs.verify.has_each_seat_once.Goals as goal

pub returns-then-count_seats_with_number-ne1 : goal.returns-then-count_seats_with_number-ne1
returns-then-count_seats_with_number-ne1 c = (λ e. absurd (search rules), λ e. absurd (c.if-count_seats_with_number-ne1.true (c.count_seats_with_number.ensures ∙ e.each c.loop-number.number c.loop-number-test.true)))

pub loop-number-preserved : goal.loop-number-preserved
loop-number-preserved c = below_more (λ (k : ℕ). count_by {X = SeatView} (λ seat. seat.number == k) c.args.seats.now ≡ 1) c.loop-number.number c.loop-number.invariant (sym c.count_seats_with_number.ensures ∙ c.if-count_seats_with_number-ne1.false)

pub returns : goal.returns
returns c = (λ t. record { all = c.if-seats-count.false; each = λ k h. c.loop-number.invariant k (omega (arith, h)) }, λ e. search rules)
