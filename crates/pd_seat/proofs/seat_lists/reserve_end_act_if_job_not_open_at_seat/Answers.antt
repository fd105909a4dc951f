-- Room for an act more.
use Rattle.std.proofs.Common.{◌==◌, ℕ, not, arith, ◌∙◌, sym}
use Rattle.pd_seat.proofs.Jobs.{filter_less, filter_le}
use Rattle.pd_seat.proofs.seat_lists.reserve_end_act_if_job_not_open_at_seat.Goals as goal

pub returns-then-contains-clause-room : goal.returns-then-contains-clause-room
returns-then-contains-clause-room c = omega (arith, c.requires, filter_less c.args.number c.args.open_jobs.now (sym c.contains.ensures.value ∙ c.if-contains.true))

pub returns-clause-room : goal.returns-clause-room
returns-clause-room c = omega (arith, c.in_ok-reserve.ensures.ok, c.reserve.new.self.ok, c.args.own.now.ok, filter_le (λ (job : ℕ). not (job == c.args.number)) c.args.open_jobs.now)
