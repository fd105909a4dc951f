-- So far jobs were run, none of which was given up, with few steps each.
use Rattle.std.proofs.Common.{◌+◌, ◌*◌, ◌≤◌}
use Rattle.pd_desk.specs.Work.{Worked}
use Rattle.pd_desk.proofs.desk.Desk.run_jobs_until_shut.Given as goal

abbrev pub invariant-loop : goal.invariant-loop
invariant-loop g l = record {
  jobs : Worked l.fn.seat l.seat;
  few : g.S.Stepper.counted l.stepper ≤ g.S.Stepper.counted l.fn.stepper + 4096 * l.counter;
}
