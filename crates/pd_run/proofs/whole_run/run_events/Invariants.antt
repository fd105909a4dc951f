-- The steps left from here, and those that were taken, make the whole run.
use Rattle.std.proofs.Common.{◌≡◌, ◌≤◌, ◌+◌, ◌*◌, drop}
use Rattle.pd_run.specs.Run.{verdict_from, stepped_from}
use Rattle.pd_run.specs.RunStates.{KeepsTime}
use Rattle.pd_run.proofs.Bounds.{IsWithin}
use Rattle.pd_run.proofs.Queued.{end_of}
use Rattle.pd_run.proofs.whole_run.run_events.Given as goal

abbrev pub invariant-loop-event : goal.invariant-loop-event
invariant-loop-event g l = record {
  passed : l.passed ≡ l.event-index;
  within : IsWithin KeepsTime (3600000000 * l.event-index) l.state;
  queued : end_of l.state ≤ 262144 * l.event-index;
  verdict : verdict_from l.passed (drop l.event-index l.events) l.state ≡ verdict_from 0 l.events l.fn.start;
  steps :
      g.S.Stepper.counted l.stepper + stepped_from (drop l.event-index l.events) l.state
      ≡ g.S.Stepper.counted l.fn.stepper + stepped_from l.events l.fn.start;
  counted : g.S.Stepper.counted l.stepper ≡ g.S.Stepper.counted l.fn.stepper + l.event-index;
}
