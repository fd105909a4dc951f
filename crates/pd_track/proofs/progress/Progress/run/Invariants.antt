-- The steps left from here, and those that were taken, make the whole run.
use Rattle.std.proofs.Common.{◌≡◌, ◌+◌, ◌-◌, ◌%◌, ◌++◌}
use Rattle.pd_reparse.specs.Steps.{events_after}
use Rattle.pd_run.specs.Laws.{IsUnderway}
use Rattle.pd_run.specs.Run.{verdict_from, stepped_from, states_from}
use Rattle.pd_track.specs.Reuse.{every_fourth}
use Rattle.pd_track.proofs.progress.Progress.run.Given as goal

abbrev pub invariant-loop-i : goal.invariant-loop-i
invariant-loop-i g l =
    let counted = g.S.Stepper.counted in
    let rest = events_after l.i l.events in
    let all = events_after l.fn.self.passed l.events in
    record {
      passed : l.self.passed ≡ l.i;
      underway : IsUnderway l.self.passed l.self.state;
      verdict : verdict_from l.self.passed rest l.self.state ≡ verdict_from l.fn.self.passed all l.fn.self.state;
      steps : counted l.stepper + stepped_from rest l.self.state ≡ counted l.fn.stepper + stepped_from all l.fn.self.state;
      checkpoints :
          l.self.checkpoints ++ every_fourth (3 - l.self.passed % 4) (states_from rest l.self.state)
          ≡ l.fn.self.checkpoints ++ every_fourth 3 (states_from all l.fn.self.state);
      counted : counted l.stepper + l.fn.self.passed ≡ counted l.fn.stepper + l.i;
    }
