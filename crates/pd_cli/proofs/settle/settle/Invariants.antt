use Rattle.pd_book.specs.Report.{owed}
use Rattle.pd_cli.specs.Steps.{IsQuiet}
use Rattle.pd_cli.proofs.Observed.{HeardSoFar}
use Rattle.pd_cli.proofs.Settled.{GoesOn}
use Rattle.pd_cli.proofs.settle.settle.Given as goal

abbrev pub invariant-loop : goal.invariant-loop
invariant-loop g l = record {
  quiet : IsQuiet l.book.history;
  goes_on : GoesOn l.initial.book.history l.book.history;
  observed : HeardSoFar g.L.JobObserver.observes l.initial.book.history l.book.history l.initial.observer l.observer;
}

abbrev pub decreases-loop : goal.decreases-loop
decreases-loop g l = owed l.book.history.opening l.book.history.past
