-- So many times so far.
use Rattle.std.proofs.Common.{◌≡◌, ◌++◌, replicate}
use Rattle.pd_cause.proofs.origins.repeat_trigger.Given as goal

abbrev pub invariant-loop-time : goal.invariant-loop-time
invariant-loop-time l = l.triggers.items ≡ l.initial.triggers.items ++ replicate l._time l.trigger
