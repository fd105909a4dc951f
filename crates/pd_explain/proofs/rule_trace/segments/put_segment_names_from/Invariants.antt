-- The names of the segments so far.
use Rattle.std.proofs.Common.{◌≡◌, ◌≤◌, ◌-◌, drop, fold, take}
use Rattle.pd_explain.specs.Inner.{names_of}
use Rattle.pd_explain.specs.RuleNames.{with_name}
use Rattle.pd_explain.specs.RuleSegments.{segment_names}
use Rattle.pd_explain.proofs.rule_trace.segments.put_segment_names_from.Given as goal

abbrev pub invariant-loop-place : goal.invariant-loop-place
invariant-loop-place l = record {
  low : l.from ≤ l.place;
  names : names_of l.names.items ≡ fold with_name (names_of l.fn.names.items) (segment_names l.smss (take (l.place - l.from) (drop l.from l.outbox)));
}
