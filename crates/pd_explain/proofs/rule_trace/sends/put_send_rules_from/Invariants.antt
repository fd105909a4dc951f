-- The names of the rules so far.
use Rattle.std.proofs.Common.{◌≡◌, ◌≤◌, ◌-◌, fold, map, take}
use Rattle.pd_explain.specs.Inner.{names_of, unmatched_rules_from}
use Rattle.pd_explain.specs.RuleNames.{with_name}
use Rattle.pd_explain.specs.SendRules.{send_rule_name}
use Rattle.pd_explain.proofs.rule_trace.sends.put_send_rules_from.Given as goal

abbrev pub invariant-loop-place : goal.invariant-loop-place
invariant-loop-place l = record {
  low : l.from ≤ l.place;
  names : names_of l.names.items ≡ fold with_name (names_of l.fn.names.items) (map send_rule_name (take (l.place - l.from) (unmatched_rules_from l.from l.outbox)));
}
