-- The names so far.
use Rattle.std.proofs.Common.{◌≡◌, fold, take}
use Rattle.pd_explain.specs.Inner.{names_of}
use Rattle.pd_explain.specs.RuleNames.{entered, with_name}
use Rattle.pd_explain.proofs.rule_trace.names.put_entered.Given as goal

abbrev pub invariant-loop-name : goal.invariant-loop-name
invariant-loop-name l = names_of l.names.items ≡ fold with_name (names_of l.fn.names.items) (entered (names_of l.before) (names_of (take l.name-index l.after)))
