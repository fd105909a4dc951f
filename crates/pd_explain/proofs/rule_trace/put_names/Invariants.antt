-- The names so far.
use Rattle.std.proofs.Common.{◌≡◌, ◌++◌, codes, flat_map, take, List, ℕ}
use Rattle.pd_explain.specs.Inner.{names_of}
use Rattle.pd_explain.proofs.rule_trace.put_names.Given as goal

abbrev pub invariant-loop-name : goal.invariant-loop-name
invariant-loop-name l = l.out.items ≡ l.fn.out.items ++ flat_map (λ (name : List ℕ). codes " " ++ name) (names_of (take l.name-index l.names))
