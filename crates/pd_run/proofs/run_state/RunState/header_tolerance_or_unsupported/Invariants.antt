-- The items so far are tolerances, and the last of them or of those to come counts.
use Rattle.std.proofs.Common.{◌≡◌, None, is_none, find, drop}
use Rattle.std.specs.List.{filter_map, last_or}
use Rattle.pd_run.specs.Run.{tolerance_in}
use Rattle.pd_run.proofs.run_state.RunState.header_tolerance_or_unsupported.Given as goal

abbrev pub invariant-loop-item : goal.invariant-loop-item
invariant-loop-item l = record {
  tested : find (λ item. is_none (tolerance_in item)) (drop l.item-index l.item-items) ≡ find (λ item. is_none (tolerance_in item)) l.item-items;
  last : last_or l.header_tolerance (filter_map tolerance_in (drop l.item-index l.item-items)) ≡ last_or None (filter_map tolerance_in l.item-items);
}
