-- The count so far and that of the rest are the whole.
use Rattle.std.proofs.Common.{◌≡◌, ◌+◌, ◌-◌, max, drop, nat_le}
use Rattle.std.specs.List.{sum_by, count_by}
use Rattle.pd_board.proofs.queries.count_sacked_octets_and_runs_from.Given as goal

abbrev pub invariant-loop-range : goal.invariant-loop-range
invariant-loop-range l = record {
  octets : l.octets + sum_by (λ r. r.end - max r.start l.first) (drop l.range-index l.ranges.spans.items) ≡ sum_by (λ r. r.end - max r.start l.first) l.ranges.spans.items;
  runs : l.runs + count_by (λ r. nat_le l.first r.start) (drop l.range-index l.ranges.spans.items) ≡ count_by (λ r. nat_le l.first r.start) l.ranges.spans.items;
}
