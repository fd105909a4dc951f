-- The last lost octet so far, and what the ranges that are left make of it, are that of all.
use Rattle.std.proofs.Common.{◌≡◌, ◌+◌, ◌≤◌, drop, length}
use Rattle.pd_board.specs.Runs.{Between}
use Rattle.pd_board.specs.Ranges.{octets_in, edge_over}
use Rattle.pd_board.proofs.queries.after_last_lost_octet_or_zero.Given as goal

abbrev pub invariant-loop-range : goal.invariant-loop-range
invariant-loop-range l = record {
  runs : l.runs ≡ length (drop l.range-index l.ranges.spans.items);
  octets : l.octets ≡ octets_in (drop l.range-index l.ranges.spans.items);
  within : l.place ≤ l.top;
  apart : Between l.place (drop l.range-index l.ranges.spans.items) (l.top + 1);
  edge : edge_over l.smss l.edge l.place (drop l.range-index l.ranges.spans.items) ≡ edge_over l.smss 0 l.una l.ranges.spans.items;
}
