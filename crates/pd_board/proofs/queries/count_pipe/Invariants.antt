-- The count so far and the octets on the way from the place on are the whole.
use Rattle.std.proofs.Common.{◌≡◌, ◌+◌, ◌≤◌, drop, length}
use Rattle.pd_board.specs.Runs.{Between}
use Rattle.pd_board.specs.Ranges.{octets_in, pipe_over}
use Rattle.pd_board.proofs.queries.count_pipe.Given as goal

abbrev pub invariant-loop-range : goal.invariant-loop-range
invariant-loop-range l = record {
  runs : l.runs ≡ length (drop l.range-index l.ranges.spans.items);
  octets : l.octets ≡ octets_in (drop l.range-index l.ranges.spans.items);
  within : l.place ≤ l.top;
  apart : Between l.place (drop l.range-index l.ranges.spans.items) (l.top + 1);
  pipe : l.pipe + pipe_over l.smss l.high l.top l.place (drop l.range-index l.ranges.spans.items) ≡ pipe_over l.smss l.high l.top l.una l.ranges.spans.items;
}
