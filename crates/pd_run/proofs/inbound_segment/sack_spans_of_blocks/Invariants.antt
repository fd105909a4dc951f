-- The spans so far are those of the blocks so far.
use Rattle.std.proofs.Common.{◌≡◌, map, take}
use Rattle.pd_run.specs.InboundSegment.{span_in}
use Rattle.pd_run.proofs.inbound_segment.sack_spans_of_blocks.Given as goal

abbrev pub invariant-loop-block : goal.invariant-loop-block
invariant-loop-block l = l.spans ≡ map span_in (take l.block-index l.blocks)
