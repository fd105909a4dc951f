-- Lines so far.
use Rattle.pd_explain.specs.Inner.{AddsLines}
use Rattle.pd_explain.proofs.render.text.put_dropped_segments.Given as goal

abbrev pub invariant-loop-segment : goal.invariant-loop-segment
invariant-loop-segment l = AddsLines l.initial.out.items l.out.items
