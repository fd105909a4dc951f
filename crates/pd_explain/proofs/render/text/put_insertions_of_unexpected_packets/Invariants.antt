-- Lines so far.
use Rattle.pd_explain.specs.Inner.{AddsLines}
use Rattle.pd_explain.proofs.render.text.put_insertions_of_unexpected_packets.Given as goal

abbrev pub invariant-loop-packet : goal.invariant-loop-packet
invariant-loop-packet l = AddsLines l.initial.out.items l.out.items
