-- Lines so far.
use Rattle.pd_explain.specs.Inner.{AddsLines}
use Rattle.pd_explain.proofs.render.text.put_unmatched.Given as goal

abbrev pub invariant-loop-place : goal.invariant-loop-place
invariant-loop-place l = AddsLines l.initial.out.items l.out.items
