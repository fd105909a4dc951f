-- Texts so far.
use Rattle.std.proofs.Common.{take}
use Rattle.pd_explain.specs.Inner.{AddsTexts, fact_texts}
use Rattle.pd_explain.proofs.render.lines.put_facts.Given as goal

abbrev pub invariant-loop-fact : goal.invariant-loop-fact
invariant-loop-fact l = AddsTexts (fact_texts (take l.fact-index l.initial.facts)) l.initial.out.items l.out.items
