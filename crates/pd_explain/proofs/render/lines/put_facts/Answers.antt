use Rattle.pd_explain.proofs.FactLemmas.{next_fact}
use Rattle.pd_explain.proofs.render.lines.put_facts.Goals as goal

pub loop-fact-preserved : goal.loop-fact-preserved
loop-fact-preserved c =
    next_fact c.args.facts.now c.loop-fact.fact-index _ c.args.out.now.items c.loop-fact.out.items c.put_fact_if_labelled.new.out.items c.loop-fact-test.true c.loop-fact.invariant c.in_ok-put_fact_if_labelled.ensures
