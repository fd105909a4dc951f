use Rattle.std.proofs.Common.{◌==◌, rules, tests}
use Rattle.std.proofs.lemmas.Iterator.Search.{all_from_yields_List}
use Rattle.std.proofs.lemmas.Iterator.Splits.{YieldsList-from_slice_split}
use Rattle.pd_layout.specs.Traces.{is_fact}
use Rattle.pd_layout.proofs.traces.are_facts.Goals as goal

pub returns : goal.returns
returns c = all_from_yields_List is_fact _ _ c.all.result c.all.ensures.ran (YieldsList-from_slice_split _ (λ octet. octet == 32) c.args.words.now c.split.ensures.rest c.split.ensures.done c.split.ensures.closure (λ x b q k. search (rules, tests))) (λ x b q k. search (rules, tests))
