-- The scripts without a verdict are counted in their order.
use Rattle.std.proofs.Common.{Bool, is_none, count_by, ◌∙◌, ap, rules, tests}
use Rattle.std.proofs.lemmas.Iterator.Consumers.{count_from_yields_List, YieldsList-at, YieldsList-from_filter, YieldsList-from_rest}
use Rattle.std.proofs.lemmas.List.Sums.{length-filter}
use Rattle.std.specs.Map.{values_of}
use Rattle.pd_book.specs.StoredScripts.{verdict_in}
use Rattle.pd_book.specs.declared.stored_script.StoredScript.{StoredScript}
use Rattle.pd_book.proofs.scripts.Scripts.owed.Goals as goal

pub returns : goal.returns
returns c =
    let lacks : StoredScript → Bool = λ s. is_none (verdict_in s.state) in
    let scripts = values_of c.self.inside.by_name.entries in
    count_from_yields_List _ _ c.count.ensures.ran (YieldsList-from_filter _ lacks (YieldsList-at c.filter.ensures.source (YieldsList-from_rest scripts c.values.ensures.rest)) c.filter.ensures.closure (λ x r q k. search (rules, tests)))
    ∙ (length-filter lacks scripts ∙ ap (λ es. count_by lacks (values_of es)) c.self.view_is)
