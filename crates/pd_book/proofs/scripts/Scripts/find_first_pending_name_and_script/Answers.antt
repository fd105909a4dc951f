-- The search goes through the scripts in their order.
use Rattle.std.proofs.Common.{◌∙◌, find, ap, rules, tests}
use Rattle.std.proofs.lemmas.Iterator.Consumers.{YieldsList-from_rest}
use Rattle.std.proofs.lemmas.Iterator.Search.{find_from_yields_List}
use Rattle.pd_book.specs.StoredScripts.{is_pending}
use Rattle.pd_book.proofs.scripts.Scripts.find_first_pending_name_and_script.Goals as goal

pub returns : goal.returns
returns c =
    find_from_yields_List is_pending _ _ _ c.find.ensures.ran (YieldsList-from_rest c.self.inside.by_name.entries c.iter.ensures.rest) (λ x b q k. search (rules, tests))
    ∙ ap (find is_pending) c.self.view_is
