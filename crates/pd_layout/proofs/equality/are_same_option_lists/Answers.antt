-- Lists as long are equal where all pairs are.
use Rattle.std.proofs.Common.{rules, tests}
use Rattle.std.proofs.lemmas.Iterator.{YieldsList-from_slice, YieldsList-from_zip, same_from_all}
use Rattle.pd_layout.proofs.equality.are_same_option_lists.Goals as goal

pub returns-then-one-other : goal.returns-then-one-other
returns-then-one-other c =
    same_from_all c.all.new.self _ _ _ _ c.all.ensures.ran
    (YieldsList-from_zip (YieldsList-from_slice c.args.one.now cc) (YieldsList-from_slice c.args.other.now cc))
    (search rules)
    (λ x q k. search (rules, tests))
    (λ x q k. search (rules, tests))
