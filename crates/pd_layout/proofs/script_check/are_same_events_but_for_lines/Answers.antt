-- Lists as long are the same, but for their lines, where all pairs are.
use Rattle.std.proofs.Common.{rules, tests}
use Rattle.std.proofs.lemmas.Iterator.{YieldsList-from_slice, YieldsList-from_zip}
use Rattle.pd_layout.specs.ReadAs.{without_line}
use Rattle.pd_layout.proofs.Images.{images_from_all}
use Rattle.pd_layout.proofs.script_check.are_same_events_but_for_lines.Goals as goal

pub returns-then-one-other : goal.returns-then-one-other
returns-then-one-other c =
    images_from_all without_line without_line c.all.new.self _ _ _ _ c.all.ensures.ran
    (YieldsList-from_zip (YieldsList-from_slice c.args.one.now cc) (YieldsList-from_slice c.args.other.now cc))
    (search rules)
    (λ x q k. search (rules, tests))
    (λ x q k. search (rules, tests))
