-- Lists as long say the same where all pairs do.
use Rattle.std.proofs.Common.{rules, tests}
use Rattle.std.proofs.lemmas.Iterator.{YieldsList-from_slice, YieldsList-from_zip}
use Rattle.pd_layout.proofs.Images.{images_from_all}
use Rattle.pd_script.specs.declared.script_header.HeaderItem.{HeaderItem}
use Rattle.pd_layout.proofs.script_check.is_same_header_but_for_lines.Goals as goal

pub returns-then-one-other : goal.returns-then-one-other
returns-then-one-other c =
    images_from_all (λ (item : HeaderItem). item.kind) (λ (item : HeaderItem). item.kind) c.all.new.self _ _ _ _ c.all.ensures.ran
    (YieldsList-from_zip (YieldsList-from_slice c.args.one.now cc) (YieldsList-from_slice c.args.other.now cc))
    (search rules)
    (λ x q k. search (rules, tests))
    (λ x q k. search (rules, tests))
