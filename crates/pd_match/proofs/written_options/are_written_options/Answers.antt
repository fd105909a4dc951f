-- Lists as long agree where all pairs do.
use Rattle.std.proofs.Common.{rules, tests, ◌∙◌}
use Rattle.std.proofs.lemmas.Iterator.{YieldsList-from_slice, YieldsList-from_zip}
use Rattle.std.proofs.lemmas.Iterator.Search.{all_from_yields_List}
use Rattle.pd_match.specs.Packets.{same_option}
use Rattle.pd_match.proofs.Pairs.{pairs_agree}
use Rattle.pd_match.proofs.written_options.are_written_options.Goals as goal

pub returns-then-written-sent : goal.returns-then-written-sent
returns-then-written-sent c =
    all_from_yields_List (λ p. same_option p.0 p.1) c.all.new.self _ _ c.all.ensures.ran
    (YieldsList-from_zip (YieldsList-from_slice c.args.written.now cc) (YieldsList-from_slice c.args.sent.now cc))
    (λ x b q k. search (rules, tests))
    ∙ pairs_agree same_option c.args.written.now c.args.sent.now (search rules)
