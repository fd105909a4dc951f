-- One use of the law of scripts each.
use Rattle.std.proofs.Common.{refl, ap, ◌∙◌}
use Rattle.pd_script.specs.Script.{script_of}
use Rattle.pd_run.specs.Run.{verdict_in}
use Rattle.pd_run.proofs.laws.law_verdicts_are_of_grammar_scripts.Goals as goal

pub returns-clause-given : goal.returns-clause-given
returns-clause-given c = λ text settings. record { script = script_of text; given = c.law_parse_gives_the_only_grammatical_reading.ensures.given text; run = refl }

pub returns-clause-only : goal.returns-clause-only
returns-clause-only c = λ text settings verdict is. is.run ∙ ap (verdict_in settings) (c.law_parse_gives_the_only_grammatical_reading.ensures.only text is.script is.given)
