-- The laws are lemmas.
use Rattle.pd_refusal.proofs.RuleLemmas.{limits_have_numbers, shapes_have_rules}
use Rattle.pd_refusal.proofs.InputLemmas.{openings_have_rules, contents_have_rules}
use Rattle.pd_refusal.proofs.laws.law_rules_are_named_iff_broken.Goals as goal

pub returns-clause-limits : goal.returns-clause-limits
returns-clause-limits c = limits_have_numbers

pub returns-clause-shapes : goal.returns-clause-shapes
returns-clause-shapes c = shapes_have_rules

pub returns-clause-openings : goal.returns-clause-openings
returns-clause-openings c = openings_have_rules

pub returns-clause-contents : goal.returns-clause-contents
returns-clause-contents c = contents_have_rules
