-- The report of a rule that stops a script.
use Rattle.std.specs.Prelude.{◌≡◌, ℕ, List}
use Rattle.pd_lex.specs.declared.token.Place.{Place}
use Rattle.pd_refusal.specs.Parts.{place_of_part_or_from, IsShownAt}
use Rattle.pd_refusal.specs.declared.parts.rule_part.RulePart.{RulePart}
use Rattle.pd_refusal.specs.declared.rules.Rule.{Rule}
use Rattle.pd_refusal.specs.declared.rule_violation.RuleViolation.{RuleViolation}

-- the rule itself, and the text where the first such part from a place on begins
abbrev pub IsRuleViolation : List (List ℕ) → Place → RulePart → Rule → RuleViolation → Type 0
IsRuleViolation lines from part rule reported = (reported.rule ≡ rule) × IsShownAt lines (place_of_part_or_from part lines from) reported.part
