-- None of the options so far has a number over its limit.
use Rattle.std.proofs.Common.{◌≡◌, drop}
use Rattle.pd_refusal.specs.Rules.{first_number_over_in_listed_options}
use Rattle.pd_refusal.proofs.rules.limited_numbers.first_number_over_in_listed_options.Given as goal

abbrev pub invariant-loop-option : goal.invariant-loop-option
invariant-loop-option l = first_number_over_in_listed_options (drop l.option-index l.options) ≡ first_number_over_in_listed_options l.options
