-- The number goes on by the decimals that are left.
use Rattle.std.proofs.Common.{◌≡◌, drop}
use Rattle.std.specs.Prelude.{fold}
use Rattle.pd_lex.specs.Scanned.{wrapped_digit}
use Rattle.pd_script.proofs.Capped.{first_six}
use Rattle.pd_script.proofs.numbers.microseconds_of_decimals.Given as goal

abbrev pub invariant-places : goal.invariant-places
invariant-places l = fold wrapped_digit 0 (first_six l.decimals) ≡ fold wrapped_digit l.number (drop l.place (first_six l.decimals))
