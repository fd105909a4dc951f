-- Each turn takes one decimal, and the last leaves none.
use Rattle.std.proofs.Common.{◌∙◌, sym, arith}
use Rattle.pd_script.proofs.Capped.{decimals_more, decimals_over}
use Rattle.pd_script.proofs.numbers.microseconds_of_decimals.Goals as goal

pub places-preserved : goal.places-preserved
places-preserved c = rw (c.digit_value.ensures, c.decimal_octet_or_ascii_zero_at.ensures) (c.places.invariant ∙ decimals_more c.args.decimals.now c.places.number c.places.place (omega (arith, c.places-test.true)))

pub returns : goal.returns
returns c = sym (c.places.invariant ∙ decimals_over c.args.decimals.now c.places.number c.places.place (omega (arith, c.places-test.false)))
