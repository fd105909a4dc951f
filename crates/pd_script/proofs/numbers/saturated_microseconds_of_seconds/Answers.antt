-- The whole part in microseconds, and six decimals after it.
use Rattle.std.proofs.Common.{◌∙◌, sym}
use Rattle.pd_script.proofs.Capped.{microseconds_is, whole_is}
use Rattle.pd_script.proofs.numbers.saturated_microseconds_of_seconds.Goals as goal

pub returns-then-len-text : goal.returns-then-len-text
returns-then-len-text c = rw (c.saturating_mul-whole.ensures, c.saturating_decimal_value.ensures, c.len_before_point-len.ensures.len) (whole_is c.args.text.now (sym c.len_before_point-len.ensures.len ∙ c.if-len-text.true))

pub returns : goal.returns
returns c = rw (c.saturating_add.ensures, c.saturating_mul-whole.ensures, c.microseconds_of_decimals.ensures, c.saturating_decimal_value.ensures, c.digits_after_point.ensures, c.len_before_point-len.ensures.len) (microseconds_is c.args.text.now)
