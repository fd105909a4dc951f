use Rattle.std.proofs.Common.{arith}
use Rattle.std.proofs.lemmas.Bool.Decides.{nat_tests}
use Rattle.pd_protocol.proofs.Digits.{stop_large, all_read}
use Rattle.pd_protocol.proofs.numbers.parse_number.Goals as goal

pub returns-in_err-n : goal.returns-in_err-n
returns-in_err-n c = stop_large c.args.word.now c.loop-digit.digit-index c.loop-digit.n c.from_residual.result c.loop-digit-test.true c.loop-digit.invariant.parse_number c.in_err-n.ensures c.from_residual.ensures

pub returns : goal.returns
returns c = all_read c.args.word.now c.loop-digit.digit-index c.loop-digit.n (grind (arith, nat_tests, c.if-is_empty.ensures)) c.loop-digit-test.false c.loop-digit.invariant.digits c.loop-digit.invariant.parse_number c.loop-digit.invariant.small
