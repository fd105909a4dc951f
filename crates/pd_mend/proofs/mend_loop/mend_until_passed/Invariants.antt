-- The text so far was mended from the given one.
use Rattle.pd_mend.proofs.Leading.{OnTheWay}
use Rattle.pd_mend.proofs.mend_loop.mend_until_passed.Given as goal

abbrev pub invariant-loop : goal.invariant-loop
invariant-loop l = OnTheWay l.settings l.lines l.text
