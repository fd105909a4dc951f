use Rattle.std.proofs.Common.{length, arith, ap}
use Rattle.pd_protocol.proofs.Cuts.{takes_cut, takes_long, takes_last, takes_last_long, no_newline_strip}
use Rattle.pd_protocol.proofs.line_reader.classify_line_as_whole_long_or_end.Goals as goal

pub returns-then-len-limit-clause-line : goal.returns-then-len-limit-clause-line
returns-then-len-limit-clause-line c = λ w o n h k cut. rw c.strip_carriage_return.ensures (takes_cut _ w _ o n h k (rw c.if-found.true at cut) (omega (arith, ap length c.strip_carriage_return.ensures, c.strip_carriage_return.new.line.ok)))

pub returns-then-found-clause-line : goal.returns-then-found-clause-line
returns-then-found-clause-line c = λ w o n h k cut. takes_long _ w _ o n h k (rw c.if-found.true at cut) (omega (arith, ap length c.strip_carriage_return.ensures, c.strip_carriage_return.new.line.ok))

pub returns-then-len-limit-2-clause-line : goal.returns-then-len-limit-2-clause-line
returns-then-len-limit-2-clause-line c = λ w o n h k cut. takes_last _ w _ o n h k (rw c.if-found.false at cut) (omega (arith, c.args.line.ok)) (omega (arith, c.args.line.ok))

pub returns-clause-line : goal.returns-clause-line
returns-clause-line c = λ w o n h k cut. takes_last_long _ w _ o n h k (rw c.if-found.false at cut) (omega (arith, c.args.line.ok))

pub returns-then-len-limit-clause-octets : goal.returns-then-len-limit-clause-octets
returns-then-len-limit-clause-octets c = λ h. rw c.strip_carriage_return.ensures (no_newline_strip c.args.line.items h)
