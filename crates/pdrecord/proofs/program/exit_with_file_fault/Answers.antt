use Rattle.std.proofs.Common.{codes}
use Rattle.pd_protocol.specs.ProgramFaults.{fault_line}
use Rattle.pd_protocol.specs.declared.program_faults.ProgramFault.TheVariants.{Serving}
use Rattle.pd_protocol.proofs.Writing.{says_front, says_then}
use Rattle.pdrecord.proofs.program.exit_with_file_fault.Goals as goal

pub returns-then-not-write_all_or_false-clause-stderr : goal.returns-then-not-write_all_or_false-clause-stderr
returns-then-not-write_all_or_false-clause-stderr g c =
    says_front (g.E.Write.contents c.args.err.now) (g.E.Write.contents c.write_all_or_false.new.err) (codes "pdrecord: ") (fault_line c.args.stop.name.now (Serving c.args.stop.fault)) (rw c.if-not-write_all_or_false.true at c.write_all_or_false.ensures)

pub returns-clause-stderr : goal.returns-clause-stderr
returns-clause-stderr g c =
    says_then c.write_fault_and_return_fault_exit.result.stderr_ok (g.E.Write.contents c.args.err.now) (g.E.Write.contents c.write_all_or_false.new.err) (g.E.Write.contents c.write_fault_and_return_fault_exit.new.err) (codes "pdrecord: ") (fault_line c.args.stop.name.now (Serving c.args.stop.fault))
    (rw c.if-not-write_all_or_false.false at c.write_all_or_false.ensures) c.write_fault_and_return_fault_exit.ensures.stderr
