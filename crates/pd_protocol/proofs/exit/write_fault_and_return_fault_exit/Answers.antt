use Rattle.std.proofs.Common.{List, ℕ, subst}
use Rattle.pd_protocol.specs.WriterOutput.{WritesTo}
use Rattle.pd_protocol.specs.ProgramFaults.{line_of}
use Rattle.pd_protocol.proofs.exit.write_fault_and_return_fault_exit.Goals as goal

pub returns-clause-stderr : goal.returns-clause-stderr
returns-clause-stderr g c =
    subst (λ (text : List ℕ). WritesTo c.write_line_after_program_name_or_false-stderr_ok.result (g.E.Write.contents c.args.err.now) (g.E.Write.contents c.write_line_after_program_name_or_false-stderr_ok.new.err) (line_of c.args.program.now text)) c.number_and_name.ensures c.write_line_after_program_name_or_false-stderr_ok.ensures
