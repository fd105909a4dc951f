use Rattle.pdrecord.proofs.Memory.{fault_files}
use Rattle.pd_protocol.specs.SettingsText.{settings_in}
use Rattle.pd_protocol.specs.ChosenOptions.{names_of}
use Rattle.pdrecord.proofs.program.run_on_files.Goals as goal

pub returns-in-Err : goal.returns-in-Err
returns-in-Err g c =
    fault_files (settings_in c.args.options.now.settings.now) c.args.options.now.mode (g.F.FileSource.octets_in c.args.files.now) (names_of c.args.options.now.files.items) c.in-Err.fault c.write_fault_and_return_fault_exit.result (g.W.Write.contents c.args.out.now) (g.E.Write.contents c.args.err.now) (g.E.Write.contents c.write_fault_and_return_fault_exit.new.err)
    c.in-Err.ensures.err c.write_fault_and_return_fault_exit.ensures.status c.write_fault_and_return_fault_exit.ensures.stderr
