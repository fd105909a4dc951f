use Rattle.std.proofs.Common.{Err, map, ◌≡◌}
use Rattle.clap.specs.Words.{kind_of}
use Rattle.clap.specs.declared.error.kind.ErrorKind.TheVariants as kind
use Rattle.pd_protocol.specs.SettingsText.{settings_in}
use Rattle.pd_protocol.specs.OptionTable.{settings_text}
use Rattle.pd_protocol.specs.declared.faults.ServeFault.TheVariants.{OutOfMemory}
use Rattle.pd_protocol.specs.declared.program_faults.ProgramFault.TheVariants.{Serving}
use Rattle.pd_protocol.proofs.Writing.{wanted}
use Rattle.pd_protocol.proofs.Known.{appends_none}
use Rattle.pdrecord.specs.RecordArguments.{pdrecord, mode_chosen, files_named, refusals}
use Rattle.pdrecord.proofs.Memory.{memory_comes, memory_files}
use Rattle.pdrecord.proofs.program.run_arguments_with_file_access.Goals as goal

pub returns-in-Err-clause-taken : goal.returns-in-Err-clause-taken
returns-in-Err-clause-taken g c = λ free none.
    let arguments = map g.S.AsStr.text c.args.arguments.now in
    let memory = wanted (refusals arguments) (kind_of c.in-Err.error ≡ kind.OutOfMemory) c.in-Err.ensures.refused free in (
      Err (Serving OutOfMemory),
      memory_comes (g.R.InputStream.has_failed c.args.reader.now) (settings_in (settings_text pdrecord arguments)) (mode_chosen arguments) (g.R.Read.remaining c.args.reader.now),
      (c.write_clap_error_to_err_and_return_fault_exit.ensures.status, c.write_clap_error_to_err_and_return_fault_exit.ensures.memory memory, appends_none (g.W.Write.contents c.args.out.now)),
    )

pub returns-in-Err-clause-files : goal.returns-in-Err-clause-files
returns-in-Err-clause-files g c = λ free some.
    let arguments = map g.S.AsStr.text c.args.arguments.now in
    let memory = wanted (refusals arguments) (kind_of c.in-Err.error ≡ kind.OutOfMemory) c.in-Err.ensures.refused free in
    memory_files (settings_in (settings_text pdrecord arguments)) (mode_chosen arguments) (g.F.FileSource.octets_in c.args.files.now) (files_named arguments) c.write_clap_error_to_err_and_return_fault_exit.result (g.W.Write.contents c.args.out.now) (g.E.Write.contents c.args.err.now) (g.E.Write.contents c.write_clap_error_to_err_and_return_fault_exit.new.err)
    c.write_clap_error_to_err_and_return_fault_exit.ensures.status (c.write_clap_error_to_err_and_return_fault_exit.ensures.memory memory)
