use Rattle.pd_protocol.specs.SettingsText.{settings_in}
use Rattle.pd_cli.specs.Program.{end_of}
use Rattle.pd_cli.proofs.Ending.{ran_beside}
use Rattle.pd_cli.proofs.Reported.{beside_end, settings_end}
use Rattle.pd_cli.proofs.program.run_beside_workers.Goals as goal

pub returns-in-Ok : goal.returns-in-Ok
returns-in-Ok g c = λ report_options.
    let input = g.R.Read.remaining c.args.reader.now in
    let before = g.W.Write.contents c.args.out.now in
    let after = g.W.Write.contents c.serve-end.new.writer in
    let text = c.args.options.now.settings.now in
    let end = c.serve-end.result in
    let failed = g.R.InputStream.has_failed c.serve-end.new.reader in
    beside_end failed c.print_any_fault_and_make_exit.result (end_of end) c.args.options.now.workers report_options text input before after (g.E.Write.contents c.args.err.now) (g.E.Write.contents c.print_any_fault_and_make_exit.new.err)
    c.print_any_fault_and_make_exit.ensures.status c.requires.some c.print_any_fault_and_make_exit.ensures.stderr (ran_beside failed c.args.options.now.workers c.in-Ok.settings (settings_in text) end input before after c.requires.some c.in-Ok.ensures.ok c.serve-end.ensures.serves c.serve-end.ensures.cause)

pub returns-in-Err : goal.returns-in-Err
returns-in-Err g c = λ report_options.
    settings_end (g.R.InputStream.has_failed c.args.reader.now) c.write_fault_and_return_fault_exit.result c.in-Err.fault c.args.options.now.workers report_options c.args.options.now.settings.now (g.R.Read.remaining c.args.reader.now) (g.W.Write.contents c.args.out.now) (g.E.Write.contents c.args.err.now) (g.E.Write.contents c.write_fault_and_return_fault_exit.new.err)
    c.write_fault_and_return_fault_exit.ensures.status c.write_fault_and_return_fault_exit.ensures.stderr c.in-Err.ensures.err
