use Rattle.std.proofs.Common.{rules}
use Rattle.pd_protocol.specs.ChosenOptions.{report_options_of}
use Rattle.pd_protocol.specs.SettingsText.{settings_in}
use Rattle.pd_cli.specs.Program.{end_of, Finishes}
use Rattle.pd_cli.proofs.Ending.{ran_alone}
use Rattle.pd_cli.proofs.Reported.{tells_end, settings_end, started_alone, tied}
use Rattle.pd_cli.proofs.program.run_alone.Goals as goal

pub returns-in-Ok : goal.returns-in-Ok
returns-in-Ok g c =
    let input = g.R.Read.remaining c.args.reader.now in
    let before = g.W.Write.contents c.args.out.now in
    let after = g.W.Write.contents c.serve_input_and_report_jobs_to_err-err.new.out in
    let text = c.args.options.now.settings.now in
    let end = c.serve_input_and_report_jobs_to_err-err.result.2 in
    let failed = g.R.InputStream.has_failed c.serve_input_and_report_jobs_to_err-err.new.reader in
    let told = c.serve_input_and_report_jobs_to_err-err.ensures.stderr in
    let started = started_alone c.in-Ok.settings (settings_in text) end told.0 input c.in-Ok.ensures.ok told.3 in
    let done = tells_end failed c.print_any_fault_and_make_exit.result c.serve_input_and_report_jobs_to_err-err.result.1 (end_of end) (report_options_of c.args.options.now) text input before after (g.E.Write.contents c.args.err.now) (g.E.Write.contents c.serve_input_and_report_jobs_to_err-err.result.0.now) (g.E.Write.contents c.print_any_fault_and_make_exit.new.err)
    c.print_any_fault_and_make_exit.ensures.status (told.0, told.1, told.2, started, told.4, told.5) c.print_any_fault_and_make_exit.ensures.stderr (ran_alone failed c.in-Ok.settings (settings_in text) end input before after c.in-Ok.ensures.ok c.serve_input_and_report_jobs_to_err-err.ensures.served c.serve_input_and_report_jobs_to_err-err.ensures.cause) in
    tied (λ x. Finishes failed c.print_any_fault_and_make_exit.result 0 (report_options_of c.args.options.now) text input before after (g.E.Write.contents c.args.err.now) (g.E.Write.contents x)) c.print_any_fault_and_make_exit.new.err _ (search rules) done

pub returns-in-Err : goal.returns-in-Err
returns-in-Err g c =
    settings_end (g.R.InputStream.has_failed c.args.reader.now) c.write_fault_and_return_fault_exit.result c.in-Err.fault 0 (report_options_of c.args.options.now) c.args.options.now.settings.now (g.R.Read.remaining c.args.reader.now) (g.W.Write.contents c.args.out.now) (g.E.Write.contents c.args.err.now) (g.E.Write.contents c.write_fault_and_return_fault_exit.new.err)
    c.write_fault_and_return_fault_exit.ensures.status c.write_fault_and_return_fault_exit.ensures.stderr c.in-Err.ensures.err
