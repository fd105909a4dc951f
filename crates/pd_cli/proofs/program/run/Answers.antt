use Rattle.std.proofs.Common.{map}
use Rattle.pd_protocol.specs.ChosenOptions.{report_options, report_options_of}
use Rattle.pd_protocol.specs.OptionTable.{pdregress, settings_text, worker_count, refusals}
use Rattle.pd_protocol.proofs.Writing.{wanted}
use Rattle.pd_cli.proofs.Reported.{memory_ends, finishes_by, output_of}
use Rattle.pd_cli.proofs.program.run.Goals as goal

pub returns-in-Err-clause-taken : goal.returns-in-Err-clause-taken
returns-in-Err-clause-taken g c = λ e.
    let words = map g.S.AsStr.text c.args.words.now in
    memory_ends (g.R.InputStream.has_failed c.args.reader.now) c.write_clap_error_to_err_and_return_fault_exit.result (worker_count words) (report_options words) (settings_text pdregress words) (g.R.Read.remaining c.args.reader.now) (g.W.Write.contents c.args.out.now) (g.E.Write.contents c.args.err.now) (g.E.Write.contents c.write_clap_error_to_err_and_return_fault_exit.new.err)
    c.write_clap_error_to_err_and_return_fault_exit.ensures.status (c.write_clap_error_to_err_and_return_fault_exit.ensures.memory (wanted (refusals words) _ c.in-Err.ensures.refused e))

pub returns-clause-taken : goal.returns-clause-taken
returns-clause-taken g c = λ e.
    let words = map g.S.AsStr.text c.args.words.now in
    let options = c.in-Ok.options in
    let chosen_options = c.in-Ok.ensures.chosen_options in
    finishes_by (g.R.InputStream.has_failed c.run_beside_workers.new.reader) c.run_beside_workers.result options.workers (worker_count words) (report_options_of options) (report_options words) options.settings.now (settings_text pdregress words) (g.R.Read.remaining c.args.reader.now) (g.W.Write.contents c.args.out.now) (g.W.Write.contents c.run_beside_workers.new.out) (g.E.Write.contents c.args.err.now) (g.E.Write.contents c.run_beside_workers.new.err)
    chosen_options.1 chosen_options.3 chosen_options.0 (c.run_beside_workers.ensures (report_options_of options))

pub returns-in-Err-clause-output : goal.returns-in-Err-clause-output
returns-in-Err-clause-output g c = λ e.
    let words = map g.S.AsStr.text c.args.words.now in
    output_of (g.R.InputStream.has_failed c.args.reader.now) c.write_clap_error_to_err_and_return_fault_exit.result (worker_count words) (report_options words) (settings_text pdregress words) (g.R.Read.remaining c.args.reader.now) (g.W.Write.contents c.args.out.now) (g.W.Write.contents c.args.out.now) (g.E.Write.contents c.args.err.now) (g.E.Write.contents c.write_clap_error_to_err_and_return_fault_exit.new.err)
    (returns-in-Err-clause-taken g c e)

pub returns-clause-output : goal.returns-clause-output
returns-clause-output g c = λ e.
    let words = map g.S.AsStr.text c.args.words.now in
    output_of (g.R.InputStream.has_failed c.run_beside_workers.new.reader) c.run_beside_workers.result (worker_count words) (report_options words) (settings_text pdregress words) (g.R.Read.remaining c.args.reader.now) (g.W.Write.contents c.args.out.now) (g.W.Write.contents c.run_beside_workers.new.out) (g.E.Write.contents c.args.err.now) (g.E.Write.contents c.run_beside_workers.new.err)
    (returns-clause-taken g c e)
