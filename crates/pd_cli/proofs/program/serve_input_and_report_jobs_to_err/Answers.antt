use Rattle.std.proofs.Common.{[], refl}
use Rattle.pd_protocol.specs.ChosenOptions.{report_options_of}
use Rattle.pd_cli.proofs.Observed.{session_heard}
use Rattle.pd_cli.proofs.Reported.{says_none, told_said}
use Rattle.pd_cli.proofs.Alone.{serves_alone}
use Rattle.pd_cli.proofs.Causes.{serves_with_cause}
use Rattle.pd_cli.proofs.program.serve_input_and_report_jobs_to_err.Goals as goal

pub returns-clause-same_reference : goal.returns-clause-same_reference
returns-clause-same_reference g c =
    let observed = session_heard _ _ _ c.serve_commands_then_settle-end.result _ _ (g.R.Read.remaining c.args.reader.now) (g.W.Write.contents c.args.out.now) (g.W.Write.contents c.serve_commands_then_settle-end.new.writer) c.serve_commands_then_settle-end.ensures.serves c.serve_commands_then_settle-end.ensures.answered (λ at. at.book.history) (λ at. at.observer) _ (λ a b command octets h. h.0) (λ a b command octets h. h.1) (λ fault a b command h. h.1) c.args.settings c.new.ensures.history in
    let w = g.E.Write.contents c.args.err.now in
    (told_said _ (report_options_of c.args.options.now) _ _ observed.0 observed.2 (λ s. s.err.ghost_name) (λ s. report_options_of s.options.now) (λ s. s.stderr_ok) (λ s. g.E.Write.contents s.err.now) (λ a b job h. h) refl [] w (says_none w)).0

pub returns-clause-stderr : goal.returns-clause-stderr
returns-clause-stderr g c =
    let observed = session_heard _ _ _ c.serve_commands_then_settle-end.result _ _ (g.R.Read.remaining c.args.reader.now) (g.W.Write.contents c.args.out.now) (g.W.Write.contents c.serve_commands_then_settle-end.new.writer) c.serve_commands_then_settle-end.ensures.serves c.serve_commands_then_settle-end.ensures.answered (λ at. at.book.history) (λ at. at.observer) _ (λ a b command octets h. h.0) (λ a b command octets h. h.1) (λ fault a b command h. h.1) c.args.settings c.new.ensures.history in
    let w = g.E.Write.contents c.args.err.now in
    let stderr = told_said _ (report_options_of c.args.options.now) _ _ observed.0 observed.2 (λ s. s.err.ghost_name) (λ s. report_options_of s.options.now) (λ s. s.stderr_ok) (λ s. g.E.Write.contents s.err.now) (λ a b job h. h) refl [] w (says_none w) in
    (observed.0, stderr.1, observed.1, observed.3, stderr.2, stderr.3)

pub returns-clause-served : goal.returns-clause-served
returns-clause-served g c =
    serves_alone c.law_verdicts_are_of_current_runs.ensures.one c.law_settle_reports_from_scratch.ensures.written _ _ _ c.serve_commands_then_settle-end.result _ _ (g.R.Read.remaining c.args.reader.now) (g.W.Write.contents c.args.out.now) (g.W.Write.contents c.serve_commands_then_settle-end.new.writer) c.serve_commands_then_settle-end.ensures.serves (λ at. at.book.history) (λ a b command octets h. h.0) (λ fault a b command h. h.0) (λ a. refl) c.args.settings c.new.ensures.history c.law_settle_reports_from_scratch.ensures.sessions c.law_settle_reports_from_scratch.ensures.settles

pub returns-clause-cause : goal.returns-clause-cause
returns-clause-cause g c =
    serves_with_cause _ _ _ c.serve_commands_then_settle-end.result _ _ (g.R.Read.remaining c.args.reader.now) (g.W.Write.contents c.args.out.now) (g.W.Write.contents c.serve_commands_then_settle-end.new.writer) c.serve_commands_then_settle-end.ensures.serves (g.R.InputStream.has_failed c.serve_commands_then_settle-end.new.reader) c.serve_commands_then_settle-end.ensures.cause (λ a b command h. h.0)
