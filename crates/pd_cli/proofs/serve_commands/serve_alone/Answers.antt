use Rattle.std.proofs.Common.{refl}
use Rattle.pd_cli.proofs.Alone.{serves_alone}
use Rattle.pd_cli.proofs.Causes.{serves_with_cause}
use Rattle.pd_cli.proofs.serve_commands.serve_alone.Goals as goal

pub returns-clause-serves : goal.returns-clause-serves
returns-clause-serves g c =
    serves_alone c.law_verdicts_are_of_current_runs.ensures.one c.law_settle_reports_from_scratch.ensures.written _ _ _ c.serve_commands_then_settle.result _ _ (g.R.Read.remaining c.args.reader.now) (g.W.Write.contents c.args.writer.now) (g.W.Write.contents c.serve_commands_then_settle.new.writer) c.serve_commands_then_settle.ensures.serves (λ at. at.book.history) (λ a b command octets h. h.0) (λ fault a b command h. h.0) (λ a. refl) c.args.settings c.new.ensures.history c.law_settle_reports_from_scratch.ensures.sessions c.law_settle_reports_from_scratch.ensures.settles

pub returns-clause-cause : goal.returns-clause-cause
returns-clause-cause g c =
    serves_with_cause _ _ _ c.serve_commands_then_settle.result _ _ (g.R.Read.remaining c.args.reader.now) (g.W.Write.contents c.args.writer.now) (g.W.Write.contents c.serve_commands_then_settle.new.writer) c.serve_commands_then_settle.ensures.serves (g.R.InputStream.has_failed c.serve_commands_then_settle.new.reader) c.serve_commands_then_settle.ensures.cause (λ a b command h. h.0)
