use Rattle.std.proofs.Common.{refl}
use Rattle.pd_cli.proofs.Beside.{serves_beside}
use Rattle.pd_cli.proofs.Causes.{serves_with_cause}
use Rattle.pd_cli.proofs.serve_commands.serve_seat.Goals as goal

pub returns-clause-serves : goal.returns-clause-serves
returns-clause-serves g c =
    serves_beside c.law_verdicts_are_of_current_runs.ensures.one _ _ _ c.serve_commands_then_settle.result _ _ (g.R.Read.remaining c.args.reader.now) (g.W.Write.contents c.args.writer.now) (g.W.Write.contents c.serve_commands_then_settle.new.writer) c.serve_commands_then_settle.ensures.serves (λ at. at.own.history) (λ a b command octets h. h) (λ fault a b command h. h) (λ a. refl) c.args.settings c.new.ensures.history

pub returns-clause-cause : goal.returns-clause-cause
returns-clause-cause g c =
    serves_with_cause _ _ _ c.serve_commands_then_settle.result _ _ (g.R.Read.remaining c.args.reader.now) (g.W.Write.contents c.args.writer.now) (g.W.Write.contents c.serve_commands_then_settle.new.writer) c.serve_commands_then_settle.ensures.serves (g.R.InputStream.has_failed c.serve_commands_then_settle.new.reader) c.serve_commands_then_settle.ensures.cause (λ a b command h. h)
