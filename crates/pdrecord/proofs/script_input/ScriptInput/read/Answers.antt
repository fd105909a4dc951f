use Rattle.std.proofs.Common.{true, []}
use Rattle.pd_protocol.specs.Input.{to_come}
use Rattle.pd_protocol.proofs.Known.{known_then}
use Rattle.pd_protocol.proofs.Spending.{spent_none, spends_then, caused_out}
use Rattle.pdrecord.specs.Inner.{Gathers}
use Rattle.pdrecord.proofs.Gathering.{SoFar, so_begin, so_more}
use Rattle.pdrecord.proofs.script_input.ScriptInput.read.Goals as goal

pub loop-numbers-init : goal.loop-numbers-init
loop-numbers-init g c = record {
  so_far = so_begin c.new-text_builder.result c.new-line_reader.result (g.R.Read.remaining c.args.reader.now) c.new-text_builder.ensures c.new-line_reader.ensures;
  spent = spent_none c.new-line_reader.result (g.R.Read.remaining c.args.reader.now) c.new-line_reader.ensures;
}

pub loop-numbers-preserved : goal.loop-numbers-preserved
loop-numbers-preserved g c =
    let old = to_come c.loop-numbers.line_reader (g.R.Read.remaining c.loop-numbers.reader) in
    let new = to_come c.gather_line_returning_whether_any.new.line_reader (g.R.Read.remaining c.gather_line_returning_whether_any.new.reader) in
    record {
      so_far = known_then (SoFar c.loop-numbers.text_builder) (Gathers true c.loop-numbers.text_builder c.gather_line_returning_whether_any.new.text_builder) (SoFar c.gather_line_returning_whether_any.new.text_builder) (g.R.Read.remaining c.args.reader.now) old new
          (λ x y z s t. so_more c.loop-numbers.text_builder c.gather_line_returning_whether_any.new.text_builder x y z s t) c.loop-numbers.invariant.so_far (rw c.if-branch.true at c.in_ok-gather_line_returning_whether_any.ensures.line);
      spent = spends_then ([], 1048576) c.loop-numbers.line_reader c.gather_line_returning_whether_any.new.line_reader (g.R.Read.remaining c.args.reader.now) (g.R.Read.remaining c.loop-numbers.reader) (g.R.Read.remaining c.gather_line_returning_whether_any.new.reader) c.loop-numbers.invariant.spent (rw c.if-branch.true at c.in_ok-gather_line_returning_whether_any.ensures.reads);
    }

pub returns-in_err-gather_line_returning_whether_any-clause-cause : goal.returns-in_err-gather_line_returning_whether_any-clause-cause
returns-in_err-gather_line_returning_whether_any-clause-cause g c =
    caused_out c.from_residual.result c.in_err-gather_line_returning_whether_any.field-0.0 (g.R.InputStream.has_failed c.gather_line_returning_whether_any.new.reader) c.loop-numbers.line_reader c.gather_line_returning_whether_any.new.line_reader (g.R.Read.remaining c.args.reader.now) (g.R.Read.remaining c.loop-numbers.reader)
    c.from_residual.ensures.1 c.loop-numbers.invariant.spent c.in_err-gather_line_returning_whether_any.ensures.cause
