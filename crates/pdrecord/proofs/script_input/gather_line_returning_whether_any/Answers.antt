use Rattle.std.proofs.Common.{true}
use Rattle.pd_protocol.specs.Input.{to_come}
use Rattle.pd_protocol.specs.NextLines.{TakesLine}
use Rattle.pd_protocol.specs.declared.line_reader.NextLine.TheVariants.{Whole}
use Rattle.pd_protocol.proofs.Known.{known_map}
use Rattle.pdrecord.specs.Inner.{Gathers}
use Rattle.pdrecord.proofs.Gathering.{gathers_whole, gathers_at_hand}
use Rattle.pdrecord.proofs.script_input.gather_line_returning_whether_any.Goals as goal

pub returns-in_ok-add_unless_trace_line-in-Whole-clause-line : goal.returns-in_ok-add_unless_trace_line-in-Whole-clause-line
returns-in_ok-add_unless_trace_line-in-Whole-clause-line g c =
    rw c.recycle.ensures (known_map (TakesLine 65536 (Whole c.in-Whole.line)) (Gathers true c.args.text_builder.now c.add_unless_trace_line-in-Whole.new.text_builder)
    (to_come c.args.line_reader.now (g.R.Read.remaining c.args.reader.now)) (to_come c.next_line_or_long_or_end.new.self (g.R.Read.remaining c.next_line_or_long_or_end.new.reader))
    (λ o n t. gathers_whole c.args.text_builder.now c.add_unless_trace_line-in-Whole.new.text_builder c.in-Whole.line.items o n (rw c.as_slice-in-Whole.ensures.value at c.in_ok-add_unless_trace_line-in-Whole.ensures) t) (rw c.in-Whole.is at c.in_ok-line.ensures.line))

pub returns-in-Some-clause-line : goal.returns-in-Some-clause-line
returns-in-Some-clause-line g c =
    gathers_at_hand c.args.text_builder.now c.add_unless_trace_line.new.text_builder c.in-Some.line.now c.args.line_reader.now.0 c.consume.new.self.0 (g.R.Read.remaining c.args.reader.now)
    (rw c.without_carriage_return-line.ensures at c.in_ok-add_unless_trace_line.ensures) (rw c.consume.ensures.left c.in-Some.ensures.some)
