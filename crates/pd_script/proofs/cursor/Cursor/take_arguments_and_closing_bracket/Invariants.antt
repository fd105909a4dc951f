use Rattle.std.proofs.Common.{◌≡◌, length}
use Rattle.pd_script.specs.Reader.{machine_at, onto}
use Rattle.pd_script.specs.ArgumentReading.{argument_move}
use Rattle.pd_script.specs.EventReading.{arguments_at}
use Rattle.pd_script.proofs.cursor.Cursor.take_arguments_and_closing_bracket.Given as goal

abbrev pub invariant-tokens : goal.invariant-tokens
invariant-tokens l = onto l.arguments (machine_at argument_move l.inside l.self) ≡ arguments_at l.fn.self

abbrev pub decreases-tokens : goal.decreases-tokens
decreases-tokens l = length l.self
