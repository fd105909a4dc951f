use Rattle.std.proofs.Common.{◌≡◌, length, []}
use Rattle.pd_script.specs.Reader.{machine_at}
use Rattle.pd_script.specs.ArgumentReading.{note_move}
use Rattle.pd_script.proofs.cursor.Cursor.skip_note_body_and_closing_bracket.Given as goal

abbrev pub invariant-tokens : goal.invariant-tokens
invariant-tokens l = machine_at note_move l.pairs l.self ≡ machine_at note_move [] l.fn.self

abbrev pub decreases-tokens : goal.decreases-tokens
decreases-tokens l = length l.self
