use Rattle.std.proofs.Common.{◌≡◌, ◌⊎◌, ◌≤◌, length, true}
use Rattle.std.specs.Io.KnownBytes.{prepend_known}
use Rattle.pd_protocol.specs.Input.{IfKnown, work_left}
use Rattle.pd_protocol.specs.LinePieces.{NoNewline, Gave}
use Rattle.pd_protocol.proofs.Fronts.{Front}
use Rattle.pd_protocol.proofs.line_reader.LineReader.read_capped_line.Given as goal

abbrev pub invariant-loop-line : goal.invariant-loop-line
invariant-loop-line g l = record { room : length l.line.items ≤ l.cap; less : work_left l.self ≤ work_left l.fn.self; front : Front l.cap l.line.items (prepend_known l.fn.self.0 (g.R.Read.remaining l.fn.reader)) (prepend_known l.self.0 (g.R.Read.remaining l.reader)); gave : IfKnown (Gave true l.fn.self.1 l.self.1) (g.R.Read.remaining l.fn.reader) (g.R.Read.remaining l.reader); held : (l.self.0 ≡ l.fn.self.0) ⊎ NoNewline l.fn.self.0 }

abbrev pub decreases-loop-line : goal.decreases-loop-line
decreases-loop-line g l = work_left l.self
