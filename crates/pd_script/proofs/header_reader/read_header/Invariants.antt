use Rattle.std.proofs.Common.{length}
use Rattle.pd_lex.specs.Places.{first_place}
use Rattle.pd_lex.specs.Lexing.{items}
use Rattle.pd_script.proofs.HeaderLaws.{SoFar}
use Rattle.pd_script.proofs.header_reader.read_header.Given as goal

abbrev pub invariant-items : goal.invariant-items
invariant-items l = SoFar l.header (items l.lines l.header.end) (items l.lines first_place)

abbrev pub decreases-items : goal.decreases-items
decreases-items l = length (items l.lines l.header.end)
