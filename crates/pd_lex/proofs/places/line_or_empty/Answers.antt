-- A line that is found is the one of its number, and past the last nothing stands.
use Rattle.pd_lex.proofs.TextLines.{line_is, line_past, line_none}
use Rattle.pd_lex.proofs.places.line_or_empty.Goals as goal

pub returns-in-Some : goal.returns-in-Some
returns-in-Some c = line_is c.args.lines.now c.args.number c.requires c.in-Some.octets.now c.in-Some.ensures.line

pub returns-in-None : goal.returns-in-None
returns-in-None c = line_none c.args.lines.now c.args.number (line_past c.args.lines.now c.args.number c.requires c.in-None.ensures.line)
