-- The search finds the first newline, or there is none.
use Rattle.pd_protocol.proofs.Newlines.{first_newline, no_newline}
use Rattle.pd_protocol.proofs.line_reader.find_newline.Goals as goal

pub returns-clause-some : goal.returns-clause-some
returns-clause-some c = first_newline c.args.octets.now c.memchr.result c.memchr.ensures

pub returns-clause-none : goal.returns-clause-none
returns-clause-none c = no_newline c.args.octets.now c.memchr.result c.memchr.ensures
