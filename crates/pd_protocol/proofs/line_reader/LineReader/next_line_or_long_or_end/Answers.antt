use Rattle.pd_protocol.proofs.Cuts.{next_given, kept_octets}
use Rattle.pd_protocol.proofs.line_reader.LineReader.next_line_or_long_or_end.Goals as goal

pub returns-clause-line : goal.returns-clause-line
returns-clause-line g c = next_given _ _ _ _ _ _ c.in_ok-line.ensures.line c.classify_line_as_whole_long_or_end.ensures.line

pub returns-clause-octets : goal.returns-clause-octets
returns-clause-octets g c = c.classify_line_as_whole_long_or_end.ensures.octets (kept_octets _ _ _ _ _ c.in_ok-line.ensures.line)
