-- The octets are those of the lines.
use Rattle.std.proofs.Common.{◌≡◌, length, arith}
use Rattle.pd_text.specs.PackedLines.{lines_from}
use Rattle.pd_text.proofs.Placed.{length_lines, octets_lines}
use Rattle.pd_text.proofs.line_list.LineList.octet_count_without_newlines.Goals as goal

pub returns : goal.returns
returns c =
    let octets = c.self.inside.octets.items in
    let ends = c.self.inside.ends.items in
    let all = octets_lines octets 0 (length octets) ends c.self.invariant.0 (omega arith) in
    let lines : lines_from 0 octets ends ≡ c.args.self.now = c.self.view_is in
    rw (← lines) (omega (arith, all, length_lines octets 0 ends, c.len.ensures))
