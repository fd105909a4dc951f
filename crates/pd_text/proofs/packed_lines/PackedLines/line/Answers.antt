-- A line is what stands up to the next one.
use Rattle.std.proofs.Common.{◌≡◌, ◌+◌, ℕ, suc, Some, sym, ap, ◌∙◌, arith}
use Rattle.pd_text.specs.PackedLines.{octets_between, start_at}
use Rattle.pd_text.proofs.Placed.{line_in}
use Rattle.pd_text.proofs.packed_lines.PackedLines.line.Goals as goal

pub returns : goal.returns
returns c =
    let octets = c.args.self.now.octets.now in
    let ends = c.args.self.now.ends.now in
    let next : c.args.i + 1 ≡ suc c.args.i = omega arith in
    let same : c.octets_of_lines.result.now ≡ octets_between octets (start_at 0 c.args.i ends) (start_at 0 (suc c.args.i) ends) =
    c.octets_of_lines.ensures ∙ ap (λ (n : ℕ). octets_between octets (start_at 0 c.args.i ends) (start_at 0 n ends)) next in
    line_in octets 0 ends c.args.i c.requires.within ∙ ap Some (sym same)
