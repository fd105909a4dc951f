-- A line begins where the one before it ends.
use Rattle.std.proofs.Common.{◌≡◌, ◌-◌, suc, ℕ, sym, ap, ◌∙◌, arith}
use Rattle.pd_text.specs.PackedLines.{start_at}
use Rattle.pd_text.proofs.Placed.{start_is}
use Rattle.pd_text.proofs.packed_lines.PackedLines.line_start.Goals as goal

pub returns-else-i-eq0 : goal.returns-else-i-eq0
returns-else-i-eq0 c =
    let ends = c.args.self.now.ends.now in
    let i : suc (c.args.i - 1) ≡ c.args.i = omega (arith, c.if-i-eq0.false) in
    sym (ap (λ (n : ℕ). start_at 0 n ends) (sym i) ∙ start_is 0 ends (c.args.i - 1) 0 (omega (arith, c.requires, i)))
