-- There are as many lines as ends.
use Rattle.std.proofs.Common.{◌≡◌, ◌∙◌, length, sym, ap, List, ℕ, rules}
use Rattle.pd_text.proofs.Placed.{length_lines}
use Rattle.pd_text.proofs.line_list.LineList.packed_lines.Goals as goal

pub returns-clause-count : goal.returns-clause-count
returns-clause-count c =
    let count : length c.self.inside.ends.items ≡ length c.args.self.now = sym (length_lines c.self.inside.octets.items 0 c.self.inside.ends.items) ∙ ap (λ (ls : List (List ℕ)). length ls) c.self.view_is in
    search (rules, count)
