-- Lists whose octets and places are equal have equal lines.
use Rattle.std.proofs.Common.{◌≡◌, sym, ◌∙◌}
use Rattle.std.proofs.lemmas.Bool.Decides.{Decides-eqb}
use Rattle.std.proofs.lemmas.Slice.Eq.{slice_eq-Decides}
use Rattle.pd_text.specs.PackedLines.{lines_from}
use Rattle.pd_text.proofs.line_list.LineList.has_equal_octets_and_ends.Goals as goal

pub returns-then-eq : goal.returns-then-eq
returns-then-eq c = λ h.
    let octets : c.self.inside.octets.items ≡ c.other.inside.octets.items = (slice_eq-Decides Decides-eqb c.self.inside.octets.items c.other.inside.octets.items c.eq.result c.eq.ensures).0 c.if-eq.true in
    let places : c.self.inside.ends.items ≡ c.other.inside.ends.items = (slice_eq-Decides Decides-eqb c.self.inside.ends.items c.other.inside.ends.items c.eq-then-eq.result c.eq-then-eq.ensures).0 h in
    let lines : lines_from 0 c.self.inside.octets.items c.self.inside.ends.items ≡ lines_from 0 c.other.inside.octets.items c.other.inside.ends.items = cc in
    sym c.self.view_is ∙ lines ∙ c.other.view_is
