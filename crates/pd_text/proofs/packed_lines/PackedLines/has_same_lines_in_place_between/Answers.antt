-- The same octets at the same places are the same lines.
use Rattle.std.proofs.Common.{◌≡◌, ◌∙◌, ℕ, List, ◌-◌, take, drop, true, false, sym, refl, arith}
use Rattle.std.proofs.lemmas.Bool.Decides.{Decides-eqb}
use Rattle.std.proofs.lemmas.Slice.Eq.{slice_eq-Decides}
use Rattle.pd_text.specs.PackedLines.{octets_between, start_at}
use Rattle.pd_text.proofs.SameLines.{is_not}
use Rattle.pd_text.proofs.Placed.{some_lines, some_ends, same_lines}
use Rattle.pd_text.proofs.packed_lines.PackedLines.has_same_lines_in_place_between.Goals as goal

pub returns : goal.returns
returns c = λ h.
    let octets = c.args.self.now.octets.now in
    let others = c.args.other.now.octets.now in
    let ends = c.args.self.now.ends.now in
    let places = c.args.other.now.ends.now in
    let some : List ℕ → List ℕ = λ (xs : List ℕ). take (c.args.to - c.args.from) (drop c.args.from xs) in
    let first : start_at 0 c.args.from ends ≡ start_at 0 c.args.from places = sym c.line_start.ensures ∙ (c.if-line_start.false ∙ c.line_start-2.ensures) in
    let last : start_at 0 c.args.to ends ≡ start_at 0 c.args.to places = sym c.line_start-3.ensures ∙ (c.if-line_start-2.false ∙ c.line_start-4.ensures) in
    let alike : some ends ≡ some places = (slice_eq-Decides Decides-eqb (some ends) (some places) true (sym (is_not c.ne.result _ false c.ne.ensures c.if-ne.false))).0 refl in
    let same : c.octets_of_lines.result.now ≡ c.octets_of_lines-2.result.now = (slice_eq-Decides Decides-eqb c.octets_of_lines.result.now c.octets_of_lines-2.result.now c.eq.result c.eq.ensures).0 h in
    let parts : octets_between octets (start_at 0 c.args.from ends) (start_at 0 c.args.to ends) ≡ octets_between others (start_at 0 c.args.from ends) (start_at 0 c.args.to ends) =
    sym c.octets_of_lines.ensures ∙ (same ∙ (c.octets_of_lines-2.ensures ∙ rw (first, last) refl)) in
    let lines = same_lines octets others (start_at 0 c.args.from ends) (start_at 0 c.args.to ends) (start_at 0 c.args.from ends) (some ends) (omega arith) (some_ends ends c.args.from c.args.to _ c.requires.order c.requires.within c.requires.ends) parts in
    some_lines octets ends c.args.from c.args.to ∙ (lines ∙ (rw (first, alike) refl ∙ sym (some_lines others places c.args.from c.args.to)))
