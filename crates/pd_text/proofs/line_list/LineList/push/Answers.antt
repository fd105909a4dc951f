-- The list with one line more.
use Rattle.std.proofs.Common.{◌≡◌, ◌∙◌, ◌+◌, ◌++◌, ◌∷◌, [], length, rules, refl, ap, List, ℕ}
use Rattle.pd_text.specs.Text.{AreLines}
use Rattle.pd_text.proofs.Placed.{kept_after, one_line, one_end}
use Rattle.pd_text.proofs.line_list.LineList.push.Goals as goal

pub invariant_of-self-2 : goal.invariant_of-self-2
invariant_of-self-2 c =
    let octets : c.extend_from_slice.new.self.items ≡ c.self.inside.octets.items ++ c.args.line.now = c.in_ok-extend_from_slice.ensures.items in
    let ends : c.push_reserved.new.self.items ≡ c.self.inside.ends.items ++ c.in_ok-end.end ∷ [] = search rules in
    let end : c.in_ok-end.end ≡ length c.self.inside.octets.items + length c.args.line.now = c.in_ok-end.ensures.offset ∙ search rules in
    let line : AreLines (c.args.line.now ∷ []) = rw c.requires refl in
    let kept = kept_after c.self.inside.octets.items c.args.line.now _ c.self.inside.ends.items (c.in_ok-end.end ∷ []) _ (c.args.line.now ∷ []) octets ends c.self.invariant (one_end _ _ _ end) (one_line _ _ _ end) line in
    (kept.1, kept.2)

pub returns-clause-ok : goal.returns-clause-ok
returns-clause-ok c =
    let octets : c.extend_from_slice.new.self.items ≡ c.self.inside.octets.items ++ c.args.line.now = c.in_ok-extend_from_slice.ensures.items in
    let ends : c.push_reserved.new.self.items ≡ c.self.inside.ends.items ++ c.in_ok-end.end ∷ [] = search rules in
    let end : c.in_ok-end.end ≡ length c.self.inside.octets.items + length c.args.line.now = c.in_ok-end.ensures.offset ∙ search rules in
    let line : AreLines (c.args.line.now ∷ []) = rw c.requires refl in
    (kept_after c.self.inside.octets.items c.args.line.now _ c.self.inside.ends.items (c.in_ok-end.end ∷ []) _ (c.args.line.now ∷ []) octets ends c.self.invariant (one_end _ _ _ end) (one_line _ _ _ end) line).0
    ∙ ap (λ (ls : List (List ℕ)). ls ++ c.args.line.now ∷ []) c.self.view_is
