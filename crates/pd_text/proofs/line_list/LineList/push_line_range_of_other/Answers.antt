-- The list with lines of another one.
use Rattle.std.proofs.Common.{◌≡◌, ◌∙◌, ◌+◌, ◌-◌, ◌≤◌, ◌++◌, length, take, drop, map, rules, sym, ap, List, ℕ, true, arith}
use Rattle.pd_text.specs.Text.{AreLines}
use Rattle.pd_text.specs.PackedLines.{octets_between, lines_from, are_ends, start_at}
use Rattle.pd_text.proofs.Placed.{kept_after, others_after, moved, some_ends, some_lines, some_are_lines, start_within, start_order, length_between}
use Rattle.pd_text.proofs.line_list.LineList.push_line_range_of_other.Goals as goal

abbrev some : ℕ → ℕ → {A : Type 0} → List A → List A
some first end xs = take (end - first) (drop first xs)

pub push_shifted_ends-requires-clause-places : goal.push_shifted_ends-requires-clause-places
push_shifted_ends-requires-clause-places c =
    let others = c.packed_lines-lines.result.octets.now in
    let ends = c.packed_lines-lines.result.ends.now in
    let s = start_at 0 c.args.first ends in
    let t = start_at 0 c.args.end ends in
    let from : c.in_ok-from.from ≡ s = c.in_ok-from.ensures ∙ c.line_start.ensures in
    let at : c.in_ok-at.at ≡ c.len-2.result = c.in_ok-at.ensures ∙ search rules in
    let places : are_ends s t (some c.args.first c.args.end ends) ≡ true = some_ends ends c.args.first c.args.end _ c.requires.0 (omega (arith, c.requires.1, c.packed_lines-lines.ensures.count)) c.packed_lines-lines.ensures.ends in
    let order : s ≤ t = start_order ends c.args.first c.args.end _ c.requires.0 c.packed_lines-lines.ensures.ends in
    let within : t ≤ length others = (start_within 0 _ ends c.args.end c.packed_lines-lines.ensures.ends).1 in
    let part : length c.octets_of_lines-octets.result.now ≡ t - s = ap (λ (l : List ℕ). length l) c.octets_of_lines-octets.ensures ∙ length_between others s t order within in
    (t, rw from places, omega (arith, from, at, part, c.in_ok-_last.ensures.small))

pub invariant_of-self-2 : goal.invariant_of-self-2
invariant_of-self-2 c =
    let octets = c.self.inside.octets.items in
    let others = c.packed_lines-lines.result.octets.now in
    let ends = c.packed_lines-lines.result.ends.now in
    let s = start_at 0 c.args.first ends in
    let t = start_at 0 c.args.end ends in
    let from : c.in_ok-from.from ≡ s = c.in_ok-from.ensures ∙ c.line_start.ensures in
    let at : c.in_ok-at.at ≡ length octets = c.in_ok-at.ensures ∙ search rules in
    let places : are_ends s t (some c.args.first c.args.end ends) ≡ true = some_ends ends c.args.first c.args.end _ c.requires.0 (omega (arith, c.requires.1, c.packed_lines-lines.ensures.count)) c.packed_lines-lines.ensures.ends in
    let within : t ≤ length others = (start_within 0 _ ends c.args.end c.packed_lines-lines.ensures.ends).1 in
    let after = others_after octets others s t (some c.args.first c.args.end ends) places within in
    let all : c.extend_from_slice.new.self.items ≡ octets ++ octets_between others s t = c.in_ok-extend_from_slice.ensures.items ∙ ap (λ (l : List ℕ). octets ++ l) c.octets_of_lines-octets.ensures in
    let put : c.push_shifted_ends.new.ends.items ≡ c.self.inside.ends.items ++ map (λ (end : ℕ). c.in_ok-at.at + (end - c.in_ok-from.from)) (some c.args.first c.args.end ends) = c.push_shifted_ends.ensures ∙ ap (λ (l : List ℕ). l ++ map (λ (end : ℕ). c.in_ok-at.at + (end - c.in_ok-from.from)) (some c.args.first c.args.end ends)) c.in_ok-reserve.ensures.items in
    let moves : c.push_shifted_ends.new.ends.items ≡ c.self.inside.ends.items ++ map (moved s (length octets)) (some c.args.first c.args.end ends) = rw (from, at) at put in
    let lines : AreLines (lines_from s others (some c.args.first c.args.end ends)) = rw (← some_lines others ends c.args.first c.args.end, c.packed_lines-lines.ensures.lines) (some_are_lines c.args.list.now (c.args.end - c.args.first) c.args.first c.packed_lines-lines.ensures.are_lines) in
    let kept = kept_after octets (octets_between others s t) _ c.self.inside.ends.items (map (moved s (length octets)) (some c.args.first c.args.end ends)) _ (lines_from s others (some c.args.first c.args.end ends)) all moves c.self.invariant after.0 after.1 lines in
    (kept.1, kept.2)

pub returns : goal.returns
returns c =
    let octets = c.self.inside.octets.items in
    let others = c.packed_lines-lines.result.octets.now in
    let ends = c.packed_lines-lines.result.ends.now in
    let s = start_at 0 c.args.first ends in
    let t = start_at 0 c.args.end ends in
    let from : c.in_ok-from.from ≡ s = c.in_ok-from.ensures ∙ c.line_start.ensures in
    let at : c.in_ok-at.at ≡ length octets = c.in_ok-at.ensures ∙ search rules in
    let places : are_ends s t (some c.args.first c.args.end ends) ≡ true = some_ends ends c.args.first c.args.end _ c.requires.0 (omega (arith, c.requires.1, c.packed_lines-lines.ensures.count)) c.packed_lines-lines.ensures.ends in
    let within : t ≤ length others = (start_within 0 _ ends c.args.end c.packed_lines-lines.ensures.ends).1 in
    let after = others_after octets others s t (some c.args.first c.args.end ends) places within in
    let all : c.extend_from_slice.new.self.items ≡ octets ++ octets_between others s t = c.in_ok-extend_from_slice.ensures.items ∙ ap (λ (l : List ℕ). octets ++ l) c.octets_of_lines-octets.ensures in
    let put : c.push_shifted_ends.new.ends.items ≡ c.self.inside.ends.items ++ map (λ (end : ℕ). c.in_ok-at.at + (end - c.in_ok-from.from)) (some c.args.first c.args.end ends) = c.push_shifted_ends.ensures ∙ ap (λ (l : List ℕ). l ++ map (λ (end : ℕ). c.in_ok-at.at + (end - c.in_ok-from.from)) (some c.args.first c.args.end ends)) c.in_ok-reserve.ensures.items in
    let moves : c.push_shifted_ends.new.ends.items ≡ c.self.inside.ends.items ++ map (moved s (length octets)) (some c.args.first c.args.end ends) = rw (from, at) at put in
    let lines : AreLines (lines_from s others (some c.args.first c.args.end ends)) = rw (← some_lines others ends c.args.first c.args.end, c.packed_lines-lines.ensures.lines) (some_are_lines c.args.list.now (c.args.end - c.args.first) c.args.first c.packed_lines-lines.ensures.are_lines) in
    let whole = kept_after octets (octets_between others s t) _ c.self.inside.ends.items (map (moved s (length octets)) (some c.args.first c.args.end ends)) _ (lines_from s others (some c.args.first c.args.end ends)) all moves c.self.invariant after.0 after.1 lines in
    whole.0 ∙ (ap (λ (ls : List (List ℕ)). ls ++ lines_from s others (some c.args.first c.args.end ends)) c.self.view_is
    ∙ ap (λ (ls : List (List ℕ)). c.args.self.now ++ ls) (sym (some_lines others ends c.args.first c.args.end) ∙ ap (some c.args.first c.args.end) c.packed_lines-lines.ensures.lines))
