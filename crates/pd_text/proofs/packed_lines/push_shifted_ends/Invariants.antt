use Rattle.std.proofs.Common.{◌≡◌, ◌≤◌, ◌+◌, ◌-◌, ◌++◌, ℕ, map, take, length, vec_len, vec_capacity}
use Rattle.pd_text.proofs.packed_lines.push_shifted_ends.Given as goal

abbrev pub invariant-loop-end : goal.invariant-loop-end
invariant-loop-end l =
    (l.ends.items ≡ l.fn.ends.items ++ map (λ (end : ℕ). l.to + (end - l.from)) (take l.end-index l.more))
    × (vec_len l.ends + (length l.more - l.end-index) ≤ vec_capacity l.ends)
