-- Lines of a text, one after the other.
use Rattle.std.proofs.Common.{◌≡◌, ℕ, zero, suc, ◌+◌, ◌-◌, ◌<◌, ◌≤◌, List, [], ◌∷◌, take, drop, Some, None, slice_get, refl, sym, ap, ◌∙◌, arith}
use Rattle.pd_layout.specs.Canonical.{lines_between}

at_front : (line : List ℕ) (lines : List (List ℕ)) (n : ℕ) → 0 < n → take n (line ∷ lines) ≡ line ∷ take (n - 1) lines
at_front line lines zero h = absurd (omega (arith, h))
at_front line lines (suc n) h = ap (λ (m : ℕ). line ∷ take m lines) (omega arith)

-- the first line of a block, and the block after it
pub lines_between_next : (text : List (List ℕ)) (from to : ℕ) (line : List ℕ) → from < to → slice_get text from ≡ Some line → lines_between text from to ≡ line ∷ lines_between text (from + 1) to
lines_between_next [] from to line less h = absurd cc
lines_between_next (x ∷ xs) zero to line less h =
    let same : x ≡ line = cc in
    at_front x xs (to - 0) (omega (arith, less)) ∙ ap (λ (n : ℕ). x ∷ take n xs) (omega arith) ∙ ap (λ (l : List ℕ). l ∷ take (to - 1) xs) same
lines_between_next (x ∷ xs) (suc from) to line less h =
    let one : to - suc from ≡ (to - 1) - from = omega arith in
    let next : to - (suc from + 1) ≡ (to - 1) - (from + 1) = omega arith in
    let more : suc from + 1 ≡ suc (from + 1) = omega arith in
    ap (λ (n : ℕ). take n (drop from xs)) one
    ∙ lines_between_next xs from (to - 1) line (omega (arith, less)) h
    ∙ ap (λ (n : ℕ). line ∷ take n (drop (from + 1) xs)) (sym next)
    ∙ ap (λ (n : ℕ). line ∷ take (to - (suc from + 1)) (drop n (x ∷ xs))) (sym more)

-- a block after the last line
pub lines_between_none : (text : List (List ℕ)) (from to : ℕ) → slice_get text from ≡ None → lines_between text from to ≡ []
lines_between_none [] from to h = ap (λ (list : List (List ℕ)). take (to - from) list) (nothing from) ∙ none (to - from)
  where
    nothing : (n : ℕ) → drop {A = List ℕ} n [] ≡ []
    nothing zero = refl
    nothing (suc n) = refl

    none : (n : ℕ) → take {A = List ℕ} n [] ≡ []
    none zero = refl
    none (suc n) = refl
lines_between_none (x ∷ xs) zero to h = absurd cc
lines_between_none (x ∷ xs) (suc from) to h =
    let one : to - suc from ≡ (to - 1) - from = omega arith in
    ap (λ (n : ℕ). take n (drop from xs)) one ∙ lines_between_none xs from (to - 1) h

-- a block that ends where it begins, or before
pub lines_between_end : (text : List (List ℕ)) (from to : ℕ) → to ≤ from → lines_between text from to ≡ []
lines_between_end text from to h =
    let zero_long : to - from ≡ 0 = omega (arith, h) in
    ap (λ (n : ℕ). take n (drop from text)) zero_long
