-- A comment in a line goes on up to its end, and what follows that end is read on.
use Rattle.std.proofs.Common.{◌≡◌, ℕ, ◌&&◌, ◌==◌, Bool, true, false, List, [], ◌∷◌, length, take, drop, Option, Some, None, bytes_eq, codes, if◌then◌else◌, refl, ◌<◌, ◌≤◌, ◌+◌, arith}
use Rattle.std.specs.Option.{option_map_or}
use Rattle.std.proofs.lemmas.Slice.Eq.{bytes_eq-Decides}
use Rattle.pd_layout.specs.Canonical.{find_rest_after_comment_end, trail}

-- within a comment
pub trail_inside : (s : List ℕ) → trail true s ≡ option_map_or (λ rest. trail false rest) (find_rest_after_comment_end s) (Some true)
trail_inside [] = refl
trail_inside (a ∷ []) = refl
trail_inside (a ∷ b ∷ s) = go (a == 42 && b == 47) (trail_inside (b ∷ s))
  where
    go : (t : Bool) → trail true (b ∷ s) ≡ option_map_or (λ rest. trail false rest) (find_rest_after_comment_end (b ∷ s)) (Some true)
        → (if t then trail false s else trail true (b ∷ s)) ≡ option_map_or (λ rest. trail false rest) (if t then Some s else find_rest_after_comment_end (b ∷ s)) (Some true)
    go true more = refl
    go false more = more

-- in front of one
pub trail_opens : (s : List ℕ) → bytes_eq (take 3 s) (codes " /*") ≡ true → trail false s ≡ trail true (drop 3 s)
trail_opens [] h =
    let same : [] ≡ 32 ∷ 47 ∷ 42 ∷ [] = (bytes_eq-Decides [] (codes " /*")).0 h in
    absurd cc
trail_opens (a ∷ []) h =
    let same : a ∷ [] ≡ 32 ∷ 47 ∷ 42 ∷ [] = (bytes_eq-Decides (a ∷ []) (codes " /*")).0 h in
    absurd cc
trail_opens (a ∷ b ∷ []) h =
    let same : a ∷ b ∷ [] ≡ 32 ∷ 47 ∷ 42 ∷ [] = (bytes_eq-Decides (a ∷ b ∷ []) (codes " /*")).0 h in
    absurd cc
trail_opens (a ∷ b ∷ c ∷ s) h =
    let same : a ∷ b ∷ c ∷ [] ≡ 32 ∷ 47 ∷ 42 ∷ [] = (bytes_eq-Decides (a ∷ b ∷ c ∷ []) (codes " /*")).0 h in
    let first : a ≡ 32 = cc in
    let second : b ≡ 47 = cc in
    let third : c ≡ 42 = cc in
    rw (first, second, third) refl
