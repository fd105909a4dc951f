-- Lines from one place up to another.
use Rattle.std.proofs.Common.{◌≡◌, ℕ, zero, suc, ◌+◌, ◌-◌, ◌≤◌, List, [], ◌∷◌, ◌++◌, length, take, drop, Some, slice_get, true, refl, sym, ap, ◌∙◌, arith}
use Rattle.std.specs.List.{list_all}
use Rattle.std.proofs.lemmas.List.Sums.{sum_by-append}
use Rattle.std.proofs.lemmas.List.{take-append-drop, length-take, length-drop}
use Rattle.pd_text.specs.Text.{AreLines, has_no_newline, octets_of}
use Rattle.pd_text.proofs.Placed.{both, octets_more}

pub is_line_at : (lines : List (List ℕ)) (i : ℕ) (line : List ℕ) → slice_get lines i ≡ Some line → AreLines lines → has_no_newline line ≡ true
is_line_at [] i line h a = absurd cc
is_line_at (x ∷ lines) zero line h a =
    let e : x ≡ line = cc in
    let parts : (has_no_newline x ≡ true) × (list_all has_no_newline lines ≡ true) = both (has_no_newline x) (list_all has_no_newline lines) a in
    rw (← e) parts.0
is_line_at (x ∷ lines) (suc i) line h a =
    let parts : (has_no_newline x ≡ true) × (list_all has_no_newline lines ≡ true) = both (has_no_newline x) (list_all has_no_newline lines) a in
    is_line_at lines i line h parts.1

one_taken : (lines : List (List ℕ)) (n : ℕ) (line : List ℕ) → slice_get lines n ≡ Some line → take (suc n) lines ≡ take n lines ++ line ∷ []
one_taken [] n line h = absurd cc
one_taken (x ∷ lines) zero line h = let e : x ≡ line = cc in rw e refl
one_taken (x ∷ lines) (suc n) line h = ap (λ (l : List (List ℕ)). x ∷ l) (one_taken lines n line h)

get_dropped : (lines : List (List ℕ)) (n m : ℕ) → slice_get (drop n lines) m ≡ slice_get lines (n + m)
get_dropped lines zero m = ap (slice_get lines) (omega arith)
get_dropped [] (suc n) m = refl
get_dropped (x ∷ lines) (suc n) m = let e : suc n + m ≡ suc (n + m) = omega arith in rw e (get_dropped lines n m)

-- one line more
pub range_more : (lines : List (List ℕ)) (from i : ℕ) (line : List ℕ) → from ≤ i → slice_get lines i ≡ Some line → take (i + 1 - from) (drop from lines) ≡ take (i - from) (drop from lines) ++ line ∷ []
range_more lines from i line le h =
    let n : i + 1 - from ≡ suc (i - from) = omega (arith, le) in
    let m : from + (i - from) ≡ i = omega (arith, le) in
    let at : slice_get (drop from lines) (i - from) ≡ Some line = get_dropped lines from (i - from) ∙ (ap (slice_get lines) m ∙ h) in
    rw n (one_taken (drop from lines) (i - from) line at)

pub range_octets : (lines : List (List ℕ)) (from i : ℕ) (line : List ℕ) → from ≤ i → slice_get lines i ≡ Some line → octets_of (take (i + 1 - from) (drop from lines)) ≡ octets_of (take (i - from) (drop from lines)) + (length line + 1)
range_octets lines from i line le h = ap octets_of (range_more lines from i line le h) ∙ octets_more (take (i - from) (drop from lines)) line

-- a line has at least its end
pub at_least : (lines : List (List ℕ)) → length lines ≤ octets_of lines
at_least [] = omega arith
at_least (x ∷ lines) = omega (arith, at_least lines, sum_by-append (λ (l : List ℕ). length l + 1) (x ∷ []) lines)

pub octets_append : (xs ys : List (List ℕ)) → octets_of (xs ++ ys) ≡ octets_of xs + octets_of ys
octets_append xs ys = sum_by-append (λ (l : List ℕ). length l + 1) xs ys

-- the octets of a text are those before a place and those after it
pub octets_split : (lines : List (List ℕ)) (n : ℕ) → octets_of lines ≡ octets_of (take n lines) + octets_of (drop n lines)
octets_split lines n = ap octets_of (sym (take-append-drop n lines)) ∙ octets_append (take n lines) (drop n lines)

-- a range leaves the other lines at least their ends
pub range_within : (lines : List (List ℕ)) (from n : ℕ) → from + n ≤ length lines → octets_of (take n (drop from lines)) + (length lines - n) ≤ octets_of lines
range_within lines from n le =
    omega (arith, octets_split lines from, octets_split (drop from lines) n, at_least (take from lines), at_least (drop n (drop from lines)), length-take from lines, length-drop from lines, length-drop n (drop from lines), le)
