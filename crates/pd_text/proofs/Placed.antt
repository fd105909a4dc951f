-- Lines in one row of octets: where each begins, some of them, and others put after them.
use Rattle.std.proofs.Common.{◌≡◌, ℕ, zero, suc, ◌+◌, ◌-◌, ◌≤◌, ◌<◌, nat_le, ◌==◌, List, [], ◌∷◌, ◌++◌, map, length, take, drop, slice_get, slice_index_or, Some, Bool, true, false, ◌&&◌, refl, sym, ap, subst, ◌∙◌, arith, length-append}
use Rattle.std.specs.List.{list_all}
use Rattle.std.proofs.Math.Seq.{drop-append-add, drop-append_seam, take-length}
use Rattle.std.proofs.lemmas.List.{take-append-le, drop-append-le, drop-take, drop-drop, length-take-le, length-drop}
use Rattle.std.proofs.lemmas.List.Folds.{list_all-append}
use Rattle.std.proofs.lemmas.List.Sums.{sum_by-append, sum_by-cons}
use Rattle.std.proofs.lemmas.Bool.Decides.{nat_tests}
use Rattle.pd_text.specs.Text.{AreLines, has_no_newline, octets_of}
use Rattle.pd_text.specs.PackedLines.{octets_between, lines_from, are_ends, start_at}

pub both : (a b : Bool) → (a && b) ≡ true → (a ≡ true) × (b ≡ true)
both true true h = (refl, refl)
both true false h = absurd cc
both false b h = absurd cc

-- ---- places

pub up : (at last : ℕ) (ends : List ℕ) → are_ends at last ends ≡ true → at ≤ last
up at last [] h = grind (arith, nat_tests, h)
up at last (e ∷ es) h =
    let parts = both (nat_le at e) (are_ends e last es) h in
    grind (arith, nat_tests, parts.0, up e last es parts.1)

pub first_up : (at e last : ℕ) (es : List ℕ) → are_ends at last (e ∷ es) ≡ true → (at ≤ e) × (e ≤ last) × (are_ends e last es ≡ true)
first_up at e last es h =
    let parts = both (nat_le at e) (are_ends e last es) h in
    (grind (arith, nat_tests, parts.0), up e last es parts.1, parts.1)

itself : (n : ℕ) → (n == n) ≡ true
itself n = grind (arith, nat_tests)

pub start_within : (at last : ℕ) (ends : List ℕ) (i : ℕ) → are_ends at last ends ≡ true → (at ≤ start_at at i ends) × (start_at at i ends ≤ last)
start_within at last ends zero h = (omega arith, up at last ends h)
start_within at last [] (suc i) h = (omega arith, up at last [] h)
start_within at last (e ∷ es) (suc i) h =
    let parts = first_up at e last es h in
    let rest = start_within e last es i parts.2 in
    (omega (arith, parts.0, rest.0), rest.1)

pub start_up : (at last : ℕ) (ends : List ℕ) (i : ℕ) → are_ends at last ends ≡ true → start_at at i ends ≤ start_at at (suc i) ends
start_up at last [] zero h = omega arith
start_up at last (e ∷ es) zero h = (first_up at e last es h).0
start_up at last [] (suc i) h = omega arith
start_up at last (e ∷ es) (suc i) h = start_up e last es i (first_up at e last es h).2

pub start_after : (at : ℕ) (ends : List ℕ) (n m : ℕ) → start_at (start_at at n ends) m (drop n ends) ≡ start_at at (n + m) ends
start_after at ends zero m = let e : zero + m ≡ m = omega arith in rw e refl
start_after at [] (suc n) zero = let e : suc n + zero ≡ suc n = omega arith in rw e refl
start_after at [] (suc n) (suc m) = let e : suc n + suc m ≡ suc (n + suc m) = omega arith in rw e refl
start_after at (x ∷ xs) (suc n) m = let e : suc n + m ≡ suc (n + m) = omega arith in rw e (start_after x xs n m)

pub start_is : (at : ℕ) (ends : List ℕ) (i d : ℕ) → i < length ends → start_at at (suc i) ends ≡ slice_index_or ends i d
start_is at [] i d h = absurd (omega (arith, h))
start_is at (e ∷ es) zero d h = refl
start_is at (e ∷ es) (suc i) d h = start_is e es i d (omega (arith, h))

pub ends_dropped : (at : ℕ) (ends : List ℕ) (n last : ℕ) → are_ends at last ends ≡ true → are_ends (start_at at n ends) last (drop n ends) ≡ true
ends_dropped at ends zero last h = h
ends_dropped at [] (suc n) last h = h
ends_dropped at (e ∷ es) (suc n) last h = ends_dropped e es n last (both (nat_le at e) (are_ends e last es) h).1

pub end_within : (from last : ℕ) (ends : List ℕ) (i d : ℕ) → are_ends from last ends ≡ true → i < length ends → (from ≤ slice_index_or ends i d) × (slice_index_or ends i d ≤ last)
end_within from last [] i d h k = absurd (omega (arith, k))
end_within from last (e ∷ es) zero d h k = let parts = first_up from e last es h in (parts.0, parts.1)
end_within from last (e ∷ es) (suc i) d h k =
    let parts = first_up from e last es h in
    let rest = end_within e last es i d parts.2 (omega (arith, k)) in
    (omega (arith, parts.0, rest.0), rest.1)

pub start_order : (ends : List ℕ) (from to last : ℕ) → from ≤ to → are_ends 0 last ends ≡ true → start_at 0 from ends ≤ start_at 0 to ends
start_order ends from to last h e =
    let m : from + (to - from) ≡ to = omega (arith, h) in
    let end : start_at (start_at 0 from ends) (to - from) (drop from ends) ≡ start_at 0 to ends = start_after 0 ends from (to - from) ∙ ap (λ (n : ℕ). start_at 0 n ends) m in
    omega (arith, end, (start_within (start_at 0 from ends) last (drop from ends) (to - from) (ends_dropped 0 ends from last e)).0)

pub ends_taken : (at : ℕ) (ends : List ℕ) (n last : ℕ) → are_ends at last ends ≡ true → n ≤ length ends → are_ends at (start_at at n ends) (take n ends) ≡ true
ends_taken at ends zero last h le = itself at
ends_taken at [] (suc n) last h le = absurd (omega (arith, le))
ends_taken at (e ∷ es) (suc n) last h le =
    let parts = both (nat_le at e) (are_ends e last es) h in
    rw (parts.0, ends_taken e es n last parts.1 (omega (arith, le))) refl

append_ends : (at mid last : ℕ) (xs ys : List ℕ) → are_ends at mid xs ≡ true → are_ends mid last ys ≡ true → are_ends at last (xs ++ ys) ≡ true
append_ends at mid last [] ys h k = let same : at ≡ mid = grind (arith, nat_tests, h) in rw same k
append_ends at mid last (x ∷ xs) ys h k =
    let parts = both (nat_le at x) (are_ends x mid xs) h in
    rw (parts.0, append_ends x mid last xs ys parts.1 k) refl

-- ---- octets

take_fewer : (n m : ℕ) (xs : List ℕ) → n ≤ m → take n (take m xs) ≡ take n xs
take_fewer zero m xs h = refl
take_fewer (suc n) zero xs h = absurd (omega (arith, h))
take_fewer (suc n) (suc m) [] h = refl
take_fewer (suc n) (suc m) (x ∷ xs) h = ap (λ (l : List ℕ). x ∷ l) (take_fewer n m xs (omega (arith, h)))

-- octets within others
inner : (octets : List ℕ) (s a e t : ℕ) → s ≤ a → a ≤ e → e ≤ t → octets_between octets a e ≡ take (e - a) (drop (a - s) (octets_between octets s t))
inner octets s a e t sa ae et =
    let n : t - s ≡ (a - s) + (t - a) = omega (arith, sa, ae, et) in
    let m : s + (a - s) ≡ a = omega (arith, sa) in
    let rest : drop (a - s) (octets_between octets s t) ≡ take (t - a) (drop a octets) =
    rw n (drop-take (a - s) (t - a) (drop s octets) ∙ ap (take (t - a)) (drop-drop (a - s) s octets ∙ ap (λ (k : ℕ). drop k octets) m)) in
    sym (ap (take (e - a)) rest ∙ take_fewer (e - a) (t - a) (drop a octets) (omega (arith, ae, et)))

pub length_between : (octets : List ℕ) (from to : ℕ) → from ≤ to → to ≤ length octets → length (octets_between octets from to) ≡ to - from
length_between octets from to h k = length-take-le (to - from) (drop from octets) (omega (arith, h, k, length-drop from octets))

between_more : (octets more : List ℕ) (from to : ℕ) → from ≤ to → to ≤ length octets → octets_between (octets ++ more) from to ≡ octets_between octets from to
between_more octets more from to h k =
    rw (drop-append-le from octets more (omega (arith, h, k))) (take-append-le (to - from) (drop from octets) more (omega (arith, h, k, length-drop from octets)))

-- ---- lines

pub length_lines : (octets : List ℕ) (at : ℕ) (ends : List ℕ) → length (lines_from at octets ends) ≡ length ends
length_lines octets at [] = refl
length_lines octets at (e ∷ es) = ap suc (length_lines octets e es)

pub octets_lines : (octets : List ℕ) (at last : ℕ) (ends : List ℕ) → are_ends at last ends ≡ true → last ≤ length octets → octets_of (lines_from at octets ends) + at ≡ last + length ends
octets_lines octets at last [] h k = grind (arith, nat_tests, h)
octets_lines octets at last (e ∷ es) h k =
    let parts = first_up at e last es h in
    omega (arith, parts.0, parts.1, sum_by-cons (λ (l : List ℕ). length l + 1) (octets_between octets at e) (lines_from e octets es), length_between octets at e parts.0 (omega (arith, parts.1, k)), octets_lines octets e last es parts.2 k)

pub line_in : (octets : List ℕ) (at : ℕ) (ends : List ℕ) (i : ℕ) → i < length ends → slice_get (lines_from at octets ends) i ≡ Some (octets_between octets (start_at at i ends) (start_at at (suc i) ends))
line_in octets at [] i h = absurd (omega (arith, h))
line_in octets at (e ∷ es) zero h = refl
line_in octets at (e ∷ es) (suc i) h = line_in octets e es i (omega (arith, h))

lines_taken : (octets : List ℕ) (at : ℕ) (ends : List ℕ) (n : ℕ) → take n (lines_from at octets ends) ≡ lines_from at octets (take n ends)
lines_taken octets at ends zero = refl
lines_taken octets at [] (suc n) = refl
lines_taken octets at (e ∷ es) (suc n) = ap (λ (ls : List (List ℕ)). octets_between octets at e ∷ ls) (lines_taken octets e es n)

lines_dropped : (octets : List ℕ) (at : ℕ) (ends : List ℕ) (n : ℕ) → drop n (lines_from at octets ends) ≡ lines_from (start_at at n ends) octets (drop n ends)
lines_dropped octets at ends zero = refl
lines_dropped octets at [] (suc n) = refl
lines_dropped octets at (e ∷ es) (suc n) = lines_dropped octets e es n

-- some lines: where they stand, and that their places go up
pub some_lines : (octets : List ℕ) (ends : List ℕ) (from to : ℕ) → take (to - from) (drop from (lines_from 0 octets ends)) ≡ lines_from (start_at 0 from ends) octets (take (to - from) (drop from ends))
some_lines octets ends from to =
    ap (take (to - from)) (lines_dropped octets 0 ends from) ∙ lines_taken octets (start_at 0 from ends) (drop from ends) (to - from)

pub some_ends : (ends : List ℕ) (from to last : ℕ) → from ≤ to → to ≤ length ends → are_ends 0 last ends ≡ true → are_ends (start_at 0 from ends) (start_at 0 to ends) (take (to - from) (drop from ends)) ≡ true
some_ends ends from to last h k e =
    let m : from + (to - from) ≡ to = omega (arith, h) in
    let end : start_at (start_at 0 from ends) (to - from) (drop from ends) ≡ start_at 0 to ends = start_after 0 ends from (to - from) ∙ ap (λ (n : ℕ). start_at 0 n ends) m in
    rw (← end) (ends_taken (start_at 0 from ends) (drop from ends) (to - from) last (ends_dropped 0 ends from last e) (omega (arith, h, k, length-drop from ends)))

pub some_octets : (octets : List ℕ) (ends : List ℕ) (from to : ℕ) → from ≤ to → to ≤ length ends → are_ends 0 (length octets) ends ≡ true
    → octets_of (take (to - from) (drop from (lines_from 0 octets ends))) + start_at 0 from ends ≡ start_at 0 to ends + (to - from)
some_octets octets ends from to h k e =
    let few = length-take-le (to - from) (drop from ends) (omega (arith, h, k, length-drop from ends)) in
    let all = octets_lines octets (start_at 0 from ends) (start_at 0 to ends) (take (to - from) (drop from ends)) (some_ends ends from to (length octets) h k e) (start_within 0 (length octets) ends to e).1 in
    rw (some_lines octets ends from to) (all ∙ ap (λ (n : ℕ). start_at 0 to ends + n) few)

-- the same octets at the same places are the same lines
pub same_lines : (octets others : List ℕ) (s t a : ℕ) (ends : List ℕ) → s ≤ a → are_ends a t ends ≡ true → octets_between octets s t ≡ octets_between others s t → lines_from a octets ends ≡ lines_from a others ends
same_lines octets others s t a [] h e k = refl
same_lines octets others s t a (x ∷ xs) h e k =
    let parts = first_up a x t xs e in
    let line : octets_between octets a x ≡ octets_between others a x =
    inner octets s a x t h parts.0 parts.1 ∙ (ap (λ (l : List ℕ). take (x - a) (drop (a - s) l)) k ∙ sym (inner others s a x t h parts.0 parts.1)) in
    rw (line, same_lines octets others s t x xs (omega (arith, h, parts.0)) parts.2 k) refl

-- ---- lines put after others

lines_before : (octets more : List ℕ) (at last : ℕ) (ends : List ℕ) → are_ends at last ends ≡ true → last ≤ length octets → lines_from at (octets ++ more) ends ≡ lines_from at octets ends
lines_before octets more at last [] h k = refl
lines_before octets more at last (e ∷ es) h k =
    let parts = first_up at e last es h in
    rw (between_more octets more at e parts.0 (omega (arith, parts.1, k)), lines_before octets more e last es parts.2 k) refl

append_lines : (octets : List ℕ) (at last : ℕ) (xs ys : List ℕ) → are_ends at last xs ≡ true → lines_from at octets (xs ++ ys) ≡ lines_from at octets xs ++ lines_from last octets ys
append_lines octets at last [] ys h = let same : at ≡ last = grind (arith, nat_tests, h) in rw same refl
append_lines octets at last (x ∷ xs) ys h =
    ap (λ (ls : List (List ℕ)). octets_between octets at x ∷ ls) (append_lines octets x last xs ys (both (nat_le at x) (are_ends x last xs) h).1)

-- the lines of further octets come after the others
pub lines_put_after : (octets more : List ℕ) (ends others : List ℕ) → are_ends 0 (length octets) ends ≡ true → lines_from 0 (octets ++ more) (ends ++ others) ≡ lines_from 0 octets ends ++ lines_from (length octets) (octets ++ more) others
lines_put_after octets more ends others h =
    append_lines (octets ++ more) 0 (length octets) ends others h
    ∙ ap (λ (ls : List (List ℕ)). ls ++ lines_from (length octets) (octets ++ more) others) (lines_before octets more 0 (length octets) ends h (omega arith))

pub ends_after : (octets more : List ℕ) (ends others : List ℕ) → are_ends 0 (length octets) ends ≡ true → are_ends (length octets) (length (octets ++ more)) others ≡ true → are_ends 0 (length (octets ++ more)) (ends ++ others) ≡ true
ends_after octets more ends others h k = append_ends 0 (length octets) (length (octets ++ more)) ends others h k

pub lines_more : (lines others : List (List ℕ)) → AreLines lines → AreLines others → AreLines (lines ++ others)
lines_more lines others h k = rw (list_all-append has_no_newline lines others, h, k) refl

-- what a list of lines keeps, with others put after them
pub kept_after : (octets more all : List ℕ) (ends others places : List ℕ) (lines : List (List ℕ)) → all ≡ octets ++ more → places ≡ ends ++ others
    → (are_ends 0 (length octets) ends ≡ true) × AreLines (lines_from 0 octets ends)
    → are_ends (length octets) (length (octets ++ more)) others ≡ true → lines_from (length octets) (octets ++ more) others ≡ lines → AreLines lines
    → (lines_from 0 all places ≡ lines_from 0 octets ends ++ lines) × (are_ends 0 (length all) places ≡ true) × AreLines (lines_from 0 all places)
kept_after octets more all ends others places lines a p kept e l k =
    let whole : lines_from 0 (octets ++ more) (ends ++ others) ≡ lines_from 0 octets ends ++ lines =
    lines_put_after octets more ends others kept.0 ∙ ap (λ (ls : List (List ℕ)). lines_from 0 octets ends ++ ls) l in
    rw (a, p) (whole, ends_after octets more ends others kept.0 e, rw whole (lines_more (lines_from 0 octets ends) lines kept.1 k))

-- a line after others
pub one_line : (octets line : List ℕ) (end : ℕ) → end ≡ length octets + length line → lines_from (length octets) (octets ++ line) (end ∷ []) ≡ line ∷ []
one_line octets line end e =
    let n : end - length octets ≡ length line = omega (arith, e) in
    rw (n, drop-append_seam octets line, take-length line) refl

pub one_end : (octets line : List ℕ) (end : ℕ) → end ≡ length octets + length line → are_ends (length octets) (length (octets ++ line)) (end ∷ []) ≡ true
one_end octets line end e =
    let le : nat_le (length octets) end ≡ true = grind (arith, nat_tests, e) in
    let last : (end == length (octets ++ line)) ≡ true = grind (arith, nat_tests, e, length-append octets line) in
    rw (le, last) refl

-- a place in a row of octets, where these follow others
abbrev pub moved : ℕ → ℕ → ℕ → ℕ
moved from to offset = to + (offset - from)

pub moved_lines : (octets others : List ℕ) (s t a : ℕ) (ends : List ℕ) → s ≤ a → are_ends a t ends ≡ true → t ≤ length others
    → lines_from (moved s (length octets) a) (octets ++ octets_between others s t) (map (moved s (length octets)) ends) ≡ lines_from a others ends
moved_lines octets others s t a [] h e k = refl
moved_lines octets others s t a (x ∷ xs) h e k =
    let parts = first_up a x t xs e in
    let piece = octets_between others s t in
    let n : moved s (length octets) x - moved s (length octets) a ≡ x - a = omega (arith, h, parts.0) in
    let line : octets_between (octets ++ piece) (moved s (length octets) a) (moved s (length octets) x) ≡ octets_between others a x =
    ap (λ (m : ℕ). take m (drop (length octets + (a - s)) (octets ++ piece))) n
    ∙ (ap (take (x - a)) (drop-append-add octets piece (a - s)) ∙ sym (inner others s a x t h parts.0 parts.1)) in
    rw (line, moved_lines octets others s t x xs (omega (arith, h, parts.0)) parts.2 k) refl

pub moved_ends : (s t a to : ℕ) (ends : List ℕ) → s ≤ a → are_ends a t ends ≡ true → are_ends (moved s to a) (moved s to t) (map (moved s to) ends) ≡ true
moved_ends s t a to [] h e = let same : a ≡ t = grind (arith, nat_tests, e) in rw same (itself (moved s to t))
moved_ends s t a to (x ∷ xs) h e =
    let parts = first_up a x t xs e in
    let le : nat_le (moved s to a) (moved s to x) ≡ true = grind (arith, nat_tests, h, parts.0) in
    rw (le, moved_ends s t x to xs (omega (arith, h, parts.0)) parts.2) refl

-- lines of another list put after others
pub others_after : (octets others : List ℕ) (s t : ℕ) (ends : List ℕ) → are_ends s t ends ≡ true → t ≤ length others
    → (are_ends (length octets) (length (octets ++ octets_between others s t)) (map (moved s (length octets)) ends) ≡ true)
    × (lines_from (length octets) (octets ++ octets_between others s t) (map (moved s (length octets)) ends) ≡ lines_from s others ends)
others_after octets others s t ends e le =
    let first : moved s (length octets) s ≡ length octets = omega arith in
    let last : moved s (length octets) t ≡ length (octets ++ octets_between others s t) =
    omega (arith, up s t ends e, le, length-append octets (octets_between others s t), length_between others s t (up s t ends e) le) in
    let piece = octets_between others s t in
    let places = map (moved s (length octets)) ends in (
      subst (λ (n : ℕ). are_ends n (length (octets ++ piece)) places ≡ true) first
          (subst (λ (n : ℕ). are_ends (moved s (length octets) s) n places ≡ true) last (moved_ends s t s (length octets) ends (omega arith) e)),
      ap (λ (n : ℕ). lines_from n (octets ++ octets_between others s t) (map (moved s (length octets)) ends)) (sym first) ∙ moved_lines octets others s t s ends (omega arith) e le,
    )

-- ---- lists of lines

all_taken : (lines : List (List ℕ)) (n : ℕ) → AreLines lines → AreLines (take n lines)
all_taken lines zero h = refl
all_taken [] (suc n) h = refl
all_taken (x ∷ xs) (suc n) h =
    let parts = both (has_no_newline x) (list_all has_no_newline xs) h in
    rw (parts.0, all_taken xs n parts.1) refl

all_dropped : (lines : List (List ℕ)) (n : ℕ) → AreLines lines → AreLines (drop n lines)
all_dropped lines zero h = h
all_dropped [] (suc n) h = refl
all_dropped (x ∷ xs) (suc n) h = all_dropped xs n (both (has_no_newline x) (list_all has_no_newline xs) h).1

pub some_are_lines : (lines : List (List ℕ)) (n m : ℕ) → AreLines lines → AreLines (take n (drop m lines))
some_are_lines lines n m h = all_taken (drop m lines) n (all_dropped lines m h)

pub octets_more : (lines : List (List ℕ)) (line : List ℕ) → octets_of (lines ++ line ∷ []) ≡ octets_of lines + (length line + 1)
octets_more lines line = sum_by-append (λ (l : List ℕ). length l + 1) lines (line ∷ []) ∙ ap (λ (n : ℕ). octets_of lines + n) (omega arith)
