-- Lines are equal one by one exactly where the lists of their octets are equal.
use Rattle.std.proofs.Common.{◌≡◌, ℕ, zero, suc, ◌+◌, ◌≤◌, List, [], ◌∷◌, length, drop, Some, slice_get, min, take, Bool, true, false, cond, not, refl, sym, ap, ◌∙◌, arith}
use Rattle.std.specs.Str.{bytes_eq}
use Rattle.std.proofs.lemmas.List.{length-drop, drop-drop}
use Rattle.std.proofs.lemmas.Slice.Eq.{bytes_eq-Decides}
use Rattle.pd_text.specs.Text.{common_prefix}

pub is_not : (r b t : Bool) → r ≡ not b → r ≡ t → b ≡ not t
is_not r true t e h = sym (ap not (sym h ∙ e))
is_not r false t e h = sym (ap not (sym h ∙ e))

-- from line i on it is known whether those lines are equal
pub front_step : (i : ℕ) (xs ys : List (List ℕ)) (a b : List ℕ) (t : Bool) → slice_get xs i ≡ Some a → slice_get ys i ≡ Some b → bytes_eq a b ≡ t → common_prefix (drop i xs) (drop i ys) ≡ cond t (1 + common_prefix (drop (suc i) xs) (drop (suc i) ys)) 0
front_step i [] ys a b t ha hb e = absurd cc
front_step i (x ∷ xs) [] a b t ha hb e = absurd cc
front_step zero (x ∷ xs) (y ∷ ys) a b t ha hb e =
    let p : x ≡ a = cc in
    let q : y ≡ b = cc in
    let same : bytes_eq x y ≡ t = rw (p, q) e in
    rw same refl
front_step (suc i) (x ∷ xs) (y ∷ ys) a b t ha hb e = front_step i xs ys a b t ha hb e

-- after the last line of one none is equal
pub front_ended : (i : ℕ) (xs ys : List (List ℕ)) → min (length xs) (length ys) ≤ i → common_prefix (drop i xs) (drop i ys) ≡ 0
front_ended zero [] ys h = refl
front_ended zero (x ∷ xs) [] h = refl
front_ended zero (x ∷ xs) (y ∷ ys) h = absurd (omega (arith, h))
front_ended (suc i) [] ys h = refl
front_ended (suc i) (x ∷ xs) [] h = by_rest (drop i xs)
  where
    by_rest : (zs : List (List ℕ)) → common_prefix zs [] ≡ 0
    by_rest [] = refl
    by_rest (z ∷ zs) = refl
front_ended (suc i) (x ∷ xs) (y ∷ ys) h = front_ended i xs ys (omega (arith, h))

pub front_same : (n : ℕ) (xs ys : List (List ℕ)) → take n xs ≡ take n ys → n ≤ length xs → n ≤ length ys → n + common_prefix (drop n xs) (drop n ys) ≡ common_prefix xs ys
front_same zero xs ys h a b = omega arith
front_same (suc n) [] ys h a b = absurd (omega (arith, a))
front_same (suc n) (x ∷ xs) [] h a b = absurd (omega (arith, b))
front_same (suc n) (x ∷ xs) (y ∷ ys) h a b =
    let head : x ≡ y = cc in
    let tail : take n xs ≡ take n ys = cc in
    rw ((bytes_eq-Decides x y).1 head) (omega (arith, front_same n xs ys tail (omega (arith, a)) (omega (arith, b))))

-- further lines that are equal
pub front_more : (i n : ℕ) (xs ys : List (List ℕ)) → take n (drop i xs) ≡ take n (drop i ys) → i + n ≤ length xs → i + n ≤ length ys
    → i + n + common_prefix (drop (i + n) xs) (drop (i + n) ys) ≡ i + common_prefix (drop i xs) (drop i ys)
front_more i n xs ys h a b =
    let rest = front_same n (drop i xs) (drop i ys) h (omega (arith, a, length-drop i xs)) (omega (arith, b, length-drop i ys)) in
    let here : common_prefix (drop n (drop i xs)) (drop n (drop i ys)) ≡ common_prefix (drop (i + n) xs) (drop (i + n) ys) = rw (drop-drop n i xs, drop-drop n i ys) refl in
    omega (arith, rest, here)

-- ---- whole lists

pub front_whole : (xs : List (List ℕ)) → common_prefix xs xs ≡ length xs
front_whole [] = refl
front_whole (x ∷ xs) = rw ((bytes_eq-Decides x x).1 refl, front_whole xs) (omega arith)

-- lists of one length whose front is whole are the same
pub whole_front : (xs ys : List (List ℕ)) → length xs ≡ length ys → common_prefix xs ys ≡ length xs → xs ≡ ys
whole_front [] [] h f = refl
whole_front [] (y ∷ ys) h f = absurd (omega (arith, h))
whole_front (x ∷ xs) [] h f = absurd (omega (arith, h))
whole_front (x ∷ xs) (y ∷ ys) h f = go (bytes_eq x y) refl f (whole_front xs ys (omega (arith, h)))
  where
    go : (b : Bool) → bytes_eq x y ≡ b → cond b (1 + common_prefix xs ys) 0 ≡ suc (length xs) → (common_prefix xs ys ≡ length xs → xs ≡ ys) → x ∷ xs ≡ y ∷ ys
    go true e f rest =
        let head : x ≡ y = (bytes_eq-Decides x y).0 e in
        let tail : xs ≡ ys = rest (omega (arith, f)) in
        cc
    go false e f rest = absurd (omega (arith, f))
