-- Digits that are read one by one.
use Rattle.std.proofs.Common.{◌≡◌, ℕ, ◌+◌, ◌*◌, ◌-◌, ◌^◌, ◌<◌, ◌≤◌, ◌&&◌, List, [], ◌∷◌, length, take, drop, get_or, true, false, refl, arith, add-one, nat_lt, nat_le, Bool, ap, ◌∙◌, sym, fold, subst, lit<, cond, if◌then◌else◌, Option, Some, None}
use Rattle.std.specs.Char.{is_ascii_digit}
use Rattle.std.specs.List.{list_all}
use Rattle.std.proofs.Math.Seq.{take-suc}
use Rattle.std.proofs.Math.Nat.{pow-suc, pow-le-pow_right}
use Rattle.std.proofs.lemmas.List.{take-append-drop, take_all}
use Rattle.std.proofs.lemmas.List.Folds.{list_all-append, list_all_at}
use Rattle.std.proofs.lemmas.List.Sums.{fold-append}
use Rattle.std.proofs.lemmas.Bool.Decides.{nat_tests}
use Rattle.pd_protocol.specs.Words.{are_digits, is_count, number_of}

-- a number with one digit more after it
abbrev pub more_by : ℕ → ℕ → ℕ
more_by n digit = n * 10 + (digit - 48)

pub digits_more : (w : List ℕ) (i : ℕ) → i < length w → list_all is_ascii_digit (take i w) ≡ true → is_ascii_digit (get_or w i 0) ≡ true → list_all is_ascii_digit (take (i + 1) w) ≡ true
digits_more w i h e f = rw (add-one, take-suc w i 0 h, list_all-append is_ascii_digit (take i w) (get_or w i 0 ∷ []), e, f) refl

pub number_more : (w : List ℕ) (i n : ℕ) → i < length w → n ≡ number_of (take i w) → more_by n (get_or w i 0) ≡ number_of (take (i + 1) w)
number_more w i n h e = sym (rw (add-one, take-suc w i 0 h, fold-append more_by 0 (take i w) (get_or w i 0 ∷ [])) (ap (λ m. more_by m (get_or w i 0)) (sym e)))

grows : (w : List ℕ) (n : ℕ) → n ≤ fold more_by n w
grows [] n = omega arith
grows (d ∷ w) n = omega (arith, grows w (more_by n d))

-- the number that the first digits write is at most that of all
pub number_grows : (w : List ℕ) (i : ℕ) → number_of (take i w) ≤ number_of w
number_grows w i =
    let e : number_of w ≡ fold more_by (number_of (take i w)) (drop i w) = ap (λ l. fold more_by 0 l) (sym (take-append-drop i w)) ∙ fold-append more_by 0 (take i w) (drop i w) in
    rw e (grows (drop i w) (number_of (take i w)))

one_more : (n d k : ℕ) → is_ascii_digit d ≡ true → n < 10 ^ k → more_by n d < 10 ^ (k + 1)
one_more n d k e h = let f : d ≤ 57 = grind (arith, nat_tests, e) in rw (add-one, pow-suc 10 k) (omega arith)

split : (a b : Bool) → (a && b) ≡ true → (a ≡ true) × (b ≡ true)
split true true h = (refl, refl)
split true false h = absurd cc
split false b h = absurd cc

small : (w : List ℕ) (n k m : ℕ) → k + length w ≡ m → list_all is_ascii_digit w ≡ true → n < 10 ^ k → fold more_by n w < 10 ^ m
small [] n k m e h lt = subst (λ (j : ℕ). n < 10 ^ j) (omega arith) lt
small (d ∷ w) n k m e h lt = let f = split (is_ascii_digit d) (list_all is_ascii_digit w) h in small w (more_by n d) (k + 1) m (omega arith) f.1 (one_more n d k f.0 lt)

pub not_digits : (w : List ℕ) (i : ℕ) → i < length w → is_ascii_digit (get_or w i 0) ≡ false → are_digits w ≡ false
not_digits w i h e = let f : list_all is_ascii_digit w ≡ false = list_all_at is_ascii_digit w i 0 h e in grind (arith, nat_tests, f)

-- a number that is too large by its first digits is too large
pub too_large : (w : List ℕ) (i : ℕ) → 2 ^ 64 ≤ number_of (take i w) → (are_digits w && nat_lt (number_of w) (2 ^ 64)) ≡ false
too_large w i h = let f : 2 ^ 64 ≤ number_of w = omega (arith, h, number_grows w i) in grind (arith, nat_tests, f)

-- one to six digits write a number below 2^64
pub count_small : (w : List ℕ) → is_count w ≡ true → number_of w < 2 ^ 64
count_small w h =
    let f = split (are_digits w) (nat_le (length w) 6) h in
    let g = split (nat_lt 0 (length w)) (list_all is_ascii_digit w) f.0 in
    let le : length w ≤ 6 = grind (arith, nat_tests, f.1) in
    let lt : number_of w < 10 ^ length w = small w 0 0 (length w) (omega arith) g.1 (lit< tt) in
    omega (arith, lt, let p : 10 ^ length w ≤ 10 ^ 6 = pow-le-pow_right {n = 10} (lit< tt) le in p)

abbrev within : ℕ → Option ℕ
within m = if nat_lt m (2 ^ 64) then Some m else None

beyond : (m : ℕ) → None ≡ within m → 2 ^ 64 ≤ m
beyond m h = go (nat_lt m (2 ^ 64)) refl
  where
    go : (b : Bool) → nat_lt m (2 ^ 64) ≡ b → 2 ^ 64 ≤ m
    go true e = let bad : None ≡ Some m = h ∙ ap (λ (b : Bool). cond b (Some m) None) e in cc
    go false e = grind (arith, nat_tests)

abbrev written : List ℕ → Option ℕ
written w = if are_digits w && nat_lt (number_of w) (2 ^ 64) then Some (number_of w) else None

-- the first digits write too large a number
pub stop_large : (w : List ℕ) (i n : ℕ) (r : Option ℕ) → i < length w → n ≡ number_of (take i w) → None ≡ within (more_by n (get_or w i 0)) → r ≡ None → r ≡ written w
stop_large w i n r h e f g =
    let large : 2 ^ 64 ≤ number_of (take (i + 1) w) = rw (← number_more w i n h e) (beyond (more_by n (get_or w i 0)) f) in
    g ∙ sym (ap (λ (b : Bool). cond b (Some (number_of w)) None) (too_large w (i + 1) large))

-- all were digits
pub all_read : (w : List ℕ) (i n : ℕ) → 0 < length w → length w ≤ i → list_all is_ascii_digit (take i w) ≡ true → n ≡ number_of (take i w) → n < 2 ^ 64 → Some n ≡ written w
all_read w i n h le d e lt =
    let whole : take i w ≡ w = take_all i w le in
    let all : list_all is_ascii_digit w ≡ true = rw (← whole) d in
    let same : n ≡ number_of w = e ∙ ap number_of whole in
    let fits : (are_digits w && nat_lt (number_of w) (2 ^ 64)) ≡ true = grind (arith, nat_tests, all, same) in
    ap (λ (m : ℕ). Some m) same ∙ sym (ap (λ (b : Bool). cond b (Some (number_of w)) None) fits)

-- what isn't one to six digits
pub no_count : (w : List ℕ) → None ≡ written w → None ≡ (if is_count w then Some (number_of w) else None)
no_count w h = go (is_count w) refl
  where
    go : (b : Bool) → is_count w ≡ b → None ≡ cond b (Some (number_of w)) None
    go false e = refl
    go true e =
        let digits = (split (are_digits w) (nat_le (length w) 6) e).0 in
        let fits : (are_digits w && nat_lt (number_of w) (2 ^ 64)) ≡ true = grind (arith, nat_tests, digits, count_small w e) in
        h ∙ ap (λ (b : Bool). cond b (Some (number_of w)) None) fits
