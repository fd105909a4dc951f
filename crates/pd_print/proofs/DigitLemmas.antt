-- The digits that numbers are written in, and what they stand for.
use Rattle.std.proofs.Common.{◌≡◌, ℕ, zero, suc, ◌+◌, ◌-◌, ◌/◌, ◌%◌, ◌^◌, ◌<◌, Bool, true, false, ◌==◌, List, [], ◌∷◌, ◌++◌, length, refl, sym, ap, ◌∙◌, arith, append_assoc}
use Rattle.std.specs.Prelude.{replicate}
use Rattle.std.specs.List.{list_all}
use Rattle.std.specs.Char.{digit_value}
use Rattle.std.specs.Fmt.{decimal}
use Rattle.std.specs.Str.Parse.{AllDigits}
use Rattle.std.proofs.lemmas.Fmt.{decimal_is_IsNumeral}
use Rattle.std.proofs.lemmas.Int.Digits.{digits_value_push}
use Rattle.std.proofs.lemmas.List.{length-append, append-nil}
use Rattle.std.proofs.lemmas.List.Folds.{list_all-append}
use Rattle.std.proofs.lemmas.Nat.{div-add-mod'}
use Rattle.std.proofs.Math.Nat.{mod-lt}
use Rattle.std.proofs.lemmas.Bool.Decides.{nat_tests}
use Rattle.pd_lex.specs.Octets.{is_digit}
use Rattle.pd_script.specs.Values.{number}
use Rattle.pd_script.proofs.Apart.{and-left}
use Rattle.pd_print.specs.Numbers.{digits_of, shortest_digits}

digit_is : (c : ℕ) → digit_value c < 10 → is_digit c ≡ true
digit_is c h = grind (arith, nat_tests)

digits_are : (ds : List ℕ) → AllDigits 10 ds → list_all is_digit ds ≡ true
digits_are [] h = refl
digits_are (c ∷ ds) h = rw (digit_is c h.0, digits_are ds h.1) refl

-- digits, one at least, that stand for a number
pub record Written (n : ℕ) (ds : List ℕ) : Type 0 where
  pub some : 0 < length ds
  pub digits : list_all is_digit ds ≡ true
  pub value : number ds ≡ n

pub decimal_written : (n : ℕ) → n < 2 ^ 64 → Written n (decimal n)
decimal_written n h =
    let D = decimal_is_IsNumeral n h in
    record { some = D.0.0; digits = digits_are (decimal n) D.0.1; value = D.1 }

-- ---- so many digits

below_ten : (n : ℕ) → n % 10 < 10
below_ten n = mod-lt n (omega arith)

digit_value_is : (d : ℕ) → d < 10 → digit_value (48 + d) ≡ d
digit_value_is d h = grind (arith, nat_tests)

a_digit : (d : ℕ) → d < 10 → is_digit (48 + d) ≡ true
a_digit d h = grind (arith, nat_tests)

-- a number has no more digits than these
abbrev pub Below : ℕ → ℕ → Type 0
Below zero n = n ≡ 0
Below (suc places) n = Below places (n / 10)

pub six_are_enough : (n : ℕ) → n < 1000000 → Below 6 n
six_are_enough n h =
    let a = div-add-mod' n 10 in
    let b = div-add-mod' (n / 10) 10 in
    let c = div-add-mod' (n / 10 / 10) 10 in
    let d = div-add-mod' (n / 10 / 10 / 10) 10 in
    let e = div-add-mod' (n / 10 / 10 / 10 / 10) 10 in
    let f = div-add-mod' (n / 10 / 10 / 10 / 10 / 10) 10 in
    omega (arith, a, b, c, d, e, f)

pub digits_of-value : (k n : ℕ) → Below k n → number (digits_of k n) ≡ n
digits_of-value zero n h = sym h
digits_of-value (suc k) n h =
    digits_value_push 10 (digits_of k (n / 10)) (48 + n % 10)
    ∙ rw (digits_of-value k (n / 10) h, digit_value_is (n % 10) (below_ten n)) (div-add-mod' n 10)

pub digits_of-digits : (k n : ℕ) → list_all is_digit (digits_of k n) ≡ true
digits_of-digits zero n = refl
digits_of-digits (suc k) n =
    list_all-append is_digit (digits_of k (n / 10)) ((48 + n % 10) ∷ [])
    ∙ rw (digits_of-digits k (n / 10), a_digit (n % 10) (below_ten n)) refl

pub length-digits_of : (k n : ℕ) → length (digits_of k n) ≡ k
length-digits_of zero n = refl
length-digits_of (suc k) n = omega (arith, length-append (digits_of k (n / 10)) ((48 + n % 10) ∷ []), length-digits_of k (n / 10))

-- one digit at the end
pub digits_of-more : (k n : ℕ) → 0 < k → digits_of k n ≡ digits_of (k - 1) (n / 10) ++ (48 + n % 10) ∷ []
digits_of-more zero n h = absurd (omega arith)
digits_of-more (suc k) n h = let less : suc k - 1 ≡ k = omega arith in rw less refl

-- ---- the same without zeros at the end

zero_at_the_end : (z : ℕ) → ◌≡◌ {A = List ℕ} (48 ∷ replicate z 48) (replicate z 48 ++ 48 ∷ [])
zero_at_the_end zero = refl
zero_at_the_end (suc z) = ap (λ (ds : List ℕ). 48 ∷ ds) (zero_at_the_end z)

is_zero : (n : ℕ) → (n == 0) ≡ true → n ≡ 0
is_zero n h = grind (arith, nat_tests)

-- with the zeros they are all digits
pub filled_up : (k n : ℕ) → (z : ℕ) × (shortest_digits k n ++ replicate z 48 ≡ digits_of k n)
filled_up zero n = (0, refl)
filled_up (suc k) n = by_last (n % 10 == 0) refl (filled_up k (n / 10))
  where
    by_last : (t : Bool) → (n % 10 == 0) ≡ t → ((z : ℕ) × (shortest_digits k (n / 10) ++ replicate z 48 ≡ digits_of k (n / 10))) → (z : ℕ) × (shortest_digits (suc k) n ++ replicate z 48 ≡ digits_of (suc k) n)
    by_last true h less =
        let last : n % 10 ≡ 0 = is_zero (n % 10) h in
        let back : shortest_digits k (n / 10) ++ (48 ∷ replicate less.0 48) ≡ digits_of k (n / 10) ++ 48 ∷ [] =
        ap (λ (ds : List ℕ). shortest_digits k (n / 10) ++ ds) (zero_at_the_end less.0)
        ∙ (sym (append_assoc (shortest_digits k (n / 10)) (replicate less.0 48) (48 ∷ []))
        ∙ ap (λ (ds : List ℕ). ds ++ 48 ∷ []) less.1) in
        (suc less.0, rw last back)
    by_last false h less = (0, rw h (append-nil (digits_of (suc k) n)))

pub shortest-digits : (k n : ℕ) → list_all is_digit (shortest_digits k n) ≡ true
shortest-digits k n =
    let F = filled_up k n in
    and-left (list_all is_digit (shortest_digits k n)) (list_all is_digit (replicate F.0 48))
    (sym (list_all-append is_digit (shortest_digits k n) (replicate F.0 48)) ∙ (ap (list_all is_digit) F.1 ∙ digits_of-digits k n))

pub shortest-some : (k n : ℕ) → Below k n → 0 < n → 0 < length (shortest_digits k n)
shortest-some zero n h some = absurd (omega arith)
shortest-some (suc k) n h some = by_last (n % 10 == 0) refl (λ more. shortest-some k (n / 10) h more)
  where
    by_last : (t : Bool) → (n % 10 == 0) ≡ t → (0 < n / 10 → 0 < length (shortest_digits k (n / 10))) → 0 < length (shortest_digits (suc k) n)
    by_last true e less = rw e (less (omega (arith, div-add-mod' n 10, is_zero (n % 10) e)))
    by_last false e less = rw e (omega (arith, length-digits_of (suc k) n))

-- one digit less, where it is a zero
pub shortest-zero : (k n : ℕ) → 0 < k → (n % 10 == 0) ≡ true → shortest_digits k n ≡ shortest_digits (k - 1) (n / 10)
shortest-zero zero n h e = absurd (omega arith)
shortest-zero (suc k) n h e = let less : suc k - 1 ≡ k = omega arith in rw (less, e) refl

pub shortest-whole : (k n : ℕ) → (n % 10 == 0) ≡ false → 0 < k → shortest_digits k n ≡ digits_of k n
shortest-whole zero n e h = absurd (omega arith)
shortest-whole (suc k) n e h = rw e refl

pub positive : (n : ℕ) → (n ≡ 0 → ⊥) → 0 < n
positive zero h = absurd (h refl)
positive (suc n) h = omega arith

pub ruleset shortening = (shortest-zero, shortest-whole)
