-- Seconds that were written stand for their microseconds.
use Rattle.std.proofs.Common.{◌≡◌, ℕ, ◌+◌, ◌*◌, ◌/◌, ◌%◌, ◌^◌, ◌<◌, Bool, true, false, not, ◌==◌, List, [], ◌∷◌, ◌++◌, length, take, drop, refl, sym, ap, ◌∙◌, arith, append_assoc}
use Rattle.std.specs.Prelude.{replicate}
use Rattle.std.specs.List.{list_all, prefix_len}
use Rattle.std.specs.Char.{digit_value}
use Rattle.std.specs.Fmt.{decimal}
use Rattle.std.specs.Str.Parse.{digits_value_after}
use Rattle.std.proofs.Math.Seq.{take-append_seam, drop-append-add, take-append-add, take-length}
use Rattle.std.proofs.lemmas.List.{length-append, length-replicate, take-replicate, drop_all, append-nil}
use Rattle.std.proofs.Math.Nat.{mod-lt}
use Rattle.std.proofs.lemmas.Nat.{div-add-mod'}
use Rattle.std.proofs.lemmas.Bool.Decides.{nat_tests}
use Rattle.pd_lex.specs.Octets.{is_digit}
use Rattle.pd_script.specs.Values.{number, len_before_point, whole_digits, microseconds_of_decimals, microseconds}
use Rattle.pd_script.proofs.Apart.{and-left, and-right}
use Rattle.pd_print.specs.Numbers.{digits_of, shortest_digits, fixed_seconds_text, fraction_text, seconds_text}
use Rattle.pd_print.proofs.DigitLemmas.{Written, decimal_written, six_are_enough, digits_of-value, length-digits_of, filled_up}

-- ---- runs

-- all of a list passes, and what follows doesn't
pub run_len : (p : ℕ → Bool) (xs rest : List ℕ) → list_all p xs ≡ true → prefix_len p rest ≡ 0 → prefix_len p (xs ++ rest) ≡ length xs
run_len p [] rest h e = e
run_len p (x ∷ xs) rest h e = rw (and-left (p x) (list_all p xs) h) (omega (arith, run_len p xs rest (and-right (p x) (list_all p xs) h) e))

run_all : (p : ℕ → Bool) (xs : List ℕ) → list_all p xs ≡ true → prefix_len p xs ≡ length xs
run_all p [] h = refl
run_all p (x ∷ xs) h = rw (and-left (p x) (list_all p xs) h) (omega (arith, run_all p xs (and-right (p x) (list_all p xs) h)))

abbrev no_point : ℕ → Bool
no_point octet = not (octet == 46)

digit_no_point : (b : ℕ) → is_digit b ≡ true → no_point b ≡ true
digit_no_point b h = grind (arith, nat_tests)

no_points : (ds : List ℕ) → list_all is_digit ds ≡ true → list_all no_point ds ≡ true
no_points [] h = refl
no_points (b ∷ ds) h = rw (digit_no_point b (and-left (is_digit b) (list_all is_digit ds) h), no_points ds (and-right (is_digit b) (list_all is_digit ds) h)) refl

-- ---- six decimals

after-append : (n : ℕ) (ds es : List ℕ) → digits_value_after 10 n (ds ++ es) ≡ digits_value_after 10 (digits_value_after 10 n ds) es
after-append n [] es = refl
after-append n (d ∷ ds) es = after-append (n * 10 + digit_value d) ds es

six_after : (v : ℕ) (ds : List ℕ) → length ds ≡ 6 → digits_value_after 10 v ds ≡ v * 1000000 + digits_value_after 10 0 ds
six_after v [] h = absurd (omega (arith, h))
six_after v (a ∷ []) h = absurd (omega (arith, h))
six_after v (a ∷ b ∷ []) h = absurd (omega (arith, h))
six_after v (a ∷ b ∷ c ∷ []) h = absurd (omega (arith, h))
six_after v (a ∷ b ∷ c ∷ d ∷ []) h = absurd (omega (arith, h))
six_after v (a ∷ b ∷ c ∷ d ∷ e ∷ []) h = absurd (omega (arith, h))
six_after v (a ∷ b ∷ c ∷ d ∷ e ∷ f ∷ []) h = omega arith
six_after v (a ∷ b ∷ c ∷ d ∷ e ∷ f ∷ g ∷ ds) h = absurd (omega (arith, h))

value_is : (text whole six : List ℕ) (w part : ℕ) → whole_digits text ≡ whole → microseconds_of_decimals text ≡ six → length six ≡ 6 → number whole ≡ w → number six ≡ part → microseconds text ≡ w * 1000000 + part
unfolding microseconds
value_is text whole six w part front back long first second =
    rw (front, back) (after-append 0 whole six ∙ (six_after (number whole) six long ∙ rw (first, second) refl))

-- digits, a point and decimals that are six with zeros
with_decimals : (whole ds six : List ℕ) (z w part : ℕ) → Written w whole → ds ++ replicate z 48 ≡ six → length six ≡ 6 → number six ≡ part → microseconds (whole ++ 46 ∷ ds) ≡ w * 1000000 + part
with_decimals whole ds six z w part h full long value = value_is (whole ++ 46 ∷ ds) whole six w part front back long h.value value
  where
    run : len_before_point (whole ++ 46 ∷ ds) ≡ length whole
    run = run_len no_point whole (46 ∷ ds) (no_points whole h.digits) refl

    front : whole_digits (whole ++ 46 ∷ ds) ≡ whole
    front = rw run (take-append_seam whole (46 ∷ ds))

    few : length ds + z ≡ 6
    few = omega (arith, length-append ds (replicate z 48), length-replicate {A = ℕ} z 48, ap length full, long)

    rest : drop (length whole + 1) (whole ++ 46 ∷ ds) ≡ ds
    rest = drop-append-add whole (46 ∷ ds) 1

    first_six : take 6 (ds ++ replicate 6 48) ≡ six
    first_six =
        let n : 6 ≡ length ds + z = sym few in
        ap (λ (k : ℕ). take k (ds ++ replicate 6 48)) n
        ∙ (take-append-add ds (replicate 6 48) z
        ∙ (ap (λ (zs : List ℕ). ds ++ zs) (take-replicate z 6 48 (omega (arith, few))) ∙ full))

    back : microseconds_of_decimals (whole ++ 46 ∷ ds) ≡ six
    back = rw (run, rest) first_six

-- digits alone
without_decimals : (whole : List ℕ) (w : ℕ) → Written w whole → microseconds whole ≡ w * 1000000 + 0
without_decimals whole w h = value_is whole whole (48 ∷ 48 ∷ 48 ∷ 48 ∷ 48 ∷ 48 ∷ []) w 0 front back refl h.value refl
  where
    run : len_before_point whole ≡ length whole
    run = run_all no_point whole (no_points whole h.digits)

    front : whole_digits whole ≡ whole
    front = rw run (take-length whole)

    back : microseconds_of_decimals whole ≡ 48 ∷ 48 ∷ 48 ∷ 48 ∷ 48 ∷ 48 ∷ []
    back = rw (run, drop_all (length whole + 1) whole (omega arith)) refl

-- ---- moments

pub microseconds_part : (time_us : ℕ) → time_us % 1000000 < 1000000
microseconds_part time_us = mod-lt time_us (omega arith)

pub whole_small : (time_us : ℕ) → time_us < 2 ^ 64 → time_us / 1000000 < 2 ^ 64
whole_small time_us h = omega (arith, div-add-mod' time_us 1000000)

pub fixed_seconds_back : (time_us : ℕ) → time_us < 2 ^ 64 → microseconds (fixed_seconds_text time_us) ≡ time_us
fixed_seconds_back time_us h =
    let part = time_us % 1000000 in
    let six = digits_of 6 part in
    let w = decimal_written (time_us / 1000000) (whole_small time_us h) in
    let below = six_are_enough part (microseconds_part time_us) in
    let e = with_decimals (decimal (time_us / 1000000)) six six 0 (time_us / 1000000) part w (append-nil six) (length-digits_of 6 part) (digits_of-value 6 part below) in
    ap microseconds (append_assoc (decimal (time_us / 1000000)) (46 ∷ []) six) ∙ (e ∙ div-add-mod' time_us 1000000)

-- ---- the shortest

pub by_part : (part : ℕ) (A : Type 0) → (part ≡ 0 → A) → ((part == 0) ≡ false → 0 < part → A) → A
by_part part A f g = by_test (part == 0) refl
  where
    is_zero : (n : ℕ) → (n == 0) ≡ true → n ≡ 0
    is_zero n h = grind (arith, nat_tests)

    is_some : (n : ℕ) → (n == 0) ≡ false → 0 < n
    is_some n h = grind (arith, nat_tests)

    by_test : (t : Bool) → (part == 0) ≡ t → A
    by_test true h = f (is_zero part h)
    by_test false h = g h (is_some part h)

pub fraction_none : (part : ℕ) → part ≡ 0 → fraction_text part ≡ []
fraction_none part h = rw h refl

pub fraction_some : (part : ℕ) → (part == 0) ≡ false → fraction_text part ≡ 46 ∷ shortest_digits 6 part
fraction_some part h = rw h refl

pub seconds_back : (time_us : ℕ) → time_us < 2 ^ 64 → microseconds (seconds_text time_us) ≡ time_us
seconds_back time_us h = by_part (time_us % 1000000) (microseconds (seconds_text time_us) ≡ time_us) none some
  where
    none : time_us % 1000000 ≡ 0 → microseconds (seconds_text time_us) ≡ time_us
    none e =
        let w = decimal_written (time_us / 1000000) (whole_small time_us h) in
        ap microseconds (ap (λ (s : List ℕ). decimal (time_us / 1000000) ++ s) (fraction_none (time_us % 1000000) e) ∙ append-nil (decimal (time_us / 1000000)))
        ∙ (without_decimals (decimal (time_us / 1000000)) (time_us / 1000000) w ∙ omega (arith, div-add-mod' time_us 1000000, e))

    some : (time_us % 1000000 == 0) ≡ false → 0 < time_us % 1000000 → microseconds (seconds_text time_us) ≡ time_us
    some e more =
        let w = decimal_written (time_us / 1000000) (whole_small time_us h) in
        let F = filled_up 6 (time_us % 1000000) in
        let below = six_are_enough (time_us % 1000000) (microseconds_part time_us) in
        ap microseconds (ap (λ (s : List ℕ). decimal (time_us / 1000000) ++ s) (fraction_some (time_us % 1000000) e))
        ∙ (with_decimals (decimal (time_us / 1000000)) (shortest_digits 6 (time_us % 1000000)) (digits_of 6 (time_us % 1000000)) F.0 (time_us / 1000000) (time_us % 1000000) w F.1 (length-digits_of 6 (time_us % 1000000)) (digits_of-value 6 (time_us % 1000000) below)
        ∙ div-add-mod' time_us 1000000)
