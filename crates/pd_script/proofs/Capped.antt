-- Decimals after a number that stops at the greatest of 64 bits.
use Rattle.std.proofs.Common.{◌≡◌, ℕ, ◌+◌, ◌-◌, ◌*◌, ◌<◌, ◌≤◌, min, List, [], ◌∷◌, ◌++◌, length, take, drop, get_or, refl, sym, ◌∙◌, arith, ◌⊎◌, inl, inr}
use Rattle.std.specs.Prelude.{fold, replicate}
use Rattle.std.specs.Char.{digit_value}
use Rattle.std.specs.Str.Parse.{digits_value_after}
use Rattle.std.proofs.lemmas.List.{length-take, length-append, length-replicate, drop_all, drop_more, get_or-take, get_or_append_left, get_or-append_right, get_or-replicate, get_or_past}
use Rattle.std.proofs.lemmas.Bool.{cases_lt}
use Rattle.pd_lex.specs.Scanned.{wrapped_digit}
use Rattle.pd_lex.proofs.Capped.{most, few_is, capped_is}
use Rattle.pd_script.specs.Values.{number, len_before_point, whole_digits, microseconds_of_decimals, microseconds}

pub ruleset capping = (capped_is)

digits_value_after-append : (r n : ℕ) (ds es : List ℕ) → digits_value_after r n (ds ++ es) ≡ digits_value_after r (digits_value_after r n ds) es
digits_value_after-append r n [] es = refl
digits_value_after-append r n (d ∷ ds) es = digits_value_after-append r (n * r + digit_value d) ds es

-- six decimals, those not written zeros
abbrev pub first_six : List ℕ → List ℕ
first_six ds = take 6 (ds ++ replicate 6 48)

six_long : (ds : List ℕ) → length (first_six ds) ≡ 6
six_long ds = length-take 6 (ds ++ replicate 6 48) ∙ omega (arith, length-append ds (replicate 6 48), length-replicate {A = ℕ} 6 48)

six_at : (ds : List ℕ) (i : ℕ) → i < 6 → get_or (first_six ds) i 48 ≡ get_or ds i 48
six_at ds i lt = get_or-take 6 (ds ++ replicate 6 48) i 48 lt ∙ by_place (cases_lt i (length ds))
  where
    by_place : ((i < length ds) ⊎ (length ds ≤ i)) → get_or (ds ++ replicate 6 48) i 48 ≡ get_or ds i 48
    by_place (inl h) = get_or_append_left ds (replicate 6 48) 48 i h
    by_place (inr h) = get_or-append_right ds (replicate 6 48) (length ds) i 48 refl h ∙ (get_or-replicate 6 (i - length ds) 48 48 (omega (arith, lt)) ∙ sym (get_or_past ds i 48 h))

-- one decimal more
pub decimals_more : (ds : List ℕ) (n i : ℕ) → i < 6 → fold wrapped_digit n (drop i (first_six ds)) ≡ fold wrapped_digit (wrapped_digit n (get_or ds i 48)) (drop (i + 1) (first_six ds))
decimals_more ds n i lt = rw (drop_more (first_six ds) i 48 (omega (arith, lt, six_long ds)), six_at ds i lt) refl

pub decimals_over : (ds : List ℕ) (n i : ℕ) → 6 ≤ i → fold wrapped_digit n (drop i (first_six ds)) ≡ n
decimals_over ds n i le = rw (drop_all i (first_six ds) (omega (arith, le, six_long ds))) refl

-- six digits after a number
after_six : (v : ℕ) (ds : List ℕ) → length ds ≡ 6 → digits_value_after 10 v ds ≡ v * 1000000 + digits_value_after 10 0 ds
after_six v [] h = absurd (omega (arith, h))
after_six v (a ∷ []) h = absurd (omega (arith, h))
after_six v (a ∷ b ∷ []) h = absurd (omega (arith, h))
after_six v (a ∷ b ∷ c ∷ []) h = absurd (omega (arith, h))
after_six v (a ∷ b ∷ c ∷ d ∷ []) h = absurd (omega (arith, h))
after_six v (a ∷ b ∷ c ∷ d ∷ e ∷ []) h = absurd (omega (arith, h))
after_six v (a ∷ b ∷ c ∷ d ∷ e ∷ f ∷ []) h = omega arith
after_six v (a ∷ b ∷ c ∷ d ∷ e ∷ f ∷ g ∷ ds) h = absurd (omega (arith, h))

-- the decimals after the whole part
pub microseconds_is : (text : List ℕ) → min (min (min (number (whole_digits text)) most * 1000000) most + fold wrapped_digit 0 (microseconds_of_decimals text)) most ≡ min (microseconds text) most
unfolding microseconds
microseconds_is text =
    let six = microseconds_of_decimals text in
    let long : length six ≡ 6 = six_long (drop (len_before_point text + 1) text) in
    let few : fold wrapped_digit 0 six ≡ min (digits_value_after 10 0 six) most = few_is six (omega (arith, long)) in
    let all : number (whole_digits text ++ six) ≡ number (whole_digits text) * 1000000 + digits_value_after 10 0 six = digits_value_after-append 10 0 (whole_digits text) six ∙ after_six (number (whole_digits text)) six long in
    omega (arith, few, all)

-- with no decimals
pub whole_is : (text : List ℕ) → len_before_point text ≡ length text → min (min (number (whole_digits text)) most * 1000000) most ≡ min (microseconds text) most
whole_is text h =
    let none : drop (len_before_point text + 1) text ≡ [] = drop_all (len_before_point text + 1) text (omega (arith, h)) in
    let zero_is : fold wrapped_digit 0 (microseconds_of_decimals text) ≡ 0 = rw none refl in
    let all = microseconds_is text in
    omega (arith, zero_is, all)
