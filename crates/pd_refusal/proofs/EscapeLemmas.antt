-- Escaped octets are printable, and so are the parts that are cut of them.
use Rattle.std.proofs.Common.{◌≡◌, ℕ, ◌+◌, ◌-◌, ◌/◌, ◌%◌, ◌<◌, ◌≤◌, min, nat_lt, nat_le, Bool, true, false, ◌&&◌, if◌then◌else◌, List, [], ◌∷◌, ◌++◌, take, drop, refl, sym, ap, ◌∙◌, arith, take-append-drop}
use Rattle.std.proofs.lemmas.Bool.{and_from, and_parts, ltb-true, le-leb}
use Rattle.std.proofs.lemmas.List.Folds.{list_all-append}
use Rattle.pd_refusal.specs.Escape.{is_printable, are_printable, hex_digit, escaped_octet, escaped, EscapedIsPrintable}

within : (octet : ℕ) → 32 ≤ octet → octet ≤ 126 → is_printable octet ≡ true
within octet low high = and_from (nat_le 32 octet) (nat_le octet 126) (le-leb 32 octet low) (le-leb octet 126 high)

digit_by : (b : Bool) (v : ℕ) → nat_lt v 10 ≡ b → is_printable (if b then 48 + v else 97 + min (v - 10) 5) ≡ true
digit_by true v h = let below : v < 10 = ltb-true v 10 h in within (48 + v) (omega arith) (omega arith)
digit_by false v h = within (97 + min (v - 10) 5) (omega arith) (omega arith)

digit : (v : ℕ) → is_printable (hex_digit v) ≡ true
digit v = digit_by (nat_lt v 10) v refl

octet_by : (b : Bool) (octet : ℕ) → is_printable octet ≡ b
    → are_printable (if b then octet ∷ [] else 92 ∷ 120 ∷ hex_digit (octet / 16) ∷ hex_digit (octet % 16) ∷ []) ≡ true
octet_by true octet h = and_from (is_printable octet) true h refl
octet_by false octet h =
    and_from (is_printable (hex_digit (octet / 16))) (is_printable (hex_digit (octet % 16)) && true) (digit (octet / 16))
    (and_from (is_printable (hex_digit (octet % 16))) true (digit (octet % 16)) refl)

octet_shows : (octet : ℕ) → are_printable (escaped_octet octet) ≡ true
octet_shows octet = octet_by (is_printable octet) octet refl

pub joined : (xs ys : List ℕ) → are_printable xs ≡ true → are_printable ys ≡ true → are_printable (xs ++ ys) ≡ true
joined xs ys h k = list_all-append is_printable xs ys ∙ and_from (are_printable xs) (are_printable ys) h k

pub shown_is_printable_so : EscapedIsPrintable
shown_is_printable_so [] = refl
shown_is_printable_so (octet ∷ octets) = joined (escaped_octet octet) (escaped octets) (octet_shows octet) (shown_is_printable_so octets)

halves : (n : ℕ) (xs : List ℕ) → are_printable xs ≡ true → (are_printable (take n xs) && are_printable (drop n xs)) ≡ true
halves n xs h = sym (list_all-append is_printable (take n xs) (drop n xs)) ∙ ap are_printable (take-append-drop n xs) ∙ h

front : (n : ℕ) (xs : List ℕ) → are_printable xs ≡ true → are_printable (take n xs) ≡ true
front n xs h = (and_parts (are_printable (take n xs)) (are_printable (drop n xs)) (halves n xs h)).0

back : (n : ℕ) (xs : List ℕ) → are_printable xs ≡ true → are_printable (drop n xs) ≡ true
back n xs h = (and_parts (are_printable (take n xs)) (are_printable (drop n xs)) (halves n xs h)).1

-- a range of a printable line
pub ranged : (xs : List ℕ) (i j : ℕ) → are_printable xs ≡ true → are_printable (take (j - i) (drop i xs)) ≡ true
ranged xs i j h = front (j - i) (drop i xs) (back i xs h)
