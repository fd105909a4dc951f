-- How many lines and octets an edit leaves.
use Rattle.std.proofs.Common.{◌≡◌, ℕ, ◌+◌, ◌-◌, ◌≤◌, nat_le, Bool, true, false, List, ◌++◌, length, take, drop, refl, sym, ap, arith, length-append}
use Rattle.std.proofs.lemmas.List.{length-take, length-drop, drop-drop}
use Rattle.std.proofs.lemmas.Bool.Decides.{nat_tests}
use Rattle.pd_text.specs.Text.{fits_text, octets_of}
use Rattle.pd_text.specs.Edit.{is_edit_in_range, edited}
use Rattle.pd_text.specs.declared.line_edit.LineEdit.{LineEdit}
use Rattle.pd_text.proofs.Placed.{both}
use Rattle.pd_text.proofs.Ranges.{octets_append, octets_split}

pub in_range : (lines : List (List ℕ)) (edit : LineEdit) → is_edit_in_range lines edit ≡ true → (1 ≤ edit.from) × (edit.from + edit.remove ≤ length lines + 1)
in_range lines edit h =
    let parts = both (nat_le 1 edit.from) (nat_le (edit.from + edit.remove) (length lines + 1)) h in
    (grind (arith, nat_tests, parts.0), grind (arith, nat_tests, parts.1))

abbrev pub removed : List (List ℕ) → LineEdit → List (List ℕ)
removed lines edit = take (edit.from - 1 + edit.remove - (edit.from - 1)) (drop (edit.from - 1) lines)

pub edited_length : (lines : List (List ℕ)) (edit : LineEdit) → is_edit_in_range lines edit ≡ true → length (edited lines edit) + edit.remove ≡ length lines + length edit.insert
edited_length lines edit h =
    let range = in_range lines edit h in
    let first = edit.from - 1 in
    omega (arith, range.0, range.1, length-append (take first lines ++ edit.insert) (drop (first + edit.remove) lines), length-append (take first lines) edit.insert, length-take first lines, length-drop (first + edit.remove) lines)

pub edited_octets : (lines : List (List ℕ)) (edit : LineEdit) → octets_of (edited lines edit) + octets_of (removed lines edit) ≡ octets_of lines + octets_of edit.insert
edited_octets lines edit =
    let first = edit.from - 1 in
    let n : first + edit.remove - first ≡ edit.remove = omega arith in
    let same : octets_of (removed lines edit) ≡ octets_of (take edit.remove (drop first lines)) = ap (λ (m : ℕ). octets_of (take m (drop first lines))) n in
    let after : octets_of (drop edit.remove (drop first lines)) ≡ octets_of (drop (first + edit.remove) lines) = ap octets_of (drop-drop edit.remove first lines) in
    omega (arith, same, after, octets_append (take first lines ++ edit.insert) (drop (first + edit.remove) lines), octets_append (take first lines) edit.insert, octets_split lines first, octets_split (drop first lines) edit.remove)

-- the tests of the limits

pub fits_known : (lines : List (List ℕ)) → length lines ≤ 4096 → octets_of lines ≤ 65536 → true ≡ fits_text lines
fits_known lines a b = grind (arith, nat_tests, a, b)

pub not_fitting : (lines : List (List ℕ)) → (length lines ≤ 4096 → octets_of lines ≤ 65536 → ⊥) → false ≡ fits_text lines
not_fitting lines f = go (fits_text lines) refl
  where
    go : (b : Bool) → fits_text lines ≡ b → false ≡ fits_text lines
    go false e = sym e
    go true e =
        let parts = both (nat_le (length lines) 4096) (nat_le (octets_of lines) 65536) e in
        absurd (f (grind (arith, nat_tests, parts.0)) (grind (arith, nat_tests, parts.1)))
