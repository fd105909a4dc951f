-- Lines that no mend changes stay.
use Rattle.std.proofs.Common.{◌≡◌, ℕ, zero, suc, ◌+◌, ◌-◌, ◌<◌, ◌≤◌, ◌==◌, nat_lt, Bool, true, false, List, [], ◌∷◌, ◌++◌, length, take, drop, Option, Some, None, option_and_then, refl, sym, ap, ◌∙◌, arith, append_assoc}
use Rattle.std.specs.List.{slice_get}
use Rattle.std.proofs.lemmas.Bool.Decides.{nat_tests}
use Rattle.pd_text.specs.Edit.{is_edit_in_range, edited, edit_refusal}
use Rattle.pd_text.specs.declared.faults.TextFault.TheVariants.{BadRange}
use Rattle.pd_text.specs.declared.line_edit.LineEdit.{LineEdit}
use Rattle.pd_text.proofs.EditedLines.{in_range}
use Rattle.pd_settings.specs.declared.settings.Settings.{Settings}
use Rattle.pd_mend.specs.Mending.{after, place_after, place_after_all, AreMends}

-- an element among the first ones of a list
front : {X : Type 0} (k n : ℕ) (xs ys : List X) → n < k → k ≤ length xs → slice_get (take k xs ++ ys) n ≡ slice_get xs n
front zero n xs ys h g = absurd (omega (arith, h))
front (suc k) n [] ys h g = absurd (omega (arith, g))
front (suc k) zero (x ∷ xs) ys h g = refl
front (suc k) (suc n) (x ∷ xs) ys h g = front k n xs ys (omega (arith, h)) (omega (arith, g))

-- an element after others
behind : {X : Type 0} (ins ys : List X) (n m : ℕ) → n + length ins ≡ m → slice_get (ins ++ ys) m ≡ slice_get ys n
behind [] ys n m e = let same : m ≡ n = omega (arith, e) in ap (slice_get ys) same
behind (i ∷ ins) ys n zero e = absurd (omega (arith, e))
behind (i ∷ ins) ys n (suc m) e = behind ins ys n m (omega (arith, e))

-- an element after the first ones of a list
dropped : {X : Type 0} (d j n : ℕ) (xs : List X) → d + j ≡ n → slice_get (drop d xs) j ≡ slice_get xs n
dropped zero j n xs e = let same : j ≡ n = omega (arith, e) in ap (slice_get xs) same
dropped (suc d) j n [] e = refl
dropped (suc d) j zero (x ∷ xs) e = absurd (omega (arith, e))
dropped (suc d) j (suc n) (x ∷ xs) e = dropped d j n xs (omega (arith, e))

-- an element after some that others stand in the place of
past : {X : Type 0} (k d n m : ℕ) (xs ins : List X) → k ≤ d → d ≤ n → k ≤ length xs → n + length ins + k ≡ m + d → slice_get (take k xs ++ (ins ++ drop d xs)) m ≡ slice_get xs n
past zero d n m xs ins h g l e =
    behind ins (drop d xs) (n - d) m (omega (arith, e, g)) ∙ dropped d (n - d) n xs (omega (arith, g))
past (suc k) zero n m xs ins h g l e = absurd (omega (arith, h))
past (suc k) (suc d) zero m xs ins h g l e = absurd (omega (arith, g))
past (suc k) (suc d) (suc n) zero xs ins h g l e = absurd (omega (arith, h, g, e))
past (suc k) (suc d) (suc n) (suc m) [] ins h g l e = absurd (omega (arith, l))
past (suc k) (suc d) (suc n) (suc m) (x ∷ xs) ins h g l e = past k d n m xs ins (omega (arith, h)) (omega (arith, g)) (omega (arith, l)) (omega (arith, e))

-- the text after an edit, with the lines before it apart
parted : (text : List (List ℕ)) (edit : LineEdit) (k : ℕ) → edit.from ≡ suc k → edited text edit ≡ take k text ++ (edit.insert ++ drop (k + edit.remove) text)
parted text edit k at =
    let first : edit.from - 1 ≡ k = omega (arith, at) in
    append_assoc (take (edit.from - 1) text) edit.insert (drop (edit.from - 1 + edit.remove) text)
    ∙ ap (λ (i : ℕ). take i text ++ (edit.insert ++ drop (i + edit.remove) text)) first

stays_once : (text : List (List ℕ)) (edit : LineEdit) (k n m : ℕ) → edit.from ≡ suc k → k ≤ length text → place_after edit n ≡ Some m → slice_get (edited text edit) m ≡ slice_get text n
stays_once text edit k n m at within place = before (nat_lt (n + 1) edit.from) refl
  where
    on : (b : Bool) → nat_lt (n + 1) (edit.from + edit.remove) ≡ b → nat_lt (n + 1) edit.from ≡ false → slice_get (edited text edit) m ≡ slice_get text n
    on true e f = let none : None ≡ Some m = rw (f, e) at place in absurd cc
    on false e f =
        let some : Some (n + length edit.insert - edit.remove) ≡ Some m = rw (f, e) at place in
        let same : n + length edit.insert - edit.remove ≡ m = cc in
        let late : k + edit.remove ≤ n = grind (arith, nat_tests, e, f, at) in
        ap (λ (l : List (List ℕ)). slice_get l m) (parted text edit k at)
        ∙ past k (k + edit.remove) n m text edit.insert (omega arith) late within (omega (arith, same, late))

    before : (b : Bool) → nat_lt (n + 1) edit.from ≡ b → slice_get (edited text edit) m ≡ slice_get text n
    before true e =
        let some : Some n ≡ Some m = rw e at place in
        let same : n ≡ m = cc in
        let early : n < k = grind (arith, nat_tests, e, at) in
        ap (λ (l : List (List ℕ)). slice_get l m) (parted text edit k at)
        ∙ (ap (λ (i : ℕ). slice_get (take k text ++ (edit.insert ++ drop (k + edit.remove) text)) i) (sym same)
        ∙ front k n text (edit.insert ++ drop (k + edit.remove) text) early within)
    before false e = on (nat_lt (n + 1) (edit.from + edit.remove)) refl e

-- an edit that isn't refused lies within the text
allowed : (text : List (List ℕ)) (edit : LineEdit) → edit_refusal text edit ≡ None → is_edit_in_range text edit ≡ true
allowed text edit h = go (is_edit_in_range text edit) refl
  where
    go : (b : Bool) → is_edit_in_range text edit ≡ b → is_edit_in_range text edit ≡ true
    go true e = e
    go false e = let bad : Some BadRange ≡ None = rw e at h in absurd cc

once : (text : List (List ℕ)) (edit : LineEdit) (n m : ℕ) → edit_refusal text edit ≡ None → place_after edit n ≡ Some m → slice_get (edited text edit) m ≡ slice_get text n
once text edit n m may place =
    let range = in_range text edit (allowed text edit may) in
    stays_once text edit (edit.from - 1) n m (omega (arith, range.0)) (omega (arith, range.0, range.1)) place

through : (text left : List (List ℕ)) (edit : LineEdit) (n m : ℕ) (o : Option ℕ) → edit_refusal left edit ≡ None → option_and_then (place_after edit) o ≡ Some m → ((i : ℕ) → o ≡ Some i → slice_get left i ≡ slice_get text n) → slice_get (edited left edit) m ≡ slice_get text n
through text left edit n m None may place before = let none : None ≡ Some m = place in absurd cc
through text left edit n m (Some i) may place before = once left edit i m may place ∙ before i refl

pub stay : (settings : Settings) (text : List (List ℕ)) (edits : List LineEdit) (n m : ℕ) → AreMends settings text edits → place_after_all edits n ≡ Some m → slice_get (after edits text) m ≡ slice_get text n
stay settings text [] n m mends place = let same : n ≡ m = cc in ap (slice_get text) (sym same)
stay settings text (edit ∷ edits) n m mends place =
    through text (after edits text) edit n m (place_after_all edits n) mends.1 place (λ i e. stay settings text edits n i mends.2 e)
