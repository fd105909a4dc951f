-- The acts noted with a number, seen from either end.
use Rattle.std.proofs.Common.{◌≡◌, ℕ, ◌==◌, Bool, true, false, List, [], ◌∷◌, ◌++◌, length, reverse, refl, sym, ap, ◌∙◌, arith}
use Rattle.std.specs.Prelude.{◌↔◌, if◌then◌else◌, All}
use Rattle.std.proofs.Common.{append-nil, subst}
use Rattle.std.proofs.lemmas.List.{reverse-append, reverse-reverse, length-reverse}
use Rattle.std.proofs.lemmas.List.Sorted.{All-permutation, IsPermutation-reverse}
use Rattle.pd_book.specs.declared.act.Act.{Act}
use Rattle.pd_seat.specs.Seats.{made_by}

-- one act more at the other end
made_by-push : (n : ℕ) (notes : List ℕ) (acts : List Act) (note : ℕ) (act : Act) → length notes ≡ length acts
    → made_by n (notes ++ note ∷ []) (acts ++ act ∷ []) ≡ made_by n notes acts ++ made_by n (note ∷ []) (act ∷ [])
made_by-push n [] [] note act e = refl
made_by-push n [] (x ∷ acts) note act e = absurd (omega (arith, e))
made_by-push n (y ∷ notes) [] note act e = absurd (omega (arith, e))
made_by-push n (y ∷ notes) (x ∷ acts) note act e = step (y == n) (made_by-push n notes acts note act (omega (arith, e)))
  where
    whole : List Act
    whole = made_by n (notes ++ note ∷ []) (acts ++ act ∷ [])

    last : List Act
    last = made_by n (note ∷ []) (act ∷ [])

    step : (b : Bool) → whole ≡ made_by n notes acts ++ last → (if b then x ∷ whole else whole) ≡ (if b then x ∷ made_by n notes acts else made_by n notes acts) ++ last
    step true rest = ap (λ l. x ∷ l) rest
    step false rest = rest

-- the acts noted with a number, the other way round
made_by-reverse : (n : ℕ) (notes : List ℕ) (acts : List Act) → length notes ≡ length acts → made_by n (reverse notes) (reverse acts) ≡ reverse (made_by n notes acts)
made_by-reverse n [] [] e = refl
made_by-reverse n [] (x ∷ acts) e = absurd (omega (arith, e))
made_by-reverse n (y ∷ notes) [] e = absurd (omega (arith, e))
made_by-reverse n (y ∷ notes) (x ∷ acts) e =
    let turned_notes : reverse (y ∷ notes) ≡ reverse notes ++ y ∷ [] = reverse-append (y ∷ []) notes in
    let turned_acts : reverse (x ∷ acts) ≡ reverse acts ++ x ∷ [] = reverse-append (x ∷ []) acts in
    let short : length notes ≡ length acts = omega (arith, e) in
    let long : length (reverse notes) ≡ length (reverse acts) = length-reverse notes ∙ (short ∙ sym (length-reverse acts)) in
    ap (λ l. made_by n l (reverse (x ∷ acts))) turned_notes
    ∙ (ap (λ l. made_by n (reverse notes ++ y ∷ []) l) turned_acts
    ∙ (made_by-push n (reverse notes) (reverse acts) y x long
    ∙ (ap (λ l. l ++ made_by n (y ∷ []) (x ∷ [])) (made_by-reverse n notes acts short) ∙ step (y == n))))
  where
    rest : List Act
    rest = made_by n notes acts

    step : (b : Bool) → reverse rest ++ (if b then x ∷ [] else []) ≡ reverse (if b then x ∷ rest else rest)
    step true = sym (reverse-append (x ∷ []) rest)
    step false = append-nil (reverse rest)

-- the acts noted with a number are a list exactly where they are so the other way round
pub made_by_turned : (n : ℕ) (notes : List ℕ) (acts own turned : List Act) → length notes ≡ length acts → turned ≡ reverse own
    → (made_by n notes acts ≡ own) ↔ (made_by n (reverse notes) (reverse acts) ≡ turned)
made_by_turned n notes acts own turned e f =
    let back = made_by-reverse n notes acts e in (
      λ h. back ∙ (ap reverse h ∙ sym f),
      λ h. sym (reverse-reverse (made_by n notes acts)) ∙ (ap reverse (sym back ∙ (h ∙ f)) ∙ reverse-reverse own),
    )

-- what holds of each element holds of each the other way round
pub all_turned : (P : ℕ → Type 0) (notes : List ℕ) → All P notes ↔ All P (reverse notes)
all_turned P notes = (
  λ h. All-permutation P notes (reverse notes) (IsPermutation-reverse notes) h,
  λ h. subst (λ (l : List ℕ). All P l) (reverse-reverse notes) (All-permutation P (reverse notes) (reverse (reverse notes)) (IsPermutation-reverse (reverse notes)) h),
)
