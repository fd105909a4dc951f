-- Where the items of blocks stand.
use Rattle.std.proofs.Common.{◌≡◌, ◌∙◌, ℕ, zero, suc, ◌+◌, ◌<◌, ◌≤◌, List, [], ◌∷◌, ◌++◌, length, take, get_or, slice_get, None, Some, refl, sym, ap, arith, append_assoc}
use Rattle.std.proofs.lemmas.List.{get_or_append_left, get_or-append-add, take-append-le, append-nil}
use Rattle.std.proofs.lemmas.List.Concat.{flat_map-append}
use Rattle.std.proofs.Math.Seq.{take-append-add, take-length}
use Rattle.pd_reparse.specs.SharedBlocks.{items_in}

-- what is at an index is the same, whatever else would be given after the end
pub default_other : {X : Type 0} (i : ℕ) (xs : List X) (d x : X) → i < length xs → x ≡ get_or xs i x → get_or xs i d ≡ x
default_other i [] d x k e = absurd (omega (arith, k))
default_other zero (y ∷ ys) d x k e = sym e
default_other (suc i) (y ∷ ys) d x k e = default_other i ys d x (omega (arith, k)) e

-- one block more
pub items_more : {X : Type 0} (bs : List (List X)) (b : List X) → items_in (bs ++ b ∷ []) ≡ items_in bs ++ b
items_more bs b =
    flat_map-append (λ block. block) bs (b ∷ []) ∙ ap (λ l. items_in bs ++ l) (append-nil b)

-- the items of a block follow those of the blocks before
parted : {X : Type 0} (i : ℕ) (bs : List (List X)) (b : List X) → i < length bs → b ≡ get_or bs i b → (after : List X) × (items_in bs ≡ items_in (take i bs) ++ (b ++ after))
parted i [] b k eb = absurd (omega (arith, k))
parted zero (c ∷ cs) b k eb = (items_in cs, ap (λ y. y ++ items_in cs) (sym eb))
parted (suc i) (c ∷ cs) b k eb =
    let others = parted i cs b (omega (arith, k)) eb in
    (others.0, ap (λ l. c ++ l) others.1 ∙ sym (append_assoc c (items_in (take i cs)) (b ++ others.0)))

-- all that stands, from that block on
whole : {X : Type 0} (i : ℕ) (bs : List (List X)) (rest b : List X) → i < length bs → b ≡ get_or bs i b → (after : List X) × (items_in bs ++ rest ≡ items_in (take i bs) ++ (b ++ after))
whole i bs rest b k eb =
    let p = parted i bs b k eb in
    let front = items_in (take i bs) in
    (p.0 ++ rest, ap (λ l. l ++ rest) p.1 ∙ append_assoc front (b ++ p.0) rest ∙ ap (λ l. front ++ l) (append_assoc b p.0 rest))

pub at_in_block : {X : Type 0} (i j : ℕ) (bs : List (List X)) (rest b : List X) (x : X) → i < length bs → j < length b → b ≡ get_or bs i b → get_or (items_in bs ++ rest) (length (items_in (take i bs)) + j) x ≡ get_or b j x
at_in_block i j bs rest b x k l eb =
    let w = whole i bs rest b k eb in
    let front = items_in (take i bs) in
    ap (λ ys. get_or ys (length front + j) x) w.1 ∙ get_or-append-add front (b ++ w.0) j x ∙ get_or_append_left b w.0 x j l

pub first_in_block : {X : Type 0} (i j : ℕ) (bs : List (List X)) (rest b : List X) → i < length bs → j ≤ length b → b ≡ get_or bs i b → take (length (items_in (take i bs)) + j) (items_in bs ++ rest) ≡ items_in (take i bs) ++ take j b
first_in_block i j bs rest b k l eb =
    let w = whole i bs rest b k eb in
    let front = items_in (take i bs) in
    ap (λ ys. take (length front + j) ys) w.1 ∙ take-append-add front (b ++ w.0) j ∙ ap (λ ys. front ++ ys) (take-append-le j b w.0 l)

-- all blocks
pub at_after : {X : Type 0} (i j : ℕ) (bs : List (List X)) (rest : List X) (x : X) → i ≡ length bs → get_or (items_in bs ++ rest) (length (items_in (take i bs)) + j) x ≡ get_or rest j x
at_after i j bs rest x e =
    let all : take i bs ≡ bs = ap (λ n. take n bs) e ∙ take-length bs in
    ap (λ ys. get_or (items_in bs ++ rest) (length (items_in ys) + j) x) all ∙ get_or-append-add (items_in bs) rest j x

pub first_after : {X : Type 0} (i j : ℕ) (bs : List (List X)) (rest : List X) → i ≡ length bs → take (length (items_in (take i bs)) + j) (items_in bs ++ rest) ≡ items_in (take i bs) ++ take j rest
first_after i j bs rest e =
    let all : take i bs ≡ bs = ap (λ n. take n bs) e ∙ take-length bs in
    ap (λ ys. take (length (items_in ys) + j) (items_in bs ++ rest)) all ∙ take-append-add (items_in bs) rest j ∙ ap (λ ys. items_in ys ++ take j rest) (sym all)

-- what is at an index is found there
pub found_at : {X : Type 0} (index : ℕ) (xs : List X) (x : X) → index < length xs → x ≡ get_or xs index x → slice_get xs index ≡ Some x
found_at index [] x k e = absurd (omega (arith, k))
found_at zero (y ∷ ys) x k e = ap (λ z. Some z) (sym e)
found_at (suc index) (y ∷ ys) x k e = found_at index ys x (omega (arith, k)) e

pub none_after : {X : Type 0} (index : ℕ) (xs : List X) → length xs ≤ index → slice_get xs index ≡ None
none_after index [] k = refl
none_after zero (x ∷ xs) k = absurd (omega (arith, k))
none_after (suc index) (x ∷ xs) k = none_after index xs (omega (arith, k))
