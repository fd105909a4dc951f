-- A line that is read piece by piece.
use Rattle.std.proofs.Common.{◌≡◌, ℕ, ◌+◌, ◌≤◌, ◌<◌, List, [], ◌∷◌, ◌++◌, length, take, drop, Option, Some, None, append_assoc, ap, sym, ◌∙◌, refl, arith, true, false, suc, zero, append-nil, get_or, add-one, drop-cons, ◌==◌}
use Rattle.std.proofs.lemmas.List.{take-append-drop, get_or-take, length-take, get_or_default}
use Rattle.std.proofs.lemmas.List.Elements.{All-append}
use Rattle.std.specs.Io.KnownBytes.{Consumes, IsAtEnd, prepend_known}
use Rattle.pd_protocol.specs.Input.{IfKnown}
use Rattle.pd_protocol.specs.LinePieces.{NoNewline, Cuts, CutsPiece, KeepsLine}

-- the octets of a line so far, of which the first were kept
abbrev pub Front : ℕ → List ℕ → Option (List ℕ) → Option (List ℕ) → Type 0
Front cap kept old new = (line : List ℕ) × NoNewline line × (kept ≡ take cap line) × IfKnown (λ o n. o ≡ line ++ n) old new

pub take_take_append : (n : ℕ) (a b : List ℕ) → take n (take n a ++ b) ≡ take n (a ++ b)
take_take_append zero a b = refl
take_take_append (suc n) [] b = refl
take_take_append (suc n) (x ∷ a) b = ap (λ (l : List ℕ). x ∷ l) (take_take_append n a b)

pub no_newline_append : (a b : List ℕ) → NoNewline a → NoNewline b → NoNewline (a ++ b)
no_newline_append a b h k = All-append (λ x. (x == 10) ≡ false) a b h k

pub cut_at : (xs : List ℕ) (n : ℕ) → n < length xs → get_or xs n 0 ≡ 10 → xs ≡ take n xs ++ 10 ∷ drop (n + 1) xs
cut_at xs n h e = sym (take-append-drop n xs) ∙ ap (λ (l : List ℕ). take n xs ++ l) (drop-cons xs n 0 h ∙ rw (e, add-one) refl)

pub no_newline_take : (xs : List ℕ) (n : ℕ) → ((k : ℕ) → k < n → (get_or xs k 0 == 10) ≡ false) → n ≤ length xs → NoNewline (take n xs)
no_newline_take xs n h le k d lt =
    let lt2 : k < n = omega (arith, length-take n xs, lt) in
    let lt3 : k < length xs = omega arith in
    rw (get_or-take n xs k d lt2) (rw (get_or_default xs k d 0 lt3) (h k lt2))

known_more : (line piece more kept : List ℕ) (old all left : Option (List ℕ)) → IfKnown (λ o n. o ≡ line ++ n) old (prepend_known kept all) → kept ≡ piece → Consumes all left more → IfKnown (λ o n. o ≡ (line ++ piece) ++ n) old (prepend_known more left)
known_more line piece more kept None all left h e c = tt
known_more line piece more kept (Some o) None left h e c = absurd h
known_more line piece more kept (Some o) (Some r) None h e c = absurd c
known_more line piece more kept (Some o) (Some r) (Some q) h e c = h ∙ (ap (λ (k : List ℕ). line ++ (k ++ r)) e ∙ (ap (λ (k : List ℕ). line ++ (piece ++ k)) c ∙ sym (append_assoc line piece (more ++ q))))

known_cut : (line piece rest kept : List ℕ) (old all : Option (List ℕ)) → IfKnown (λ o n. o ≡ line ++ n) old (prepend_known kept all) → kept ≡ piece ++ 10 ∷ rest → IfKnown (Cuts (line ++ piece) true) old (prepend_known rest all)
known_cut line piece rest kept None all h e = tt
known_cut line piece rest kept (Some o) None h e = absurd h
known_cut line piece rest kept (Some o) (Some r) h e = h ∙ (ap (λ (k : List ℕ). line ++ (k ++ r)) e ∙ simp append_assoc)

known_end : (line piece kept rest : List ℕ) (old all left : Option (List ℕ)) → IfKnown (λ o n. o ≡ line ++ n) old (prepend_known kept all) → kept ≡ piece → Consumes all left rest → IsAtEnd left → rest ≡ [] → IfKnown (Cuts (line ++ piece) false) old (prepend_known rest left)
known_end line piece kept rest None all left h e c a z = tt
known_end line piece kept rest (Some o) None left h e c a z = absurd h
known_end line piece kept rest (Some o) (Some r) None h e c a z = absurd c
known_end line piece kept rest (Some o) (Some r) (Some q) h e c a z = (h ∙ (ap (λ (k : List ℕ). line ++ (k ++ r)) e ∙ (ap (λ (k : List ℕ). line ++ (piece ++ k)) (c ∙ (ap (λ (k : List ℕ). k ++ q) z ∙ a)) ∙ ap (λ (k : List ℕ). line ++ k) (append-nil piece))), ap (λ (k : List ℕ). k ++ q) z ∙ a)

pub front_more : (cap : ℕ) (kept new piece k k2 more : List ℕ) (old all left : Option (List ℕ)) → Front cap kept old (prepend_known k all) → CutsPiece piece false k k2 → new ≡ take cap (kept ++ piece) → Consumes all left more → Front cap new old (prepend_known more left)
front_more cap kept new piece k k2 more old all left f p n c =
    (f.0 ++ piece, no_newline_append f.0 piece f.1 p.0, n ∙ (ap (λ (l : List ℕ). take cap (l ++ piece)) f.2 ∙ take_take_append cap f.0 piece), known_more f.0 piece more k old all left f.3 p.1.0 c)

pub front_cut : (cap : ℕ) (kept new piece k more : List ℕ) (old all : Option (List ℕ)) → Front cap kept old (prepend_known k all) → CutsPiece piece true k more → new ≡ take cap (kept ++ piece) → KeepsLine cap new true old (prepend_known more all)
front_cut cap kept new piece k more old all f p n =
    (f.0 ++ piece, no_newline_append f.0 piece f.1 p.0, n ∙ (ap (λ (l : List ℕ). take cap (l ++ piece)) f.2 ∙ take_take_append cap f.0 piece), known_cut f.0 piece more k old all f.3 p.1)

pub front_end : (cap : ℕ) (kept new piece k k2 more : List ℕ) (old all left : Option (List ℕ)) → Front cap kept old (prepend_known k all) → CutsPiece piece false k k2 → new ≡ take cap (kept ++ piece) → Consumes all left more → IsAtEnd left → more ≡ [] → KeepsLine cap new false old (prepend_known more left)
front_end cap kept new piece k k2 more old all left f p n c a z =
    (f.0 ++ piece, no_newline_append f.0 piece f.1 p.0, n ∙ (ap (λ (l : List ℕ). take cap (l ++ piece)) f.2 ∙ take_take_append cap f.0 piece), known_end f.0 piece k more old all left f.3 p.1.0 c a z)
