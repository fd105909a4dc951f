-- The part before a token that ends in the equal first lines is equal too.
use Rattle.std.proofs.Common.{◌≡◌, ℕ, ◌≤◌, true, List, [], ◌∷◌, ◌++◌, refl, sym, ap, subst, ◌∙◌, arith, append_assoc}
use Rattle.std.specs.List.{list_all}
use Rattle.std.proofs.lemmas.List.Folds.{list_all-append}
use Rattle.pd_lex.specs.Tokens.{Lexeme, Item, lexeme, ending, bad}
use Rattle.pd_lex.specs.Agreement.{last_line, IsInOrder, AgreeTo}
use Rattle.pd_script.proofs.Apart.{is_lexeme}

-- tokens further on end no earlier
pub rises_to : (line last : ℕ) (front : List Item) (x : Lexeme) (rest : List Item) → list_all is_lexeme front ≡ true → IsInOrder line last (front ++ lexeme x ∷ rest) → (line ≤ x.from.line) × (line ≤ last_line x)
rises_to line last [] x rest all up = (up.0, omega (arith, up.0, up.2))
rises_to line last (lexeme a ∷ front) x rest all up =
    let h = rises_to (last_line a) last front x rest all up.4 in
    (omega (arith, up.0, up.2, h.0), omega (arith, up.0, up.2, h.1))
rises_to line last (ending n ∷ front) x rest all up = absurd cc
rises_to line last (bad n ∷ front) x rest all up = absurd cc

-- what follows some tokens, before a token that ends in the first lines
pub record Shared (same last : ℕ) (ys front back : List Item) : Type 0 where
  pub more : List Item
  pub parts : ys ≡ front ++ more
  pub agree : AgreeTo same back more
  pub line : ℕ
  pub rises : IsInOrder line last back

pub shared : (same line last : ℕ) (front : List Item) (middle : List Item) (x : Lexeme) (rest ys : List Item) → list_all is_lexeme front ≡ true → list_all is_lexeme middle ≡ true → last_line x ≤ same → IsInOrder line last (front ++ (middle ++ lexeme x ∷ rest)) → AgreeTo same (front ++ (middle ++ lexeme x ∷ rest)) ys → Shared same last ys front (middle ++ lexeme x ∷ rest)
shared same line last [] middle x rest ys all others le up agree = record { more = ys; parts = refl; agree = agree; line = line; rises = up }
shared same line last (lexeme a ∷ front) middle x rest ys all others le up agree =
    let whole : front ++ (middle ++ lexeme x ∷ rest) ≡ (front ++ middle) ++ lexeme x ∷ rest = sym (append_assoc front middle (lexeme x ∷ rest)) in
    let tokens : list_all is_lexeme (front ++ middle) ≡ true = rw (list_all-append is_lexeme front middle, all, others) refl in
    let up_to : last_line a ≤ last_line x = (rises_to (last_line a) last (front ++ middle) x rest tokens (subst (λ (l : List Item). IsInOrder (last_line a) last l) whole up.4)).1 in
    let h = agree (omega (arith, up_to, le)) in
    let S = shared same (last_line a) last front middle x rest h.0 all others le up.4 h.2 in
    record { more = S.more; parts = h.1 ∙ ap (λ (l : List Item). lexeme a ∷ l) S.parts; agree = S.agree; line = S.line; rises = S.rises }
shared same line last (ending n ∷ front) middle x rest ys all others le up agree = absurd cc
shared same line last (bad n ∷ front) middle x rest ys all others le up agree = absurd cc
