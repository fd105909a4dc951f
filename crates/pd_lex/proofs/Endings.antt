-- The end of what was opened: in a line, or in the lines after it; and what is left after it is the last part of the text.
use Rattle.std.proofs.Common.{◌≡◌, ℕ, suc, ◌≤◌, Bool, true, false, ◌&&◌, cond, eqb, List, [], ◌∷◌, ◌++◌, length, drop, Option, Some, None, refl, arith}
use Rattle.pd_lex.specs.declared.scan.Opener.{Opener}
use Rattle.pd_lex.specs.declared.scan.Opener.TheVariants.{Comment, Quote, Backquote, Brace}
use Rattle.pd_lex.specs.Pieces.{find_rest_after_octet_pair, rest_after_unescaped_quote, rest_after_backquote, rest_after_closing}

pub and-false : (t : Bool) → (t && false) ≡ false
and-false true = refl
and-false false = refl

-- a search that ends here, or goes on: within a line, past its end, and what it leaves
choice_in_line : (t : Bool) (a r more : List ℕ) (o o' : Option (List ℕ)) → cond t (Some a) o ≡ Some r → (o ≡ Some r → o' ≡ Some (r ++ 10 ∷ more)) → cond t (Some (a ++ 10 ∷ more)) o' ≡ Some (r ++ 10 ∷ more)
choice_in_line true a r more o o' e h = cc
choice_in_line false a r more o o' e h = h e

choice_past_line : (t : Bool) (a b : List ℕ) (o o' o2 : Option (List ℕ)) → cond t (Some a) o ≡ None → (o ≡ None → o' ≡ o2) → cond t (Some b) o' ≡ o2
choice_past_line true a b o o' o2 e h = absurd cc
choice_past_line false a b o o' o2 e h = h e

-- the last part of a list
abbrev pub IsSuffix : List ℕ → List ℕ → Type 0
IsSuffix s r = (k : ℕ) × (k ≤ length s) × (r ≡ drop k s)

choice_suffix : (t : Bool) (a r whole : List ℕ) (o : Option (List ℕ)) (n : ℕ) → cond t (Some a) o ≡ Some r → a ≡ drop n whole → n ≤ length whole → (o ≡ Some r → IsSuffix whole r) → IsSuffix whole r
choice_suffix true a r whole o n e same le h = (n, le, cc)
choice_suffix false a r whole o n e same le h = h e

IsSuffix-more : (b : ℕ) (s r : List ℕ) → IsSuffix s r → IsSuffix (b ∷ s) r
IsSuffix-more b s r h = (suc h.0, omega (arith, h.1), h.2)

-- two octets
not_at_end : (x b : ℕ) (r : List ℕ) → cond (eqb x b && false) (Some []) None ≡ Some r → ⊥
not_at_end x b r e = let g = rw and-false at e in cc

pub pair_in_line : (x y : ℕ) (s more r : List ℕ) → find_rest_after_octet_pair x y s ≡ Some r → find_rest_after_octet_pair x y (s ++ 10 ∷ more) ≡ Some (r ++ 10 ∷ more)
pair_in_line x y [] more r e = absurd cc
pair_in_line x y (b ∷ []) more r e = absurd (not_at_end x b r e)
pair_in_line x y (b ∷ c ∷ s) more r e = choice_in_line (eqb x b && (eqb y c && true)) s r more _ _ e (pair_in_line x y (c ∷ s) more r)

pub pair_past_line : (x y : ℕ) (s more : List ℕ) → eqb x 10 ≡ false → eqb y 10 ≡ false → find_rest_after_octet_pair x y s ≡ None → find_rest_after_octet_pair x y (s ++ 10 ∷ more) ≡ find_rest_after_octet_pair x y more
pair_past_line x y [] more hx hy e = rw hx refl
pair_past_line x y (b ∷ []) more hx hy e = rw (hy, and-false, hx) refl
pair_past_line x y (b ∷ c ∷ s) more hx hy e = choice_past_line (eqb x b && (eqb y c && true)) s (s ++ 10 ∷ more) _ _ _ e (pair_past_line x y (c ∷ s) more hx hy)

pub pair_suffix : (x y : ℕ) (s r : List ℕ) → find_rest_after_octet_pair x y s ≡ Some r → IsSuffix s r
pair_suffix x y [] r e = absurd cc
pair_suffix x y (b ∷ []) r e = absurd (not_at_end x b r e)
pair_suffix x y (b ∷ c ∷ s) r e = choice_suffix (eqb x b && (eqb y c && true)) s r (b ∷ c ∷ s) _ 2 e refl (omega arith) (λ h. IsSuffix-more b (c ∷ s) r (pair_suffix x y (c ∷ s) r h))

-- a backquote
pub backquote_in_line : (s more r : List ℕ) → rest_after_backquote s ≡ Some r → rest_after_backquote (s ++ 10 ∷ more) ≡ Some (r ++ 10 ∷ more)
backquote_in_line [] more r e = absurd cc
backquote_in_line (b ∷ s) more r e = choice_in_line (eqb b 96) s r more _ _ e (backquote_in_line s more r)

pub backquote_past_line : (s more : List ℕ) → rest_after_backquote s ≡ None → rest_after_backquote (s ++ 10 ∷ more) ≡ rest_after_backquote more
backquote_past_line [] more e = refl
backquote_past_line (b ∷ s) more e = choice_past_line (eqb b 96) s (s ++ 10 ∷ more) _ _ _ e (backquote_past_line s more)

pub backquote_suffix : (s r : List ℕ) → rest_after_backquote s ≡ Some r → IsSuffix s r
backquote_suffix [] r e = absurd cc
backquote_suffix (b ∷ s) r e = choice_suffix (eqb b 96) s r (b ∷ s) _ 1 e refl (omega arith) (λ h. IsSuffix-more b s r (backquote_suffix s r h))

-- a `"` that no backslash takes
pub quote_in_line : (s more r : List ℕ) → rest_after_unescaped_quote s ≡ Some r → rest_after_unescaped_quote (s ++ 10 ∷ more) ≡ Some (r ++ 10 ∷ more)
quote_in_line [] more r e = absurd cc
quote_in_line (b ∷ []) more r e = choice_in_line (eqb b 34) [] r more _ _ e (λ h. absurd cc)
quote_in_line (b ∷ c ∷ s) more r e = choice_in_line (eqb b 34) (c ∷ s) r more _ _ e (quote_goes_on (eqb b 92) s (c ∷ s) more r (quote_in_line s more r) (quote_in_line (c ∷ s) more r))
  where
    quote_goes_on : (t : Bool) (s s' more r : List ℕ) → (rest_after_unescaped_quote s ≡ Some r → rest_after_unescaped_quote (s ++ 10 ∷ more) ≡ Some (r ++ 10 ∷ more)) → (rest_after_unescaped_quote s' ≡ Some r → rest_after_unescaped_quote (s' ++ 10 ∷ more) ≡ Some (r ++ 10 ∷ more)) → cond t (rest_after_unescaped_quote s) (rest_after_unescaped_quote s') ≡ Some r → cond t (rest_after_unescaped_quote (s ++ 10 ∷ more)) (rest_after_unescaped_quote (s' ++ 10 ∷ more)) ≡ Some (r ++ 10 ∷ more)
    quote_goes_on true s s' more r h h' e = h e
    quote_goes_on false s s' more r h h' e = h' e

newline_passed : (more : List ℕ) → rest_after_unescaped_quote (10 ∷ more) ≡ rest_after_unescaped_quote more
newline_passed [] = refl
newline_passed (c ∷ more) = refl

pub quote_past_line : (s more : List ℕ) → rest_after_unescaped_quote s ≡ None → rest_after_unescaped_quote (s ++ 10 ∷ more) ≡ rest_after_unescaped_quote more
quote_past_line [] more e = newline_passed more
quote_past_line (b ∷ []) more e = choice_past_line (eqb b 34) [] (10 ∷ more) _ _ _ e (λ h. quote_at_end (eqb b 92) more)
  where
    quote_at_end : (t : Bool) (more : List ℕ) → cond t (rest_after_unescaped_quote more) (rest_after_unescaped_quote (10 ∷ more)) ≡ rest_after_unescaped_quote more
    quote_at_end true more = refl
    quote_at_end false more = newline_passed more
quote_past_line (b ∷ c ∷ s) more e = choice_past_line (eqb b 34) (c ∷ s) (c ∷ s ++ 10 ∷ more) _ _ _ e (quote_goes_past (eqb b 92) s (c ∷ s) more (quote_past_line s more) (quote_past_line (c ∷ s) more))
  where
    quote_goes_past : (t : Bool) (s s' more : List ℕ) → (rest_after_unescaped_quote s ≡ None → rest_after_unescaped_quote (s ++ 10 ∷ more) ≡ rest_after_unescaped_quote more) → (rest_after_unescaped_quote s' ≡ None → rest_after_unescaped_quote (s' ++ 10 ∷ more) ≡ rest_after_unescaped_quote more) → cond t (rest_after_unescaped_quote s) (rest_after_unescaped_quote s') ≡ None → cond t (rest_after_unescaped_quote (s ++ 10 ∷ more)) (rest_after_unescaped_quote (s' ++ 10 ∷ more)) ≡ rest_after_unescaped_quote more
    quote_goes_past true s s' more h h' e = h e
    quote_goes_past false s s' more h h' e = h' e

pub quote_suffix : (s r : List ℕ) → rest_after_unescaped_quote s ≡ Some r → IsSuffix s r
quote_suffix [] r e = absurd cc
quote_suffix (b ∷ []) r e = choice_suffix (eqb b 34) [] r (b ∷ []) _ 1 e refl (omega arith) (λ h. absurd cc)
quote_suffix (b ∷ c ∷ s) r e = choice_suffix (eqb b 34) (c ∷ s) r (b ∷ c ∷ s) _ 1 e refl (omega arith) (quote_leaves (eqb b 92) b c s r (quote_suffix s r) (quote_suffix (c ∷ s) r))
  where
    quote_leaves : (t : Bool) (b c : ℕ) (s r : List ℕ) → (rest_after_unescaped_quote s ≡ Some r → IsSuffix s r) → (rest_after_unescaped_quote (c ∷ s) ≡ Some r → IsSuffix (c ∷ s) r) → cond t (rest_after_unescaped_quote s) (rest_after_unescaped_quote (c ∷ s)) ≡ Some r → IsSuffix (b ∷ c ∷ s) r
    quote_leaves true b c s r h h' e = IsSuffix-more b (c ∷ s) r (IsSuffix-more c s r (h e))
    quote_leaves false b c s r h h' e = IsSuffix-more b (c ∷ s) r (h' e)

-- all four
pub end_in_line : (o : Opener) (s more r : List ℕ) → rest_after_closing o s ≡ Some r → rest_after_closing o (s ++ 10 ∷ more) ≡ Some (r ++ 10 ∷ more)
end_in_line Comment s more r e = pair_in_line 42 47 s more r e
end_in_line Quote s more r e = quote_in_line s more r e
end_in_line Backquote s more r e = backquote_in_line s more r e
end_in_line Brace s more r e = pair_in_line 125 37 s more r e

pub end_past_line : (o : Opener) (s more : List ℕ) → rest_after_closing o s ≡ None → rest_after_closing o (s ++ 10 ∷ more) ≡ rest_after_closing o more
end_past_line Comment s more e = pair_past_line 42 47 s more refl refl e
end_past_line Quote s more e = quote_past_line s more e
end_past_line Backquote s more e = backquote_past_line s more e
end_past_line Brace s more e = pair_past_line 125 37 s more refl refl e

pub end_suffix : (o : Opener) (s r : List ℕ) → rest_after_closing o s ≡ Some r → IsSuffix s r
end_suffix Comment s r e = pair_suffix 42 47 s r e
end_suffix Quote s r e = quote_suffix s r e
end_suffix Backquote s r e = backquote_suffix s r e
end_suffix Brace s r e = pair_suffix 125 37 s r e

pub end_of_nothing : (o : Opener) → rest_after_closing o [] ≡ None
end_of_nothing Comment = refl
end_of_nothing Quote = refl
end_of_nothing Backquote = refl
end_of_nothing Brace = refl
