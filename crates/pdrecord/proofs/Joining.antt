-- The lines of a recording, one after another.
use Rattle.std.proofs.Common.{◌≡◌, ℕ, ◌+◌, ◌-◌, ◌<◌, nat_le, length, Option, Some, None, unwrap_or, get_or, if◌then◌else◌, Bor, arith, Bool, true, false, not, inl, inr, List, [], ◌∷◌, ◌++◌, take, refl, sym, ap, subst, ◌∙◌, append-nil, cond}
use Rattle.std.proofs.lemmas.List.{flat_map_more}
use Rattle.std.proofs.lemmas.Bool.Decides.{nat_tests}
use Rattle.std.proofs.lemmas.Option.{slice_get-get_or}
use Rattle.std.proofs.Math.Seq.{take-suc}
use native.Mathlib.Numerals.{unary_clauses}
use Rattle.std.specs.List.{slice_get}
use Rattle.std.specs.Option.{option_copied}
use Rattle.std.proofs.lemmas.List.Elements.{filter-append}
use Rattle.pdrecord.specs.ScriptInput.{is_trace_line, without_trace}
use Rattle.pdrecord.specs.Written.{IsWritten, joined}
use Rattle.pdrecord.specs.Inner.{GoesOn}

joined_more : (lines : List (List ℕ)) (line : List ℕ) → joined lines ++ (line ++ 10 ∷ []) ≡ joined (lines ++ line ∷ [])
joined_more lines line = flat_map_more (λ (l : List ℕ). l ++ 10 ∷ []) [] lines line

kept_more : (lines : List (List ℕ)) (line : List ℕ) (b : Bool) → is_trace_line line ≡ b → without_trace (lines ++ line ∷ []) ≡ without_trace lines ++ cond (not b) (line ∷ []) []
kept_more lines line b e = filter-append (λ (l : List ℕ). not (is_trace_line l)) lines (line ∷ []) ∙ ap (λ (b : Bool). without_trace lines ++ cond (not b) (line ∷ []) []) e

-- nothing is written of no line
pub written_first : (tr : Bool) (out : List ℕ) → out ≡ [] → IsWritten tr [] out
written_first tr out e = ([], e, refl, λ f. refl)

written_line : (tr : Bool) (text : List (List ℕ)) (out new line : List ℕ) → IsWritten tr text out → is_trace_line line ≡ false → new ≡ out ++ (line ++ 10 ∷ []) → IsWritten tr (text ++ line ∷ []) new
written_line tr text out new line w d e = (
  w.0 ++ line ∷ [],
  e ∙ (ap (λ (o : List ℕ). o ++ (line ++ 10 ∷ [])) w.1 ∙ joined_more w.0 line),
  kept_more w.0 line false d ∙ ap (λ (l : List (List ℕ)). l ++ line ∷ []) w.2,
  λ f. ap (λ (l : List (List ℕ)). l ++ line ∷ []) (w.3 f),
)

not_both : (tr : Bool) {A : Type 0} → tr ≡ true → tr ≡ false → A
not_both tr e f = cc

written_on : (tr : Bool) (text : List (List ℕ)) (out new : List ℕ) → IsWritten tr text out → GoesOn tr out new → IsWritten tr text new
written_on tr text out new w (inl e) = (w.0, e ∙ w.1, w.2, w.3)
written_on tr text out new w (inr g) = (
  w.0 ++ g.1.0 ∷ [],
  g.1.2 ∙ (ap (λ (o : List ℕ). o ++ (g.1.0 ++ 10 ∷ [])) w.1 ∙ joined_more w.0 g.1.0),
  kept_more w.0 g.1.0 true g.1.1 ∙ (append-nil (without_trace w.0) ∙ w.2),
  λ f. not_both tr g.0 f,
)

-- a line, and what a trace has after it
pub written_turn : (tr : Bool) (text more : List (List ℕ)) (out mid new line : List ℕ) → IsWritten tr text out → (is_trace_line line ≡ false) × (mid ≡ out ++ (line ++ 10 ∷ [])) → GoesOn tr mid new → more ≡ text ++ line ∷ [] → IsWritten tr more new
written_turn tr text more out mid new line w l g e = subst (λ (t : List (List ℕ)). IsWritten tr t new) (sym e) (written_on tr (text ++ line ∷ []) mid new (written_line tr text out mid line w l.0 l.1) g)

lent : (r : Option (Bor (List ℕ))) (d : Bor (List ℕ)) (x : List ℕ) → option_copied r ≡ Some x → (unwrap_or r d).now ≡ x
lent None d x e = cc
lent (Some s) d x e = ap (λ (o : Option (List ℕ)). unwrap_or o []) e

at_next : (lines : List (List ℕ)) (done : ℕ) → (if nat_le 1 (done + 1) then slice_get lines (done + 1 - 1) else None) ≡ slice_get lines done
at_next lines done = grind (arith, nat_tests)

-- the line after those that are written is the next of the text
pub next_line : (lines : List (List ℕ)) (done : ℕ) (r : Option (Bor (List ℕ))) (d : Bor (List ℕ)) → done < length lines → option_copied r ≡ (if nat_le 1 (done + 1) then slice_get lines (done + 1 - 1) else None) → take (done + 1) lines ≡ take done lines ++ (unwrap_or r d).now ∷ []
next_line lines done r d h e =
    let found = lent r d (get_or lines done []) (e ∙ (at_next lines done ∙ slice_get-get_or lines done [] h)) in
    simp unary_clauses (take-suc lines done [] h ∙ ap (λ (l : List ℕ). take done lines ++ l ∷ []) (sym found))
