-- The lines that are gathered of an input.
use Rattle.std.proofs.Common.{◌≡◌, ℕ, ◌+◌, ◌<◌, ◌≤◌, ◌&&◌, nat_le, Bool, true, false, not, List, [], ◌∷◌, ◌++◌, length, Option, Some, None, option_and_then, refl, sym, ap, ◌∙◌, arith, cond, append_assoc, append-nil, length-append}
use Rattle.std.specs.Str.Lines.{lines, strip_carriage_return}
use Rattle.std.specs.Io.KnownBytes.{prepend_known}
use Rattle.std.proofs.lemmas.List.Sums.{sum_by-append}
use Rattle.std.proofs.lemmas.Bool.Decides.{nat_tests}
use Rattle.pd_text.specs.Text.{fits_text}
use Rattle.pd_layout.specs.Traces.{is_single_trace_line}
use Rattle.pd_protocol.specs.Commands.{fitted}
use Rattle.pd_protocol.specs.Input.{IfKnown, to_come}
use Rattle.pd_protocol.specs.LinePieces.{CutsPiece}
use Rattle.pd_protocol.proofs.BuildText.{known_at_hand}
use Rattle.pd_protocol.proofs.Known.{known_map}
use Rattle.pdrecord.specs.ScriptInput.{is_trace_line, script_in, without_trace}
use Rattle.pdrecord.specs.Inner.{Gathers, with_line}

-- one line more

fits_more : (texts : List (List ℕ)) (line : List ℕ) → fits_text texts ≡ false → fits_text (texts ++ line ∷ []) ≡ false
fits_more texts line h = grind (arith, nat_tests, length-append texts (line ∷ []), sum_by-append (λ (l : List ℕ). length l + 1) texts (line ∷ []))

fitted_more : (texts : List (List ℕ)) (line : List ℕ) → option_and_then (λ t. fitted (t ++ line ∷ [])) (fitted texts) ≡ fitted (texts ++ line ∷ [])
fitted_more texts line = go (fits_text texts) refl
  where
    go : (b : Bool) → fits_text texts ≡ b → option_and_then (λ t. fitted (t ++ line ∷ [])) (cond b (Some texts) None) ≡ fitted (texts ++ line ∷ [])
    go true e = refl
    go false e = sym (ap (λ (b : Bool). cond b (Some (texts ++ line ∷ [])) None) (fits_more texts line e))

long_text : (texts : List (List ℕ)) (line : List ℕ) → 65536 < length line → fits_text (texts ++ line ∷ []) ≡ false
long_text texts line h = grind (arith, nat_tests, h, length-append texts (line ∷ []), sum_by-append (λ (l : List ℕ). length l + 1) texts (line ∷ []))

-- the lines that were gathered are those kept so far
abbrev pub SoFar : Option (List (List ℕ)) → List ℕ → List ℕ → Type 0
SoFar text_builder old new = (texts : List (List ℕ)) × (text_builder ≡ fitted texts) × (without_trace (lines old) ≡ texts ++ without_trace (lines new))

pub so_first : (g : Option (List (List ℕ))) (x : List ℕ) → g ≡ Some [] → SoFar g x x
so_first g x e = ([], e, refl)

keep_or_drop : (line : List ℕ) (rest : List (List ℕ)) (b : Bool) → is_trace_line line ≡ b → without_trace (line ∷ rest) ≡ cond (not b) (line ∷ without_trace rest) (without_trace rest)
keep_or_drop line rest b e = ap (λ (b : Bool). cond (not b) (line ∷ without_trace rest) (without_trace rest)) e

add_or_drop : (line : List ℕ) (g : Option (List (List ℕ))) (b : Bool) → is_trace_line line ≡ b → with_line line g ≡ cond b g (option_and_then (λ texts. fitted (texts ++ line ∷ [])) g)
add_or_drop line g b e = ap (λ (b : Bool). cond b g (option_and_then (λ texts. fitted (texts ++ line ∷ [])) g)) e

pub so_more : (g h : Option (List (List ℕ))) (x y z : List ℕ) → SoFar g x y → Gathers true g h y z → SoFar h x z
so_more g h x y z s t = go (is_trace_line t.0) refl
  where
    go : (b : Bool) → is_trace_line t.0 ≡ b → SoFar h x z
    go true e = (s.0, t.2 ∙ (add_or_drop t.0 g true e ∙ s.1), s.2 ∙ ap (λ (l : List (List ℕ)). s.0 ++ l) (ap without_trace t.1 ∙ keep_or_drop t.0 (lines z) true e))
    go false e = (
      s.0 ++ t.0 ∷ [],
      t.2 ∙ (add_or_drop t.0 g false e ∙ (ap (λ (o : Option (List (List ℕ))). option_and_then (λ texts. fitted (texts ++ t.0 ∷ [])) o) s.1 ∙ fitted_more s.0 t.0)),
      s.2 ∙ (ap (λ (l : List (List ℕ)). s.0 ++ l) (ap without_trace t.1 ∙ keep_or_drop t.0 (lines z) false e) ∙ sym (append_assoc s.0 (t.0 ∷ []) (without_trace (lines z)))),
    )

pub so_last : (g h : Option (List (List ℕ))) (x y z : List ℕ) → SoFar g x y → Gathers false g h y z → h ≡ script_in x
so_last g h x y z s t =
    let all : without_trace (lines x) ≡ s.0 = s.2 ∙ (ap (λ (l : List (List ℕ)). s.0 ++ without_trace l) t.0 ∙ append-nil s.0) in
    t.1 ∙ (s.1 ∙ ap fitted (sym all))

pub fitted_again : (ls : List (List ℕ)) → option_and_then fitted (fitted ls) ≡ fitted ls
fitted_again ls = go (fits_text ls) refl
  where
    go : (b : Bool) → fits_text ls ≡ b → option_and_then fitted (cond b (Some ls) None) ≡ cond b (Some ls) None
    go true e = ap (λ (b : Bool). cond b (Some ls) None) e
    go false e = refl

-- before the first line
pub so_begin : (g : Option (List (List ℕ))) (line_reader : List ℕ × ℕ) (all : Option (List ℕ)) → g ≡ Some [] → line_reader ≡ ([], 1048576) → IfKnown (SoFar g) all (to_come line_reader all)
so_begin g line_reader None e f = tt
so_begin g line_reader (Some x) e f = rw f (so_first g x e)

-- the text of all lines
pub so_text : (g h text : Option (List (List ℕ))) (x y z : List ℕ) → text ≡ option_and_then fitted h → SoFar g x y → Gathers false g h y z → text ≡ script_in x
so_text g h text x y z e s t = e ∙ (ap (λ (o : Option (List (List ℕ))). option_and_then fitted o) (so_last g h x y z s t) ∙ fitted_again (without_trace (lines x)))

-- the state after one line

pub gathers_whole : (g h : Option (List (List ℕ))) (line x y : List ℕ) → h ≡ with_line line g → (lines x ≡ line ∷ lines y) × (length line ≤ 65536) → Gathers true g h x y
gathers_whole g h line x y e t = (line, t.0, e)

pub gathers_at_hand : (g h : Option (List (List ℕ))) (line old new : List ℕ) (left : Option (List ℕ)) → h ≡ with_line (strip_carriage_return line) g → CutsPiece line true old new → IfKnown (Gathers true g h) (prepend_known old left) (prepend_known new left)
gathers_at_hand g h line old new left e cut = known_map (λ x y. lines x ≡ strip_carriage_return line ∷ lines y) (Gathers true g h) (prepend_known old left) (prepend_known new left) (λ x y t. (strip_carriage_return line, t, e)) (known_at_hand line old new left cut)

not_dropped : (line : List ℕ) → 65536 < length line → is_trace_line line ≡ false
not_dropped line h = let e : nat_le (length line) 65536 ≡ false = grind (arith, nat_tests, h) in ap (λ (b : Bool). b && is_single_trace_line line) e

no_long : (g : Option (List (List ℕ))) (line : List ℕ) → 65536 < length line → option_and_then (λ texts. fitted (texts ++ line ∷ [])) g ≡ None
no_long None line h = refl
no_long (Some texts) line h = ap (λ (b : Bool). cond b (Some (texts ++ line ∷ [])) None) (long_text texts line h)

pub gathers_long : (g h : Option (List (List ℕ))) (x y : List ℕ) → h ≡ None → (line : List ℕ) × (lines x ≡ line ∷ lines y) × (65536 < length line) → Gathers true g h x y
gathers_long g h x y e t = (t.0, t.1, e ∙ sym (add_or_drop t.0 g false (not_dropped t.0 t.2) ∙ no_long g t.0 t.2))
