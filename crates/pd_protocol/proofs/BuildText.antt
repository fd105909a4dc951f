-- Lines and commands off the front of an input.
use Rattle.std.proofs.Common.{◌≡◌, ℕ, ◌+◌, ◌≤◌, ◌<◌, ◌==◌, nat_le, Bool, true, false, List, [], ◌∷◌, ◌++◌, length, take, drop, Option, Some, None, refl, sym, ap, ◌∙◌, arith, cond, suc, zero, append_assoc, if◌then◌else◌, option_and_then, length-append, subst, zero-add}
use Rattle.std.specs.Str.Lines.{lines, strip_carriage_return}
use Rattle.std.specs.Io.KnownBytes.{prepend_known}
use Rattle.std.proofs.lemmas.List.Sums.{sum_by-append}
use Rattle.std.proofs.lemmas.Bool.Decides.{nat_tests}
use Rattle.std.proofs.Math.Seq.{take-append_seam, drop-append_seam}
use Rattle.pd_text.specs.Text.{fits_text, octets_of, has_no_newline}
use Rattle.pd_protocol.specs.LinePieces.{NoNewline, CutsPiece}
use Rattle.pd_protocol.specs.Input.{IfKnown}
use Rattle.pd_protocol.specs.NextCommand.{is_empty_line, AddsLine, TakesLines, LinesFault, ParsesLine, HasCommandLine, Gives, FaultIn}
use Rattle.pd_protocol.specs.Commands.{InputItem, does, fitted, line_edit_if_lines_are_some, with_lines, items, commands}
use Rattle.pd_protocol.specs.declared.command_line.CommandLine.{CommandLine}
use Rattle.pd_protocol.specs.declared.command_line.CommandLine.TheVariants as asks
use Rattle.pd_protocol.specs.declared.command.Command.{Command}
use Rattle.pd_protocol.specs.declared.command.Command.TheVariants as made
use Rattle.pd_protocol.specs.declared.faults.ServeFault.{ServeFault}
use Rattle.pd_protocol.specs.declared.faults.ServeFault.TheVariants.{HistoryFull, NoWorkers, Differs, BadCommand, Truncated, Read, Write, OutOfMemory}
use Rattle.pd_protocol.proofs.Cuts.{lines_cut}
use Rattle.pd_protocol.proofs.Known.{known_map}

-- lines

pub is_line_of : (line : List ℕ) → NoNewline line → has_no_newline line ≡ true
is_line_of [] h = refl
is_line_of (x ∷ line) h = let e : (x == 10) ≡ false = h 0 0 (omega arith) in rw e (is_line_of line (λ k d lt. h (suc k) d (omega arith)))

pub octets_more : (texts : List (List ℕ)) (line : List ℕ) → octets_of (texts ++ line ∷ []) ≡ octets_of texts + (length line + 1)
octets_more texts line = sum_by-append (λ (l : List ℕ). length l + 1) texts (line ∷ []) ∙ ap (λ n. octets_of texts + n) (zero-add (length line + 1))

-- the lines of a command

pub items_drop : (n : ℕ) (ls : List (List ℕ)) → items n ls ≡ items 0 (drop n ls)
items_drop zero ls = refl
items_drop (suc n) [] = refl
items_drop (suc n) (l ∷ ls) = items_drop n ls

fits_more : (texts : List (List ℕ)) (line : List ℕ) → fits_text texts ≡ false → fits_text (texts ++ line ∷ []) ≡ false
fits_more texts line h = grind (arith, nat_tests, length-append texts (line ∷ []), sum_by-append (λ (l : List ℕ). length l + 1) texts (line ∷ []))

pub fitted_more : (texts : List (List ℕ)) (line : List ℕ) → option_and_then (λ t. fitted (t ++ line ∷ [])) (fitted texts) ≡ fitted (texts ++ line ∷ [])
fitted_more texts line = go (fits_text texts) refl
  where
    go : (b : Bool) → fits_text texts ≡ b → option_and_then (λ t. fitted (t ++ line ∷ [])) (cond b (Some texts) None) ≡ fitted (texts ++ line ∷ [])
    go true e = refl
    go false e = sym (ap (λ (b : Bool). cond b (Some (texts ++ line ∷ [])) None) (fits_more texts line e))

long_text : (texts : List (List ℕ)) (line : List ℕ) → 65536 < length line → fits_text (texts ++ line ∷ []) ≡ false
long_text texts line h = grind (arith, nat_tests, h, length-append texts (line ∷ []), sum_by-append (λ (l : List ℕ). length l + 1) texts (line ∷ []))

-- so many lines of a command were taken
abbrev pub SoFar : ℕ → Option (List (List ℕ)) → List ℕ → List ℕ → Type 0
SoFar k g o n = (texts : List (List ℕ)) × (length texts ≡ k) × (g ≡ fitted texts) × (lines o ≡ texts ++ lines n)

pub so_first : (g : Option (List (List ℕ))) (x : List ℕ) → g ≡ Some [] → SoFar 0 g x x
so_first g x e = ([], refl, e, refl)

so_more : (k : ℕ) (g h : Option (List (List ℕ))) (line : List ℕ) (x y z : List ℕ) → SoFar k g x y → lines y ≡ line ∷ lines z → ((texts : List (List ℕ)) → g ≡ fitted texts → h ≡ fitted (texts ++ line ∷ [])) → SoFar (k + 1) h x z
so_more k g h line x y z s e f = (s.0 ++ line ∷ [], omega (arith, length-append s.0 (line ∷ []), s.1), f s.0 s.2, s.3 ∙ (ap (λ (l : List (List ℕ)). s.0 ++ l) e ∙ sym (append_assoc s.0 (line ∷ []) (lines z))))

pub so_whole : (k : ℕ) (g h : Option (List (List ℕ))) (line : List ℕ) (x y z : List ℕ) → h ≡ option_and_then (λ t. fitted (t ++ line ∷ [])) g → SoFar k g x y → (lines y ≡ line ∷ lines z) × (length line ≤ 65536) → SoFar (k + 1) h x z
so_whole k g h line x y z e s t = so_more k g h line x y z s t.0 (λ texts q. e ∙ (ap (λ (o : Option (List (List ℕ))). option_and_then (λ t. fitted (t ++ line ∷ [])) o) q ∙ fitted_more texts line))

-- what is to come, where a line lies whole in what was read
pub known_at_hand : (line old new : List ℕ) (left : Option (List ℕ)) → CutsPiece line true old new → IfKnown (λ y z. lines y ≡ strip_carriage_return line ∷ lines z) (prepend_known old left) (prepend_known new left)
known_at_hand line old new None cut = tt
known_at_hand line old new (Some r) cut = ap (λ (o : List ℕ). lines (o ++ r)) cut.1 ∙ (ap lines (append_assoc line (10 ∷ new) r) ∙ lines_cut line (new ++ r) cut.0)

-- a line that lay whole in what was read was added
abbrev pub Added : Option (List (List ℕ)) → Option (List (List ℕ)) → List ℕ → List ℕ → Type 0
Added g h y z = (line : List ℕ) × (lines y ≡ line ∷ lines z) × (h ≡ option_and_then (λ t. fitted (t ++ line ∷ [])) g)

pub known_added : (old new : List ℕ) (left : Option (List ℕ)) (g h : Option (List (List ℕ))) → AddsLine old new g h → IfKnown (Added g h) (prepend_known old left) (prepend_known new left)
known_added old new left g h a = known_map (λ y z. lines y ≡ strip_carriage_return a.line ∷ lines z) (Added g h) (prepend_known old left) (prepend_known new left) (λ y z e. (strip_carriage_return a.line, e, a.added)) (known_at_hand a.line old new left a.cut)

pub so_added : (k : ℕ) (g h : Option (List (List ℕ))) (x y z : List ℕ) → SoFar k g x y → Added g h y z → SoFar (k + 1) h x z
so_added k g h x y z s t = so_more k g h t.0 x y z s t.1 (λ texts q. t.2 ∙ (ap (λ (o : Option (List (List ℕ))). option_and_then (λ texts. fitted (texts ++ t.0 ∷ [])) o) q ∙ fitted_more texts t.0))

pub so_long : (k : ℕ) (g h : Option (List (List ℕ))) (x y z : List ℕ) → h ≡ None → SoFar k g x y → (line : List ℕ) × (lines y ≡ line ∷ lines z) × (65536 < length line) → SoFar (k + 1) h x z
so_long k g h x y z e s t = so_more k g h t.0 x y z s t.1 (λ texts q. e ∙ sym (ap (λ (b : Bool). cond b (Some (texts ++ t.0 ∷ [])) None) (long_text texts t.0 t.2)))

pub so_end : (k : ℕ) (g : Option (List (List ℕ))) (x y : List ℕ) → SoFar k g x y → TakesLines k g x y
so_end k g x y s =
    let a : take k (lines x) ≡ s.0 = subst (λ (m : ℕ). take m (lines x) ≡ s.0) s.1 (rw s.3 (take-append_seam s.0 (lines y))) in
    let b : drop k (lines x) ≡ lines y = subst (λ (m : ℕ). drop m (lines x) ≡ lines y) s.1 (rw s.3 (drop-append_seam s.0 (lines y))) in
    (omega (arith, ap length s.3, length-append s.0 (lines y), s.1), s.2 ∙ ap fitted (sym a), sym b)

pub so_done : (k count : ℕ) (g t : Option (List (List ℕ))) (x y : List ℕ) → k ≡ count → t ≡ g → SoFar k g x y → TakesLines count t x y
so_done k count g t x y e f s = rw f (subst (λ (m : ℕ). TakesLines m g x y) e (so_end k g x y s))

pub so_short : (k count : ℕ) (g : Option (List (List ℕ))) (x y : List ℕ) → k < count → SoFar k g x y → lines y ≡ [] → length (lines x) < count
so_short k count g x y h s e = omega (arith, ap length s.3, length-append s.0 (lines y), ap length e, s.1, h)

-- commands

pub skip_step : (a : CommandLine) (x y : List ℕ) → is_empty_line a ≡ true → ParsesLine (Some a) x y → commands x ≡ commands y
skip_step asks.Empty x y h e = e
skip_step asks.Bad x y h e = cc
skip_step (asks.Add name count) x y h e = cc
skip_step (asks.Edit name from remove count) x y h e = cc
skip_step (asks.Remove name) x y h e = cc
skip_step (asks.Set key value) x y h e = cc
skip_step asks.Show x y h e = cc
skip_step asks.Settle x y h e = cc

if_le : (n m : ℕ) (x y : List InputItem) → n ≤ m → (if nat_le n m then x else y) ≡ x
if_le n m x y h = grind (arith, nat_tests)

if_lt : (n m : ℕ) (x y : List InputItem) → m < n → (if nat_le n m then x else y) ≡ y
if_lt n m x y h = grind (arith, nat_tests)

fitted_again : (ls : List (List ℕ)) → option_and_then fitted (fitted ls) ≡ fitted ls
fitted_again ls = go (fits_text ls) refl
  where
    go : (b : Bool) → fits_text ls ≡ b → option_and_then fitted (cond b (Some ls) None) ≡ cond b (Some ls) None
    go true e = ap (λ (b : Bool). cond b (Some ls) None) e
    go false e = refl

-- a command whose lines were taken
gives_lines : (count : ℕ) (command : Option (List (List ℕ)) → Command) (t : Option (List (List ℕ))) (x y z : List ℕ) → commands x ≡ with_lines count (lines y) command (λ n. items n (lines y)) → TakesLines count t y z → commands x ≡ does (command t) ∷ commands z
gives_lines count command t x y z a b = a ∙ (if_le count (length (lines y)) _ _ b.0 ∙ (ap (λ (u : Option (List (List ℕ))). does (command u) ∷ items count (lines y)) (sym b.1) ∙ ap (λ (l : List InputItem). does (command t) ∷ l) (items_drop count (lines y) ∙ ap (λ (l : List (List ℕ)). items 0 l) (sym b.2))))

pub gives_add : (name : List ℕ) (count : ℕ) (t u : Option (List (List ℕ))) (x y z : List ℕ) → u ≡ option_and_then fitted t → HasCommandLine (Some (asks.Add name count)) x y → TakesLines count t y z → Gives (Some (made.Add name u)) x z
gives_add name count t u x y z e a b =
    let same : u ≡ t = e ∙ (ap (λ (o : Option (List (List ℕ))). option_and_then fitted o) b.1 ∙ (fitted_again (take count (lines y)) ∙ sym b.1)) in
    rw same (gives_lines count (λ text. made.Add name text) t x y z a.0 b)

pub gives_edit : (name : List ℕ) (from remove count : ℕ) (t : Option (List (List ℕ))) (x y z : List ℕ) → HasCommandLine (Some (asks.Edit name from remove count)) x y → TakesLines count t y z → Gives (Some (made.Edit name (line_edit_if_lines_are_some from remove t))) x z
gives_edit name from remove count t x y z a b = gives_lines count (λ insert. made.Edit name (line_edit_if_lines_are_some from remove insert)) t x y z a.0 b

fault_lines : (count : ℕ) (command : Option (List (List ℕ)) → Command) (e : ServeFault) (x y : List ℕ) → commands x ≡ with_lines count (lines y) command (λ n. items n (lines y)) → LinesFault e count y → FaultIn e (commands x)
fault_lines count command Truncated x y a b = a ∙ if_lt count (length (lines y)) _ _ b
fault_lines count command BadCommand x y a b = absurd b
fault_lines count command Write x y a b = absurd b
fault_lines count command HistoryFull x y a b = absurd b
fault_lines count command NoWorkers x y a b = absurd b
fault_lines count command Differs x y a b = absurd b
fault_lines count command Read x y a b = tt
fault_lines count command OutOfMemory x y a b = tt

pub fault_add : (name : List ℕ) (count : ℕ) (e : ServeFault) (x y : List ℕ) → HasCommandLine (Some (asks.Add name count)) x y → LinesFault e count y → FaultIn e (commands x)
fault_add name count e x y a b = fault_lines count (λ text. made.Add name text) e x y a.0 b

pub fault_edit : (name : List ℕ) (from remove count : ℕ) (e : ServeFault) (x y : List ℕ) → HasCommandLine (Some (asks.Edit name from remove count)) x y → LinesFault e count y → FaultIn e (commands x)
fault_edit name from remove count e x y a b = fault_lines count (λ insert. made.Edit name (line_edit_if_lines_are_some from remove insert)) e x y a.0 b
