-- Lines off the front.
use Rattle.std.proofs.Common.{◌≡◌, ℕ, ◌+◌, ◌-◌, ◌≤◌, ◌<◌, ◌==◌, Bool, true, false, List, [], ◌∷◌, ◌++◌, length, take, Option, refl, sym, ap, ◌∙◌, arith, cond, slice_index}
use Rattle.std.specs.List.{slice_split}
use Rattle.std.specs.Str.Lines.{lines, lines_of_parts, strip_carriage_return}
use Rattle.std.proofs.lemmas.List.Splits.{slice_split_at, slice_split_none, length-slice_split}
use Rattle.std.proofs.lemmas.List.{length-take, take_all}
use Rattle.std.proofs.lemmas.List.Elements.{All-take}
use Rattle.std.proofs.lemmas.Bool.Decides.{nat_tests}
use Rattle.pd_protocol.specs.NextLines.{TakesLine}
use Rattle.pd_protocol.specs.declared.line_reader.NextLine.{NextLine}
use Rattle.pd_protocol.specs.declared.line_reader.NextLine.TheVariants.{Long, End}
use Rattle.pd_protocol.specs.Input.{IfKnown}
use Rattle.pd_protocol.specs.LinePieces.{NoNewline, Cuts, KeepsLine}
use Rattle.pd_protocol.proofs.Known.{known_map}

parts_more : (x : List ℕ) (ps : List (List ℕ)) → 0 < length ps → lines_of_parts (x ∷ ps) ≡ strip_carriage_return x ∷ lines_of_parts ps
parts_more x [] h = absurd (omega arith)
parts_more x (y ∷ ps) h = refl

pub lines_cut : (line rest : List ℕ) → NoNewline line → lines (line ++ 10 ∷ rest) ≡ strip_carriage_return line ∷ lines rest
lines_cut line rest h =
    let p : ℕ → Bool = λ b. b == 10 in
    let n : 0 < length (slice_split p rest) = omega (arith, length-slice_split p rest) in
    ap lines_of_parts (slice_split_at p line 10 rest h refl) ∙ parts_more line (slice_split p rest) n

last_part : (line : List ℕ) → 0 < length line → lines_of_parts (line ∷ []) ≡ line ∷ []
last_part line h = let e : (length line == 0) ≡ false = grind (arith, nat_tests) in ap (λ (b : Bool). cond b [] (line ∷ [])) e

pub lines_last : (line : List ℕ) → NoNewline line → 0 < length line → lines line ≡ line ∷ []
lines_last line h n = ap lines_of_parts (slice_split_none (λ b. b == 10) line h) ∙ last_part line n

pub length_strip : (l : List ℕ) → length l ≤ length (strip_carriage_return l) + 1
length_strip l = go (slice_index l (length l - 1) == 13)
  where
    go : (b : Bool) → length l ≤ length (cond b (take (length l - 1) l) l) + 1
    go true = omega (arith, length-take (length l - 1) l)
    go false = omega arith

pub take_capped : (limit : ℕ) (line : List ℕ) → length (strip_carriage_return (take (limit + 2) line)) ≤ limit → take (limit + 2) line ≡ line
take_capped limit line h = take_all (limit + 2) line (omega (arith, length_strip (take (limit + 2) line), length-take (limit + 2) line, h))

nil_of : (l : List ℕ) → length l ≡ 0 → l ≡ []
nil_of [] e = refl
nil_of (x ∷ l) e = absurd (omega arith)

longer : (limit : ℕ) (line : List ℕ) → limit < length (strip_carriage_return (take (limit + 2) line)) → limit < length (strip_carriage_return line)
longer limit line lt =
    let f : length line ≤ limit + 2 → length (strip_carriage_return (take (limit + 2) line)) ≡ length (strip_carriage_return line) = λ le. ap (λ (l : List ℕ). length (strip_carriage_return l)) (take_all (limit + 2) line le) in
    grind (arith, f, length_strip line, lt)

pub takes_cut : (limit : ℕ) (line kept : List ℕ) (o n : List ℕ) → NoNewline line → kept ≡ take (limit + 2) line → Cuts line true o n → length (strip_carriage_return kept) ≤ limit → (lines o ≡ strip_carriage_return kept ∷ lines n) × (length (strip_carriage_return kept) ≤ limit)
takes_cut limit line kept o n h k c le =
    let e : take (limit + 2) line ≡ line = take_capped limit line (rw k at le) in
    (ap lines c ∙ (lines_cut line n h ∙ ap (λ (l : List ℕ). strip_carriage_return l ∷ lines n) (sym (k ∙ e))), le)

pub takes_long : (limit : ℕ) (line kept : List ℕ) (o n : List ℕ) → NoNewline line → kept ≡ take (limit + 2) line → Cuts line true o n → limit < length (strip_carriage_return kept) → TakesLine limit Long o n
takes_long limit line kept o n h k c lt = (strip_carriage_return line, ap lines c ∙ lines_cut line n h, longer limit line (rw k at lt))

pub takes_last : (limit : ℕ) (line kept : List ℕ) (o n : List ℕ) → NoNewline line → kept ≡ take (limit + 2) line → Cuts line false o n → 0 < length kept → length kept ≤ limit → (lines o ≡ kept ∷ lines n) × (length kept ≤ limit)
takes_last limit line kept o n h k c lt le =
    let e : take (limit + 2) line ≡ line = take_all (limit + 2) line (omega (arith, length-take (limit + 2) line, ap length k, le)) in
    let f : kept ≡ line = k ∙ e in
    (ap lines c.0 ∙ (lines_last line h (rw f at lt) ∙ (ap (λ (l : List ℕ). l ∷ []) (sym f) ∙ ap (λ (l : List ℕ). kept ∷ lines l) (sym c.1))), le)

pub takes_last_long : (limit : ℕ) (line kept : List ℕ) (o n : List ℕ) → NoNewline line → kept ≡ take (limit + 2) line → Cuts line false o n → limit < length kept → TakesLine limit Long o n
takes_last_long limit line kept o n h k c lt =
    let e : limit < length line = omega (arith, length-take (limit + 2) line, ap length k, lt) in
    (line, ap lines c.0 ∙ (lines_last line h (omega arith) ∙ ap (λ (l : List ℕ). line ∷ lines l) (sym c.1)), e)

pub takes_end : (limit : ℕ) (line kept : List ℕ) (o n : List ℕ) → kept ≡ take (limit + 2) line → Cuts line false o n → length kept ≡ 0 → TakesLine limit End o n
takes_end limit line kept o n k c z =
    let e : length line ≡ 0 = omega (arith, length-take (limit + 2) line, ap length k, z) in
    let f : line ≡ [] = nil_of line e in
    (ap lines (c.0 ∙ f), ap lines c.1)

pub next_given : (limit : ℕ) (r : NextLine) (kept : List ℕ) (found : Bool) (old new : Option (List ℕ)) → KeepsLine (limit + 2) kept found old new → ((whole o n : List ℕ) → NoNewline whole → kept ≡ take (limit + 2) whole → Cuts whole found o n → TakesLine limit r o n) → IfKnown (λ o n. TakesLine limit r o n) old new
next_given limit r kept found old new h f = known_map (Cuts h.0 found) (λ o n. TakesLine limit r o n) old new (λ o n. f h.0 o n h.1 h.2) h.3

-- the octets that are kept hold no newline
pub kept_octets : (cap : ℕ) (kept : List ℕ) (found : Bool) (old new : Option (List ℕ)) → KeepsLine cap kept found old new → NoNewline kept
kept_octets cap kept found old new h = rw h.2 (All-take (λ octet. (octet == 10) ≡ false) cap h.0 h.1)

pub no_newline_strip : (line : List ℕ) → NoNewline line → NoNewline (strip_carriage_return line)
no_newline_strip line h = go (slice_index line (length line - 1) == 13)
  where
    go : (b : Bool) → NoNewline (cond b (take (length line - 1) line) line)
    go true = All-take (λ octet. (octet == 10) ≡ false) (length line - 1) line h
    go false = h
