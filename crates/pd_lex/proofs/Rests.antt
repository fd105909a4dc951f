-- The rest of a text from a place on; no two places leave the same.
use Rattle.std.proofs.Common.{◌≡◌, ℕ, zero, suc, ◌+◌, ◌-◌, ◌<◌, ◌≤◌, Bool, true, false, ◌==◌, not, ◌&&◌, List, [], ◌∷◌, ◌++◌, length, get_or, drop, min, refl, sym, ap, subst, ◌∙◌, arith, length-append, ◌⊎◌, inl, inr}
use Rattle.std.proofs.lemmas.List.{drop_more, drop-append-le, drop-drop, length-drop, drop_all, get_or_past}
use Rattle.std.proofs.lemmas.Bool.{cases_lt}
use Rattle.std.proofs.lemmas.Bool.Decides.{nat_tests}
use Rattle.pd_lex.specs.declared.token.Place.{Place}
use Rattle.pd_lex.specs.Places.{first_place, joined, line_at, clamped_place, octets_from, place_after, IsPlace}
use Rattle.std.specs.List.{list_all}
use Rattle.pd_text.specs.Text.{has_no_newline}
use Rattle.pd_lex.specs.Scanned.{IsLeftAt}

min_within : (a b : ℕ) → a ≤ b → min a b ≡ a
min_within a b h = omega arith

not_zero : (n : ℕ) → 1 ≤ n → (n == 0) ≡ false
not_zero n h = grind (arith, nat_tests)

-- a place of the text stands where it says
pub clamped_of_place : (lines : List (List ℕ)) (p : Place) → IsPlace lines p → clamped_place lines p ≡ p
unfolding clamped_place
clamped_of_place lines p h = rw (not_zero p.line h.from_one, min_within p.at (length (line_at lines p.line)) h.at) refl

pub clamped_first : (lines : List (List ℕ)) (p : Place) → p.line ≡ 0 → clamped_place lines p ≡ first_place
unfolding clamped_place
clamped_first lines p e = rw e refl

pub octets_at : (lines : List (List ℕ)) (p : Place) → IsPlace lines p → octets_from lines p ≡ drop p.at (joined (drop (p.line - 1) lines))
unfolding octets_from
octets_at lines p h = rw (clamped_of_place lines p h) refl

-- what is left in a line, and after the last
pub octets_in_line : (lines : List (List ℕ)) (p : Place) → IsPlace lines p → p.line ≤ length lines → octets_from lines p ≡ drop p.at (line_at lines p.line) ++ 10 ∷ joined (drop p.line lines)
octets_in_line lines p h le =
    let lt : p.line - 1 < length lines = omega (arith, h.from_one) in
    let next : p.line - 1 + 1 ≡ p.line = omega (arith, h.from_one) in
    octets_at lines p h ∙ rw (drop_more lines (p.line - 1) [] lt, next) (drop-append-le p.at (line_at lines p.line) (10 ∷ joined (drop p.line lines)) h.at)

drop_nothing : (n : ℕ) → drop n (joined []) ≡ []
drop_nothing zero = refl
drop_nothing (suc n) = refl

pub octets_past : (lines : List (List ℕ)) (p : Place) → length lines < p.line → octets_from lines p ≡ []
unfolding octets_from clamped_place
octets_past lines p h =
    rw (not_zero p.line (omega arith), drop_all (p.line - 1) lines (omega arith)) (drop_nothing (min p.at (length (line_at lines p.line))))

-- the start of a line
pub start_of : (lines : List (List ℕ)) (n : ℕ) → 1 ≤ n → n ≤ length lines + 1 → IsLeftAt lines (record { line = n; at = 0 }) (joined (drop (n - 1) lines))
start_of lines n one le =
    let place : IsPlace lines (record { line = n; at = 0 }) = record { from_one = one; within = le; at = omega arith } in
    record { place = place; left = octets_at lines (record { line = n; at = 0 }) place }

-- a place further on in its line
pub further_in_line : (lines : List (List ℕ)) (p : Place) → IsPlace lines p → p.line ≤ length lines → (n : ℕ) → n ≤ length (drop p.at (line_at lines p.line)) → IsLeftAt lines (record { line = p.line; at = p.at + n }) (drop n (drop p.at (line_at lines p.line)) ++ 10 ∷ joined (drop p.line lines))
further_in_line lines p h le n fits =
    let place : IsPlace lines (record { line = p.line; at = p.at + n }) = record { from_one = h.from_one; within = h.within; at = omega (arith, h.at, fits, length-drop p.at (line_at lines p.line)) } in
    record { place = place; left = octets_in_line lines (record { line = p.line; at = p.at + n }) place le ∙ rw drop-drop refl }

-- a line's newline leads to the start of the next
pub next_line : (lines : List (List ℕ)) (p : Place) → IsPlace lines p → p.line ≤ length lines → IsLeftAt lines (record { line = p.line + 1; at = 0 }) (joined (drop p.line lines))
next_line lines p h le =
    let s = start_of lines (p.line + 1) (omega arith) (omega arith) in
    let e : p.line + 1 - 1 ≡ p.line = omega arith in
    subst (λ (n : ℕ). IsLeftAt lines (record { line = p.line + 1; at = 0 }) (joined (drop n lines))) e s

pub and_first : (a b : Bool) → (a && b) ≡ true → a ≡ true
and_first true b h = refl
and_first false b h = absurd cc

pub and_second : (a b : Bool) → (a && b) ≡ true → b ≡ true
and_second true b h = h
and_second false b h = absurd cc

-- the octet at a place is no newline within the line
no_newline_at : (s : List ℕ) (n b : ℕ) (t : List ℕ) → has_no_newline s ≡ true → drop n s ≡ b ∷ t → (b == 10) ≡ false
no_newline_at [] zero b t h e = absurd cc
no_newline_at [] (suc n) b t h e = absurd cc
no_newline_at (x ∷ s) zero b t h e = let same : x ≡ b = ap (λ (l : List ℕ). get_or l 0 0) e in rw (← same) (not_true (x == 10) (list_all (λ y. not (y == 10)) s) h)
  where
    not_true : (a b : Bool) → (not a && b) ≡ true → a ≡ false
    not_true true b h = absurd cc
    not_true false b h = refl
no_newline_at (x ∷ s) (suc n) b t h e = no_newline_at s n b t (and_second (not (x == 10)) (list_all (λ y. not (y == 10)) s) h) e

pub line_is_line : (lines : List (List ℕ)) (n : ℕ) → list_all has_no_newline lines ≡ true → has_no_newline (get_or lines n []) ≡ true
line_is_line [] n h = refl
line_is_line (l ∷ lines) zero h = and_first (has_no_newline l) (list_all has_no_newline lines) h
line_is_line (l ∷ lines) (suc n) h = line_is_line lines n (and_second (has_no_newline l) (list_all has_no_newline lines) h)

-- one octet further on
module _ (lines : List (List ℕ)) (plain : list_all has_no_newline lines ≡ true) where
  step_in_line : (p : Place) (b : ℕ) (rest : List ℕ) → IsPlace lines p → p.line ≤ length lines → (s : List ℕ) → drop p.at (line_at lines p.line) ≡ s → b ∷ rest ≡ s ++ 10 ∷ joined (drop p.line lines) → IsLeftAt lines (place_after p (b ∷ [])) rest
  step_in_line p b rest h le [] same e =
      let newline : b ≡ 10 = ap (λ (l : List ℕ). get_or l 0 0) e in
      let left : rest ≡ joined (drop p.line lines) = ap (drop 1) e in
      rw (newline, left) (next_line lines p h le)
  step_in_line p b rest h le (c ∷ s) same e =
      let first : b ≡ c = ap (λ (l : List ℕ). get_or l 0 0) e in
      let left : rest ≡ s ++ 10 ∷ joined (drop p.line lines) = ap (drop 1) e in
      let inside = no_newline_at (line_at lines p.line) p.at c s (line_is_line lines (p.line - 1) plain) same in
      let on = further_in_line lines p h le 1 (rw same (omega arith)) in
      let here : IsLeftAt lines (record { line = p.line; at = p.at + 1 }) (drop 1 (c ∷ s) ++ 10 ∷ joined (drop p.line lines)) = rw same at on in
      rw (first, inside, left) here

  step_on : (p : Place) (b : ℕ) (rest : List ℕ) → IsPlace lines p → octets_from lines p ≡ b ∷ rest → ((length lines < p.line) ⊎ (p.line ≤ length lines)) → IsLeftAt lines (place_after p (b ∷ [])) rest
  step_on p b rest h e (inr le) = step_in_line p b rest h le (drop p.at (line_at lines p.line)) refl (sym e ∙ octets_in_line lines p h le)
  step_on p b rest h e (inl lt) = absurd (let n : [] ≡ b ∷ rest = sym (octets_past lines p lt) ∙ e in cc)

  -- what is left after some octets
  pub advance : (p : Place) (text rest : List ℕ) → IsPlace lines p → octets_from lines p ≡ text ++ rest → IsLeftAt lines (place_after p text) rest
  advance p [] rest h e = record { place = h; left = e }
  advance p (b ∷ text) rest h e =
      let on = step_on p b (text ++ rest) h e (cases_lt (length lines) p.line) in
      advance (place_after p (b ∷ [])) text rest on.place on.left

-- no two places leave the same
less_left : (k : ℕ) (lines : List (List ℕ)) → length (joined (drop k lines)) ≤ length (joined lines)
less_left zero lines = omega arith
less_left (suc k) [] = omega arith
less_left (suc k) (l ∷ lines) = let more = less_left k lines in omega (arith, more, length-append l (10 ∷ joined lines))

pub left_at_most : (lines : List (List ℕ)) (p : Place) (n : ℕ) → IsPlace lines p → n < p.line → length (octets_from lines p) ≤ length (joined (drop n lines))
left_at_most lines p n h lt =
    let e = octets_at lines p h in
    let sum : n + (p.line - 1 - n) ≡ p.line - 1 = omega arith in
    let less = less_left (p.line - 1 - n) (drop n lines) in
    let less2 : length (joined (drop (p.line - 1) lines)) ≤ length (joined (drop n lines)) = rw (← sum, ← drop-drop (p.line - 1 - n) n lines) less in
    omega (arith, less2, ap length e, length-drop p.at (joined (drop (p.line - 1) lines)))

pub left_here : (lines : List (List ℕ)) (p : Place) → IsPlace lines p → p.line ≤ length lines → length (octets_from lines p) ≡ length (line_at lines p.line) - p.at + 1 + length (joined (drop p.line lines))
left_here lines p h le =
    omega (arith, ap length (octets_in_line lines p h le), length-append (drop p.at (line_at lines p.line)) (10 ∷ joined (drop p.line lines)), length-drop p.at (line_at lines p.line))

pub later_less : (lines : List (List ℕ)) (p q : Place) → IsPlace lines p → IsPlace lines q → p.line < q.line → length (octets_from lines q) < length (octets_from lines p)
later_less lines p q h g lt =
    let a = left_at_most lines q p.line g lt in
    let b = left_here lines p h (omega (arith, g.within)) in
    omega (arith, a, b)

same_line : (lines : List (List ℕ)) (p q : Place) → IsPlace lines p → IsPlace lines q → p.line ≡ q.line → length (octets_from lines p) ≡ length (octets_from lines q) → ((length lines < p.line) ⊎ (p.line ≤ length lines)) → p.at ≡ q.at
same_line lines p q h g e left (inl past) =
    let none : line_at lines p.line ≡ [] = get_or_past lines (p.line - 1) [] (omega arith) in
    omega (arith, h.at, (rw (← e) at g.at), ap length none)
same_line lines p q h g e left (inr le) =
    let a = left_here lines p h le in
    let b : length (octets_from lines q) ≡ length (line_at lines p.line) - q.at + 1 + length (joined (drop p.line lines)) = rw e (left_here lines q g (omega arith)) in
    omega (arith, h.at, (rw (← e) at g.at), a, b)

pub place_is : (p q : Place) → p.line ≡ q.line → p.at ≡ q.at → p ≡ q
place_is p q e f =
    let line_is : ◌≡◌ {A = Place} (record { line = p.line; at = p.at }) (record { line = q.line; at = p.at }) = ap (λ (n : ℕ). record { line = n; at = p.at }) e in
    let at_is : ◌≡◌ {A = Place} (record { line = q.line; at = p.at }) (record { line = q.line; at = q.at }) = ap (λ (n : ℕ). record { line = q.line; at = n }) f in
    line_is ∙ at_is

pub same_place : (lines : List (List ℕ)) (p q : Place) → IsPlace lines p → IsPlace lines q → length (octets_from lines p) ≡ length (octets_from lines q) → p ≡ q
same_place lines p q h g e = by_lines (cases_lt p.line q.line) (cases_lt q.line p.line)
  where
    by_lines : ((p.line < q.line) ⊎ (q.line ≤ p.line)) → ((q.line < p.line) ⊎ (p.line ≤ q.line)) → p ≡ q
    by_lines (inl lt) o = absurd (omega (arith, later_less lines p q h g lt))
    by_lines (inr le) (inl lt) = absurd (omega (arith, later_less lines q p g h lt))
    by_lines (inr le) (inr ge) = let n : p.line ≡ q.line = omega arith in place_is p q n (same_line lines p q h g n e (cases_lt (length lines) p.line))
