-- Places in a text, and what is left of the text from a place on.
use Rattle.std.specs.Prelude.{ℕ, ◌+◌, ◌-◌, ◌≤◌, List, [], ◌∷◌, ◌++◌, length, take, drop, get_or, min, if◌then◌else◌, ◌==◌}
use Rattle.pd_lex.specs.declared.token.Place.{Place}
use Rattle.pd_lex.specs.Octets.{newline}

-- line 1, octet 0
abbrev pub first_place : Place
first_place = record { line = 1; at = 0 }

-- the octets of a text: each line with its newline
abbrev pub joined : List (List ℕ) → List ℕ
joined [] = []
joined (line ∷ lines) = line ++ newline ∷ joined lines

-- a line, counted from 1; past the last line nothing
abbrev pub line_at : List (List ℕ) → ℕ → List ℕ
line_at lines n = get_or lines (n - 1) []

-- a place of the text or just after it
pub record IsPlace (lines : List (List ℕ)) (p : Place) : Type 0 where
  pub from_one : 1 ≤ p.line
  pub within : p.line ≤ length lines + 1
  pub at : p.at ≤ length (line_at lines p.line)

-- where a place stands: one of line 0 at the first octet, one past its line's end at that line's newline
unfoldable pub clamped_place : List (List ℕ) → Place → Place
clamped_place lines p = if p.line == 0 then first_place else record { line = p.line; at = min p.at (length (line_at lines p.line)) }

-- the rest of a text from a place on
unfoldable pub octets_from : List (List ℕ) → Place → List ℕ
octets_from lines p = drop (clamped_place lines p).at (joined (drop ((clamped_place lines p).line - 1) lines))

-- the place after some octets: a newline leads to the start of the next line
abbrev pub place_after : Place → List ℕ → Place
place_after p [] = p
place_after p (b ∷ s) = place_after (if b == newline then record { line = p.line + 1; at = 0 } else record { line = p.line; at = p.at + 1 }) s

-- the part of a list before its last part
abbrev pub before : List ℕ → List ℕ → List ℕ
before s rest = take (length s - length rest) s

-- the octets of a text from one place up to another
unfoldable pub between : List (List ℕ) → Place → Place → List ℕ
between lines p q = before (octets_from lines p) (octets_from lines q)
