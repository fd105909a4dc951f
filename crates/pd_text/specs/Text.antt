-- Texts as lists of lines.
use Rattle.std.specs.Prelude.{ℕ, ◌+◌, ◌≤◌, ◌==◌, Bool, not, ◌&&◌, nat_le, List, length, sum_by, IsTrue}
use Rattle.std.specs.List.{list_all, common_prefix_len}
use Rattle.std.specs.Str.{bytes_eq}

-- a line holds no newline, the octet 10
abbrev pub has_no_newline : List ℕ → Bool
has_no_newline octets = list_all (λ octet. not (octet == 10)) octets

-- each of these is a line
abbrev pub AreLines : List (List ℕ) → Type 0
AreLines lines = IsTrue (list_all has_no_newline lines)

-- how many of the first lines of two texts are equal
abbrev pub common_prefix : List (List ℕ) → List (List ℕ) → ℕ
common_prefix lines others = common_prefix_len bytes_eq lines others

-- the octets of a text, each line counted with one more for its end
abbrev pub octets_of : List (List ℕ) → ℕ
octets_of lines = sum_by (λ (line : List ℕ). length line + 1) lines

-- a text is within the limits: at most 4,096 lines and 65,536 octets
abbrev pub FitsText : List (List ℕ) → Type 0
FitsText lines = (length lines ≤ 4096) × (octets_of lines ≤ 65536)

-- lines, none of which holds a newline, within the limits of a text
abbrev pub IsText : List (List ℕ) → Type 0
IsText lines = FitsText lines × AreLines lines

-- the limits as a test
abbrev pub fits_text : List (List ℕ) → Bool
fits_text lines = nat_le (length lines) 4096 && nat_le (octets_of lines) 65536
