-- How octets of a script are shown.
use Rattle.std.specs.Prelude.{◌≡◌, true, ℕ, ◌+◌, ◌-◌, ◌/◌, ◌%◌, nat_le, nat_lt, min, Bool, ◌&&◌, List, [], ◌∷◌, flat_map, if◌then◌else◌}
use Rattle.std.specs.List.{list_all}

-- a printable octet of ASCII, the space too
abbrev pub is_printable : ℕ → Bool
is_printable octet = nat_le 32 octet && nat_le octet 126

-- all octets are
abbrev pub are_printable : List ℕ → Bool
are_printable octets = list_all is_printable octets

-- the hexadecimal digit of a value below 16
abbrev pub hex_digit : ℕ → ℕ
hex_digit value = if nat_lt value 10 then 48 + value else 97 + min (value - 10) 5

-- an octet as it is shown: as itself where it is printable, else as `\xHH`
abbrev pub escaped_octet : ℕ → List ℕ
escaped_octet octet =
    if is_printable octet then octet ∷ [] else 92 ∷ 120 ∷ hex_digit (octet / 16) ∷ hex_digit (octet % 16) ∷ []

-- octets as they are shown
abbrev pub escaped : List ℕ → List ℕ
escaped octets = flat_map escaped_octet octets

-- a law: escaped octets are printable, whatever they stand for
abbrev pub EscapedIsPrintable : Type 0
EscapedIsPrintable = (octets : List ℕ) → are_printable (escaped octets) ≡ true
