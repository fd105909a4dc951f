-- Names of scripts.
use Rattle.std.specs.Prelude.{ℕ, Bool, ◌==◌, ◌||◌, ◌&&◌, nat_le, List, length}
use Rattle.std.specs.List.{list_all}

-- a letter or a digit of ASCII, or one of `_`, `-` and `.`
abbrev pub is_name_octet : ℕ → Bool
is_name_octet b =
    (nat_le 97 b && nat_le b 122) || (nat_le 65 b && nat_le b 90) || (nat_le 48 b && nat_le b 57) || b == 95 || b == 45 || b == 46

-- a script's name has 1 to 64 of these octets
abbrev pub is_valid_name : List ℕ → Bool
is_valid_name octets = nat_le 1 (length octets) && nat_le (length octets) 64 && list_all is_name_octet octets
