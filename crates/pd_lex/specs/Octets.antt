-- The octets that tokens are made of, in ASCII.
use Rattle.std.specs.Prelude.{ℕ, Bool, ◌&&◌, ◌||◌, not, nat_le, ◌==◌}

-- the end of a line
abbrev pub newline : ℕ
newline = 10

-- `"`
abbrev pub quote : ℕ
quote = 34

-- `-`
abbrev pub dash : ℕ
dash = 45

-- `.`
abbrev pub point : ℕ
point = 46

-- `=`
abbrev pub equals : ℕ
equals = 61

-- `\`
abbrev pub backslash : ℕ
backslash = 92

-- `_`
abbrev pub underscore : ℕ
underscore = 95

-- a backquote
abbrev pub backquote : ℕ
backquote = 96

-- `0` to `9`
abbrev pub is_digit : ℕ → Bool
is_digit b = nat_le 48 b && nat_le b 57

-- a digit, or `A` to `F` or `a` to `f`
abbrev pub is_hex_digit : ℕ → Bool
is_hex_digit b = is_digit b || (nat_le 65 b && nat_le b 70) || (nat_le 97 b && nat_le b 102)

-- a letter, a digit or `_`
abbrev pub is_word : ℕ → Bool
is_word b = is_digit b || (nat_le 65 b && nat_le b 90) || (nat_le 97 b && nat_le b 122) || (b == underscore)

-- a space, a tab, a carriage return or a newline
abbrev pub is_blank : ℕ → Bool
is_blank b = (b == 32) || (b == 9) || (b == 13) || (b == newline)

-- no blank
abbrev pub is_nonblank : ℕ → Bool
is_nonblank b = not (is_blank b)

-- no newline
abbrev pub is_not_newline : ℕ → Bool
is_not_newline b = not (b == newline)

-- a printable octet but the space
abbrev pub is_printable : ℕ → Bool
is_printable b = nat_le 33 b && nat_le b 126

-- no backquote
abbrev pub is_no_backquote : ℕ → Bool
is_no_backquote b = not (b == backquote)
