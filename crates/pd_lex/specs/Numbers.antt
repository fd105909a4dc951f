-- The numbers that digits write.
use Rattle.std.specs.Prelude.{ℕ, ◌+◌, ◌-◌, ◌*◌, ◌^◌, List, min}
use Rattle.std.specs.Char.{digit_value}
use Rattle.std.specs.Str.Parse.{digits_value}

-- a number in digits, where one above the greatest of 64 bits counts as that
abbrev pub capped_number : List ℕ → ℕ
capped_number text = min (digits_value 10 text) (2 ^ 64 - 1)

-- a number with one digit more, where one above the greatest of 64 bits counts as that
abbrev pub capped_digit : ℕ → ℕ → ℕ → ℕ
capped_digit radix n digit = min (min (n * radix) (2 ^ 64 - 1) + digit_value digit) (2 ^ 64 - 1)
