-- The words that a command line is cut into, and the numbers and values that they write.
use Rattle.std.specs.Prelude.{ℕ, ◌+◌, ◌-◌, ◌*◌, ◌^◌, ◌==◌, Bool, true, false, ◌&&◌, nat_lt, nat_le, List, length, filter, fold, if◌then◌else◌, codes}
use Rattle.std.specs.Char.{is_ascii_digit}
use Rattle.std.specs.List.{slice_split, list_all}
use Rattle.std.specs.Str.{bytes_eq}
use Rattle.pd_settings.specs.declared.values.Value.{Value}
use Rattle.pd_settings.specs.declared.values.Value.TheVariants.{Number, Boolean}
use Rattle.pd_settings.specs.Words.{word_value}

-- the words of a line are parted by spaces, the octet 32 alone
abbrev pub words_of : List ℕ → List (List ℕ)
words_of line = filter (λ word. nat_lt 0 (length word)) (slice_split (λ octet. octet == 32) line)

-- one digit or more
abbrev pub are_digits : List ℕ → Bool
are_digits word = nat_lt 0 (length word) && list_all is_ascii_digit word

-- a number of a command has one to six digits
abbrev pub is_count : List ℕ → Bool
is_count word = are_digits word && nat_le (length word) 6

-- the number that digits write, the digit 0 being the octet 48
abbrev pub number_of : List ℕ → ℕ
number_of word = fold (λ n digit. n * 10 + (digit - 48)) 0 word

-- a word for a setting: a number below 2^64, a truth value, or what else it says
abbrev pub value_of : List ℕ → Value
value_of word =
    if are_digits word && nat_lt (number_of word) (2 ^ 64) then Number (number_of word) else (
    if bytes_eq word (codes "true") then Boolean true else (
    if bytes_eq word (codes "false") then Boolean false else word_value word))
