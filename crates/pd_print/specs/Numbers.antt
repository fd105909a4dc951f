-- How moments and times are written.
use Rattle.std.specs.Prelude.{codes, ℕ, zero, suc, ◌+◌, ◌/◌, ◌%◌, ◌==◌, List, [], ◌∷◌, ◌++◌, if◌then◌else◌}
use Rattle.std.specs.Fmt.{decimal}
use Rattle.pd_script.specs.Values.{sign}
use Rattle.pd_script.specs.declared.timing.Time.{Time}
use Rattle.pd_script.specs.declared.timing.Time.TheVariants as times

-- the last digits of a number, so many, with zeros in front
abbrev pub digits_of : ℕ → ℕ → List ℕ
digits_of zero n = []
digits_of (suc places) n = digits_of places (n / 10) ++ (sign "0" + n % 10) ∷ []

-- the same without the zeros at the end
abbrev pub shortest_digits : ℕ → ℕ → List ℕ
shortest_digits zero n = []
shortest_digits (suc places) n = if n % 10 == 0 then shortest_digits places (n / 10) else digits_of (suc places) n

-- a moment in seconds, with six decimals
abbrev pub fixed_seconds_text : ℕ → List ℕ
fixed_seconds_text time_us = decimal (time_us / 1000000) ++ codes "." ++ digits_of 6 (time_us % 1000000)

-- a point and the decimals of so many microseconds, unless all are zeros
abbrev pub fraction_text : ℕ → List ℕ
fraction_text part = if part == 0 then [] else codes "." ++ shortest_digits 6 part

-- a moment in seconds, with no more decimals than it takes
abbrev pub seconds_text : ℕ → List ℕ
seconds_text time_us = decimal (time_us / 1000000) ++ fraction_text (time_us % 1000000)

-- the time of an event
abbrev pub time_text : Time → List ℕ
time_text times.Any = codes "*"
time_text (times.Absolute time_us) = seconds_text time_us
time_text (times.Relative time_us) = codes "+" ++ seconds_text time_us
time_text (times.AbsoluteRange first last) = seconds_text first ++ (codes "~" ++ seconds_text last)
time_text (times.RelativeRange first last) = codes "+" ++ seconds_text first ++ (codes "~+" ++ seconds_text last)
