use Rattle.std.proofs.Common.{◌≡◌, ◌<◌, ◌^◌, take, true}
use Rattle.std.specs.Char.{is_ascii_digit}
use Rattle.std.specs.List.{list_all}
use Rattle.pd_protocol.specs.Words.{number_of}
use Rattle.pd_protocol.proofs.numbers.parse_number.Given as goal

abbrev pub invariant-loop-digit : goal.invariant-loop-digit
invariant-loop-digit l = record { digits : list_all is_ascii_digit (take l.digit-index l.word) ≡ true; parse_number : l.n ≡ number_of (take l.digit-index l.word); small : l.n < 2 ^ 64 }
